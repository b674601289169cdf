-- Document 01, "Answer numbers", below the table: what any operation answers, and what it leaves behind.
-- Assumes nothing.
use Rattle.std.specs.Prelude.{ℕ, zero, suc, Bool, true, false, List, [], ◌∷◌, Result, Ok, Err}
use Rattle.answers.specs.Numbers.{number_of}
use Rattle.answers.specs.declared.Refusal.{Refusal}
use Rattle.answers.specs.declared.Stopped.{Stopped}
use Rattle.answers.specs.declared.Stopped.TheVariants.{Refused, UnknownAt}

-- "Each returns its number (10 also its place)": an operation accepts with what it answers, or refuses with the number and the values beside it
pub data Said (A : Type 0) : Type 0 where
  accepted : A → Said A
  refused : ℕ → List ℕ → Said A

abbrev pub pick_number : Bool → ℕ → ℕ → ℕ
pick_number true a b = a
pick_number false a b = b

-- "Order: append 3, 5, 9, ..": the number of the first test that holds, 0 where none does
abbrev pub first_of : List (Bool × ℕ) → ℕ
first_of [] = 0
first_of (test ∷ tests) = let rest = first_of tests in pick_number test.0 test.1 rest

-- the refusal of that number or, where it is 0, what stands behind it
abbrev pub unless_refused : {A : Type 0} → ℕ → Said A → Said A
unless_refused zero answer = answer
unless_refused (suc n) answer = refused (suc n) []

-- "and leaves lent bytes and state as found": what stands afterwards, the new where the operation accepts and the old where it refuses
abbrev pub afterwards : {A B : Type 0} → Said A → B → B → B
afterwards (accepted a) old new = new
afterwards (refused n values) old new = old

-- what the code answers in these words: a value, or a refusal with its number
abbrev pub said : {A : Type 0} → Result A Refusal → Said A
said (Ok a) = accepted a
said (Err r) = refused (number_of r) []

-- "(10 also its place)": what ends a walk
abbrev pub refused_by : {A : Type 0} → Stopped → Said A
refused_by (Refused r) = refused (number_of r) []
refused_by (UnknownAt p) = refused 10 (p ∷ [])

-- the same of what a walk answers
abbrev pub said_stopped : {A : Type 0} → Result A Stopped → Said A
said_stopped (Ok a) = accepted a
said_stopped (Err stopped) = refused_by stopped

-- a check's answer in these words
abbrev pub said_verdict : Result (Unit {0}) Refusal → Said (Unit {0})
said_verdict (Ok done) = accepted tt
said_verdict (Err r) = refused (number_of r) []

-- "Each returns its number": 0 for accepted
abbrev pub number_said : {A : Type 0} → Said A → ℕ
number_said (accepted a) = 0
number_said (refused n values) = n

-- what an out parameter holds afterwards: the answer's value, or on a refusal what stood there
abbrev pub value_out : {A : Type 0} → Said A → A → A
value_out (accepted value) old = value
value_out (refused n values) old = old

-- "(10 also its place)": what the place's out parameter holds afterwards, the place that goes with the refusal, or what stood there
abbrev pub place_out : {A : Type 0} → Said A → ℕ → ℕ
place_out (accepted a) old = old
place_out (refused n []) old = old
place_out (refused n (p ∷ values)) old = p
