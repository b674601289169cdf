-- Two refusals with one number are the same case, and no refusal has the number 0, which stands for accepted.
-- Assumes nothing.
use Prim.Native.Nat.{ℕ, zero, suc}
use mathlib.Core.Path.{◌≡◌, refl, sym, ap, ◌∙◌}
use mathlib.Core.List.{List, [], ◌∷◌}
use native.Mathlib.Omega.{arith}
use Rattle.answers.specs.Numbers.{number_of, number_of_verdict}
use Rattle.answers.specs.Answers.{Said, accepted, refused, unless_refused, said, said_stopped, said_verdict}
use Rattle.std.specs.Prelude.{Result, Ok, Err}
use Rattle.answers.specs.declared.Stopped.{Stopped}
use Rattle.answers.specs.declared.Stopped.TheVariants.{Refused, UnknownAt}
use Rattle.answers.specs.declared.Refusal.{Refusal}
use Rattle.answers.specs.declared.Refusal.TheVariants.{HeaderTooShort, WrongHeader, RegionTooLarge, BoundPastRegion, NotOnLine, EntryTooShort, WrongMark, WrongChecksum, TypeNotAllowed, UnknownType, KeyTooLong, ValueTooLong, NoSpace, ShardTooLarge, NoWaitingRoom, NumbersUsedUp, NamespaceTooLarge, TooManyOrdinals, EqualOrdinals, NotSound}

-- the case at a place of the list, `NotSound` past its end
case_at : List Refusal → ℕ → Refusal
case_at [] n = NotSound
case_at (r ∷ rs) zero = r
case_at (r ∷ rs) (suc n) = case_at rs n

-- the case of a number: those from 1 to 18 in their order, then 22, and 28 past them; the places of numbers that are nobody's are of no account
case_of : ℕ → Refusal
case_of = case_at (NotSound ∷ HeaderTooShort ∷ WrongHeader ∷ RegionTooLarge ∷ BoundPastRegion ∷ NotOnLine ∷ EntryTooShort ∷ WrongMark ∷ WrongChecksum ∷ TypeNotAllowed ∷ UnknownType ∷ KeyTooLong ∷ ValueTooLong ∷ NoSpace ∷ ShardTooLarge ∷ NoWaitingRoom ∷ NumbersUsedUp ∷ NamespaceTooLarge ∷ TooManyOrdinals ∷ NotSound ∷ NotSound ∷ NotSound ∷ EqualOrdinals ∷ [])

case_of_number : (r : Refusal) → case_of (number_of r) ≡ r
unfolding case_of case_at
case_of_number HeaderTooShort = refl
case_of_number WrongHeader = refl
case_of_number RegionTooLarge = refl
case_of_number BoundPastRegion = refl
case_of_number NotOnLine = refl
case_of_number EntryTooShort = refl
case_of_number WrongMark = refl
case_of_number WrongChecksum = refl
case_of_number TypeNotAllowed = refl
case_of_number UnknownType = refl
case_of_number KeyTooLong = refl
case_of_number ValueTooLong = refl
case_of_number NoSpace = refl
case_of_number ShardTooLarge = refl
case_of_number NoWaitingRoom = refl
case_of_number NumbersUsedUp = refl
case_of_number NamespaceTooLarge = refl
case_of_number TooManyOrdinals = refl
case_of_number EqualOrdinals = refl
case_of_number NotSound = refl

pub same_number : (a b : Refusal) → number_of a ≡ number_of b → a ≡ b
same_number a b e = sym (case_of_number a) ∙ ap case_of e ∙ case_of_number b

-- a refusal's number refuses, whatever would have been answered
pub refusal_refuses : {A : Type 0} (r : Refusal) (answer : Said A) → unless_refused (number_of r) answer ≡ refused (number_of r) []
refusal_refuses HeaderTooShort answer = refl
refusal_refuses WrongHeader answer = refl
refusal_refuses RegionTooLarge answer = refl
refusal_refuses BoundPastRegion answer = refl
refusal_refuses NotOnLine answer = refl
refusal_refuses EntryTooShort answer = refl
refusal_refuses WrongMark answer = refl
refusal_refuses WrongChecksum answer = refl
refusal_refuses TypeNotAllowed answer = refl
refusal_refuses UnknownType answer = refl
refusal_refuses KeyTooLong answer = refl
refusal_refuses ValueTooLong answer = refl
refusal_refuses NoSpace answer = refl
refusal_refuses ShardTooLarge answer = refl
refusal_refuses NoWaitingRoom answer = refl
refusal_refuses NumbersUsedUp answer = refl
refusal_refuses NamespaceTooLarge answer = refl
refusal_refuses TooManyOrdinals answer = refl
refusal_refuses EqualOrdinals answer = refl
refusal_refuses NotSound answer = refl

-- the paper's words tell a check's answers apart
pub verdict_once : (a b : Result (Unit {0}) Refusal) → said_verdict a ≡ said_verdict b → a ≡ b
verdict_once (Ok a) (Ok b) e = refl
verdict_once (Ok a) (Err r) e = absurd (let z : ◌≡◌ {A = ℕ} 0 1 = cc in omega arith)
verdict_once (Err r) (Ok a) e = absurd (let z : ◌≡◌ {A = ℕ} 0 1 = cc in omega arith)
verdict_once (Err r) (Err q) e = let n : number_of r ≡ number_of q = cc in ap Err (same_number r q n)

-- no refusal has the number 0, and so a check's number tells its answers apart too
pub number_not_zero : (r : Refusal) → number_of r ≡ 0 → ⊥
number_not_zero r e =
    let f : ◌≡◌ {A = Said ℕ} (accepted 0) (refused (number_of r) []) = sym (ap (λ (n : ℕ). unless_refused n (accepted 0)) e) ∙ refusal_refuses r (accepted 0) in
    let z : ◌≡◌ {A = ℕ} 0 1 = cc in
    omega arith

pub verdict_by_number : (a b : Result (Unit {0}) Refusal) → number_of_verdict a ≡ number_of_verdict b → a ≡ b
verdict_by_number (Ok a) (Ok b) e = refl
verdict_by_number (Ok a) (Err r) e = absurd (number_not_zero r (sym e))
verdict_by_number (Err r) (Ok a) e = absurd (number_not_zero r e)
verdict_by_number (Err r) (Err q) e = ap Err (same_number r q e)

-- the paper's words tell any operation's answers apart
pub said_once : {A : Type 0} (a b : Result A Refusal) → said a ≡ said b → a ≡ b
said_once (Ok a) (Ok b) e = cc
said_once (Ok a) (Err q) e = absurd (let z : ◌≡◌ {A = ℕ} 0 1 = cc in omega arith)
said_once (Err r) (Ok b) e = absurd (let z : ◌≡◌ {A = ℕ} 0 1 = cc in omega arith)
said_once (Err r) (Err q) e = let n : number_of r ≡ number_of q = cc in ap Err (same_number r q n)

-- and those of a walk
pub stopped_once : {A : Type 0} (a b : Result A Stopped) → said_stopped a ≡ said_stopped b → a ≡ b
stopped_once (Ok a) (Ok b) e = cc
stopped_once (Ok a) (Err (Refused q)) e = absurd (let z : ◌≡◌ {A = ℕ} 0 1 = cc in omega arith)
stopped_once (Ok a) (Err (UnknownAt p)) e = absurd (let z : ◌≡◌ {A = ℕ} 0 1 = cc in omega arith)
stopped_once (Err (Refused q)) (Ok a) e = absurd (let z : ◌≡◌ {A = ℕ} 0 1 = cc in omega arith)
stopped_once (Err (UnknownAt p)) (Ok a) e = absurd (let z : ◌≡◌ {A = ℕ} 0 1 = cc in omega arith)
stopped_once (Err (Refused r)) (Err (Refused q)) e = let n : number_of r ≡ number_of q = cc in ap (λ (x : Refusal). Err (Refused x)) (same_number r q n)
stopped_once (Err (Refused r)) (Err (UnknownAt p)) e = absurd (let z : ◌≡◌ {A = List ℕ} [] (p ∷ []) = cc in let n : ◌≡◌ {A = ℕ} 0 1 = cc in omega arith)
stopped_once (Err (UnknownAt p)) (Err (Refused r)) e = absurd (let z : ◌≡◌ {A = List ℕ} [] (p ∷ []) = cc in let n : ◌≡◌ {A = ℕ} 0 1 = cc in omega arith)
stopped_once (Err (UnknownAt p)) (Err (UnknownAt q)) e = let z : ◌≡◌ {A = List ℕ} (p ∷ []) (q ∷ []) = cc in let n : p ≡ q = cc in ap (λ (x : ℕ). Err (UnknownAt x)) n
