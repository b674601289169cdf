-- Request 6 computed: its story, and equal numbers.
-- Assumes nothing.
use Prim.Native.Nat.{ℕ}
use mathlib.Core.Path.{◌≡◌, refl}
use mathlib.Core.Bool.{true, false}
use mathlib.Core.List.{List, [], ◌∷◌}
use lib.IntN.{ℤ, pos, negsuc}
use Rattle.tracker.specs.State.{Waiting, behind_equals}
use Rattle.tracker.specs.Sound.{ascends}
use Rattle.tracker.specs.Sums.{sum_front, past_front}
use Rattle.tracker.specs.Order.{below, not_below, sum_deltas}

abbrev waits : ℕ → ℤ → Waiting
waits number delta = record { number = number; delta = delta }

-- the queue of document 01's trial, with 5 for the delta of number 3: "a small number behind a large one"
abbrev small_behind_large : List Waiting
small_behind_large = waits 3 (pos 5) ∷ waits 1 (pos 1) ∷ []

abbrev in_order : List Waiting
in_order = waits 1 (pos 1) ∷ waits 3 (pos 5) ∷ []

-- "The checkpoint sum then stays low": below 2 it is 0, though number 1 waits
pub low_sum : sum_front 2 small_behind_large ≡ pos 0
low_sum = refl

pub sum_of_every : sum_deltas (below 2 small_behind_large) ≡ pos 1
sum_of_every = refl

-- such a queue isn't sound any more, and a completion doesn't make it
pub falls : ascends small_behind_large ≡ false
falls = refl

pub goes_in_front : behind_equals (waits 1 (pos 1)) (waits 3 (pos 5) ∷ []) ≡ in_order
goes_in_front = refl

pub right_sum : sum_front 2 in_order ≡ pos 1
right_sum = refl

pub right_rest : past_front 2 in_order ≡ waits 3 (pos 5) ∷ []
right_rest = refl

-- "equal numbers allowed; completion inserts behind its equals"
abbrev equals : List Waiting
equals = waits 2 (pos 1) ∷ waits 4 (pos 2) ∷ waits 4 (pos 3) ∷ waits 6 (pos 4) ∷ []

pub equals_ascend : ascends equals ≡ true
equals_ascend = refl

pub behind_two_equals : behind_equals (waits 4 (negsuc 0)) equals ≡ waits 2 (pos 1) ∷ waits 4 (pos 2) ∷ waits 4 (pos 3) ∷ waits 4 (negsuc 0) ∷ waits 6 (pos 4) ∷ []
behind_two_equals = refl

pub between_two : behind_equals (waits 5 (negsuc 0)) equals ≡ waits 2 (pos 1) ∷ waits 4 (pos 2) ∷ waits 4 (pos 3) ∷ waits 5 (negsuc 0) ∷ waits 6 (pos 4) ∷ []
between_two = refl

pub before_all : behind_equals (waits 0 (negsuc 0)) equals ≡ waits 0 (negsuc 0) ∷ equals
before_all = refl

-- at the limit itself nothing is taken
pub below_equals : below 4 equals ≡ waits 2 (pos 1) ∷ []
below_equals = refl

pub not_below_equals : not_below 4 equals ≡ waits 4 (pos 2) ∷ waits 4 (pos 3) ∷ waits 6 (pos 4) ∷ []
not_below_equals = refl
