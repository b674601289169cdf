-- "and leaves lent bytes and state as found": what an out parameter holds after a refusal is what stood there, but for the place that goes with it.
-- Assumes nothing.
use Prim.Native.Nat.{ℕ}
use mathlib.Core.Path.{◌≡◌, refl}
use mathlib.Core.List.{List, [], ◌∷◌}
use Rattle.answers.specs.Answers.{refused, value_out, place_out}

pub value_kept : {A : Type 0} (n : ℕ) (values : List ℕ) (old : A) → value_out (refused n values) old ≡ old
value_kept n values old = refl

pub place_kept : (A : Type 0) (n old : ℕ) → place_out {A = A} (refused n []) old ≡ old
place_kept A n old = refl

pub place_told : (A : Type 0) (n p old : ℕ) (values : List ℕ) → place_out {A = A} (refused n (p ∷ values)) old ≡ p
place_told A n p old values = refl
