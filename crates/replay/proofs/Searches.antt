-- The searches of a list place by place, for an ordinal and for two equal ones: what is left of the list decides.
-- Assumes nothing.
use Prim.Native.Nat.{ℕ, ◌+◌, ◌<◌, ◌≤◌}
use mathlib.Core.Path.{◌≡◌, refl, sym, ap, ◌∙◌}
use mathlib.Core.Bool.{true, false}
use mathlib.Core.List.{List, ◌∷◌}
use native.Mathlib.Numerals.{add-one}
use lib.ListN.{length, get_or, drop, drop_of_length-le}
use lib.Seq.{drop-cons}
use borrow.Author.Tests.{eq-eqb, ne_eqb}
use Rattle.replay.specs.Start.{listed, twins}

module _ (os : List ℕ) (i : ℕ) (h : i < length os) where
  cons_at : drop i os ≡ get_or os i 0 ∷ drop (i + 1) os
  cons_at = drop-cons os i 0 h ∙ ap (λ (k : ℕ). get_or os i 0 ∷ drop k os) (sym (add-one i))

  pub listed_found : (q : ℕ) → q ≡ get_or os i 0 → listed q (drop i os) ≡ true
  listed_found q e = ap (listed q) cons_at ∙ rw (eq-eqb q (get_or os i 0) e) refl

  pub listed_passed : (q : ℕ) → (q ≡ get_or os i 0 → ⊥) → listed q (drop i os) ≡ listed q (drop (i + 1) os)
  listed_passed q e = ap (listed q) cons_at ∙ rw (ne_eqb q (get_or os i 0) e) refl

  pub twins_found : listed (get_or os i 0) (drop (i + 1) os) ≡ true → twins (drop i os) ≡ true
  twins_found e = ap twins cons_at ∙ rw e refl

  pub twins_passed : listed (get_or os i 0) (drop (i + 1) os) ≡ false → twins (drop i os) ≡ twins (drop (i + 1) os)
  twins_passed e = ap twins cons_at ∙ rw e refl

pub listed_over : (os : List ℕ) (q i : ℕ) → length os ≤ i → listed q (drop i os) ≡ false
listed_over os q i h = ap (listed q) (drop_of_length-le os h)

pub twins_over : (os : List ℕ) (i : ℕ) → length os ≤ i → twins (drop i os) ≡ false
twins_over os i h = ap twins (drop_of_length-le os h)
