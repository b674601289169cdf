-- One past the last nonzero byte, looked for from the end.
-- Assumes nothing.
use Prim.Native.Nat.{ℕ, suc, ◌-◌, ◌<◌}
use mathlib.Core.Path.{◌≡◌, sym, ap, ◌∙◌}
use mathlib.Core.List.{List}
use native.Mathlib.Omega.{arith}
use borrow.Author.Tests.{eq-eqb, ne_eqb}
use lib.ListN.{get_or}
use Rattle.tail.specs.Tail.{nonzero_to}

module _ (s : List ℕ) (n : ℕ) where
  pub nonzero_none : n ≡ 0 → nonzero_to s n ≡ n
  unfolding nonzero_to
  nonzero_none h = ap (nonzero_to s) h ∙ sym h

  module _ (some : 0 < n) where
    pub nonzero_before : get_or s (n - 1) 0 ≡ 0 → nonzero_to s n ≡ nonzero_to s (n - 1)
    unfolding nonzero_to
    nonzero_before z =
        let e : n ≡ suc (n - 1) = omega arith in
        ap (nonzero_to s) e ∙ simp (eq-eqb _ _ z)

    pub nonzero_here : (get_or s (n - 1) 0 ≡ 0 → ⊥) → nonzero_to s n ≡ n
    unfolding nonzero_to
    nonzero_here z =
        let e : n ≡ suc (n - 1) = omega arith in
        ap (nonzero_to s) e ∙ simp (ne_eqb _ _ z) (sym e)
