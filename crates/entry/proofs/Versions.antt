-- Document 02, request 10: what the marks of the two versions share, and what they don't.
-- Assumes nothing.
use Prim.Native.Nat.{ℕ, ◌+◌, ◌/◌, ◌%◌, ◌^◌, ◌<◌, ◌≤◌}
use mathlib.Core.Path.{◌≡◌, refl, sym, ap, ◌∙◌}
use mathlib.Core.List.{List}
use mathlib.Core.Bool.{Bool, true, false}
use native.Mathlib.Omega.{arith}
use lib.Dec.{eqb}
use Rattle.answers.specs.Answers.{pick_number}
use Rattle.fields.specs.Numbers.{field}
use Rattle.entry.specs.Words.{mark_from, version1, seed_of, mark_of, word_mark}
use Rattle.entry.specs.Layout.{verifies}
use Rattle.entry.proofs.Standing.{verified}

-- "Version 1 keeps its mark", whatever the ordinal
pub version_1_keeps : (ordinal p : ℕ) → mark_of 1 ordinal p ≡ version1 p
unfolding seed_of
version_1_keeps ordinal p = refl

-- "In version 2 the mark is (p/16 + 0x5A17C0 + ordinal mod 2^24) mod 2^24."
pub version_2_mark : (ordinal p : ℕ) → mark_of 2 ordinal p ≡ (p / 16 + 0x5A17C0 + ordinal % 2 ^ 24) % 2 ^ 24
unfolding mark_from seed_of
version_2_mark ordinal p = omega arith

-- the seeds lie within one round of the marks
seed_bounds : (version ordinal : ℕ) → (0x5A17C0 ≤ seed_of version ordinal) × (seed_of version ordinal < 0x5A17C0 + 2 ^ 24)
unfolding seed_of
seed_bounds version ordinal = go (eqb version 2)
  where
    go : (b : Bool) → (0x5A17C0 ≤ 0x5A17C0 + pick_number b (ordinal % 2 ^ 24) 0) × (0x5A17C0 + pick_number b (ordinal % 2 ^ 24) 0 < 0x5A17C0 + 2 ^ 24)
    go true = (omega arith, omega arith)
    go false = (omega arith, omega arith)

-- so two files give a line one mark only where they give every line one mark
pub same_seed : (v a w b p : ℕ) → mark_of v a p ≡ mark_of w b p → seed_of v a ≡ seed_of w b
unfolding mark_from
same_seed v a w b p e = let s = seed_bounds v a in let t = seed_bounds w b in omega arith

-- which is so for ordinals that agree modulo 2^24, and for those alone
pub seeds_agree : (a b : ℕ) → a % 2 ^ 24 ≡ b % 2 ^ 24 → seed_of 2 a ≡ seed_of 2 b
unfolding seed_of
seeds_agree a b e = ap (λ (n : ℕ). 0x5A17C0 + n) e

pub agreeing_seeds : (a b : ℕ) → seed_of 2 a ≡ seed_of 2 b → a % 2 ^ 24 ≡ b % 2 ^ 24
unfolding seed_of
agreeing_seeds a b e = omega arith

-- and between version 2 and version 1 for an ordinal that is 0 modulo 2^24, and for that alone
pub seed_of_1 : (a b : ℕ) → a % 2 ^ 24 ≡ 0 → seed_of 2 a ≡ seed_of 1 b
unfolding seed_of
seed_of_1 a b e = ap (λ (n : ℕ). 0x5A17C0 + n) e

pub as_version_1 : (a b : ℕ) → seed_of 2 a ≡ seed_of 1 b → a % 2 ^ 24 ≡ 0
unfolding seed_of
as_version_1 a b e = omega arith

-- a line with one rule's mark doesn't verify under a rule that gives it another
pub other_unverified : (mark other : ℕ → ℕ) (s : List ℕ) (p : ℕ) → word_mark (field 4 s p) ≡ mark p → (mark p ≡ other p → ⊥) → verifies other s p ≡ false
other_unverified mark other s p marked differ = go (verifies other s p) refl
  where
    go : (b : Bool) → verifies other s p ≡ b → verifies other s p ≡ false
    go true e = absurd (differ (sym marked ∙ (verified other s p e).marked))
    go false e = e
