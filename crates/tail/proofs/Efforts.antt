-- Document 02, request 8: what the durable end takes, and that it keeps the two bounds.
-- Assumes nothing.
use Prim.Native.Nat.{ℕ, zero, suc, ◌<◌, ◌≤◌}
use mathlib.Core.Path.{◌≡◌, refl, ap, ◌∙◌}
use mathlib.Core.List.{List, [], ◌∷◌}
use native.Mathlib.Omega.{arith}
use borrow.Author.Tests.{le-ltb}
use lib.ListN.{length, get_or}
use lib.Dec.{ltb}
use Rattle.answers.specs.Numbers.{number_of}
use Rattle.answers.specs.Answers.{first_of}
use Rattle.answers.specs.declared.Refusal.{Refusal}
use Rattle.answers.proofs.Cases.{number_not_zero}
use Rattle.scan.specs.Inner.{walk_refusal}
use Rattle.answers.specs.Limits.{largest_region}
use Rattle.answers.specs.Versions.{version_refusal}
use Rattle.fields.specs.Numbers.{aligned}
use Rattle.scan.specs.Efforts.{no_effort, most_per_line, list_effort}
use Rattle.scan.specs.declared.Effort.{Effort}
use Rattle.scan.proofs.Efforts.{list_lines, list_bytes, bytes_each}
use Rattle.tail.specs.Efforts.{effort_unless, effort_of, effort_in, Within}

-- no line was tried
pub none_within : (bound : ℕ) → Within bound no_effort
none_within bound = record { lines = omega arith; bytes = omega arith }

-- a refusal comes before any line is tried
pub refusal_tries_none : (r : Refusal) (effort : Effort) → effort_unless (number_of r) effort ≡ no_effort
refusal_tries_none r effort = go (number_of r) (number_not_zero r)
  where
    go : (n : ℕ) → (n ≡ 0 → ⊥) → effort_unless n effort ≡ no_effort
    go zero h = absurd (h refl)
    go (suc n) h = refl

unless_within : (bound n : ℕ) {effort : Effort} → Within bound effort → Within bound (effort_unless n effort)
unless_within bound zero h = h
unless_within bound (suc n) h = none_within bound

module _ (s : List ℕ) (bound : ℕ) where
  -- 3 and 4 don't refuse: the listing's effort
  pub effort_accepted : (mark : ℕ → ℕ) → length s ≤ largest_region → bound ≤ length s → effort_of mark s bound ≡ list_effort mark s bound 0
  unfolding effort_of
  effort_accepted mark small within = simp (le-ltb _ _ small, le-ltb _ _ within)

  pub effort_unrefused : (mark : ℕ → ℕ) → walk_refusal s bound ≡ 0 → effort_of mark s bound ≡ list_effort mark s bound 0
  unfolding effort_of
  effort_unrefused mark e = ap (λ (n : ℕ). effort_unless n (list_effort mark s bound 0)) e

  pub effort_refused : (mark : ℕ → ℕ) (r : Refusal) → walk_refusal s bound ≡ number_of r → effort_of mark s bound ≡ no_effort
  unfolding effort_of
  effort_refused mark r e = ap (λ (n : ℕ). effort_unless n (list_effort mark s bound 0)) e ∙ refusal_tries_none r (list_effort mark s bound 0)

  -- a region holds bytes
  module _ (bytes : (i : ℕ) → get_or s i 0 < 256) where
    list_within : (mark : ℕ → ℕ) → Within bound (list_effort mark s bound 0)
    unfolding aligned
    list_within mark = record { lines = let n = list_lines mark s bound 0 in omega arith; bytes = list_bytes mark s most_per_line (bytes_each mark s bytes) bound 0 }

    pub effort_within : (mark : ℕ → ℕ) → Within bound (effort_of mark s bound)
    unfolding effort_of
    effort_within mark = unless_within bound (first_of ((ltb largest_region (length s), 3) ∷ (ltb (length s) bound, 4) ∷ [])) (list_within mark)

    pub effort_within_in : (version ordinal : ℕ) → Within bound (effort_in version ordinal s bound)
    effort_within_in version ordinal = unless_within bound (version_refusal version) (effort_within _)
