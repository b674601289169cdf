-- Document 01, "Used bound" and "Durable end", which is for a file of either version (document 02, request 10).
-- Assumes nothing.
use Rattle.std.specs.Prelude.{ℕ, zero, suc, min, List, [], ◌∷◌, length, get_or, ltb, eqb}
use Rattle.answers.specs.Answers.{Said, accepted, refused, pick_number, first_of, unless_refused}
use Rattle.answers.specs.Limits.{largest_region}
use Rattle.answers.specs.Versions.{version_refusal}
use Rattle.fields.specs.Numbers.{aligned}
use Rattle.entry.specs.Words.{mark_of}
use Rattle.scan.specs.Walk.{Step}
use Rattle.scan.specs.Listing.{Listed, list, last_end}

-- one past the last nonzero byte among the first n, or 0
unfoldable pub nonzero_to : List ℕ → ℕ → ℕ
nonzero_to s zero = 0
nonzero_to s (suc n) = let before = nonzero_to s n in pick_number (eqb (get_or s n 0) 0) before (suc n)

-- "Used bound: one past the last nonzero byte, rounded up to a line, but at most N; 0 if all are zero."
unfoldable pub used_bound : List ℕ → ℕ
used_bound s = min (aligned (nonzero_to s (length s))) (length s)

-- "Used bound 3."
unfoldable pub used_of : List ℕ → Said ℕ
used_of s = unless_refused (first_of ((ltb largest_region (length s), 3) ∷ [])) (accepted (used_bound s))

-- what the listing gives, unless it was ended by a refusal
abbrev pub unless_stopped : {A : Type 0} → Said Step → A → Said A
unless_stopped (accepted step) given = accepted given
unless_stopped (refused n values) given = refused n values

-- "Durable end: walk from 0; the last verified entry's end rounded up, or 0." Where the listing begins with its first entry, `none` is 0
unfoldable pub durable : ℕ → Listed → Said ℕ
durable none listed = unless_stopped listed.stop (aligned (last_end none listed.entries))

-- "Walk and durable end 3, 4, then 10."
unfoldable pub durable_of : (ℕ → ℕ) → List ℕ → ℕ → Said ℕ
durable_of mark s bound =
    unless_refused (first_of ((ltb largest_region (length s), 3) ∷ (ltb (length s) bound, 4) ∷ [])) (durable 0 (list mark s bound 0))

-- "every call that needs a mark takes both", version and ordinal, and 2 comes "before all others"
abbrev pub durable_in : (version ordinal : ℕ) → List ℕ → ℕ → Said ℕ
durable_in version ordinal s bound = unless_refused (version_refusal version) (durable_of (mark_of version ordinal) s bound)
