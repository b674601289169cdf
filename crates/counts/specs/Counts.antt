-- Document 02, request 9: "for one region walked to its used bound .. Each cell equals the number of listed entries of that kind. Refusals: 3, then 10,
-- without a grid." For a file of either version (request 10).
-- Assumes nothing.
use Rattle.std.specs.Prelude.{ℕ, List, [], ◌∷◌, length, ltb}
use Rattle.answers.specs.Answers.{Said, first_of, unless_refused}
use Rattle.answers.specs.Limits.{largest_region}
use Rattle.answers.specs.Versions.{version_refusal}
use Rattle.entry.specs.Words.{mark_of}
use Rattle.scan.specs.Listing.{Listed, list}
use Rattle.tail.specs.Tail.{used_bound, unless_stopped}
use Rattle.counts.specs.Grid.{Grid, grid_of}

-- the grid of a listing's entries, unless the listing met 10
unfoldable pub counts_listed : Listed → Said Grid
counts_listed listed = unless_stopped listed.stop (grid_of listed.entries)

-- "for one region walked to its used bound", "Refusals: 3, then 10"
unfoldable pub counts_of : (ℕ → ℕ) → List ℕ → Said Grid
counts_of mark s = unless_refused (first_of ((ltb largest_region (length s), 3) ∷ [])) (counts_listed (list mark s (used_bound s) 0))

-- "every call that needs a mark takes both", version and ordinal, and 2 comes "before all others"
abbrev pub counts_in : (version ordinal : ℕ) → List ℕ → Said Grid
counts_in version ordinal s = unless_refused (version_refusal version) (counts_of (mark_of version ordinal) s)
