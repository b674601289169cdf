-- Document 02, request 8: "The durable-end call shall also report lines tried and bytes checksummed."
-- Assumes nothing.
use Rattle.std.specs.Prelude.{ℕ, zero, suc, ◌+◌, ◌*◌, ◌/◌, ◌≤◌, List, [], ◌∷◌, length, ltb}
use Rattle.answers.specs.Answers.{first_of}
use Rattle.answers.specs.Limits.{largest_region}
use Rattle.answers.specs.Versions.{version_refusal}
use Rattle.entry.specs.Words.{mark_of}
use Rattle.scan.specs.Efforts.{no_effort, most_per_line, list_effort}
use Rattle.scan.specs.declared.Effort.{Effort}

-- a refusal of this number comes before any line is tried; 0 is none
abbrev pub effort_unless : ℕ → Effort → Effort
effort_unless zero effort = effort
effort_unless (suc n) effort = no_effort

-- "Both counts equal those that document 01's walk gives line by line.": the walks of the listing from 0 on, up to its End, or up to 10: "With
-- refusal 10 the counts up to and including the refused line are reported too."
unfoldable pub effort_of : (ℕ → ℕ) → List ℕ → ℕ → Effort
effort_of mark s bound =
    effort_unless (first_of ((ltb largest_region (length s), 3) ∷ (ltb (length s) bound, 4) ∷ [])) (list_effort mark s bound 0)

-- the same in a file of this version and ordinal, as `durable_in` is
abbrev pub effort_in : (version ordinal : ℕ) → List ℕ → ℕ → Effort
effort_in version ordinal s bound = effort_unless (version_refusal version) (effort_of (mark_of version ordinal) s bound)

-- "Lines tried are at most the bound divided by 16, rounded up; bytes are at most 131,078 for each line tried."
pub record Within (bound : ℕ) (effort : Effort) : Type 0 where
  pub lines : effort.lines ≤ (bound + 15) / 16
  pub bytes : effort.bytes ≤ most_per_line * effort.lines
