-- Document 01, "The walk", over any mark rule, and for a file of either version (document 02, request 10).
-- Assumes nothing.
use Rattle.std.specs.Prelude.{ℕ, zero, suc, ◌+◌, ◌-◌, ◌/◌, List, [], ◌∷◌, Bool, true, false, not, length, leb, ltb, eqb, Option, Some, None, Result, Ok, Err}
use Rattle.answers.specs.Answers.{Said, accepted, refused, first_of, unless_refused, refused_by}
use Rattle.answers.specs.Limits.{largest_region}
use Rattle.answers.specs.Versions.{version_refusal}
use Rattle.answers.specs.declared.Stopped.{Stopped}
use Rattle.fields.specs.Numbers.{field, aligned}
use Rattle.entry.specs.Words.{mark_of, word_mark, word_kind}
use Rattle.entry.specs.Layout.{entry_at, verifies}
use Rattle.entry.specs.declared.Entry.{Entry}

-- what the walk finds: "the entry, its offset, and its unrounded end", or End
pub data Step : Type 0 where
  found : Entry → Step
  ended : Step

-- the same of what the code hands back
abbrev pub step_of : Option Entry → Step
step_of (Some e) = found e
step_of None = ended

-- the answer in the paper's words: what was found, or the refusal's number, 10 with its place
abbrev pub said : Result (Option Entry) Stopped → Said Step
said (Ok step) = accepted (step_of step)
said (Err stopped) = refused_by stopped

-- what the trial of one line gives: the walk's answer, or that the next line is to be tried
pub data Trial : Type 0 where
  done : Said Step → Trial
  next : Trial

abbrev pub pick_trial : Bool → Trial → Trial → Trial
pick_trial true a b = a
pick_trial false a b = b

abbrev pub pick_step : Bool → Said Step → Said Step → Said Step
pick_step true a b = a
pick_step false a b = b

abbrev pub or_else : Trial → Said Step → Said Step
or_else (done answer) later = answer
or_else next later = later

module _ (mark : ℕ → ℕ) (s : List ℕ) where
  -- ".. or with fewer than 8 bytes left: End. Wrong mark: next line. Right mark and type 3: refusal 10 with the place, whatever the checksum.
  -- Verified: the entry, its offset, and its unrounded end. Otherwise next line."
  unfoldable pub trial : ℕ → Trial
  trial p =
      pick_trial (ltb (length s) (p + 8)) (done (accepted ended))
      (pick_trial (not (eqb (word_mark (field 4 s p)) (mark p))) next
      (pick_trial (eqb (word_kind (field 4 s p)) 3) (done (refused 10 (p ∷ [])))
      (pick_trial (verifies mark s p) (done (accepted (found (entry_at s p)))) next)))

  -- n lines from the line p on, and End behind them
  unfoldable pub walk_lines : ℕ → ℕ → Said Step
  walk_lines zero p = accepted ended
  walk_lines (suc n) p = let later = walk_lines n (p + 16) in or_else (trial p) later

  -- "At or past the bound .. End": the lines p, p + 16, .. below the bound
  unfoldable pub walk_from : ℕ → ℕ → Said Step
  walk_from bound p = walk_lines ((bound + 15 - p) / 16) p

  -- "Given region, bound and offset: at or past the bound, the answer is End, before any rounding. Otherwise round up to a line and look."
  unfoldable pub walk : ℕ → ℕ → Said Step
  walk bound offset = pick_step (leb bound offset) (accepted ended) (walk_from bound (aligned offset))

  -- "Walk and durable end 3, 4, then 10."
  unfoldable pub walk_of : ℕ → ℕ → Said Step
  walk_of bound offset =
      unless_refused (first_of ((ltb largest_region (length s), 3) ∷ (ltb (length s) bound, 4) ∷ [])) (walk bound offset)

-- "every call that needs a mark takes both", version and ordinal, and 2 comes "before all others"
abbrev pub walk_in : (version ordinal : ℕ) → List ℕ → ℕ → ℕ → Said Step
walk_in version ordinal s bound offset = unless_refused (version_refusal version) (walk_of (mark_of version ordinal) s bound offset)
