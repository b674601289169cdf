-- Document 02, request 8: the walk that counts, line by line, lines tried and bytes checksummed. Its answer is that of the walk which doesn't
-- count (`counted_answer` of proofs/Counting.antt).
-- Assumes nothing.
use Rattle.std.specs.Prelude.{ℕ, zero, suc, ◌+◌, ◌-◌, ◌/◌, List, [], ◌∷◌, Bool, true, false, ◌&&◌, length, leb, ltb, eqb}
use Rattle.answers.specs.Answers.{Said, accepted, pick_number}
use Rattle.fields.specs.Numbers.{field, aligned}
use Rattle.entry.specs.Words.{word_mark, word_kind}
use Rattle.entry.specs.Layout.{length_of, entry_at}
use Rattle.entry.specs.declared.Entry.{Entry}
use Rattle.scan.specs.Walk.{Step, ended, Trial, done, next, trial, said}
use Rattle.scan.specs.Listing.{list}
use Rattle.scan.specs.declared.Effort.{Effort}
use Rattle.scan.specs.declared.CountedWalk.{CountedWalk}

abbrev pub no_effort : Effort
no_effort = record { lines = 0; bytes = 0 }

abbrev pub plus : Effort → Effort → Effort
plus a b = record { lines = a.lines + b.lines; bytes = a.bytes + b.bytes }

-- what a walk answers, and what it took
pub record Counted : Type 0 where
  pub answer : Said Step
  pub effort : Effort

-- the code's answer in these words
abbrev pub said_counted : CountedWalk → Counted
said_counted r = record { answer = said r.walked; effort = r.effort }

-- the same behind more effort
abbrev pub behind : Effort → Counted → Counted
behind spent c = record { answer = c.answer; effort = plus spent c.effort }

-- an answer that took nothing more
abbrev pub at_once : Said Step → Counted
at_once answer = record { answer = answer; effort = no_effort }

abbrev pub or_later : Trial → Counted → Counted
or_later (done answer) later = at_once answer
or_later next later = later

abbrev pub pick_counted : Bool → Counted → Counted → Counted
pick_counted true a b = a
pick_counted false a b = b

-- ".. and its whole entry within N adds the entry's length less 2 to the bytes."
unfoldable pub summed : List ℕ → Entry → ℕ
summed s e = pick_number (leb e.end (length s)) (length_of e.kind e.klen e.vlen - 2) 0

-- ".. bytes are at most 131,078 for each line tried.": the longest entry there can be, of two lengths of 65,535, less 2
abbrev pub most_per_line : ℕ
most_per_line = 131078

module _ (mark : ℕ → ℕ) (s : List ℕ) where
  -- "A line is tried if the walk compares its mark.": with fewer than 8 bytes left it answers End before it does
  unfoldable pub lines_at : ℕ → ℕ
  lines_at p = pick_number (leb (p + 8) (length s)) 1 0

  -- "A tried line with the right mark, type 0, 1 or 2 .."
  unfoldable pub bytes_at : ℕ → ℕ
  bytes_at p =
      pick_number (leb (p + 8) (length s) && (eqb (word_mark (field 4 s p)) (mark p) && ltb (word_kind (field 4 s p)) 3))
      (summed s (entry_at s p))
      0

  -- what the line p takes
  abbrev pub effort_at : ℕ → Effort
  effort_at p = record { lines = lines_at p; bytes = bytes_at p }

  -- `walk_lines`, counted: n lines from the line p on
  unfoldable pub counted_lines : ℕ → ℕ → Counted
  counted_lines zero p = at_once (accepted ended)
  counted_lines (suc n) p = let later = counted_lines n (p + 16) in behind (effort_at p) (or_later (trial mark s p) later)

  -- `walk_from`, counted: the lines p, p + 16, .. below the bound
  unfoldable pub counted_from : ℕ → ℕ → Counted
  counted_from bound p = counted_lines ((bound + 15 - p) / 16) p

  -- `walk`, counted
  unfoldable pub counted_walk : ℕ → ℕ → Counted
  counted_walk bound offset = pick_counted (leb bound offset) (at_once (accepted ended)) (counted_from bound (aligned offset))

  -- "the walk repeated .., each time from the last entry's end": a walk from offset on, and one from the end of each of these entries
  unfoldable pub walks_effort : ℕ → ℕ → List Entry → Effort
  walks_effort bound offset [] = (counted_walk bound offset).effort
  walks_effort bound offset (e ∷ es) = let rest = walks_effort bound e.end es in plus (counted_walk bound offset).effort rest

  -- what the listing from offset on takes
  unfoldable pub list_effort : ℕ → ℕ → Effort
  list_effort bound offset = walks_effort bound offset (list mark s bound offset).entries
