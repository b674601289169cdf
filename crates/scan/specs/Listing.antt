-- Document 01, "The *listing* is the walk repeated from offset 0, each time from the last entry's end, until End or 10."
-- Assumes nothing.
use Rattle.std.specs.Prelude.{ℕ, zero, suc, ◌+◌, ◌-◌, ◌/◌, List, [], ◌∷◌}
use Rattle.answers.specs.Answers.{Said, accepted, refused}
use Rattle.fields.specs.Numbers.{aligned}
use Rattle.entry.specs.declared.Entry.{Entry}
use Rattle.scan.specs.Walk.{Step, found, ended, walk}

-- the entries in order, and what ended them
pub record Listed : Type 0 where
  pub entries : List Entry
  pub stop : Said Step

abbrev pub grow : Said Step → (Entry → Listed) → Listed
grow (accepted (found e)) rest = record { entries = e ∷ (rest e).entries; stop = (rest e).stop }
grow (accepted ended) rest = record { entries = []; stop = accepted ended }
grow (refused n values) rest = record { entries = []; stop = refused n values }

module _ (mark : ℕ → ℕ) (s : List ℕ) where
  -- n walks at the most, the first from offset on
  unfoldable pub list_most : ℕ → ℕ → ℕ → Listed
  list_most zero bound offset = record { entries = []; stop = accepted ended }
  list_most (suc n) bound offset = grow (walk mark s bound offset) (λ e. list_most n bound e.end)

  -- from offset on: each entry takes a line at least, so there are no more of them than lines (`list_step` of proofs/Walks.antt: the
  -- listing is one walk and the listing from the end of what it found)
  unfoldable pub list : ℕ → ℕ → Listed
  list bound offset = list_most ((bound + 15 - aligned offset) / 16) bound offset

-- the end of the last of these entries, or `none` where there is none
abbrev pub last_end : ℕ → List Entry → ℕ
last_end none [] = none
last_end none (e ∷ es) = last_end e.end es
