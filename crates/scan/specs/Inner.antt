-- What an inner function promises its caller; no contract of a public operation rests on it.
-- Assumes nothing.
use Rattle.std.specs.Prelude.{ℕ, ◌+◌, ◌-◌, ◌/◌, ◌%◌, ◌<◌, ◌≤◌, ◌≡◌, List, [], ◌∷◌, length, ltb, min, Option, Some, None, Result, Ok, Err}
use Rattle.answers.specs.Answers.{Said, accepted, refused, first_of}
use Rattle.answers.specs.Limits.{largest_region}
use Rattle.answers.specs.declared.Stopped.{Stopped}
use Rattle.fields.specs.Numbers.{field}
use Rattle.entry.specs.Words.{word_mark}
use Rattle.entry.specs.declared.Entry.{Entry}
use Rattle.scan.specs.Walk.{Step, found, ended, said, walk}
use Rattle.scan.specs.Efforts.{no_effort, plus, behind, at_once, counted_from, list_effort}
use Rattle.scan.specs.declared.Effort.{Effort}

-- "Walk and durable end 3, 4": the number of the first that refuses, 0 where neither does
abbrev pub walk_refusal : List ℕ → ℕ → ℕ
walk_refusal s bound = first_of ((ltb largest_region (length s), 3) ∷ (ltb (length s) bound, 4) ∷ [])

-- what goes on behind an entry that was found
abbrev pub later : Said Step → (Entry → Effort) → Effort
later (accepted (found e)) rest = rest e
later (accepted ended) rest = no_effort
later (refused n values) rest = no_effort

-- where a listing goes on: behind the entry that was found, or nowhere, which is at the bound
abbrev pub goes_on : ℕ → Result (Option Entry) Stopped → ℕ
goes_on bound (Ok (Some e)) = e.end
goes_on bound (Ok None) = bound
goes_on bound (Err stopped) = bound

-- an entry that a listing finds from a place on, before the bound: its type is known, its namespace has six bits, and it ends behind that place
abbrev pub IsFound : List ℕ → ℕ → ℕ → Entry → Type 0
IsFound s bound from e = (e.kind < 3) × (e.ns < 64) × (from < bound) × (from < e.end) × (e.end ≤ length s)

module _ (mark : ℕ → ℕ) (s : List ℕ) (bound : ℕ) where
  -- the walk that goes on at the line p comes to the line q, which has the right mark: what lies between was tried, a line each, and added no byte
  pub record Marked (p q : ℕ) : Type 0 where
    pub more : p ≤ q
    pub whole : (q - p) % 16 ≡ 0
    pub inside : q < bound
    pub room : q + 8 ≤ length s
    pub marked : word_mark (field 4 s q) ≡ mark q
    pub same : behind (record { lines = (q - p) / 16; bytes = 0 }) (counted_from mark s bound q) ≡ counted_from mark s bound p

  -- it comes to such a line, or all lines from p on have wrong marks
  abbrev pub NextMarked : ℕ → Option ℕ → Type 0
  NextMarked p (Some q) = Marked p q
  NextMarked p None = behind (record { lines = (min bound (length s - 7) - p + 15) / 16; bytes = 0 }) (at_once (accepted ended)) ≡ counted_from mark s bound p

  -- the listing's next step: the walk from there, and with what is left behind its answer the whole listing's effort
  pub record Tells (old : ℕ) (r : Result (Option Entry) Stopped) (from : ℕ) (effort : Effort) : Type 0 where
    pub walks : walk mark s bound old ≡ said r
    pub goes : from ≡ goes_on bound r
    pub spends : plus effort (later (said r) (λ e. list_effort mark s bound e.end)) ≡ list_effort mark s bound 0
