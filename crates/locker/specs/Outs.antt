-- What an export answers and leaves behind: document 01's number, 0 for accepted, and the values of the answer in its out parameters.
-- A refusal leaves every out parameter as it was, but for the place that goes with 10, and the effort of a durable end.
-- Assumes nothing.
use Rattle.std.specs.Prelude.{ℕ, List, [], ◌∷◌, ◌≡◌, Bool}
use Rattle.answers.specs.Answers.{Said, accepted, refused, unless_refused, afterwards, number_said, value_out, place_out}
use Rattle.answers.specs.Versions.{version_refusal}
use Rattle.fields.specs.Runs.{over}
use Rattle.entry.specs.declared.Entry.{Entry}
use Rattle.entry.specs.Words.{mark_of}
use Rattle.append.specs.Bytes.{Item, encoded}
use Rattle.append.specs.Append.{append_of}
use Rattle.replay.specs.Start.{Started, file, nothing}
use Rattle.scan.specs.Walk.{Step, found, ended, walk_in}
use Rattle.scan.specs.declared.Effort.{Effort}
use Rattle.tail.specs.Tail.{durable_in}
use Rattle.tail.specs.Efforts.{effort_in}

-- an entry as eight numbers, in the order of its struct
abbrev pub eight : Entry → List ℕ
eight e = e.offset ∷ e.kind ∷ e.ns ∷ e.klen ∷ e.vlen ∷ e.vplace ∷ e.kplace ∷ e.end ∷ []

abbrev pub entry_out : Said Entry → List ℕ → List ℕ
entry_out (accepted e) old = eight e
entry_out (refused n values) old = old

-- what the walk finds: the entry and 1, or the old entry and 0 at End
abbrev pub walked_out : Said Step → List ℕ → List ℕ
walked_out (accepted (found e)) old = eight e
walked_out (accepted ended) old = old
walked_out (refused n values) old = old

abbrev pub found_out : Said Step → ℕ → ℕ
found_out (accepted (found e)) old = 1
found_out (accepted ended) old = 0
found_out (refused n values) old = old

-- lines tried and bytes checksummed as two numbers, in the order of their struct
abbrev pub two : Effort → List ℕ
two effort = effort.lines ∷ effort.bytes ∷ []

-- they come with an accepted answer, and with 10, the one refusal that has a place: "With refusal 10 the counts .. are reported too."
abbrev pub effort_out : {A : Type 0} → Said A → Effort → List ℕ → List ℕ
effort_out (accepted a) effort old = two effort
effort_out (refused n []) effort old = old
effort_out (refused n (p ∷ values)) effort old = two effort

-- the start file's place and 1, or the old place and 0 where there is none
abbrev pub start_out : Said Started → ℕ → ℕ
start_out (accepted (file place)) old = place
start_out (accepted nothing) old = old
start_out (refused n values) old = old

abbrev pub start_found : Said Started → ℕ → ℕ
start_found (accepted (file place)) old = 1
start_found (accepted nothing) old = 0
start_found (refused n values) old = old

-- what either append answers in a file of this version
abbrev pub append_in : (version : ℕ) → List ℕ → ℕ → Bool → Item → Said ℕ
append_in version region used allowed i = unless_refused (version_refusal version) (append_of region used allowed i)

-- both appends: the number, the region and the new used count
pub record AppendOut (version ordinal : ℕ) (region : List ℕ) (used : ℕ) (allowed : Bool) (i : Item) (r : ℕ) (after : List ℕ) (old next : ℕ) : Type 0 where
  pub says : r ≡ number_said (append_in version region used allowed i)
  pub leaves : after ≡ afterwards (append_in version region used allowed i) region (over region used (encoded (mark_of version ordinal used) i))
  pub tells : next ≡ value_out (append_in version region used allowed i) old

-- the walk: the number, the entry and whether there is one, and the place that goes with 10
pub record WalkOut (version ordinal : ℕ) (region : List ℕ) (bound offset r : ℕ) (old entry : List ℕ) (oldFound found oldPlace place : ℕ) : Type 0 where
  pub says : r ≡ number_said (walk_in version ordinal region bound offset)
  pub tells : entry ≡ walked_out (walk_in version ordinal region bound offset) old
  pub finds : found ≡ found_out (walk_in version ordinal region bound offset) oldFound
  pub places : place ≡ place_out (walk_in version ordinal region bound offset) oldPlace

-- the durable end: the number, the end, the place that goes with 10, and the effort
pub record EndOut (version ordinal : ℕ) (region : List ℕ) (bound r oldEnd end oldPlace place : ℕ) (old effort : List ℕ) : Type 0 where
  pub says : r ≡ number_said (durable_in version ordinal region bound)
  pub tells : end ≡ value_out (durable_in version ordinal region bound) oldEnd
  pub places : place ≡ place_out (durable_in version ordinal region bound) oldPlace
  pub counts : effort ≡ effort_out (durable_in version ordinal region bound) (effort_in version ordinal region bound) old
