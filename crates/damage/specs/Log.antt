-- Demand 3, "after accepted appends to a zeroed region from offset 0": the logs that calls of the two appends lead to, over any mark rule,
-- and where their entries stand.
-- Assumes nothing.
use Rattle.std.specs.Prelude.{ℕ, ◌+◌, ◌≤◌, ◌≡◌, true, List, [], ◌∷◌, ◌++◌, length, replicate, Result}
use Rattle.answers.specs.Answers.{accepted, said}
use Rattle.answers.specs.declared.Refusal.{Refusal}
use Rattle.answers.specs.Limits.{largest_region}
use Rattle.entry.specs.Layout.{placed}
use Rattle.entry.specs.declared.Entry.{Entry}
use Rattle.append.specs.Bytes.{Item, item, size_of}
use Rattle.append.specs.Append.{Appends, data_kind}

-- a region, the used count that was answered last, and what was appended so far, in order. Each step takes the contract of the call that was
-- made, `Appends`, at the used count just answered, and that the call's answer was an accepting one: so whatever refusal would have come first,
-- a wrong version's, did not come. A log is under one mark rule: "Demand 3 reads within one version and one ordinal"
pub data Logged (mark : ℕ → ℕ) : List ℕ → ℕ → List Item → Type 0 where
  -- "a zeroed region", of a size that the operations take, and "offset 0"
  zeroed : (n : ℕ) → n ≤ largest_region → Logged mark (replicate n 0) 0 []
  data-appended : {region after key value : List ℕ} {first used next kind ns : ℕ} {items : List Item} {answer : Result ℕ Refusal}
      → Logged mark region used items
      → Appends first mark region used (data_kind kind) (item kind ns key value) answer after
      → said answer ≡ accepted next
      → Logged mark after next (items ++ item kind ns key value ∷ [])
  tombstone_appended : {region after key : List ℕ} {first used next ns : ℕ} {items : List Item} {answer : Result ℕ Refusal}
      → Logged mark region used items
      → Appends first mark region used true (item 2 ns key []) answer after
      → said answer ≡ accepted next
      → Logged mark after next (items ++ item 2 ns key [] ∷ [])

-- how many bytes these items take, one behind the other: where the next one starts, counted from the first one's start
unfoldable pub sizes : List Item → ℕ
sizes [] = 0
sizes (i ∷ is) = size_of i + sizes is

-- what a walk is to find where an item was written at p: its offset, type, namespace, lengths, places and end
abbrev pub entry_of : ℕ → Item → Entry
entry_of p i = placed p i.kind i.ns (length i.key) (length i.value)

-- and of items that were written one behind the other, the first at p
unfoldable pub entries_from : ℕ → List Item → List Entry
entries_from p [] = []
entries_from p (i ∷ is) = entry_of p i ∷ entries_from (p + size_of i) is
