-- Demand 3: "overwrite at will one stretch from an entry's start to an entry's start or the log's end. If then no line in the stretch verifies, and
-- none with eight bytes left holds the right mark with type 3, the scan up to the used bound lists exactly the entries outside the stretch, in order,
-- every field right, and the durable end is the last one's aligned end, or 0."
-- Assumes nothing.
use Rattle.std.specs.Prelude.{ℕ, ◌+◌, ◌%◌, ◌<◌, ◌≤◌, ◌≡◌, true, List, ◌++◌, map, length}
use Rattle.answers.specs.Answers.{accepted}
use Rattle.fields.specs.Numbers.{field, aligned}
use Rattle.fields.specs.Runs.{over}
use Rattle.entry.specs.Words.{mark_of, word_mark, word_kind}
use Rattle.entry.specs.Layout.{verifies}
use Rattle.entry.specs.declared.Entry.{Entry}
use Rattle.append.specs.Bytes.{Item, item}
use Rattle.scan.specs.Walk.{ended, walk, walk_of, walk_in}
use Rattle.scan.specs.Listing.{list, last_end}
use Rattle.scan.specs.Parts.{part_of}
use Rattle.tail.specs.Tail.{used_bound, used_of, durable_of, durable_in}
use Rattle.damage.specs.Log.{sizes, entries_from}

-- "no line .. verifies, and none with eight bytes left holds the right mark with type 3", of one line
pub record Quiet (mark : ℕ → ℕ) (s : List ℕ) (q : ℕ) : Type 0 where
  pub unverified : verifies mark s q ≡ true → ⊥
  pub known : q + 8 ≤ length s → word_mark (field 4 s q) ≡ mark q → word_kind (field 4 s q) ≡ 3 → ⊥

-- a log of the items `before`, `lost` and then any others, with the bytes of `lost` overwritten. The stretch goes from the start of the first of
-- `lost` to the end of the last, which is the next entry's start or the log's end; where `lost` is empty, so is the stretch
pub record Damaged (mark : ℕ → ℕ) (region : List ℕ) (before lost : List Item) (damaged : List ℕ) : Type 0 where
  -- "overwrite at will": any bytes, as many as the stretch has
  pub run : List ℕ
  pub filling : length run ≡ sizes lost
  pub overwritten : damaged ≡ over region (sizes before) run
  pub quiet : (q : ℕ) → q % 16 ≡ 0 → sizes before ≤ q → q < sizes before + sizes lost → Quiet mark damaged q

-- "the entries outside the stretch, in order"
abbrev pub outside : List Item → List Item → List Item → List Entry
outside before lost after = entries_from 0 before ++ entries_from (sizes before + sizes lost) after

-- what an entry of a region says, its key and value as `key_of` and `value_of` hand them back
abbrev pub item_at : List ℕ → Entry → Item
item_at s e = item e.kind e.ns (part_of s e.kplace e.klen) (part_of s e.vplace e.vlen)

pub record Survives (mark : ℕ → ℕ) (damaged : List ℕ) (before lost after : List Item) : Type 0 where
  -- "the scan up to the used bound": that call isn't refused, and no walk up to the bound that it answers is refused with 3 or 4
  pub bounded : used_of damaged ≡ accepted (used_bound damaged)
  pub walked : (offset : ℕ) → walk_of mark damaged (used_bound damaged) offset ≡ walk mark damaged (used_bound damaged) offset
  -- "lists exactly the entries outside the stretch, in order, every field right", and then End, not 10
  pub listed : list mark damaged (used_bound damaged) 0 ≡ record { entries = outside before lost after; stop = accepted ended }
  -- and what is read back from them is what was appended
  pub kept : map (item_at damaged) (outside before lost after) ≡ before ++ after
  -- "and the durable end is the last one's aligned end, or 0"
  pub durably : durable_of mark damaged (used_bound damaged) ≡ accepted (aligned (last_end 0 (outside before lost after)))

-- Document 02, request 10: "Demand 3 reads within one version and one ordinal". The same of a file that has them, and in the words of the calls
-- that take them: no walk is refused with 2 either, nor is the durable end
pub record SurvivesIn (version ordinal : ℕ) (damaged : List ℕ) (before lost after : List Item) : Type 0 where
  pub survives : Survives (mark_of version ordinal) damaged before lost after
  pub walked : (offset : ℕ) → walk_in version ordinal damaged (used_bound damaged) offset ≡ walk (mark_of version ordinal) damaged (used_bound damaged) offset
  pub durably : durable_in version ordinal damaged (used_bound damaged) ≡ accepted (aligned (last_end 0 (outside before lost after)))
