-- Document 01, "Forms that must change": one lent slot, abandoned in place. The search along a lent run answers `least_of` of the tracker's
-- specs/Least.antt, which the checkpoint's cursor and limit are made of.
-- Assumes nothing.
use Rattle.std.specs.Prelude.{ℕ, ◌≡◌}
use Rattle.tracker.specs.Finishing.{Finished, finished, finished_if, matches, slot_after}
use Rattle.tracker.specs.declared.Slot.{Slot}
use Rattle.tracker.specs.declared.Finish.{Finish}

-- "Done. Otherwise Stale": this call refuses nothing
abbrev pub said_slot : Finish → Finished
said_slot = finished

-- the answer, and the slot afterwards, as abandon by value has them
pub record SlotAbandoned (slot : Slot) (number : ℕ) (after : Slot) (r : Finish) : Type 0 where
  pub answer : said_slot r ≡ finished_if (matches slot number)
  pub left : after ≡ slot_after slot number
