-- The lent forms answer as the tracker by value does.
-- Assumes nothing.
use Prim.Native.Nat.{ℕ}
use mathlib.Core.Path.{◌≡◌, refl, sym}
use mathlib.Core.Bool.{Bool, true, false, cond}
use lib.ListN.{set}
use lib.Seq.{set-get_or}
use Rattle.tracker.specs.State.{State, slot_of, idle, with_slot}
use Rattle.tracker.specs.Finishing.{matches, made_idle, slot_after, abandoned}
use Rattle.tracker.specs.Least.{least_of}
use Rattle.tracker.specs.Checkpoints.{reached_of}

-- abandon by value leaves the slots as they would be with the shard's one abandoned in place
pub abandon_agrees : (m : State) (shard number : ℕ) → (abandoned m shard number).slots ≡ set m.slots shard (slot_after (slot_of m shard) number)
unfolding abandoned slot_after
abandon_agrees m shard number = by (matches (slot_of m shard) number)
  where
    by : (b : Bool) → (cond b (with_slot m shard (made_idle (slot_of m shard))) m).slots ≡ set m.slots shard (cond b (made_idle (slot_of m shard)) (slot_of m shard))
    by true = refl
    by false = sym (set-get_or m.slots shard idle)

-- the checkpoint's cursor and limit are those of the search along its slots
pub cursor_agrees : (m : State) (ordinal used : ℕ)
    → ((reached_of m ordinal used).ordinal ≡ (least_of ordinal used m.slots).ordinal)
    × ((reached_of m ordinal used).offset ≡ (least_of ordinal used m.slots).offset)
    × ((reached_of m ordinal used).limit ≡ (least_of ordinal used m.slots).limit)
unfolding reached_of
cursor_agrees m ordinal used = (refl, refl, refl)
