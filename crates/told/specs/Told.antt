-- What a tracker call answers and leaves behind its two pointers: document 01's number, the tracker, and the out parameter.
-- Assumes nothing.
use Rattle.std.specs.Prelude.{ℕ, Bool, true, false, List, ◌≡◌, ℤ, Result}
use Rattle.answers.specs.Answers.{Said, accepted, refused, afterwards, said, number_said, value_out}
use Rattle.answers.specs.declared.Refusal.{Refusal}
use Rattle.tracker.specs.declared.Tracker.{Tracker}
use Rattle.tracker.specs.declared.Slot.{Slot}
use Rattle.tracker.specs.State.{State, view, fresh_state}
use Rattle.tracker.specs.Reserving.{Granted, reserve_of, reserved}
use Rattle.tracker.specs.Recording.{record_of, recorded}
use Rattle.tracker.specs.Finishing.{Finished, done, stale, finish_of, completed, abandoned, finished_if, matches, slot_after}
use Rattle.tracker.specs.Checkpoints.{Reached, checkpoint_of}
use Rattle.tracker.specs.Draining.{drain_of, drained}
use Rattle.tracker.specs.Clearing.{Empty, clear_of, cleared}
use Rattle.tracker.specs.declared.Reserved.{Reserved}
use Rattle.told.specs.declared.Progress.{Progress}
use Rattle.told.specs.declared.Stored.{Stored}

-- an answer as it is to be stored: what is left behind the pointer, the out parameter, and the number
pub record IsStored {S O : Type 0} (answer : Result O Refusal) (old : O) (left : S) (r : Stored S O) : Type 0 where
  pub left_is : r.left ≡ left
  pub tells : r.out ≡ value_out (said answer) old
  pub says : r.answer ≡ number_said (said answer)

-- As `Met` of the tracker's specs/Outcome, with the number for the answer and the out parameter beside it: B is what the out parameter holds, and
-- `told` says what it holds afterwards.
pub record Out (A B : Type 0) (asked : Said A) (told : Said A → B → B) (before : Tracker) (new : State) (old : B) (after : Tracker) (out : B) (r : ℕ) : Type 0 where
  pub says : r ≡ number_said asked
  pub state : view after ≡ afterwards asked (view before) new
  pub untouched : (n : ℕ) (values : List ℕ) → asked ≡ refused n values → after ≡ before
  pub tells : out ≡ told asked old

abbrev pub reserved_out : Said Granted → Reserved → Reserved
reserved_out (accepted g) old = record { number = g.number; place = g.place; used = g.used }
reserved_out (refused n values) old = old

abbrev pub ReserveOut : Tracker → ℕ → ℕ → ℕ → ℕ → Bool → ℕ → Reserved → Tracker → Reserved → ℕ → Type 0
ReserveOut t shard ordinal used capacity sealed len =
    Out Granted Reserved (reserve_of (view t) shard used capacity sealed len) reserved_out t (reserved (view t) shard ordinal used)

abbrev pub RecordOut : Tracker → ℕ → ℤ → ℕ → Tracker → ℕ → ℕ → Type 0
RecordOut t shard delta = Out ℕ ℕ (record_of (view t) shard) value_out t (recorded (view t) shard delta)

-- 1 for Done, 0 for Stale
abbrev pub done_number : Finished → ℕ
done_number done = 1
done_number stale = 0

abbrev pub done_out : Said Finished → ℕ → ℕ
done_out (accepted finished) old = done_number finished
done_out (refused n values) old = old

-- besides `Out`: a stale call, too, leaves the very same tracker
pub record FinishOut (t : Tracker) (shard number : ℕ) (new : State) (old : ℕ) (after : Tracker) (out r : ℕ) : Type 0 where
  pub met : Out Finished ℕ (finish_of (view t) shard number) done_out t new old after out r
  pub stale_untouched : finish_of (view t) shard number ≡ accepted stale → after ≡ t

abbrev pub CompleteOut : Tracker → ℕ → ℕ → ℤ → ℕ → Tracker → ℕ → ℕ → Type 0
CompleteOut t shard number delta = FinishOut t shard number (completed (view t) shard number delta)

abbrev pub AbandonOut : Tracker → ℕ → ℕ → ℕ → Tracker → ℕ → ℕ → Type 0
AbandonOut t shard number = FinishOut t shard number (abandoned (view t) shard number)

abbrev pub one_for : Bool → ℕ
one_for true = 1
one_for false = 0

abbrev pub progress_of : Reached → Progress
progress_of a = record { ordinal = a.ordinal; offset = a.offset; sum = a.sum; limit = a.limit; pending = one_for a.pending }

abbrev pub progress_out : Said Reached → Progress → Progress
progress_out (accepted a) old = progress_of a
progress_out (refused n values) old = old

-- the checkpoint leaves the tracker alone: it is lent for reading only
pub record CheckpointOut (t : Tracker) (ordinal used : ℕ) (old out : Progress) (r : ℕ) : Type 0 where
  pub says : r ≡ number_said (checkpoint_of (view t) ordinal used)
  pub tells : out ≡ progress_out (checkpoint_of (view t) ordinal used) old

abbrev pub DrainOut : Tracker → ℕ → ℤ → Tracker → ℤ → ℕ → Type 0
DrainOut t limit = Out ℤ ℤ (drain_of (view t) limit) value_out t (drained (view t) limit)

-- nothing is told beside the number
abbrev pub ClearOut : Tracker → Tracker → ℕ → Type 0
ClearOut t after r = Out Empty (Unit {0}) (clear_of (view t)) (λ _ old. old) t (cleared (view t)) tt after tt r

-- any tracker may stand there before
pub record FreshOut (after : Tracker) (r : ℕ) : Type 0 where
  pub says : r ≡ 0
  pub state : view after ≡ fresh_state

-- one slot on its own refuses nothing
pub record SlotOut (slot : Slot) (number : ℕ) (after : Slot) (out r : ℕ) : Type 0 where
  pub says : r ≡ 0
  pub tells : out ≡ done_number (finished_if (matches slot number))
  pub left : after ≡ slot_after slot number
