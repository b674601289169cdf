-- Document 01, "Tracker", with document 02's request 6: complete and abandon.
-- Assumes nothing.
use Rattle.std.specs.Prelude.{ℕ, ◌≡◌, Bool, true, false, cond, not, ◌&&◌, List, [], ◌∷◌, ltb, eqb, ℤ, nat_abs, Result}
use Rattle.answers.specs.Answers.{Said, accepted, first_of, unless_refused}
use Rattle.answers.specs.declared.Refusal.{Refusal}
use Rattle.tracker.specs.declared.Slot.{Slot}
use Rattle.tracker.specs.declared.Tracker.{Tracker}
use Rattle.tracker.specs.declared.Finish.{Finish}
use Rattle.tracker.specs.declared.Finish.TheVariants.{Done, Stale}
use Rattle.tracker.specs.declared.After.{After}
use Rattle.tracker.specs.State.{State, view, slot_of, with_slot, inserted}
use Rattle.tracker.specs.Sound.{sound}
use Rattle.tracker.specs.Outcome.{Met, said_as}

pub data Finished : Type 0 where
  done : Finished
  stale : Finished

-- "complete and abandon 14"
unfoldable pub finish_tests : Bool → ℕ → List (Bool × ℕ)
finish_tests isSound shard = (not isSound, 28) ∷ (ltb 15 shard, 14) ∷ []

abbrev pub finish_refusal : State → ℕ → ℕ
finish_refusal m shard = first_of (finish_tests (sound m) shard)

-- "if the slot has that number and the number isn't 0"
unfoldable pub matches : Slot → ℕ → Bool
matches slot number = not (eqb number 0) && eqb slot.number number

-- "the slot becomes idle (only its number changes)"
abbrev pub made_idle : Slot → Slot
made_idle slot = record { number = 0; ordinal = slot.ordinal; offset = slot.offset }

-- what abandon leaves of the one slot
unfoldable pub slot_after : Slot → ℕ → Slot
slot_after slot number = cond (matches slot number) (made_idle slot) slot

-- ".. : Done. Otherwise Stale"
abbrev pub finished_if : Bool → Finished
finished_if true = done
finished_if false = stale

abbrev pub finish_of : State → ℕ → ℕ → Said Finished
finish_of m shard number = unless_refused (finish_refusal m shard) (accepted (finished_if (matches (slot_of m shard) number)))

-- the slot made idle where it matches; "Stale, no change"
unfoldable pub abandoned : State → ℕ → ℕ → State
abandoned m shard number = cond (matches (slot_of m shard) number) (with_slot m shard (made_idle (slot_of m shard))) m

abbrev pub is_zero : ℤ → Bool
is_zero delta = eqb (nat_abs delta) 0

-- a nonzero delta goes into the shard's queue under that number, by request 6 in the order of numbers: "completion inserts behind its equals".
-- "Abandon is the same without the delta."
unfoldable pub completed : State → ℕ → ℕ → ℤ → State
completed m shard number delta =
    cond (matches (slot_of m shard) number && not (is_zero delta)) (inserted (abandoned m shard number) shard number delta) (abandoned m shard number)

abbrev pub finished : Finish → Finished
finished Done = done
finished Stale = stale

abbrev pub said_finish : Result Finish Refusal → Said Finished
said_finish = said_as finished

-- besides `Met`: a stale call, too, leaves the very same value
pub record FinishMet (t : Tracker) (shard number : ℕ) (new : State) (r : After Finish) : Type 0 where
  pub met : Met Finished (finish_of (view t) shard number) (said_finish r.answer) t r.tracker new
  pub stale_untouched : finish_of (view t) shard number ≡ accepted stale → r.tracker ≡ t

abbrev pub CompleteMet : Tracker → ℕ → ℕ → ℤ → After Finish → Type 0
CompleteMet t shard number delta r = FinishMet t shard number (completed (view t) shard number delta) r

abbrev pub AbandonMet : Tracker → ℕ → ℕ → After Finish → Type 0
AbandonMet t shard number r = FinishMet t shard number (abandoned (view t) shard number) r
