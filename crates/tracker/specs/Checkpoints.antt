-- Document 01, "Tracker": checkpoint.
-- Assumes nothing.
use Rattle.std.specs.Prelude.{ℕ, Bool, not, ◌||◌, List, length, eqb, ℤ, Result}
use Rattle.answers.specs.Answers.{Said, accepted, unless_refused}
use Rattle.answers.specs.declared.Refusal.{Refusal}
use Rattle.tracker.specs.declared.Progress.{Progress}
use Rattle.tracker.specs.State.{Waiting, State}
use Rattle.tracker.specs.Sound.{every}
use Rattle.tracker.specs.Outcome.{sound_refusal, said_as}
use Rattle.tracker.specs.Least.{least_of}
use Rattle.tracker.specs.Sums.{sum_of}

-- the cursor (ordinal and offset), the sum, the limit, and whether work is pending
pub record Reached : Type 0 where
  pub ordinal : ℕ
  pub offset : ℕ
  pub sum : ℤ
  pub limit : ℕ
  pub pending : Bool

unfoldable pub all_empty : List (List Waiting) → Bool
all_empty queues = every (λ (q : List Waiting). eqb (length q) 0) queues

-- "Pending: any slot open or any queue nonempty."
unfoldable pub reached_of : State → ℕ → ℕ → Reached
reached_of m ordinal used =
    let least = least_of ordinal used m.slots in
    record {
      ordinal = least.ordinal;
      offset = least.offset;
      sum = sum_of least.limit m.queues;
      limit = least.limit;
      pending = least.any || not (all_empty m.queues);
    }

abbrev pub checkpoint_of : State → ℕ → ℕ → Said Reached
checkpoint_of m ordinal used = unless_refused (sound_refusal m) (accepted (reached_of m ordinal used))

abbrev pub reached : Progress → Reached
reached a = record { ordinal = a.ordinal; offset = a.offset; sum = a.sum; limit = a.limit; pending = a.pending }

abbrev pub said_checkpoint : Result Progress Refusal → Said Reached
said_checkpoint = said_as reached
