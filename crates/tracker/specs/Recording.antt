-- Document 01, "Tracker": record.
-- Assumes nothing.
use Rattle.std.specs.Prelude.{ℕ, ◌+◌, ◌-◌, ◌^◌, Bool, not, List, [], ◌∷◌, length, ltb, leb, eqb, ℤ, Result}
use Rattle.answers.specs.Answers.{Said, accepted, first_of, unless_refused, said}
use Rattle.answers.specs.declared.Refusal.{Refusal}
use Rattle.tracker.specs.declared.Tracker.{Tracker}
use Rattle.tracker.specs.declared.After.{After}
use Rattle.tracker.specs.State.{State, view, slot_of, queue, places, with_next, joined}
use Rattle.tracker.specs.Sound.{sound}
use Rattle.tracker.specs.Outcome.{Met}

-- "record 14, 16, 15". "Record gets 15 exactly if queue length plus 1 for an open slot is 32 or more."
unfoldable pub record_tests : Bool → ℕ → ℕ → ℕ → ℕ → List (Bool × ℕ)
record_tests isSound shard next waiting number =
    (not isSound, 28)
    ∷ (ltb 15 shard, 14)
    ∷ (eqb next (2 ^ 64 - 1), 16)
    ∷ (leb 32 (waiting + places number), 15)
    ∷ []

abbrev pub record_refusal : State → ℕ → ℕ
record_refusal m shard = first_of (record_tests (sound m) shard m.next (length (queue m shard)) (slot_of m shard).number)

-- an accepted record answers the number that it took
abbrev pub record_of : State → ℕ → Said ℕ
record_of m shard = unless_refused (record_refusal m shard) (accepted m.next)

-- "Record takes a new number and queues the delta, zero too."
unfoldable pub recorded : State → ℕ → ℤ → State
recorded m shard delta = with_next (joined m shard m.next delta) (m.next + 1)

abbrev pub said_record : Result ℕ Refusal → Said ℕ
said_record = said

abbrev pub RecordMet : Tracker → ℕ → ℤ → After ℕ → Type 0
RecordMet t shard delta r = Met ℕ (record_of (view t) shard) (said_record r.answer) t r.tracker (recorded (view t) shard delta)
