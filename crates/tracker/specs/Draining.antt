-- Document 01, "Tracker": drain.
-- Assumes nothing.
use Rattle.std.specs.Prelude.{ℕ, map, ℤ, Result}
use Rattle.answers.specs.Answers.{Said, accepted, unless_refused, said}
use Rattle.answers.specs.declared.Refusal.{Refusal}
use Rattle.tracker.specs.declared.Tracker.{Tracker}
use Rattle.tracker.specs.declared.After.{After}
use Rattle.tracker.specs.State.{State, view}
use Rattle.tracker.specs.Outcome.{Met, sound_refusal}
use Rattle.tracker.specs.Sums.{sum_of, past_front}

-- "Drain with any limit removes and sums in that same way."
abbrev pub drain_of : State → ℕ → Said ℤ
drain_of m limit = unless_refused (sound_refusal m) (accepted (sum_of limit m.queues))

unfoldable pub drained : State → ℕ → State
drained m limit = record { slots = m.slots; queues = map (past_front limit) m.queues; next = m.next }

abbrev pub said_drain : Result ℤ Refusal → Said ℤ
said_drain = said

abbrev pub DrainMet : Tracker → ℕ → After ℤ → Type 0
DrainMet t limit r = Met ℤ (drain_of (view t) limit) (said_drain r.answer) t r.tracker (drained (view t) limit)
