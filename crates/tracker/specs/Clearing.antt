-- Document 01, "Tracker": clear.
-- Assumes nothing.
use Rattle.std.specs.Prelude.{[], replicate, Result}
use Rattle.answers.specs.Answers.{Said, accepted, unless_refused}
use Rattle.answers.specs.declared.Refusal.{Refusal}
use Rattle.tracker.specs.declared.Tracker.{Tracker}
use Rattle.tracker.specs.declared.After.{After}
use Rattle.tracker.specs.State.{State, view, idle}
use Rattle.tracker.specs.Outcome.{Met, sound_refusal, said_as}

-- an accepted clear answers nothing but that it was accepted
pub data Empty : Type 0 where
  empty : Empty

abbrev pub clear_of : State → Said Empty
clear_of m = unless_refused (sound_refusal m) (accepted empty)

-- "Clear zeroes all slots, empties queues and keeps the next number."
unfoldable pub cleared : State → State
cleared m = record { slots = replicate 16 idle; queues = replicate 16 []; next = m.next }

abbrev pub said_clear : Result (Unit {0}) Refusal → Said Empty
said_clear = said_as (λ done. empty)

abbrev pub ClearMet : Tracker → After (Unit {0}) → Type 0
ClearMet t r = Met Empty (clear_of (view t)) (said_clear r.answer) t r.tracker (cleared (view t))
