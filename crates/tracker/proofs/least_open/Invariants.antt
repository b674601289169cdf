-- `tracker::least_open`: what is kept, and the slots that are left, lead to the answer.
-- Assumes nothing.
use Rattle.std.proofs.Common.{◌≡◌, drop}
use Rattle.tracker.specs.Least.{least_from, least_of}
use Rattle.tracker.proofs.least_open.Given as goal

abbrev pub invariant-loop-slot : goal.invariant-loop-slot
invariant-loop-slot l = least_from l.least (drop l.slot-index l.slots) ≡ least_of l.ordinal l.used l.slots
