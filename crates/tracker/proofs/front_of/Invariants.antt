-- `tracker::front_of`: what is passed is summed and counted, and the rest is still to come.
-- Assumes nothing.
use Rattle.tracker.proofs.Fronts.{Passed}
use Rattle.tracker.proofs.front_of.Given as goal

abbrev pub invariant-loop-i : goal.invariant-loop-i
invariant-loop-i l = Passed l.numbers l.deltas l.limit l.i l.sum
