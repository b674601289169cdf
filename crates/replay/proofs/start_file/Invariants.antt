-- `replay::start_file`: of the files passed, replay begins at the one kept.
-- Assumes nothing.
use Rattle.replay.proofs.Choices.{Kept}
use Rattle.replay.proofs.start_file.Given as goal

abbrev pub invariant-loop-i : goal.invariant-loop-i
invariant-loop-i l = Kept l.cursor l.ordinals l.i l.place
