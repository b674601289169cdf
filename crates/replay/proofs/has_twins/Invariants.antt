-- `replay::has_twins`: what is left of the list has two equal ordinals exactly if the list has.
-- Assumes nothing.
use Rattle.std.proofs.Common.{◌≡◌, length}
use Rattle.replay.specs.Start.{twins}
use Rattle.replay.proofs.has_twins.Given as goal

abbrev pub invariant-loop-first : goal.invariant-loop-first
invariant-loop-first l = twins l.ordinals ≡ twins l.rest

abbrev pub decreases-loop-first : goal.decreases-loop-first
decreases-loop-first l = length l.rest
