-- `tracker::drain`: the queues passed are drained, the others as they were, and the total is the sum so far.
-- Assumes nothing.
use Rattle.tracker.proofs.Totals.{Drains}
use Rattle.tracker.proofs.drain.Given as goal

abbrev pub invariant-loop-shard : goal.invariant-loop-shard
invariant-loop-shard l = Drains l.initial.changed l.limit l.shard l.changed l.total
