-- `tracker::sum_below`: the total is the sum over the queues passed, and small.
-- Assumes nothing.
use Rattle.tracker.proofs.Totals.{Adding}
use Rattle.tracker.proofs.sum_below.Given as goal

abbrev pub invariant-loop-shard : goal.invariant-loop-shard
invariant-loop-shard l = Adding l.tracker l.limit l.shard l.total
