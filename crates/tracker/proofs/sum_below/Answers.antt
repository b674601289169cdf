-- `tracker::sum_below`: a queue more, and all of them.
-- Assumes nothing.
use Rattle.std.proofs.Common.{arith}
use mir.Val.{to_z}
use mir.Syntax.{w64}
use Rattle.tracker.proofs.Ints.{sum_fits, sum_reads}
use Rattle.tracker.proofs.Totals.{adding_more, adding_all, front_is}
use Rattle.tracker.proofs.sum_below.Goals as goal

pub overflow_add-total : goal.overflow_add-total
overflow_add-total c =
    let f = front_is c.args.tracker.now c.args.limit c.requires c.loop-shard-test.true c.queue.ensures c.front_of-total.ensures in
    sum_fits (to_z w64 c.loop-shard.total-bits) c.front_of-total.result.sum (omega (arith, c.loop-shard.invariant.small)) (omega (arith, f.small))

pub loop-shard-preserved : goal.loop-shard-preserved
loop-shard-preserved c =
    let f = front_is c.args.tracker.now c.args.limit c.requires c.loop-shard-test.true c.queue.ensures c.front_of-total.ensures in
    rw (sum_reads (to_z w64 c.loop-shard.total-bits) c.front_of-total.result.sum (omega (arith, c.loop-shard.invariant.small)) (omega (arith, f.small)))
    (adding_more _ _ _ _ c.loop-shard-test.true f.fronted f.small _ c.loop-shard.invariant)

pub returns : goal.returns
returns c = record { sum_is = adding_all _ _ _ _ (omega arith) c.loop-shard.invariant; small = omega (arith, c.loop-shard.invariant.small) }
