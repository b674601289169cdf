-- `tracker::queue_below`: of numbers that ascend the last one tells.
-- Assumes nothing.
use Rattle.std.proofs.Common.{arith}
use Rattle.tracker.proofs.Ascents.{last_of_queue_tells}
use Rattle.tracker.proofs.queue_below.Goals as goal

pub returns-in-Some : goal.returns-in-Some
returns-in-Some c =
    let item = c.in-Some.ensures.item in
    rw (item.4 (omega arith) 0) (last_of_queue_tells c.args.numbers.now c.requires c.args.next item.3.0)
