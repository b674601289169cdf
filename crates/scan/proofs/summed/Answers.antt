-- `scan::summed` meets its contract: an entry's length from its end.
-- Assumes nothing.
use Rattle.std.proofs.Common.{arith, sym}
use Rattle.entry.proofs.Standing.{length_least}
use Rattle.scan.proofs.Counting.{summed_whole, summed_past}
use Rattle.scan.proofs.summed.Goals as goal

pub overflow_sub-result-then-e-region : goal.overflow_sub-result-then-e-region
overflow_sub-result-then-e-region c =
    let e = c.args.e in
    omega (arith, length_least e.kind e.klen e.vlen)

pub returns-then-e-region : goal.returns-then-e-region
returns-then-e-region c =
    let e = c.args.e in
    let whole = summed_whole c.args.region.now e c.if-e-region.true in
    omega (arith, whole)

pub returns-else-e-region : goal.returns-else-e-region
returns-else-e-region c = sym (summed_past c.args.region.now c.args.e (omega arith))
