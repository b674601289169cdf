-- `scan::Sums::is_intact` of a window meets its contract: the definitions' one test, by the window's sum.
-- Assumes nothing.
use Rattle.std.proofs.Common.{arith, ◌-◌}
use Rattle.entry.proofs.Standing.{intact_by_sum}
use Rattle.scan.proofs.WindowSums.is_intact.Goals as goal

pub returns-then-by_window-clause-answer : goal.returns-then-by_window-clause-answer
returns-then-by_window-clause-answer c =
    let a = c.args in
    intact_by_sum a.self.now.region.now a.e (a.e.end - 2) _ _ (omega arith) (omega arith) c.read.ensures.0 c.sum_between.ensures.sum
