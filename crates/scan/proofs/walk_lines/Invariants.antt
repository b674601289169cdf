-- `scan::walk_lines` meets its contract: the loop keeps that what was spent so far, and what is left to walk, are the whole walk.
-- Assumes nothing.
use Rattle.std.proofs.Common.{◌≡◌, ◌+◌, ◌-◌, ◌<◌}
use Rattle.entry.specs.Words.{mark_from}
use Rattle.scan.proofs.Counting.{Come}
use Rattle.scan.proofs.walk_lines.Given as goal

abbrev pub invariant-lines : goal.invariant-lines
invariant-lines g l =
    (l.p < l.bound + 16) × Come (mark_from l.seed) l.region l.bound l.start l.spent l.p l.bytes × (g.S.Sums.lent l.sums ≡ g.S.Sums.lent l.initial.sums)

abbrev pub decreases-lines : goal.decreases-lines
decreases-lines g l = l.bound - l.p
