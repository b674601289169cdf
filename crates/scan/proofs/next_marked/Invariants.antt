-- `scan::next_marked` meets its contract: the loop keeps that all lines passed were tried and have wrong marks.
-- Assumes nothing.
use Rattle.std.proofs.Common.{◌-◌}
use Rattle.entry.specs.Words.{mark_from}
use Rattle.scan.specs.Efforts.{no_effort}
use Rattle.scan.proofs.Counting.{Come}
use Rattle.scan.proofs.next_marked.Given as goal

abbrev pub invariant-loop-q : goal.invariant-loop-q
invariant-loop-q l = Come (mark_from l.seed) l.region l.bound l.p no_effort l.q 0

abbrev pub decreases-loop-q : goal.decreases-loop-q
decreases-loop-q l = l.bound - l.q
