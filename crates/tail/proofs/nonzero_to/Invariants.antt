-- `tail::nonzero_to` meets its contract: the loop keeps that no byte behind the place is nonzero.
-- Assumes nothing.
use Rattle.std.proofs.Common.{◌≡◌, length}
use Rattle.tail.specs.Tail.{nonzero_to}
use Rattle.tail.proofs.nonzero_to.Given as goal

abbrev pub invariant-loop-i : goal.invariant-loop-i
invariant-loop-i l = nonzero_to l.region l.i ≡ nonzero_to l.region (length l.region)
