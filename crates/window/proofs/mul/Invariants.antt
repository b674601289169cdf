-- `window::mul` meets its contract. The invariant: what is there is left by the second factor and the digits of the first that were
-- taken.
-- Assumes nothing.
use Rattle.std.proofs.Common.{◌/◌, ◌^◌}
use Rattle.window.specs.Windows.{Times}
use Rattle.window.proofs.mul.Given as goal

abbrev pub invariant-loop-k : goal.invariant-loop-k
invariant-loop-k l = Times (l.a / 2 ^ l.k) l.b l.r
