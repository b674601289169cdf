-- `window::mul` meets its contract: before the first digit there is nothing.
-- Assumes nothing.
use Rattle.std.proofs.Common.{arith, ◌/◌}
use Rattle.window.proofs.Products.{times_none}
use Rattle.window.proofs.mul.Goals as goal

pub loop-k-init : goal.loop-k-init
loop-k-init c = times_none (c.args.a / 65536) c.args.b (omega arith)
