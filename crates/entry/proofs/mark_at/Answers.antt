-- `entry::mark_at` meets its contract: the mask is the remainder by 2 ^ 24.
-- Assumes nothing.
use Prim.Native.Nat.{◌+◌, ◌/◌}
use lib.Bits.{and_mask}
use Rattle.entry.specs.Words.{mark_from}
use Rattle.entry.proofs.mark_at.Goals as goal

pub returns : goal.returns
unfolding mark_from
returns c = and_mask (c.args.p / 16 + c.args.seed) 24
