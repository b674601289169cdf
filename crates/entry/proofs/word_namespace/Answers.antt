-- `entry::word_namespace` meets its contract: the shift divides by 2 ^ 24, and the mask is the remainder by 2 ^ 6.
-- Assumes nothing.
use Prim.Native.Nat.{◌/◌, ◌^◌}
use lib.Bits.{and_mask}
use Rattle.entry.specs.Words.{word_namespace}
use Rattle.entry.proofs.word_namespace.Goals as goal

pub returns : goal.returns
unfolding word_namespace
returns c = and_mask (c.args.word / 2 ^ 24) 6
