-- `entry::word_kind` meets its contract: the shift divides by 2 ^ 30, and the mask is the remainder by 2 ^ 2.
-- Assumes nothing.
use Prim.Native.Nat.{◌/◌, ◌^◌}
use lib.Bits.{and_mask}
use Rattle.entry.specs.Words.{word_kind}
use Rattle.entry.proofs.word_kind.Goals as goal

pub returns : goal.returns
unfolding word_kind
returns c = and_mask (c.args.word / 2 ^ 30) 2
