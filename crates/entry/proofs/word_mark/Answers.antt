-- `entry::word_mark` meets its contract: the mask is the remainder by 2 ^ 24.
-- Assumes nothing.
use lib.Bits.{and_mask}
use Rattle.entry.specs.Words.{word_mark}
use Rattle.entry.proofs.word_mark.Goals as goal

pub returns : goal.returns
unfolding word_mark
returns c = and_mask c.args.word 24
