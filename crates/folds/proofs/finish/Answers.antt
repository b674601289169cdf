-- `folds::finish` meets its contract: the upper half is folded into the lower one, then the upper quarter, then what is left.
-- Assumes nothing.
use Prim.Native.Nat.{◌%◌, ◌^◌}
use lib.Bits.{bit_xor}
use Rattle.folds.proofs.Congruence.{same_trans, same_shift, same_split}
use Rattle.folds.proofs.finish.Goals as goal

pub returns : goal.returns
returns c =
    let x = c.args.x in
    let y = bit_xor c.fold.result (x % 2 ^ 32) in
    same_trans (same_shift 16 (same_trans (same_split 32 x c.fold.ensures.left) (same_split 16 y c.fold-2.ensures.left))) c.fold-3.ensures.left
