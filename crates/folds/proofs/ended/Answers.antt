-- `folds::ended` meets its contract: no byte is left, or the last ones come out of one number of eight.
-- Assumes nothing.
use native.Mathlib.Omega.{arith}
use Rattle.checksum.proofs.Bytes.{bytes_from_places}
use Rattle.folds.proofs.Congruence.{same_trans, same_shift}
use Rattle.folds.proofs.Numbers.{followed_end, followed_last}
use Rattle.folds.proofs.ended.Goals as goal

pub returns-then-i-n : goal.returns-then-i-n
returns-then-i-n c = same_trans (same_shift 16 (followed_end c.args.s.now c.args.x c.args.i (omega arith))) c.finish.ensures

pub returns : goal.returns
returns c =
    let s = c.args.s.now in
    let last = followed_last s c.args.x c.args.i (bytes_from_places s (λ i. (c.type_inv.s i).fits)) (omega arith) (omega arith) (omega arith)
    c.eight.ensures c.fold.ensures.left in
    same_trans (same_shift 16 last) c.finish-2.ensures
