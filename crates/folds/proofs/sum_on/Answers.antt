-- `folds::sum_on` meets its contract: what the first eight bytes with the state, and the bytes after them, leave is what the dividend
-- leaves, and that is the catalogue's sum.
-- Assumes nothing.
use native.Mathlib.Omega.{arith}
use Rattle.folds.proofs.Numbers.{followed_sum}
use Rattle.folds.proofs.sum_on.Goals as goal

pub returns-then-bytes-lt16 : goal.returns-then-bytes-lt16
returns-then-bytes-lt16 c =
    followed_sum _ _ _ (λ i. (c.type_inv.bytes i).fits) c.ranges.state.fits (omega arith) c.eight.ensures c.ended.type_inv c.ended.ensures

pub returns : goal.returns
returns c =
    followed_sum _ _ _ (λ i. (c.type_inv.bytes i).fits) c.ranges.state.fits (omega arith) c.eight.ensures c.wide.type_inv c.wide.ensures
