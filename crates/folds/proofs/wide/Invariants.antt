-- `folds::wide` meets its contract. The invariant: the register, with the bytes that are left behind it, leaves what x and the bytes
-- from the eighth on leave.
-- Assumes nothing.
use Prim.Native.Nat.{◌+◌, ◌*◌}
use lib.ListN.{drop}
use lib.Bits.{bit_xor}
use Rattle.folds.specs.Leaves.{Same, followed}
use Rattle.folds.proofs.wide.Given as goal

abbrev pub invariant-loop-turn : goal.invariant-loop-turn
invariant-loop-turn l = Same (followed l.x (drop 8 l.s)) (followed (bit_xor l.early l.late) (drop (16 + l.turn-index * 16) l.s))
