-- `folds::eight` meets its contract: the first chunk from i on is those bytes, and std makes the same number of them.
-- Assumes nothing.
use mathlib.Core.Path.{subst}
use Prim.Native.Nat.{ℕ, ◌-◌, ◌/◌, ◌<◌}
use native.Mathlib.Omega.{arith}
use lib.ListN.{length, take, drop}
use Rattle.folds.specs.Leaves.{Reads}
use Rattle.folds.proofs.Numbers.{behind_length, reads_chunk}
use Rattle.folds.proofs.eight.Goals as goal

pub returns : goal.returns
returns c =
    let s = c.args.s.now in
    let i = c.args.i in
    let long = behind_length s i in
    let some : 0 < length (take (length s - i) (drop i s)) / 8 = omega arith in
    subst (λ (j : ℕ). Reads s j 8 c.from_be_bytes.result) (omega arith)
    (reads_chunk 7 s i 0 c.as_chunks.ensures.front some (omega arith) c.from_be_bytes.ensures c.from_be_bytes.type_inv)
