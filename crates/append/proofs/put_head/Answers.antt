-- `append::put_head` meets its contract: the word, the key length and, but for a tombstone, the value length, one behind the other.
-- Assumes nothing.
use Prim.Native.Nat.{◌+◌}
use mathlib.Core.Path.{◌≡◌, refl}
use mathlib.Core.List.{◌++◌}
use mathlib.Core.Bool.{true, false}
use native.Mathlib.Omega.{arith}
use borrow.Author.Tests.{eq-eqb, ne_eqb}
use lib.Dec.{eqb}
use Rattle.fields.specs.Numbers.{bytes_of}
use Rattle.fields.specs.Runs.{over}
use Rattle.fields.proofs.Laying.{over_then}
use Rattle.entry.specs.Layout.{head_length}
use Rattle.append.specs.Bytes.{head_of}
use Rattle.append.proofs.put_head.Goals as goal

pub returns-then-kind-eq-TOMBSTONE : goal.returns-then-kind-eq-TOMBSTONE
unfolding head_of head_length bytes_of
returns-then-kind-eq-TOMBSTONE c =
    let both : let a = c.args in c.put-2.new.region ≡ over a.region.now a.at (bytes_of 4 a.word ++ bytes_of 2 a.klen) =
    let a = c.args in
    over_then a.region.now a.at (bytes_of 4 a.word) (bytes_of 2 a.klen) (a.at + 4) c.put.ensures c.put-2.ensures refl (omega arith) in
    let tombstone : eqb c.args.kind 2 ≡ true = eq-eqb _ _ c.if-kind-eq-TOMBSTONE.true in
    (simp tombstone (both), simp tombstone)

pub returns : goal.returns
unfolding head_of head_length bytes_of
returns c =
    let both : let a = c.args in c.put-2.new.region ≡ over a.region.now a.at (bytes_of 4 a.word ++ bytes_of 2 a.klen) =
    let a = c.args in
    over_then a.region.now a.at (bytes_of 4 a.word) (bytes_of 2 a.klen) (a.at + 4) c.put.ensures c.put-2.ensures refl (omega arith) in
    let a = c.args in
    let dated : eqb a.kind 2 ≡ false = ne_eqb _ _ c.if-kind-eq-TOMBSTONE.false in
    (simp dated (over_then a.region.now a.at (bytes_of 4 a.word ++ bytes_of 2 a.klen) (bytes_of 2 a.vlen) (a.at + 6) (both) c.put-3.ensures refl (omega arith)), simp dated)
