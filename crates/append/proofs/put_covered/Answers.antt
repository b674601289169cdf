-- `append::put_covered` meets its contract: the head, the value and the key, one behind the other.
-- Assumes nothing.
use Prim.Native.Nat.{ℕ, ◌+◌}
use mathlib.Core.Path.{◌≡◌, ap, ◌∙◌}
use mathlib.Core.List.{◌++◌, append_assoc}
use native.Mathlib.Omega.{arith}
use lib.ListN.{length, length-append}
use Rattle.fields.specs.Runs.{over}
use Rattle.fields.proofs.Laying.{over_then}
use Rattle.entry.specs.Words.{word_of}
use Rattle.entry.specs.Layout.{head_length}
use Rattle.entry.proofs.Standing.{head_bounds}
use Rattle.append.specs.Bytes.{head_of, covered_of}
use Rattle.append.proofs.Encodings.{head_length_lem}
use Rattle.append.proofs.put_covered.Goals as goal

pub put_run-requires : goal.put_run-requires
put_run-requires c =
    omega (arith, c.put_head-vplace.auto.region, head_bounds c.args.asked.kind)

pub overflow_add-kplace : goal.overflow_add-kplace
overflow_add-kplace c = omega (arith, head_bounds c.args.asked.kind)

pub put_run-requires-2 : goal.put_run-requires-2
put_run-requires-2 c = omega (arith, head_bounds c.args.asked.kind)

pub overflow_add-result : goal.overflow_add-result
overflow_add-result c = omega (arith, head_bounds c.args.asked.kind)

pub returns : goal.returns
unfolding covered_of
returns c =
    let a = c.args in
    let s = a.region.now in
    let key = a.asked.key.now in
    let value = a.asked.value.now in
    let head = head_of (word_of a.mark a.asked.ns a.asked.kind) a.asked.kind (length key) (length value) in
    let hi = head_bounds a.asked.kind in
    let n1 : length head ≡ head_length a.asked.kind = head_length_lem _ a.asked.kind (length key) (length value) in
    let n2 : length (head ++ value) ≡ head_length a.asked.kind + length value = length-append head value ∙ ap (λ (n : ℕ). n + length value) n1 in
    let p1 : c.put_head-vplace.new.region ≡ over s a.at head = c.put_head-vplace.ensures.0 ∙ ap (λ (w : ℕ). over s a.at (head_of w a.asked.kind (length key) (length value))) c.word_of-word.ensures in
    let p2 : c.put_run.new.region ≡ over s a.at (head ++ value) = over_then s a.at head value c.put_head-vplace.result p1 c.put_run.ensures (omega arith) (omega arith) in
    let p3 : c.put_run-2.new.region ≡ over s a.at ((head ++ value) ++ key) = over_then s a.at (head ++ value) key (c.put_head-vplace.result + length value) p2 c.put_run-2.ensures (omega arith) (omega arith) in
    (p3 ∙ ap (over s a.at) (append_assoc head value key), omega arith)
