-- `fields::put_run` meets its contract. The invariant: the bytes of the run up to i stand over the region, and its length stays.
-- Assumes nothing.
use Prim.Native.Nat.{ℕ, ◌+◌}
use mathlib.Core.Path.{◌≡◌, refl, sym, ap, ◌∙◌}
use mathlib.Core.List.{List}
use native.Mathlib.Omega.{arith}
use native.Mathlib.Numerals.{add-one}
use lib.ListN.{length, take, get_or, set, length-set}
use lib.Seq.{length-take-le, take-suc, take-length}
use Rattle.fields.specs.Runs.{over}
use Rattle.fields.proofs.Laying.{over_nothing, over_set}
use Rattle.fields.proofs.put_run.Goals as goal

pub loop-i-init : goal.loop-i-init
loop-i-init c = (omega arith, sym (over_nothing _ _), refl)

pub loop-i-preserved : goal.loop-i-preserved
loop-i-preserved c =
    let w = c in
    let a = w.args in
    let run = a.run.now in
    let i = w.loop-i.i in
    let put : set w.loop-i.region (a.at + i) (get_or run i 0) ≡ over a.region.now a.at (take (i + 1) run) =
    ap (λ (t : List ℕ). set t (a.at + i) (get_or run i 0)) w.loop-i.invariant.1
    ∙ over_set a.region.now a.at (take i run) i _ (length-take-le i run (omega arith)) (omega arith)
    ∙ ap (over a.region.now a.at) (sym (take-suc run i 0 (omega arith)) ∙ ap (λ (k : ℕ). take k run) (sym (add-one i))) in
    (omega arith, put, simp length-set w.loop-i.invariant.2)

pub returns : goal.returns
returns c =
    let a = c.args in
    let all : c.loop-i.i ≡ length a.run.now = omega arith in
    c.loop-i.invariant.1 ∙ ap (over a.region.now a.at) (ap (λ (k : ℕ). take k a.run.now) all ∙ take-length a.run.now)

pub shape_of-region : goal.shape_of-region
shape_of-region c = c.loop-i.invariant.2
