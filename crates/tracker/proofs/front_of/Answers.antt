-- `tracker::front_of`: an entry more, the first at or above the limit, and the end.
-- Assumes nothing.
use Rattle.std.proofs.Common.{get_or, pos, ◌∙◌, arith, rules}
use mir.Val.{SFits, to_z}
use mir.Syntax.{w64, w8}
use mir.Facts.{to_z-of_z}
use Rattle.tracker.proofs.Fronts.{passed_more, passed_stop, passed_end}
use Rattle.tracker.proofs.Ints.{sum_reads, small8}
use Rattle.tracker.proofs.front_of.Goals as goal

pub returns-then-limit-number : goal.returns-then-limit-number
returns-then-limit-number c = passed_stop _ _ _ _ _ c.loop-i-test.true c.if-limit-number.true c.loop-i.invariant

pub loop-i-preserved : goal.loop-i-preserved
loop-i-preserved c =
    let p = c.loop-i.invariant in
    let here : SFits w8 (get_or c.args.deltas.now c.loop-i.i (pos 0)) = search rules in
    let same = c.from-sum.ensures ∙ to_z-of_z {w = w8} here in
    rw (sum_reads (to_z w64 c.loop-i.sum-bits) c.from-sum.result (omega (arith, p.small)) (rw same (omega (arith, small8 _ here))))
    (passed_more _ _ _ c.loop-i.i c.loop-i-test.true c.if-limit-number.false _ _ same (rw same (small8 _ here)) p)

pub returns : goal.returns
returns c = passed_end _ _ _ c.loop-i.i _ (omega arith) c.loop-i.invariant
