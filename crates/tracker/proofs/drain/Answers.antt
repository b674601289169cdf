-- `tracker::drain`: a queue more is drained, and all of them.
-- Assumes nothing.
use Rattle.std.proofs.Common.{refl, sym, ◌∙◌, arith}
use mir.Val.{to_z}
use mir.Syntax.{w64}
use Rattle.tracker.proofs.Ints.{sum_fits, sum_reads}
use Rattle.tracker.proofs.Sounds.{sound_roomy}
use Rattle.tracker.proofs.Totals.{drains_more, drain_accepted, adding_none, front_is}
use Rattle.tracker.proofs.drain.Goals as goal

pub loop-shard-init : goal.loop-shard-init
loop-shard-init c = record { view_is = refl; roomy = sound_roomy _ (sym c.is_sound.ensures ∙ c.if-not-is_sound.false); adds = adding_none _ _ }

pub overflow_add-total : goal.overflow_add-total
overflow_add-total c =
    let d = c.loop-shard.invariant in
    let f = front_is c.loop-shard.changed c.args.limit d.roomy c.loop-shard-test.true c.queue.ensures c.front_of-front.ensures in
    sum_fits (to_z w64 c.loop-shard.total-bits) c.front_of-front.result.sum (omega (arith, d.adds.small)) (omega (arith, f.small))

pub remove_front-requires : goal.remove_front-requires
remove_front-requires c =
    let d = c.loop-shard.invariant in
    (d.roomy, (c.loop-shard-test.true, (front_is c.loop-shard.changed c.args.limit d.roomy c.loop-shard-test.true c.queue.ensures c.front_of-front.ensures).within))

pub loop-shard-preserved : goal.loop-shard-preserved
loop-shard-preserved c =
    let d = c.loop-shard.invariant in
    let f = front_is c.loop-shard.changed c.args.limit d.roomy c.loop-shard-test.true c.queue.ensures c.front_of-front.ensures in
    rw (sum_reads (to_z w64 c.loop-shard.total-bits) c.front_of-front.result.sum (omega (arith, d.adds.small)) (omega (arith, f.small)))
    (drains_more _ _ c.loop-shard.shard c.loop-shard-test.true c.loop-shard.changed _ d c.front_of-front.result _ f c.remove_front.ensures.0 c.remove_front.ensures.1)

pub returns : goal.returns
returns c =
    drain_accepted _ _ _ _ _ (omega arith) c.loop-shard.invariant (sym c.is_sound.ensures ∙ c.if-not-is_sound.false)
