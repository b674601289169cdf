-- `tracker::is_sound`: a shard by the three tests, and the whole by its shards.
-- Assumes nothing.
use Rattle.std.proofs.Common.{below_more, arith}
use Rattle.tracker.proofs.Sounds.{sound_false, sound_true, head_false, below_false, order_false, three_true}
use Rattle.tracker.proofs.is_sound.Goals as goal

pub returns-then-not-head_sound : goal.returns-then-not-head_sound
returns-then-not-head_sound c =
    sound_false c.args.tracker c.loop-shard.shard (omega arith) (head_false c.args.tracker c.loop-shard.shard (omega arith) _ c.head_sound.ensures c.if-not-head_sound.true)

pub returns-then-not-queue_ascends : goal.returns-then-not-queue_ascends
returns-then-not-queue_ascends c =
    let t = c.args.tracker in
    sound_false t c.loop-shard.shard (omega arith)
    (order_false t c.loop-shard.shard (omega arith) c.queue.ensures _ c.queue_ascends.ensures c.if-not-queue_ascends.true)

pub returns-then-not-queue_below : goal.returns-then-not-queue_below
returns-then-not-queue_below c =
    let t = c.args.tracker in
    sound_false t c.loop-shard.shard (omega arith)
    (below_false t c.loop-shard.shard (omega arith) c.queue.ensures _ c.queue_below.ensures c.if-not-queue_below.true)

pub loop-shard-preserved : goal.loop-shard-preserved
loop-shard-preserved c =
    let t = c.args.tracker in
    below_more _ _ c.loop-shard.invariant
    (three_true t c.loop-shard.shard (omega arith) c.queue.ensures _ _ _ c.head_sound.ensures c.if-not-head_sound.false c.queue_below.ensures c.if-not-queue_below.false c.queue_ascends.ensures c.if-not-queue_ascends.false)

pub returns : goal.returns
returns c = sound_true c.args.tracker (λ e. absurd (omega (arith, e))) (λ k p. c.loop-shard.invariant k (omega arith))
