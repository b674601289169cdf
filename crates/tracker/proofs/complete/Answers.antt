-- `tracker::complete`: by its verdict, by the slot's number, and by the law of one entry more behind its equals.
-- Assumes nothing.
use Rattle.std.proofs.Common.{arith}
use mir.Facts.{to_z-of_z}
use mir.Syntax.{w8}
use Rattle.tracker.proofs.Ints.{bits_zero, bits_other}
use Rattle.tracker.proofs.Finishes.{stale_zero, stale_other, done_zero, done_insert, done_room}
use Rattle.tracker.proofs.complete.Goals as goal
use Rattle.tracker.proofs.complete.Goals.{then-number-eq0-via-then-number-eq0, then-number-eq0-via-else-number-eq0+then-tracker-shard}

pub returns-then-number-eq0 : goal.returns-then-number-eq0
returns-then-number-eq0 c =
    let a = c.args in
    elim c.then-number-eq0.branch [
      | then-number-eq0-via-then-number-eq0 w ↦ stale_zero a.tracker a.shard a.number a.delta c.is_sound-sound.ensures c.in_default.ensures.number w.if-number-eq0.true
      | then-number-eq0-via-else-number-eq0+then-tracker-shard w ↦ stale_other a.tracker a.shard a.number a.delta c.is_sound-sound.ensures c.in_default.ensures.number (λ z. absurd (omega (arith, z))) w.if-tracker-shard.true
    ]

pub insert-requires : goal.insert-requires
insert-requires c =
    let a = c.args in
    done_room a.tracker a.shard a.number a.delta c.is_sound-sound.ensures c.in_default.ensures.number (λ z. absurd (omega (arith, z))) c.if-tracker-shard.false

pub returns-then-delta-ne0 : goal.returns-then-delta-ne0
returns-then-delta-ne0 c =
    let a = c.args in
    done_insert a.tracker a.shard a.number a.delta c.is_sound-sound.ensures c.in_default.ensures.number (λ z. absurd (omega (arith, z))) c.if-tracker-shard.false c.insert.new.self
    (bits_other a.delta c.if-delta-ne0.true) (rw (to_z-of_z {w = w8} c.ranges.delta) at c.insert.ensures)

pub returns-else-delta-ne0 : goal.returns-else-delta-ne0
returns-else-delta-ne0 c =
    let a = c.args in
    done_zero a.tracker a.shard a.number a.delta c.is_sound-sound.ensures c.in_default.ensures.number (λ z. absurd (omega (arith, z))) c.if-tracker-shard.false
    (bits_zero a.delta c.ranges.delta c.if-delta-ne0.false)
