-- `tracker::record`: by its verdict, whose number is the table's, and by the law of one entry more.
-- Assumes nothing.
use Rattle.std.proofs.Common.{◌≡◌, length, sym, ◌∙◌, arith, rules}
use mir.Facts.{to_z-of_z}
use mir.Syntax.{w8}
use Rattle.tracker.proofs.Sounds.{sound_roomy}
use Rattle.tracker.proofs.Records.{record_refused, record_accepted}
use Rattle.tracker.proofs.record.Goals as goal

pub returns-in-Err : goal.returns-in-Err
returns-in-Err c =
    let t = c.args.tracker in
    let long : length t.lengths ≡ 16 = search rules in
    record_refused t c.args.shard c.args.delta long c.is_sound-sound.ensures c.waiting_on-waiting.ensures c.number_on-held.ensures c.in-Err.refusal c.in-Err.ensures.number

pub push-requires : goal.push-requires
push-requires c =
    let free = c.in_default.ensures.passed in
    record { roomy = sound_roomy c.args.tracker (sym c.is_sound-sound.ensures ∙ free.soundness); on_shard = free.on_shard; free = omega (arith, free.room, c.waiting_on-waiting.ensures) }

pub returns : goal.returns
returns c =
    let t = c.args.tracker in
    let long : length t.lengths ≡ 16 = search rules in
    record_accepted t c.args.shard c.args.delta long c.is_sound-sound.ensures c.waiting_on-waiting.ensures c.number_on-held.ensures c.in_default.ensures.number c.push.new.self
    (rw (to_z-of_z {w = w8} c.ranges.delta) at c.push.ensures)
