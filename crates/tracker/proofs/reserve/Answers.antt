-- `tracker::reserve`: by its verdict, whose number is the table's.
-- Assumes nothing.
use Rattle.std.proofs.Common.{◌≡◌, length, rules}
use Rattle.tracker.proofs.Reserves.{reserve_refused, reserve_accepted}
use Rattle.tracker.proofs.reserve.Goals as goal

pub returns-in-Err : goal.returns-in-Err
returns-in-Err c =
    let a = c.args in
    let long : length a.tracker.lengths ≡ 16 = search rules in
    reserve_refused a.tracker a.shard a.ordinal a.used a.capacity a.sealed a.length long c.is_sound-sound.ensures c.waiting_on-waiting.ensures c.in-Err.refusal c.in-Err.ensures.number

pub returns : goal.returns
returns c =
    let a = c.args in
    let long : length a.tracker.lengths ≡ 16 = search rules in
    reserve_accepted a.tracker a.shard a.ordinal a.used a.capacity a.sealed a.length long c.is_sound-sound.ensures c.waiting_on-waiting.ensures c.in_default.ensures.number
