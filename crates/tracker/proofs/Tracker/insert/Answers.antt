-- `tracker::Tracker::insert`: the law of one entry more behind its equals.
-- Assumes nothing.
use Rattle.std.proofs.Common.{◌≡◌, ◌+◌, ◌-◌, ◌*◌, get_or, length, arith, rules}
use mir.Facts.{to_z-of_z}
use mir.Syntax.{w8}
use Rattle.tracker.proofs.Inserts.{Placed, placed_behind, insert_law}
use Rattle.tracker.proofs.Tracker.insert.Goals as goal

pub returns : goal.returns
returns c =
    let t = c.args.self.now in
    let ll : length t.lengths ≡ 16 = search rules in
    let count : c.args.shard * 32 + get_or t.lengths c.args.shard 0 - c.args.shard * 32 ≡ get_or t.lengths c.args.shard 0 = omega arith in
    let placed : Placed c.queue.result.0.now c.args.number c.place_of.result = rw c.place_of.ensures (placed_behind c.queue.result.0.now c.args.number) in
    rw count
    (insert_law t c.args.shard c.requires ll c.args.number c.args.delta c.queue.ensures c.place_of.result placed _ _ c.put_in.ensures
    (rw (to_z-of_z {w = w8} c.ranges.delta) at c.put_in-2.ensures))
