-- `tracker::Tracker::push`: the law of one entry more.
-- Assumes nothing.
use Rattle.std.proofs.Common.{◌≡◌, length, rules}
use mir.Facts.{to_z-of_z}
use mir.Syntax.{w8}
use Rattle.tracker.proofs.Views.{push_law}
use Rattle.tracker.proofs.Tracker.push.Goals as goal

pub returns : goal.returns
returns c =
    let t = c.args.self.now in
    let ln : length t.numbers ≡ 512 = search rules in
    let ld : length t.deltas ≡ 512 = search rules in
    let ll : length t.lengths ≡ 16 = search rules in
    rw (to_z-of_z {w = w8} c.ranges.delta) (push_law t c.args.shard c.requires ln ld ll c.args.number c.args.delta)
