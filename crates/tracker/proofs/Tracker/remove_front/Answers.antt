-- `tracker::Tracker::remove_front`: the law of a queue without its first entries.
-- Assumes nothing.
use Rattle.std.proofs.Common.{◌≡◌, length, arith, rules}
use Rattle.tracker.proofs.Slides.{cut_view, cut_roomy}
use Rattle.tracker.proofs.Tracker.remove_front.Goals as goal

pub returns : goal.returns
returns c =
    let t = c.args.self.now in
    let ll : length t.lengths ≡ 16 = search rules in (
      cut_roomy t c.requires.0 ll c.args.shard c.args.gone c.requires.1.0 c.requires.1.1 _ _ c.copy_within.ensures.by_index c.copy_within-2.ensures.by_index _ (omega arith),
      cut_view t c.requires.0 ll c.args.shard c.args.gone c.requires.1.0 c.requires.1.1 _ _ c.copy_within.ensures.by_index c.copy_within-2.ensures.by_index _ (omega arith),
    )
