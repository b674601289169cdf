-- `tracker::checkpoint`: each part is what its helper answers.
-- Assumes nothing.
use Rattle.std.proofs.Common.{◌≡◌, length, sym, ◌∙◌, arith, rules}
use Rattle.tracker.proofs.Ints.{reads64}
use Rattle.tracker.proofs.Sounds.{sound_roomy}
use Rattle.tracker.proofs.Totals.{reaches_by_each, or_yes, or_no}
use Rattle.tracker.proofs.checkpoint.Goals as goal

pub sum_below-sum-requires : goal.sum_below-sum-requires
sum_below-sum-requires c = sound_roomy _ (sym c.is_sound.ensures ∙ c.if-not-is_sound.false)

pub returns-then-least : goal.returns-then-least
returns-then-least c =
    let long : length c.args.tracker.lengths ≡ 16 = search rules in
    rw (reads64 c.sum_below-sum.result (omega (arith, c.sum_below-sum.ensures.small)))
    (reaches_by_each c.args.tracker c.args.ordinal c.args.used c.least_open-least.ensures c.sum_below-sum.ensures.sum_is long c.all_empty-empty.ensures (or_yes _ _ c.if-least.true) (sym c.is_sound.ensures ∙ c.if-not-is_sound.false))

pub returns-else-least : goal.returns-else-least
returns-else-least c =
    let long : length c.args.tracker.lengths ≡ 16 = search rules in
    rw (reads64 c.sum_below-sum.result (omega (arith, c.sum_below-sum.ensures.small)))
    (reaches_by_each c.args.tracker c.args.ordinal c.args.used c.least_open-least.ensures c.sum_below-sum.ensures.sum_is long c.all_empty-empty.ensures (or_no _ _ c.if-least.false) (sym c.is_sound.ensures ∙ c.if-not-is_sound.false))
