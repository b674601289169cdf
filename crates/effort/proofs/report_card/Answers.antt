-- `effort::report_card` is safe: the used bound lies within the data region, and so within the most that a card has.
-- Assumes nothing.
use Rattle.std.proofs.Common.{sym, ap, ◌∙◌, arith}
use Rattle.answers.specs.Answers.{said}
use Rattle.tail.proofs.Zeros.{used_within}
use Rattle.effort.proofs.report_card.Goals as goal

pub report_effort-requires : goal.report_effort-requires
report_effort-requires g c =
    let within = used_within _ (sym c.used_bound.ensures ∙ ap said c.in_ok-bound.was) in
    omega (arith, c.in_ok-file.ensures.1)
