-- `lister::list_card` lists a region that is far from the largest, up to a bound within it, of a file whose header was accepted.
-- Assumes nothing.
use Rattle.std.proofs.Common.{sym, ap, ◌∙◌, arith}
use Rattle.answers.specs.Answers.{said}
use Rattle.tail.proofs.Zeros.{used_within}
use Rattle.lister.proofs.list_card.Goals as goal

pub list_entries-requires : goal.list_entries-requires
list_entries-requires g c =
    let told = c.in_ok-file.ensures in
    (omega (arith, told.1), used_within _ (sym c.used_bound.ensures ∙ ap said c.in_ok-bound.was), told.0)
