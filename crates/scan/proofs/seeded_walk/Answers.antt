-- `scan::seeded_walk` meets its contract: 3 and 4 are tested first, and what goes over the lines answers the walk.
-- Assumes nothing.
use Rattle.std.proofs.Common.{sym, ap, ◌∙◌}
use Rattle.std.proofs.lemmas.Result.{err_from_is_err_and}
use Rattle.entry.specs.Words.{mark_from}
use Rattle.scan.specs.Efforts.{Counted, counted_walk}
use Rattle.scan.proofs.Walks.{walk_of_accepted, walk_of_refused}
use Rattle.scan.proofs.Counting.{from_none, counted_answer}
use Rattle.scan.proofs.seeded_walk.Goals as goal

pub returns-in_err-walkable : goal.returns-in_err-walkable
returns-in_err-walkable c =
    let a = c.args in
    let p = err_from_is_err_and c.from_residual.result c.from_residual.ensures.1 in
    rw (p.1, p.2) (sym (walk_of_refused (mark_from a.seed) a.region.now a.bound a.offset c.in_err-walkable.field-0.0 c.in_err-walkable.ensures.refuses))

pub returns : goal.returns
returns c =
    let a = c.args in
    let m = mark_from a.seed in
    let s = a.region.now in
    ap (λ (r : Counted). r.answer) (c.walk_lines.ensures.answer ∙ from_none (counted_walk m s a.bound a.offset))
    ∙ counted_answer m s a.bound a.offset
    ∙ sym (walk_of_accepted m s a.bound a.offset c.in_ok-walkable.ensures.fits.0 c.in_ok-walkable.ensures.fits.1)
