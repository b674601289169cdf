-- `counts::seeded_count_entries` meets its contract: the used bound is refused with 3, or the entries up to it are counted.
-- Assumes nothing.
use Rattle.std.proofs.Common.{rules, sym, ap, ◌∙◌, ◌≡◌, ℕ}
use Rattle.answers.specs.Answers.{said_stopped}
use Rattle.std.proofs.lemmas.Result.{err_from_is_err_and}
use Rattle.entry.specs.Words.{mark_from}
use Rattle.scan.specs.Listing.{list}
use Rattle.tail.proofs.Zeros.{used_told}
use Rattle.counts.specs.Counts.{counts_listed, counts_of}
use Rattle.counts.proofs.Outs.{counts_refused, counts_accepted, never_refused}
use Rattle.counts.proofs.seeded_count_entries.Goals as goal

pub returns-in_err-bound : goal.returns-in_err-bound
returns-in_err-bound c =
    let p = err_from_is_err_and c.from_residual.result c.from_residual.ensures.1 in
    rw (p.1, p.2) (sym (counts_refused _ _ (sym c.in_err-bound.ensures)))

-- the used bound is one that neither 3 nor 4 refuses
pub returns-in_err-listing : goal.returns-in_err-listing
returns-in_err-listing c =
    absurd (never_refused c.args.region.now c.in_ok-bound.bound c.in_err-listing.field-0.0 (sym c.in_ok-bound.ensures) c.in_err-listing.ensures)

pub returns : goal.returns
returns c =
    let a = c.args in
    let told = used_told a.region.now (sym c.in_ok-bound.ensures) in
    let n = c.in_ok-listing.ensures in
    let counted : said_stopped c.count_listed.result ≡ counts_of (mark_from a.seed) a.region.now =
    rw (n.1, n.2, n.3) at c.count_listed.ensures
    ∙ ap (λ (bound : ℕ). counts_listed (list (mark_from a.seed) a.region.now bound 0)) (sym told.1)
    ∙ sym (counts_accepted (mark_from a.seed) a.region.now told.0) in
    search rules
