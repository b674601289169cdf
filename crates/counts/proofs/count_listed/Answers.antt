-- `counts::count_listed` meets its contract: the loop keeps that the entries which are counted and those which are left are all of them, and that the
-- listing from here on ends as the whole one does. No cell can count more entries than a region has lines.
-- Assumes nothing.
use Rattle.std.proofs.Common.{arith, refl, sym, ap, ◌∙◌, ◌≤◌, Ok}
use Rattle.std.proofs.lemmas.Result.{err_from_is_err_and}
use Rattle.answers.specs.Answers.{accepted}
use Rattle.fields.specs.Numbers.{aligned}
use Rattle.entry.specs.Words.{mark_from}
use Rattle.scan.specs.Listing.{Listed, list}
use Rattle.scan.proofs.Listings.{list_few}
use Rattle.scan.proofs.Steps.{tells_goes, tells_list}
use Rattle.counts.specs.Totals.{cell}
use Rattle.counts.proofs.Tallies.{tallied_none, tallied_more, tallied_all, tallied_few}
use Rattle.counts.proofs.Outs.{told_stopped, told_all}
use Rattle.counts.proofs.count_listed.Goals as goal

pub loop-e-init : goal.loop-e-init
loop-e-init c = rw c.requires (refl, refl, refl, tallied_none _, refl)

pub returns-in_err-e : goal.returns-in_err-e
returns-in_err-e c =
    let l = c.loop-e.listing in
    let p = err_from_is_err_and c.from_residual.result c.from_residual.ensures.1 in
    rw (p.1, p.2)
    (told_stopped _ c.in_err-e.field-0.0 _
    (sym c.loop-e.invariant.4 ∙ ap (λ (x : Listed). x.stop) (sym (tells_list (mark_from l.seed) l.window.region.now l.bound c.in_err-e.ensures.tells _ refl))))

pub overflow_add-grid : goal.overflow_add-grid
unfolding aligned
overflow_add-grid c =
    let l = c.args.listing.now in
    let e = c.in-Some.e in
    let found = rw c.in-Some.is at c.in_ok-e.ensures.found in
    let few : cell c.loop-e.grid e.kind e.ns ≤ 16777216 =
    let most = list_few (mark_from l.seed) l.window.region.now l.bound 0 in
    let cells = tallied_few c.loop-e.grid _ _ e.kind e.ns found.0 found.1 c.loop-e.invariant.3 in
    omega (arith, l.small, l.inside, most, cells) in
    record { fits = omega arith }

pub loop-e-preserved : goal.loop-e-preserved
loop-e-preserved c =
    let l = c.loop-e.listing in
    let i = c.loop-e.invariant in
    let t = c.next.ensures.tells in
    let n = c.next.ensures.same in
    let q = c.in_ok-e.was ∙ ap Ok c.in-Some.is in
    let found = rw c.in-Some.is at c.in_ok-e.ensures.found in
    let g = tells_goes (mark_from l.seed) l.window.region.now l.bound t q in
    let left = tells_list (mark_from l.seed) l.window.region.now l.bound t _ q in (
      n.0 ∙ i.0,
      n.1 ∙ i.1,
      n.2 ∙ i.2,
      rw (n.0, n.1, n.2, g) (tallied_more c.loop-e.grid _ c.in-Some.e _ found.0 found.1 (rw (← left) at i.3)),
      rw (n.0, n.1, n.2, g) (ap (λ (x : Listed). x.stop) left ∙ i.4),
    )

pub returns : goal.returns
returns c =
    let l = c.loop-e.listing in
    let i = c.loop-e.invariant in
    let q = c.in_ok-e.was ∙ ap Ok c.in_default.is in
    let left = tells_list (mark_from l.seed) l.window.region.now l.bound c.next.ensures.tells _ q in
    ap accepted (tallied_all c.loop-e.grid _ (rw (← left) at i.3))
    ∙ told_all (list (mark_from c.args.listing.now.seed) c.args.listing.now.window.region.now c.args.listing.now.bound 0) (sym (ap (λ (x : Listed). x.stop) left ∙ i.4))
