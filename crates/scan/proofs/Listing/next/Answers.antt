-- `scan::Listing::next` meets its contract: the counted walk's answer is the walk's, and what it took with what is left behind it is what was left before.
-- Assumes nothing.
use Rattle.entry.specs.Words.{mark_from}
use Rattle.scan.proofs.Efforts.{list_fits}
use Rattle.scan.proofs.Steps.{tells, tells_known, tells_rest, goes_within}
use Rattle.scan.proofs.Listing.next.Goals as goal

pub counted_walk-step-requires : goal.counted_walk-step-requires
counted_walk-step-requires c =
    let l = c.args.self.now in
    let fits = list_fits (mark_from l.seed) l.window.region.now l.small l.bound l.inside l.effort _ l.rest in
    (l.small, l.inside, fits.0, fits.1)

pub invariant_of-self : goal.invariant_of-self
invariant_of-self c =
    let l = c.args.self.now in
    let r = c.counted_walk-step.result in
    let t = tells (mark_from l.seed) l.window.region.now l.bound l.from l.effort r c.goes_on-self.result l.rest c.counted_walk-step.ensures.answer c.goes_on-self.ensures in
    rw c.counted_walk-step.ensures.region (record {
      small = l.small;
      inside = l.inside;
      along = rw c.goes_on-self.ensures (goes_within (mark_from l.seed) l.window.region.now l.bound l.from l.inside r.walked t.walks);
      rest = tells_rest (mark_from l.seed) l.window.region.now l.bound t;
    })

pub returns-clause-tells : goal.returns-clause-tells
returns-clause-tells c =
    let l = c.args.self.now in
    let r = c.counted_walk-step.result in
    tells (mark_from l.seed) l.window.region.now l.bound l.from l.effort r c.goes_on-self.result l.rest c.counted_walk-step.ensures.answer c.goes_on-self.ensures

pub returns-clause-found : goal.returns-clause-found
returns-clause-found c =
    let l = c.args.self.now in
    let r = c.counted_walk-step.result in
    tells_known (mark_from l.seed) l.window.region.now l.bound r.walked
    (tells (mark_from l.seed) l.window.region.now l.bound l.from l.effort r c.goes_on-self.result l.rest c.counted_walk-step.ensures.answer c.goes_on-self.ensures)
