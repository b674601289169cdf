-- `tail::last_end` meets its contract: the loop goes along the listing, and keeps that what is left to list decides the answer.
-- Assumes nothing.
use Rattle.std.proofs.Common.{arith, rules, ap, ◌∙◌, ◌≡◌, ℕ, Ok, Err, Some, None}
use Rattle.answers.specs.Answers.{accepted, said_stopped}
use Rattle.answers.specs.declared.Stopped.{Stopped}
use Rattle.fields.proofs.Lines.{aligned_le}
use Rattle.entry.specs.Words.{mark_from}
use Rattle.scan.specs.Listing.{list}
use Rattle.scan.proofs.Steps.{tells_found, tells_goes, tells_list}
use Rattle.tail.specs.Tail.{durable}
use Rattle.tail.proofs.Ends.{stopped_durable}
use Rattle.tail.proofs.last_end.Goals as goal

pub returns-in_err-e-clause-answer : goal.returns-in_err-e-clause-answer
returns-in_err-e-clause-answer c =
    let a = c.args.listing.now in
    let l = c.loop-e.listing in
    let told : (stopped : Stopped) → c.next.result ≡ Err stopped → said_stopped {A = ℕ} (Err stopped) ≡ durable 0 (list (mark_from a.seed) a.window.region.now a.bound a.from) =
    λ stopped q.
    stopped_durable stopped c.loop-e.end _
    ∙ ap (durable c.loop-e.end) (tells_list (mark_from l.seed) l.window.region.now l.bound c.next.ensures.tells _ q)
    ∙ c.loop-e.invariant.3 in
    search rules

pub loop-e-smaller : goal.loop-e-smaller
loop-e-smaller c =
    let l = c.loop-e.listing in
    let q : c.next.result ≡ Ok (Some c.in-Some.e) = search rules in
    let z = tells_found (mark_from l.seed) l.window.region.now l.bound c.next.ensures.tells q in
    let g = tells_goes (mark_from l.seed) l.window.region.now l.bound c.next.ensures.tells q in
    let n = c.next.ensures.same in
    omega (arith, aligned_le l.from, z.low, z.high, z.long, g, n.2)

pub loop-e-preserved : goal.loop-e-preserved
unfolding durable
loop-e-preserved c =
    let l = c.loop-e.listing in
    let i = c.loop-e.invariant in
    let t = c.next.ensures.tells in
    let n = c.next.ensures.same in
    let q : c.next.result ≡ Ok (Some c.in-Some.e) = search rules in
    let z = tells_found (mark_from l.seed) l.window.region.now l.bound t q in
    let g = tells_goes (mark_from l.seed) l.window.region.now l.bound t q in (
      n.0 ∙ i.0,
      n.1 ∙ i.1,
      n.2 ∙ i.2,
      rw (n.0, n.1, n.2, g) (ap (durable c.loop-e.end) (tells_list (mark_from l.seed) l.window.region.now l.bound t _ q) ∙ i.3),
      rw n.0 z.fits,
    )

pub returns-clause-answer : goal.returns-clause-answer
unfolding durable
returns-clause-answer c =
    let l = c.loop-e.listing in
    let q : c.next.result ≡ Ok None = search rules in
    ap accepted c.align_up.ensures
    ∙ ap (durable c.loop-e.end) (tells_list (mark_from l.seed) l.window.region.now l.bound c.next.ensures.tells _ q)
    ∙ c.loop-e.invariant.3
