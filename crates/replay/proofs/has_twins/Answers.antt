-- `replay::has_twins`: the first of what is left stands again, or the others decide.
-- Assumes nothing.
use Rattle.std.proofs.Common.{sym, ap, ◌∙◌, arith}
use lib.Seq.{take_all}
use Rattle.replay.specs.Start.{twins}
use Rattle.replay.proofs.Listings.{twins_few, twins_found_in, twins_passed_in, any_taken, any_later, drop_none}
use Rattle.replay.proofs.has_twins.Goals as goal

pub returns-then-ordinals-lt2 : goal.returns-then-ordinals-lt2
returns-then-ordinals-lt2 c = sym (twins_few _ c.if-ordinals-lt2.true)

pub returns-then-contains : goal.returns-then-contains
returns-then-contains c =
    let found = twins_found_in c.in-Some.first.now c.in-Some.others.now _ (sym c.contains.ensures.value ∙ c.if-contains.true) (λ p e. grind (arith, any_taken, any_later)) in
    sym (c.loop-first.invariant ∙ ap twins c.in-Some.ensures.cases.0 ∙ found)

pub loop-first-preserved : goal.loop-first-preserved
loop-first-preserved c =
    let passed = twins_passed_in c.in-Some.first.now c.in-Some.others.now _ (sym c.contains.ensures.value ∙ c.if-contains.false) (grind (arith, take_all, drop_none)) in
    c.loop-first.invariant ∙ ap twins c.in-Some.ensures.cases.0 ∙ passed
