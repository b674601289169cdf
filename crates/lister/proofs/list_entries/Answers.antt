-- `lister::list_entries` meets its contract, which is that of `tail::durable_end`, and ends: what the walk answers is what the definition asks at the
-- offset that the turn began at.
-- Assumes nothing.
use Rattle.std.proofs.Common.{◌≡◌, ℕ, List, true, Option, Result, Ok, sym, ap, ◌∙◌, arith}
use Rattle.answers.specs.Answers.{accepted}
use Rattle.answers.specs.Versions.{is_version}
use Rattle.answers.specs.declared.Stopped.{Stopped}
use Rattle.answers.proofs.Versions.{right_version}
use Rattle.fields.proofs.Lines.{aligned_le}
use Rattle.entry.specs.Words.{mark_of}
use Rattle.entry.specs.declared.Entry.{Entry}
use Rattle.scan.specs.Walk.{said, walk_of, walk_in}
use Rattle.tail.specs.Tail.{durable}
use Rattle.tail.proofs.Ends.{stopped_durable}
use Rattle.tail.proofs.Turns.{turn_found, turn_rest}
use Rattle.tail.proofs.Zeros.{durable_accepted}
use Rattle.lister.proofs.list_entries.Goals as goal

-- the walk's answer, whose version is one of the two
asked : (version ordinal : ℕ) (s : List ℕ) (bound from : ℕ) (walked : Result (Option Entry) Stopped) → is_version version ≡ true → said walked ≡ walk_in version ordinal s bound from → said walked ≡ walk_of (mark_of version ordinal) s bound from
asked version ordinal s bound from walked known answer = answer ∙ right_version version _ known

pub loop-e-init : goal.loop-e-init
loop-e-init g c =
    (omega arith, sym (durable_accepted _ c.requires.0 (mark_of c.args.file.version c.args.file.ordinal) _ c.requires.1))

pub loop-e-smaller : goal.loop-e-smaller
loop-e-smaller g c =
    let a = asked _ _ _ _ _ _ c.requires.2 c.walk.ensures in
    let found = turn_found _ _ _ c.requires.0 c.requires.1 _ _ a (c.in-Ok-Some.is ∙ ap Ok c.in-Ok-Some.field-0-is) in
    omega (arith, aligned_le c.loop-e.from)

-- in each case what is left to list decides the answer
pub loop-e-preserved : goal.loop-e-preserved
unfolding durable
loop-e-preserved g c =
    let a = asked _ _ _ _ _ _ c.requires.2 c.walk.ensures in
    let q = c.in-Ok-Some.is ∙ ap Ok c.in-Ok-Some.field-0-is in
    let found = turn_found _ _ _ c.requires.0 c.requires.1 _ _ a q in
    (found.fits, turn_rest _ _ _ c.requires.0 c.requires.1 _ _ a _ q ∙ c.loop-e.invariant.1)

pub returns-in-Ok-None : goal.returns-in-Ok-None
unfolding durable
returns-in-Ok-None g c =
    let a = asked _ _ _ _ _ _ c.requires.2 c.walk.ensures in
    let q = c.in-Ok-None.is ∙ ap Ok c.in-Ok-None.field-0-is in
    ap accepted c.align_up.ensures ∙ turn_rest _ _ _ c.requires.0 c.requires.1 _ _ a _ q ∙ c.loop-e.invariant.1

pub returns-in-Err : goal.returns-in-Err
returns-in-Err g c =
    let a = asked _ _ _ _ _ _ c.requires.2 c.walk.ensures in
    stopped_durable c.in-Err.stopped c.loop-e.from _ ∙ turn_rest _ _ _ c.requires.0 c.requires.1 _ _ a _ c.in-Err.is ∙ c.loop-e.invariant.1
