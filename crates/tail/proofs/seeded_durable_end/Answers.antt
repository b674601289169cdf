-- `tail::seeded_durable_end` meets its contract: what 3 and 4 don't refuse is listed.
-- Assumes nothing.
use Rattle.std.proofs.Common.{arith, rules, sym, ◌∙◌, ◌≡◌, ◌<◌, ℕ, get_or}
use Rattle.entry.specs.Words.{mark_from}
use Rattle.answers.specs.Answers.{said_stopped}
use Rattle.tail.specs.Tail.{durable_of}
use Rattle.tail.specs.Efforts.{effort_of, Within}
use Rattle.tail.proofs.Ends.{durable_unrefused, durable_refused}
use Rattle.tail.proofs.Efforts.{effort_unrefused, effort_refused, effort_within}
use Rattle.tail.proofs.seeded_durable_end.Goals as goal

pub returns-in-Ok-clause-answer : goal.returns-in-Ok-clause-answer
returns-in-Ok-clause-answer c =
    let n = c.in-Ok.ensures in
    let told : said_stopped c.last_end-end.result ≡ durable_of (mark_from c.args.seed) c.args.region.now c.args.bound =
    rw (n.1, n.2, n.3, n.4) at c.last_end-end.ensures.answer
    ∙ sym (durable_unrefused (mark_from c.args.seed) c.args.region.now c.args.bound n.0) in
    search rules

pub returns-in-Ok-clause-effort : goal.returns-in-Ok-clause-effort
returns-in-Ok-clause-effort c =
    let n = c.in-Ok.ensures in
    let spent : c.last_end-end.new.listing.effort ≡ effort_of (mark_from c.args.seed) c.args.region.now c.args.bound =
    rw (n.1, n.2, n.3) at c.last_end-end.ensures.effort
    ∙ sym (effort_unrefused c.args.region.now c.args.bound (mark_from c.args.seed) n.0) in
    search rules

pub returns-in-Ok-clause-bounded : goal.returns-in-Ok-clause-bounded
returns-in-Ok-clause-bounded c =
    let a = c.args in
    let n = c.in-Ok.ensures in
    let spent : c.last_end-end.new.listing.effort ≡ effort_of (mark_from a.seed) a.region.now a.bound =
    rw (n.1, n.2, n.3) at c.last_end-end.ensures.effort
    ∙ sym (effort_unrefused a.region.now a.bound (mark_from a.seed) n.0) in
    let byte : (i : ℕ) → get_or a.region.now i 0 < 256 = λ i. let g = c.type_inv.region i in omega arith in
    let within : Within a.bound c.last_end-end.new.listing.effort = rw spent (effort_within a.region.now a.bound byte (mark_from a.seed)) in
    search rules

pub returns-in-Err-clause-answer : goal.returns-in-Err-clause-answer
returns-in-Err-clause-answer c =
    let told = durable_refused (mark_from c.args.seed) c.args.region.now c.args.bound c.in-Err.refusal c.in-Err.ensures in
    search rules

pub returns-in-Err-clause-effort : goal.returns-in-Err-clause-effort
returns-in-Err-clause-effort c =
    let spent = effort_refused c.args.region.now c.args.bound (mark_from c.args.seed) c.in-Err.refusal c.in-Err.ensures in
    search rules
