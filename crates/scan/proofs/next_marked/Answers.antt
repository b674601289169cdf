-- `scan::next_marked` meets its contract: the loop keeps that all lines passed were tried and have wrong marks.
-- Assumes nothing.
use Rattle.std.proofs.Common.{arith, rules, ◌≡◌, true, false}
use Rattle.fields.specs.Numbers.{field}
use Rattle.entry.specs.Words.{mark_from, word_mark}
use Rattle.scan.specs.Efforts.{no_effort}
use Rattle.scan.proofs.Counting.{come_none, come_passed, is_marked, none_marked}
use Rattle.scan.proofs.next_marked.Goals as goal

pub loop-q-init : goal.loop-q-init
loop-q-init c =
    let a = c.args in
    come_none (mark_from a.seed) a.region.now a.bound a.p no_effort

pub loop-q-preserved : goal.loop-q-preserved
loop-q-preserved c =
    let a = c.args in
    let unmarked : word_mark (field 4 a.region.now c.loop-q.q) ≡ mark_from a.seed c.loop-q.q → ⊥ = λ e. let f : false ≡ true = search rules in cc in
    let next = come_passed (mark_from a.seed) a.region.now a.bound a.p no_effort c.loop-q.q 0 c.loop-q.invariant (omega arith) unmarked in
    search rules

pub returns-then-is_marked : goal.returns-then-is_marked
returns-then-is_marked c =
    let a = c.args in
    let marked : word_mark (field 4 a.region.now c.loop-q.q) ≡ mark_from a.seed c.loop-q.q = search rules in
    is_marked (mark_from a.seed) a.region.now a.bound a.p c.loop-q.q c.loop-q.invariant (omega arith) marked

pub returns : goal.returns
returns c =
    let a = c.args in
    none_marked (mark_from a.seed) a.region.now a.bound a.p c.loop-q.q c.loop-q.invariant (omega arith)
