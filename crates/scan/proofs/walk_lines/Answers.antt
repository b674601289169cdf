-- `scan::walk_lines` meets its contract: the loop keeps that what was spent so far, and what is left to walk, are the whole walk.
-- Assumes nothing.
use Rattle.std.proofs.Common.{arith, refl, sym, ap, ◌∙◌, ◌≡◌, ◌+◌, ◌-◌, ◌/◌, ◌<◌, ◌≤◌, ℕ, get_or}
use Rattle.answers.specs.Answers.{accepted}
use Rattle.fields.proofs.Lines.{aligned_lt}
use Rattle.entry.specs.Words.{mark_from}
use Rattle.entry.specs.Layout.{entry_at}
use Rattle.entry.proofs.Standing.{entry_offset, entry_sum, entry_length, entry_long, entry_longest}
use Rattle.scan.specs.Walk.{ended}
use Rattle.scan.specs.Efforts.{behind, summed}
use Rattle.scan.proofs.Counting.{taking, behind_at_once, counted_none, come_none, come_unknown, come_found, come_on, come_over, come_whole}
use Rattle.scan.proofs.Efforts.{summed_most, counted_fits}
use Rattle.scan.proofs.walk_lines.Goals as goal

pub returns-then-bound-offset-clause-answer : goal.returns-then-bound-offset-clause-answer
returns-then-bound-offset-clause-answer g c =
    let a = c.args in
    sym (ap (behind a.spent) (counted_none (mark_from a.seed) a.region.now a.bound a.offset c.if-bound-offset.true) ∙ behind_at_once a.spent (accepted ended))

pub lines-init : goal.lines-init
lines-init g c =
    let a = c.args in
    (omega (arith, c.align_up-start.ensures, aligned_lt a.offset), come_none (mark_from a.seed) a.region.now a.bound c.align_up-start.result a.spent, refl)

pub returns-in-Err-clause-answer : goal.returns-in-Err-clause-answer
returns-in-Err-clause-answer g c =
    let a = c.args in
    let k = c.in-Err.ensures in
    rw k.1
    (come_unknown (mark_from a.seed) a.region.now a.bound c.align_up-start.result a.spent c.lines.p c.lines.bytes c.in-Some.q c.lines.invariant.1 c.in-Some.ensures k.0
    ∙ come_whole (mark_from a.seed) a.region.now a.bound a.offset a.spent c.align_up-start.ensures)

pub is_intact-intact-requires : goal.is_intact-intact-requires
is_intact-intact-requires g c =
    let s = c.args.region.now in
    let q = c.in-Some.q in
    let byte : (i : ℕ) → get_or s i 0 < 256 = λ i. let g = c.type_inv.region i in omega arith in
    rw c.in-Ok.ensures.1 (
      omega (arith, entry_offset s q, entry_sum s q, entry_long s q),
      entry_sum s q,
      omega (arith, entry_sum s q, entry_length s q, entry_longest s q byte),
    )

pub summed-bytes-requires : goal.summed-bytes-requires
summed-bytes-requires g c = rw c.in-Ok.ensures.1 (entry_length c.args.region.now c.in-Some.q)

pub overflow_add-bytes : goal.overflow_add-bytes
overflow_add-bytes g c =
    let a = c.args in
    let s = a.region.now in
    let start = c.align_up-start.result in
    let l = c.lines in
    let fits : (a.spent.lines + (l.p - start) / 16 ≤ a.spent.lines + 16777216) × (l.bytes ≤ a.spent.bytes + 4503599627370496) =
    counted_fits (mark_from a.seed) s (omega arith) a.bound (omega arith) l.p start (taking (a.spent.lines + (l.p - start) / 16) l.bytes) a.spent l.invariant.1.same in
    let added : c.summed-bytes.result ≡ summed s (entry_at s c.in-Some.q) = c.summed-bytes.ensures ∙ ap (summed s) c.in-Ok.ensures.1 in
    let pre = c.requires in
    record { fits = omega (arith, pre.0, pre.3, fits.1, added, summed_most s (entry_at s c.in-Some.q) (entry_length s c.in-Some.q)) }

pub returns-else-not-intact-clause-answer : goal.returns-else-not-intact-clause-answer
returns-else-not-intact-clause-answer g c =
    let a = c.args in
    let k = c.in-Ok.ensures in
    let pre = c.requires in
    rw (c.summed-bytes.ensures, k.1)
    (come_found (mark_from a.seed) a.region.now a.bound c.align_up-start.result a.spent c.lines.p c.lines.bytes c.in-Some.q c.lines.invariant.1 c.in-Some.ensures k.0 (rw (c.lines.invariant.2, pre.4, k.1) at c.if-not-intact.ensures.answer)
    ∙ come_whole (mark_from a.seed) a.region.now a.bound a.offset a.spent c.align_up-start.ensures)

pub lines-preserved : goal.lines-preserved
lines-preserved g c =
    let a = c.args in
    let k = c.in-Ok.ensures in
    let pre = c.requires in
    let m = c.in-Some.ensures in (
      omega (arith, m.inside),
      rw (c.summed-bytes.ensures, k.1)
          (come_on (mark_from a.seed) a.region.now a.bound c.align_up-start.result a.spent c.lines.p c.lines.bytes c.in-Some.q c.lines.invariant.1 m k.0 (rw (c.lines.invariant.2, pre.4, k.1) at c.if-not-intact.ensures.answer)),
      c.is_intact-intact.ensures.same ∙ c.lines.invariant.2,
    )

pub returns-in_default-clause-answer : goal.returns-in_default-clause-answer
returns-in_default-clause-answer g c =
    let a = c.args in
    rw (c.saturating_sub.ensures, c.lines_end.ensures)
    (come_over (mark_from a.seed) a.region.now a.bound c.align_up-start.result a.spent c.lines.p c.lines.bytes c.lines.invariant.1 c.in_default.ensures
    ∙ come_whole (mark_from a.seed) a.region.now a.bound a.offset a.spent c.align_up-start.ensures)
