-- `replay::start_file`: of the files passed, replay begins at the one kept.
-- Assumes nothing.
use Prim.Native.Nat.{◌+◌}
use mathlib.Core.Path.{◌≡◌, sym, subst, ◌∙◌}
use native.Mathlib.Omega.{arith}
use lib.ListN.{length}
use borrow.Author.Tests.{eqb-false}
use Rattle.replay.proofs.Choices.{Kept, kept_first, kept_on, kept_new, first_suits, second_suits}
use Rattle.replay.proofs.Starts.{start_found_lem}
use Rattle.replay.proofs.start_file.Goals as goal
use Rattle.replay.proofs.start_file.Goals.{then-starts_before, else-starts_before}

pub loop-i-init : goal.loop-i-init
loop-i-init c = kept_first _ _

pub loop-i-preserved : goal.loop-i-preserved
loop-i-preserved c =
    let kept = c.loop-i.invariant in
    let shown = c.starts_before.ensures in
    elim c.if-starts_before.branch [
      | then-starts_before w ↦ subst (Kept _ _ (c.loop-i.i + 1)) (sym w.place-is) (kept_new _ _ _ _ kept (first_suits _ _ _ _ shown w.if-starts_before.true))
      | else-starts_before w ↦ subst (Kept _ _ (c.loop-i.i + 1)) (sym w.place-is) (kept_on _ _ _ _ kept (second_suits _ _ _ _ shown w.if-starts_before.false))
    ]

pub returns : goal.returns
returns c =
    let some : length c.args.ordinals.now ≡ 0 → ⊥ = eqb-false _ 0 (sym c.is_empty.ensures ∙ c.if-is_empty.false) in
    start_found_lem _ _ c.if-ordinals-gt64.false (sym c.has_twins.ensures ∙ c.if-has_twins.false) c.loop-i.i _ (omega (arith, some)) c.loop-i.invariant
