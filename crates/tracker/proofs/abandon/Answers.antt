-- `tracker::abandon`: it is complete without a delta.
-- Assumes nothing.
use Rattle.std.proofs.Common.{subst}
use Rattle.tracker.specs.State.{State, view}
use Rattle.tracker.specs.Finishing.{FinishMet}
use Rattle.tracker.proofs.Finishes.{complete_zero}
use Rattle.tracker.proofs.abandon.Goals as goal

pub returns : goal.returns
returns c =
    let a = c.args in
    subst (λ (m : State). FinishMet a.tracker a.shard a.number m c.complete.result) (complete_zero (view a.tracker) a.shard a.number) c.complete.ensures
