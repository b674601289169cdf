-- `tracker::clear`: what it builds is the cleared view at once.
-- Assumes nothing.
use Rattle.std.proofs.Common.{refl, sym, ◌∙◌}
use Rattle.tracker.specs.State.{view, queue_of}
use Rattle.tracker.specs.Clearing.{cleared}
use Rattle.tracker.proofs.Outcomes.{sound_accepts}
use Rattle.tracker.proofs.clear.Goals as goal

pub returns : goal.returns
unfolding view queue_of cleared
returns c =
    sound_accepts _ _ _ _ (sym c.is_sound.ensures ∙ c.if-not-is_sound.false) refl
