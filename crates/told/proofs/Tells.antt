-- What a call by value promises is what it tells, and no second number, view or out parameter fits it.
-- Assumes nothing.
use Prim.Native.Nat.{ℕ}
use mathlib.Core.Path.{◌≡◌, sym, ap, ◌∙◌}
use Rattle.answers.specs.Answers.{Said, number_said}
use Rattle.tracker.specs.declared.Slot.{Slot}
use Rattle.tracker.specs.declared.Tracker.{Tracker}
use Rattle.tracker.specs.State.{State, view}
use Rattle.tracker.specs.Outcome.{Met}
use Rattle.told.specs.declared.Progress.{Progress}
use Rattle.told.specs.Told.{Out, CheckpointOut, FreshOut, SlotOut}

-- the one law behind every function of this crate: the number and the out parameter follow from what the call said
pub tells : {A B : Type 0} (f : Said A → B → B) {asked said : Said A} {before after : Tracker} {new : State} (old : B) {out : B} {r : ℕ}
    → Met A asked said before after new → r ≡ number_said said → out ≡ f said old → Out A B asked f before new old after out r
tells f old m n o =
    record { says = n ∙ ap number_said m.answer; state = m.state; untouched = m.untouched; tells = o ∙ ap (λ (x : _). f x old) m.answer }

-- no second number, view or out parameter fits a call that `Out` states
pub out_only : {A B : Type 0} {asked : Said A} {f : Said A → B → B} {before : Tracker} {new : State} {old : B} {after after' : Tracker} {out out' : B} {r r' : ℕ}
    → Out A B asked f before new old after out r → Out A B asked f before new old after' out' r' → (r ≡ r') × ((view after ≡ view after') × (out ≡ out'))
out_only a b = (a.says ∙ sym b.says, (a.state ∙ sym b.state, a.tells ∙ sym b.tells))

-- nor of the three calls that aren't stated by `Out`
pub checkpoint_out_only : {t : Tracker} {ordinal used : ℕ} {old out out' : Progress} {r r' : ℕ}
    → CheckpointOut t ordinal used old out r → CheckpointOut t ordinal used old out' r' → (r ≡ r') × (out ≡ out')
checkpoint_out_only a b = (a.says ∙ sym b.says, a.tells ∙ sym b.tells)

pub fresh_out_only : {after after' : Tracker} {r r' : ℕ} → FreshOut after r → FreshOut after' r' → (r ≡ r') × (view after ≡ view after')
fresh_out_only a b = (a.says ∙ sym b.says, a.state ∙ sym b.state)

pub slot_out_only : {slot : Slot} {number : ℕ} {after after' : Slot} {out out' r r' : ℕ}
    → SlotOut slot number after out r → SlotOut slot number after' out' r' → (r ≡ r') × ((after ≡ after') × (out ≡ out'))
slot_out_only a b = (a.says ∙ sym b.says, (a.left ∙ sym b.left, a.tells ∙ sym b.tells))
