-- What every call that hands a tracker back promises.
-- Assumes nothing.
use Rattle.std.specs.Prelude.{ℕ, ◌≡◌, not, List, [], ◌∷◌, Result, Ok, Err}
use Rattle.answers.specs.Numbers.{number_of}
use Rattle.answers.specs.Answers.{Said, accepted, refused, first_of, afterwards}
use Rattle.answers.specs.declared.Refusal.{Refusal}
use Rattle.tracker.specs.declared.Tracker.{Tracker}
use Rattle.tracker.specs.State.{State, view}
use Rattle.tracker.specs.Sound.{sound}

-- The call told what document 01 has it answer; what stands afterwards is the new state, or the old one on a refusal; and on a refusal it is the
-- very same value, past the queues' lengths too: "leaves lent bytes and state as found".
pub record Met (A : Type 0) (asked told : Said A) (before after : Tracker) (new : State) : Type 0 where
  pub answer : told ≡ asked
  pub state : view after ≡ afterwards asked (view before) new
  pub untouched : (n : ℕ) (values : List ℕ) → asked ≡ refused n values → after ≡ before

-- what the code answers, its value in the paper's words
abbrev pub said_as : {A B : Type 0} → (A → B) → Result A Refusal → Said B
said_as f (Ok a) = accepted (f a)
said_as f (Err r) = refused (number_of r) []

-- "Every call on a tracker value gives 28 first", and checkpoint, drain and clear give nothing else
abbrev pub sound_refusal : State → ℕ
sound_refusal m = first_of ((not (sound m), 28) ∷ [])
