-- How a call comes to meet what document 01 asks of it: by its verdict, or by the test of soundness alone.
-- Assumes nothing.
use Prim.Native.Nat.{ℕ}
use mathlib.Core.Path.{◌≡◌, refl, sym, ap, ◌∙◌}
use mathlib.Core.Bool.{true, false}
use mathlib.Core.List.{[]}
use native.Mathlib.Omega.{arith}
use Rattle.std.specs.Prelude.{Result, Ok}
use Rattle.answers.specs.Numbers.{number_of, number_of_verdict}
use Rattle.answers.specs.Answers.{Said, accepted, refused, unless_refused}
use Rattle.answers.specs.declared.Refusal.{Refusal}
use Rattle.answers.proofs.Cases.{refusal_refuses}
use Rattle.tracker.specs.declared.Tracker.{Tracker}
use Rattle.tracker.specs.State.{State, view}
use Rattle.tracker.specs.Sound.{sound}
use Rattle.tracker.specs.Outcome.{Met, sound_refusal}

-- an accepting verdict: no test held
pub verdict_none : (n : ℕ) (v : Result (Unit {0}) Refusal) → number_of_verdict v ≡ n → v ≡ Ok tt → n ≡ 0
verdict_none n v e ea = sym e ∙ ap number_of_verdict ea

module _ {A : Type 0} (t : Tracker) (new : State) where
  -- a refusal leaves the very same value
  pub refuses : (asked : Said A) (n : ℕ) → asked ≡ refused n [] → Met A asked (refused n []) t t new
  refuses asked n e = record { answer = sym e; state = rw e; untouched = λ k values f. refl }

  pub accepts : (asked : Said A) (a : A) (u : Tracker) → asked ≡ accepted a → view u ≡ new → Met A asked (accepted a) t u new
  accepts asked a u e v = record {
    answer = sym e;
    state = rw e v;
    untouched = λ k values f. let z : ◌≡◌ {A = ℕ} 0 1 = cc in absurd (omega arith);
  }

  -- by a verdict whose number is that of the table
  pub verdict_refuses : (n : ℕ) (answer : Said A) (r : Refusal) → number_of r ≡ n → Met A (unless_refused n answer) (refused (number_of r) []) t t new
  verdict_refuses n answer r e =
      refuses (unless_refused n answer) (number_of r) (ap (λ (k : ℕ). unless_refused k answer) (sym e) ∙ refusal_refuses r answer)

  pub verdict_accepts : (n : ℕ) (a : A) → 0 ≡ n → (u : Tracker) → view u ≡ new → Met A (unless_refused n (accepted a)) (accepted a) t u new
  verdict_accepts n a e u h = accepts (unless_refused n (accepted a)) a u (ap (λ (k : ℕ). unless_refused k (accepted a)) (sym e)) h

  -- by the test of soundness
  pub unsound_refuses : (answer : Said A) → sound (view t) ≡ false → Met A (unless_refused (sound_refusal (view t)) answer) (refused 28 []) t t new
  unsound_refuses answer e = refuses (unless_refused (sound_refusal (view t)) answer) 28 (rw e)

  pub sound_accepts : (a : A) (u : Tracker) → sound (view t) ≡ true → view u ≡ new → Met A (unless_refused (sound_refusal (view t)) (accepted a)) (accepted a) t u new
  sound_accepts a u e v = accepts (unless_refused (sound_refusal (view t)) (accepted a)) a u (rw e) v
