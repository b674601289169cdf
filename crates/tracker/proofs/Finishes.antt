-- Complete and abandon: what they know once no test refused them, and what they leave.
-- Assumes nothing.
use Prim.Native.Nat.{ℕ}
use mathlib.Core.Path.{◌≡◌, refl, sym, ap, ◌∙◌}
use mathlib.Core.Bool.{Bool, true, false, cond, not, ◌&&◌}
use native.Mathlib.Omega.{arith}
use lib.ListN.{get_or, set}
use lib.Dec.{ltb}
use lib.IntN.{ℤ, pos, nat_abs}
use borrow.Author.Tests.{ltb-false, eq-eqb, ne_eqb, not-false}
use Rattle.answers.specs.Numbers.{number_of}
use Rattle.answers.specs.Answers.{accepted, first_of, pick_number}
use Rattle.std.specs.Prelude.{Ok, Err}
use Rattle.answers.specs.declared.Refusal.{Refusal}
use Rattle.answers.proofs.Cases.{number_not_zero}
use Rattle.answers.proofs.Orders.{first_passed}
use Rattle.tracker.specs.declared.Tracker.{Tracker}
use Rattle.tracker.specs.declared.Finish.TheVariants.{Done, Stale}
use Rattle.tracker.specs.State.{State, view, idle, places, slot_of, inserted}
use Rattle.tracker.specs.Sound.{sound}
use Rattle.tracker.specs.Finishing.{done, stale, finish_tests, finish_refusal, finish_of, matches, made_idle, abandoned, completed, CompleteMet}
use Rattle.tracker.specs.Inner.{FinishFree, HasRoom}
use Rattle.tracker.proofs.Sounds.{shard_room, sound_shard, sound_roomy}
use Rattle.tracker.proofs.Outcomes.{verdict_refuses, verdict_accepts}

pub finish_free : (isSound : Bool) (shard : ℕ) → first_of (finish_tests isSound shard) ≡ 0 → FinishFree isSound shard
unfolding finish_tests
finish_free isSound shard e =
    let t28 = first_passed (not isSound) 27 _ e in
    let t14 = first_passed (ltb 15 shard) 13 _ t28.1 in
    record { soundness = not-false isSound t28.0; on_shard = let h = ltb-false 15 shard t14.0 in omega arith }

-- the tests of complete and abandon lead those of another call, whose later ones leave their refusal as it is
pub led_refused : (isSound : Bool) (shard rest : ℕ) (r : Refusal) → number_of r ≡ first_of (finish_tests isSound shard)
    → number_of r ≡ pick_number (not isSound) 28 (pick_number (ltb 15 shard) 14 rest)
unfolding finish_tests
led_refused isSound shard rest r e = by (not isSound) (ltb 15 shard) e
  where
    by : (a b : Bool) → number_of r ≡ pick_number a 28 (pick_number b 14 0) → number_of r ≡ pick_number a 28 (pick_number b 14 rest)
    by true b h = h
    by false true h = h
    by false false h = absurd (number_not_zero r h)

-- without a delta, complete is abandon
pub complete_zero : (m : State) (shard number : ℕ) → completed m shard number (pos 0) ≡ abandoned m shard number
unfolding completed
complete_zero m shard number = by (matches (slot_of m shard) number)
  where
    by : (b : Bool) → cond (b && false) (inserted (abandoned m shard number) shard number (pos 0)) (abandoned m shard number) ≡ abandoned m shard number
    by true = refl
    by false = refl

module _ (t : Tracker) (shard number : ℕ) (delta : ℤ) {s : Bool} (es : s ≡ sound (view t)) where
  abbrev new : State
  new = completed (view t) shard number delta

  number_is : {n : ℕ} → n ≡ first_of (finish_tests s shard) → n ≡ finish_refusal (view t) shard
  number_is e = e ∙ ap (λ (b : Bool). first_of (finish_tests b shard)) es

  pub finish_refused : (r : Refusal) → number_of r ≡ first_of (finish_tests s shard) → CompleteMet t shard number delta (record { tracker = t; answer = Err r })
  finish_refused r e = record { met = verdict_refuses t new (finish_refusal (view t) shard) _ r (number_is e); stale_untouched = λ f. refl }

  module _ (e : 0 ≡ first_of (finish_tests s shard)) where
    no_change_view : matches (slot_of (view t) shard) number ≡ false → new ≡ view t
    unfolding completed abandoned
    no_change_view h = rw h

    no_change : matches (slot_of (view t) shard) number ≡ false → CompleteMet t shard number delta (record { tracker = t; answer = Ok Stale })
    no_change h = record { met = rw h (verdict_accepts t new _ stale (number_is e) t (sym (no_change_view h))); stale_untouched = λ f. refl }

    pub stale_zero : number ≡ 0 → CompleteMet t shard number delta (record { tracker = t; answer = Ok Stale })
    unfolding matches
    stale_zero h = no_change (rw (eq-eqb number 0 h))

    module _ (h2 : number ≡ 0 → ⊥) where
      pub stale_other : ((get_or t.slots shard idle).number ≡ number → ⊥) → CompleteMet t shard number delta (record { tracker = t; answer = Ok Stale })
      unfolding matches view
      stale_other h = no_change (rw (ne_eqb number 0 h2, ne_eqb (get_or t.slots shard idle).number number h))

      module _ (h3 : (get_or t.slots shard idle).number ≡ number) where
        abbrev off : Tracker
        off = record {
          slots = set t.slots shard (made_idle (get_or t.slots shard idle));
          numbers = t.numbers;
          deltas = t.deltas;
          lengths = t.lengths;
          next = t.next;
        }

        hit : matches (slot_of (view t) shard) number ≡ true
        unfolding matches view
        hit = rw (ne_eqb number 0 h2, eq-eqb (get_or t.slots shard idle).number number h3)

        off_view : view off ≡ abandoned (view t) shard number
        unfolding view abandoned
        off_view = rw hit

        change : (u : Tracker) → view u ≡ new → CompleteMet t shard number delta (record { tracker = u; answer = Ok Done })
        change u h = record {
          met = rw hit (verdict_accepts t new _ done (number_is e) u h);
          stale_untouched = λ f. let z : ◌≡◌ {A = ℕ} 0 1 = cc (asked) in absurd (omega arith);
        }
          where
            asked : finish_of (view t) shard number ≡ accepted done
            asked = rw (hit, sym (number_is e))

        pub done_zero : delta ≡ pos 0 → CompleteMet t shard number delta (record { tracker = off; answer = Ok Done })
        done_zero h = change off (off_view ∙ sym (ap (completed (view t) shard number) h ∙ complete_zero (view t) shard number))

        pub done_insert : (p : Tracker) → (nat_abs delta ≡ 0 → ⊥) → view p ≡ inserted (view off) shard number delta
            → CompleteMet t shard number delta (record { tracker = p; answer = Ok Done })
        unfolding completed
        done_insert p ne h = change p (h ∙ ap (λ (m : State). inserted m shard number delta) off_view ∙ sym (rw (hit, ne_eqb (nat_abs delta) 0 ne)))

        -- the open slot has kept a place in the queue
        pub done_room : HasRoom off shard
        done_room = record {
          roomy = record { room = (sound_roomy t (sym es ∙ free.soundness)).room };
          on_shard = free.on_shard;
          free = let h = shard_room t shard free.on_shard (sound_shard t (sym es ∙ free.soundness) shard free.on_shard) in omega (arith, opens);
        }
          where
            free : FinishFree s shard
            free = finish_free s shard (sym e)

            opens : places (get_or t.slots shard idle).number ≡ 1
            opens = rw (ne_eqb (get_or t.slots shard idle).number 0 (λ z. h2 (sym h3 ∙ z)))
