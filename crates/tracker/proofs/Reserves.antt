-- Reserve: what it knows once no test refused it, and what it leaves.
-- Assumes nothing.
use Prim.Native.Nat.{ℕ, ◌+◌, ◌-◌, ◌%◌, ◌^◌}
use mathlib.Core.Path.{◌≡◌, refl, ap, ◌∙◌}
use mathlib.Core.Bool.{Bool, not, ◌||◌}
use native.Mathlib.Omega.{arith}
use lib.ListN.{length, get_or, set}
use lib.Dec.{ltb, eqb}
use borrow.Author.Tests.{ltb-false, eqb-false, not-false}
use Rattle.std.proofs.lemmas.Bool.{or_parts}
use Rattle.answers.specs.Answers.{first_of}
use Rattle.answers.specs.Numbers.{number_of}
use Rattle.std.specs.Prelude.{Ok, Err}
use Rattle.answers.specs.declared.Refusal.{Refusal}
use Rattle.answers.proofs.Orders.{first_passed}
use Rattle.tracker.specs.declared.Tracker.{Tracker}
use Rattle.tracker.specs.State.{view}
use Rattle.tracker.specs.Sound.{sound}
use Rattle.tracker.specs.Inner.{ReserveFree}
use Rattle.tracker.specs.Reserving.{reserve_tests, reserve_refusal, reserved, ReserveMet}
use Rattle.tracker.proofs.Views.{waiting_is}
use Rattle.tracker.proofs.Outcomes.{verdict_refuses, verdict_accepts}

pub reserve_free : (isSound : Bool) (shard next waiting used capacity : ℕ) (sealed : Bool) (len : ℕ)
    → first_of (reserve_tests isSound shard next waiting used capacity sealed len) ≡ 0 → ReserveFree isSound shard next waiting used capacity len
unfolding reserve_tests
reserve_free isSound shard next waiting used capacity sealed len e =
    let t28 = first_passed (not isSound) 27 _ e in
    let t14 = first_passed (ltb 15 shard) 13 _ t28.1 in
    let t16 = first_passed (eqb next (2 ^ 64 - 1)) 15 _ t14.1 in
    let t15 = first_passed (eqb waiting 32) 14 _ t16.1 in
    let t5 = first_passed (not (eqb (used % 16) 0) || not (eqb (len % 16) 0) || eqb len 0) 4 _ t15.1 in
    let t3 = first_passed (ltb 268435456 capacity) 2 _ t5.1 in
    let t13 = first_passed (sealed || ltb capacity (used + len)) 12 _ t3.1 in
    record {
      soundness = not-false isSound t28.0;
      on_shard = let h = ltb-false 15 shard t14.0 in omega arith;
      numbers_left = eqb-false next (2 ^ 64 - 1) t16.0;
      room = eqb-false waiting 32 t15.0;
      small = ltb-false 268435456 capacity t3.0;
      fits = ltb-false capacity (used + len) (or_parts sealed _ t13.0).1;
    }

module _ (t : Tracker) (shard ordinal used capacity : ℕ) (sealed : Bool) (len : ℕ) (long : length t.lengths ≡ 16) {s : Bool} (es : s ≡ sound (view t))
    {w : ℕ} (ew : w ≡ get_or t.lengths shard 0) where
  number_is : {n : ℕ} → n ≡ first_of (reserve_tests s shard t.next w used capacity sealed len) → n ≡ reserve_refusal (view t) shard used capacity sealed len
  unfolding view
  number_is e =
      e ∙ ap (λ (b : Bool). first_of (reserve_tests b shard t.next w used capacity sealed len)) es
      ∙ ap (λ (k : ℕ). first_of (reserve_tests (sound (view t)) shard t.next k used capacity sealed len)) (ew ∙ waiting_is t shard long)

  pub reserve_refused : (r : Refusal) → number_of r ≡ first_of (reserve_tests s shard t.next w used capacity sealed len)
      → ReserveMet t shard ordinal used capacity sealed len (record { tracker = t; answer = Err r })
  reserve_refused r e = verdict_refuses t (reserved (view t) shard ordinal used) (reserve_refusal (view t) shard used capacity sealed len) _ r (number_is e)

  pub reserve_accepted : 0 ≡ first_of (reserve_tests s shard t.next w used capacity sealed len)
      → ReserveMet t shard ordinal used capacity sealed len
      (record {
        tracker = record {
          slots = set t.slots shard (record { number = t.next; ordinal = ordinal; offset = used });
          numbers = t.numbers;
          deltas = t.deltas;
          lengths = t.lengths;
          next = t.next + 1;
        };
        answer = Ok (record { number = t.next; place = used; used = used + len });
      })
  unfolding view reserved
  reserve_accepted e = verdict_accepts t (reserved (view t) shard ordinal used) _ _ (number_is e) _ refl
