-- Record: what it knows once no test refused it, and what it leaves.
-- Assumes nothing.
use Prim.Native.Nat.{ℕ, ◌+◌, ◌-◌, ◌^◌}
use mathlib.Core.Path.{◌≡◌, refl, ap, ◌∙◌}
use mathlib.Core.Bool.{Bool, not}
use native.Mathlib.Omega.{arith}
use lib.ListN.{length, get_or}
use lib.Dec.{ltb, leb, eqb}
use lib.IntN.{ℤ}
use borrow.Author.Tests.{ltb-false, leb-false, eqb-false, not-false}
use Rattle.answers.specs.Answers.{first_of}
use Rattle.answers.specs.Numbers.{number_of}
use Rattle.std.specs.Prelude.{Ok, Err}
use Rattle.answers.specs.declared.Refusal.{Refusal}
use Rattle.answers.proofs.Orders.{first_passed}
use Rattle.tracker.specs.declared.Tracker.{Tracker}
use Rattle.tracker.specs.State.{State, view, idle, places, with_next, joined, queue}
use Rattle.tracker.specs.Sound.{sound}
use Rattle.tracker.specs.Inner.{RecordFree}
use Rattle.tracker.specs.Recording.{record_tests, record_refusal, recorded, RecordMet}
use Rattle.tracker.proofs.Views.{waiting_is}
use Rattle.tracker.proofs.Outcomes.{verdict_refuses, verdict_accepts}

pub record_free : (isSound : Bool) (shard next waiting number : ℕ) → first_of (record_tests isSound shard next waiting number) ≡ 0 → RecordFree isSound shard next waiting number
unfolding record_tests
record_free isSound shard next waiting number e =
    let t28 = first_passed (not isSound) 27 _ e in
    let t14 = first_passed (ltb 15 shard) 13 _ t28.1 in
    let t16 = first_passed (eqb next (2 ^ 64 - 1)) 15 _ t14.1 in
    let t15 = first_passed (leb 32 (waiting + places number)) 14 _ t16.1 in
    record {
      soundness = not-false isSound t28.0;
      on_shard = let h = ltb-false 15 shard t14.0 in omega arith;
      numbers_left = eqb-false next (2 ^ 64 - 1) t16.0;
      room = leb-false 32 (waiting + places number) t15.0;
    }

module _ (t : Tracker) (shard : ℕ) (delta : ℤ) (long : length t.lengths ≡ 16) {s : Bool} (es : s ≡ sound (view t)) {w : ℕ} (ew : w ≡ get_or t.lengths shard 0)
    {n : ℕ} (en : n ≡ (get_or t.slots shard idle).number) where
  number_is : {k : ℕ} → k ≡ first_of (record_tests s shard t.next w n) → k ≡ record_refusal (view t) shard
  unfolding view
  number_is e =
      e ∙ ap (λ (b : Bool). first_of (record_tests b shard t.next w n)) es
      ∙ ap (λ (k : ℕ). first_of (record_tests (sound (view t)) shard t.next k n)) (ew ∙ waiting_is t shard long)
      ∙ ap (λ (k : ℕ). first_of (record_tests (sound (view t)) shard t.next (length (queue (view t) shard)) k)) en

  pub record_refused : (r : Refusal) → number_of r ≡ first_of (record_tests s shard t.next w n) → RecordMet t shard delta (record { tracker = t; answer = Err r })
  record_refused r e = verdict_refuses t (recorded (view t) shard delta) (record_refusal (view t) shard) _ r (number_is e)

  next_of : (p : Tracker) (k : ℕ) → view (record { slots = p.slots; numbers = p.numbers; deltas = p.deltas; lengths = p.lengths; next = k }) ≡ with_next (view p) k
  unfolding view
  next_of p k = refl

  -- the value that has one delta more, and the next number one higher
  pub record_accepted : 0 ≡ first_of (record_tests s shard t.next w n) → (p : Tracker) → view p ≡ joined (view t) shard t.next delta
      → RecordMet t shard delta (record {
        tracker = record { slots = p.slots; numbers = p.numbers; deltas = p.deltas; lengths = p.lengths; next = t.next + 1 };
        answer = Ok t.next;
      })
  unfolding recorded view
  record_accepted e p h =
      verdict_accepts t (recorded (view t) shard delta) _ _ (number_is e) _ (next_of p (t.next + 1) ∙ ap (λ (m : State). with_next m (t.next + 1)) h)
