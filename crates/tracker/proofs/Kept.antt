-- "Calls on sound values give sound values": of each operation, for whatever meets its contract.
-- Assumes nothing.
use mathlib.Core.Path.{◌≡◌, refl, sym, ap, ◌∙◌}
use mathlib.Core.Bool.{Bool, true, false, cond, not, ◌&&◌, ◌||◌}
use mathlib.Core.List.{List, []}
use Prim.Native.Nat.{ℕ, zero, suc, ◌+◌, ◌≤◌, ◌<◌}
use native.Mathlib.Omega.{arith}
use native.Mathlib.Decide.{ℕ_discrete}
use lib.ListN.{length, get_or, set, length-append, length-drop, length-set, get_or-map}
use lib.Seq.{get_or-set_same, get_or-set_other}
use lib.IntN.{ℤ}
use lib.Dec.{ltb, leb, eqb}
use borrow.Author.Tests.{lt-ltb, le-leb, ltb-true, leb-true, eqb-true, eqb-false, ne_eqb}
use Rattle.answers.specs.Answers.{accepted, unless_refused, afterwards}
use Rattle.std.proofs.Math.Bool.{or-true}
use Rattle.std.proofs.lemmas.Bool.{and_parts}
use Rattle.tracker.specs.declared.Slot.{Slot}
use Rattle.tracker.specs.declared.Tracker.{Tracker}
use Rattle.tracker.specs.declared.After.{After}
use Rattle.tracker.specs.declared.Reserved.{Reserved}
use Rattle.tracker.specs.declared.Finish.{Finish}
use Rattle.tracker.specs.State.{Waiting, State, view, fresh_state, slot_of, queue, places, idle, with_next, with_slot, with_queue, joined, inserted}
use Rattle.tracker.specs.Sound.{every, ascends, sound, shard_sound}
use Rattle.tracker.specs.Sums.{count_front, past_front}
use Rattle.tracker.specs.Reserving.{reserve_refusal, reserved, ReserveMet}
use Rattle.tracker.specs.Recording.{record_refusal, recorded, RecordMet}
use Rattle.tracker.specs.Finishing.{finish_refusal, matches, made_idle, is_zero, abandoned, completed, FinishMet, CompleteMet, AbandonMet}
use Rattle.tracker.specs.Outcome.{sound_refusal}
use Rattle.tracker.specs.Draining.{drained, DrainMet}
use Rattle.tracker.specs.Clearing.{cleared, ClearMet}
use Rattle.tracker.proofs.Runs.{all_at, all_true, every_snoc, every_drop, every_weaker}
use Rattle.tracker.proofs.Ascents.{ascends_snoc, ascends_drop, ascends_behind, every_behind, length_behind}
use Rattle.tracker.proofs.Reserves.{reserve_free}
use Rattle.tracker.proofs.Records.{record_free}
use Rattle.tracker.proofs.Finishes.{finish_free}

-- soundness as facts
pub record Sound (m : State) : Type 0 where
  pub live : 1 ≤ m.next
  pub room : (k : ℕ) → k < 16 → length (queue m k) + places (slot_of m k).number ≤ 32
  pub slot_below : (k : ℕ) → k < 16 → (slot_of m k).number < m.next
  pub queue_below : (k : ℕ) → k < 16 → every (λ (w : Waiting). ltb w.number m.next) (queue m k) ≡ true
  pub ascending : (k : ℕ) → k < 16 → ascends (queue m k) ≡ true

-- the tests of a shard's length and slot
abbrev head_of : State → ℕ → Bool
head_of m k = leb (length (queue m k) + places (slot_of m k).number) 32 && (eqb (slot_of m k).number 0 || ltb (slot_of m k).number m.next)

pub sound_facts : (m : State) → sound m ≡ true → Sound m
unfolding sound shard_sound
sound_facts m e = record {
  live = leb-true 1 m.next ((and_parts _ _ e).0);
  room = λ k h. leb-true _ _ ((and_parts _ _ ((and_parts _ _ ((and_parts _ _ (at k h)).0)).0)).0);
  slot_below = λ k h. below (slot_of m k).number ((and_parts (leb (length (queue m k) + places (slot_of m k).number) 32) _ ((and_parts _ _ ((and_parts _ _ (at k h)).0)).0)).1);
  queue_below = λ k h. (and_parts (head_of m k) _ ((and_parts _ _ (at k h)).0)).1;
  ascending = λ k h. (and_parts (head_of m k && every (λ (w : Waiting). ltb w.number m.next) (queue m k)) _ (at k h)).1;
}
  where
    -- an idle slot's number is 0, and the next number is at least 1
    below : (number : ℕ) → eqb number 0 || ltb number m.next ≡ true → number < m.next
    below number h = by (eqb number 0) refl h
      where
        by : (b : Bool) → eqb number 0 ≡ b → b || ltb number m.next ≡ true → number < m.next
        by true z g = let live = leb-true 1 m.next ((and_parts _ _ e).0) in omega (arith, eqb-true number 0 z)
        by false z g = ltb-true _ _ g

    at : (k : ℕ) → k < 16 → shard_sound m k ≡ true
    at k h = all_at (shard_sound m) 16 ((and_parts (leb 1 m.next) _ e).1) k h

pub facts_sound : (m : State) → Sound m → sound m ≡ true
unfolding sound shard_sound
facts_sound m f = rw (le-leb 1 m.next f.live) (all_true (shard_sound m) 16 one)
  where
    one : (k : ℕ) → k < 16 → shard_sound m k ≡ true
    one k h =
        rw (le-leb (length (queue m k) + places (slot_of m k).number) 32 (f.room k h), lt-ltb (slot_of m k).number m.next (f.slot_below k h), or-true (eqb (slot_of m k).number 0), f.queue_below k h)
        (f.ascending k h)

below_more : (n n' : ℕ) → n ≤ n' → (l : List Waiting) → every (λ (w : Waiting). ltb w.number n) l ≡ true → every (λ (w : Waiting). ltb w.number n') l ≡ true
below_more n n' h =
    every_weaker (λ (w : Waiting). ltb w.number n) (λ (w : Waiting). ltb w.number n') (λ x e. lt-ltb x.number n' (let g : x.number < n = ltb-true _ _ e in omega arith))

-- no number that waits is above the next one
pub none_above : (m : State) (q : List Waiting) → every (λ (w : Waiting). ltb w.number m.next) q ≡ true → every (λ (w : Waiting). leb w.number m.next) q ≡ true
none_above m =
    every_weaker (λ (w : Waiting). ltb w.number m.next) (λ (w : Waiting). leb w.number m.next) (λ x e. le-leb x.number m.next (let g : x.number < m.next = ltb-true _ _ e in omega arith))

places_most : (number : ℕ) → places number ≤ 1
places_most number = by (eqb number 0)
  where
    by : (b : Bool) → cond b 0 1 ≤ 1
    by true = omega arith
    by false = omega arith

-- sixteen slots and sixteen queues
pub record Shaped (m : State) : Type 0 where
  pub slots_long : length m.slots ≡ 16
  pub queues_long : length m.queues ≡ 16

-- ---- one slot, one queue

module _ (m : State) (sh : Shaped m) (s : ℕ) (hs : s < 16) where
  slot_same : (x : Slot) → get_or (set m.slots s x) s idle ≡ x
  slot_same x = get_or-set_same m.slots s x idle (omega (arith, sh.slots_long))

  queue_same : (q : List Waiting) → get_or (set m.queues s q) s [] ≡ q
  queue_same q = get_or-set_same m.queues s q [] (omega (arith, sh.queues_long))

  -- another slot at s and a later next number
  slot_sound : (x : Slot) (n : ℕ) → Sound m → m.next ≤ n → x.number < n → length (queue m s) + places x.number ≤ 32 → Sound (with_next (with_slot m s x) n)
  slot_sound x n f hn hx hr = record {
    live = omega (arith, f.live);
    room = λ k h. by_room k h (ℕ_discrete k s);
    slot_below = λ k h. by_below k h (ℕ_discrete k s);
    queue_below = λ k h. below_more m.next n hn (queue m k) (f.queue_below k h);
    ascending = f.ascending;
  }
    where
      by_room : (k : ℕ) → k < 16 → Dec (k ≡ s) → length (queue m k) + places (get_or (set m.slots s x) k idle).number ≤ 32
      by_room k h (yes e) = rw (e, slot_same x) hr
      by_room k h (no ne) = rw (get_or-set_other m.slots s k x idle ne) (f.room k h)

      by_below : (k : ℕ) → k < 16 → Dec (k ≡ s) → (get_or (set m.slots s x) k idle).number < n
      by_below k h (yes e) = rw (e, slot_same x) hx
      by_below k h (no ne) = rw (get_or-set_other m.slots s k x idle ne) (let g = f.slot_below k h in omega arith)

  -- another queue at s and a later next number
  queue_sound : (q : List Waiting) (n : ℕ) → Sound m → m.next ≤ n → length q + places (slot_of m s).number ≤ 32 → every (λ (w : Waiting). ltb w.number n) q ≡ true → ascends q ≡ true
      → Sound (with_next (with_queue m s q) n)
  queue_sound q n f hn hr hb ha = record {
    live = omega (arith, f.live);
    room = λ k h. by_room k h (ℕ_discrete k s);
    slot_below = λ k h. let g = f.slot_below k h in omega arith;
    queue_below = λ k h. by_below k h (ℕ_discrete k s);
    ascending = λ k h. by_order k h (ℕ_discrete k s);
  }
    where
      by_room : (k : ℕ) → k < 16 → Dec (k ≡ s) → length (get_or (set m.queues s q) k []) + places (slot_of m k).number ≤ 32
      by_room k h (yes e) = rw (e, queue_same q) hr
      by_room k h (no ne) = rw (get_or-set_other m.queues s k q [] ne) (f.room k h)

      by_below : (k : ℕ) → k < 16 → Dec (k ≡ s) → every (λ (w : Waiting). ltb w.number n) (get_or (set m.queues s q) k []) ≡ true
      by_below k h (yes e) = rw (e, queue_same q) hb
      by_below k h (no ne) = rw (get_or-set_other m.queues s k q [] ne) (below_more m.next n hn (queue m k) (f.queue_below k h))

      by_order : (k : ℕ) → k < 16 → Dec (k ≡ s) → ascends (get_or (set m.queues s q) k []) ≡ true
      by_order k h (yes e) = rw (e, queue_same q) ha
      by_order k h (no ne) = rw (get_or-set_other m.queues s k q [] ne) (f.ascending k h)

  -- one entry more at the back, under the next number
  join_sound : (d : ℤ) → Sound m → length (queue m s) + places (slot_of m s).number < 32 → Sound (with_next (joined m s m.next d) (m.next + 1))
  unfolding joined
  join_sound d f hr =
      queue_sound _ (m.next + 1) f (omega arith) (rw length-append (omega arith))
      (every_snoc (λ (w : Waiting). ltb w.number (m.next + 1)) (queue m s) (record { number = m.next; delta = d })
      ∙ rw (below_more m.next (m.next + 1) (omega arith) (queue m s) (f.queue_below s hs), lt-ltb m.next (m.next + 1) (omega arith)))
      (ascends_snoc (queue m s) (record { number = m.next; delta = d }) (f.ascending s hs) (none_above m (queue m s) (f.queue_below s hs)))

  -- one entry more behind its equals
  insert_sound : (j : ℕ) (d : ℤ) → Sound m → j < m.next → length (queue m s) + places (slot_of m s).number < 32 → Sound (inserted m s j d)
  unfolding inserted
  insert_sound j d f hj hr =
      queue_sound _ m.next f (omega arith) (rw (length_behind (record { number = j; delta = d }) (queue m s)) (omega arith))
      (every_behind (λ (w : Waiting). ltb w.number m.next) (record { number = j; delta = d }) (queue m s) (lt-ltb j m.next hj) (f.queue_below s hs))
      (ascends_behind (record { number = j; delta = d }) (queue m s) (f.ascending s hs))

  -- the slot made idle
  idle_sound : Sound m → Sound (with_slot m s (made_idle (slot_of m s)))
  idle_sound f = slot_sound (made_idle (slot_of m s)) m.next f (omega arith) (omega (arith, f.live)) (omega (arith, f.room s hs))

-- ---- the states after a call

pub fresh_sound : sound fresh_state ≡ true
unfolding sound shard_sound
fresh_sound = refl

module _ (m : State) (sh : Shaped m) (f : Sound m) where
  reserved_sound : (shard ordinal used : ℕ) → shard < 16 → (length (queue m shard) ≡ 32 → ⊥) → Sound (reserved m shard ordinal used)
  unfolding reserved
  reserved_sound shard ordinal used hs room =
      slot_sound m sh shard hs (record { number = m.next; ordinal = ordinal; offset = used }) (m.next + 1) f (omega arith) (omega arith)
      (omega (arith, f.room shard hs, places_most m.next))

  recorded_sound : (shard : ℕ) (delta : ℤ) → shard < 16 → length (queue m shard) + places (slot_of m shard).number < 32 → Sound (recorded m shard delta)
  unfolding recorded
  recorded_sound shard delta hs room = join_sound m sh shard hs delta f room

  module _ (shard number : ℕ) (hs : shard < 16) where
    abandoned_sound : Sound (abandoned m shard number)
    unfolding abandoned
    abandoned_sound = by (matches (slot_of m shard) number)
      where
        by : (b : Bool) → Sound (cond b (with_slot m shard (made_idle (slot_of m shard))) m)
        by true = idle_sound m sh shard hs f
        by false = f

    -- a slot that matches was open, so its place in the queue is free
    queued_sound : (delta : ℤ) → matches (slot_of m shard) number ≡ true → Sound (inserted (abandoned m shard number) shard number delta)
    unfolding abandoned matches
    queued_sound delta e =
        rw e (insert_sound (with_slot m shard (made_idle (slot_of m shard))) shaped shard hs number delta (idle_sound m sh shard hs f)
        (omega (arith, f.slot_below shard hs, held)) room)
      where
        held : (slot_of m shard).number ≡ number
        held = eqb-true _ _ ((and_parts (not (eqb number 0)) (eqb (slot_of m shard).number number) e).1)

        opens : (b : Bool) → eqb number 0 ≡ b → not b && eqb (slot_of m shard).number number ≡ true → places (slot_of m shard).number ≡ 1
        opens true eb h = let z : ◌≡◌ {A = ℕ} 0 1 = cc in absurd (omega arith)
        opens false eb h = rw (ne_eqb (slot_of m shard).number 0 (λ z. eqb-false number 0 eb (sym held ∙ z)))

        shaped : Shaped (with_slot m shard (made_idle (slot_of m shard)))
        shaped = record { slots_long = length-set m.slots shard _ ∙ sh.slots_long; queues_long = sh.queues_long }

        room : length (queue m shard) + places (get_or (set m.slots shard (made_idle (slot_of m shard))) shard idle).number < 32
        room = rw (slot_same m sh shard hs (made_idle (slot_of m shard))) (omega (arith, f.room shard hs, opens (eqb number 0) refl e))

    completed_sound : (delta : ℤ) → Sound (completed m shard number delta)
    unfolding completed
    completed_sound delta = by (matches (slot_of m shard) number) refl (not (is_zero delta))
      where
        by : (b : Bool) → matches (slot_of m shard) number ≡ b → (z : Bool)
            → Sound (cond (b && z) (inserted (abandoned m shard number) shard number delta) (abandoned m shard number))
        by true e true = queued_sound delta e
        by true e false = abandoned_sound
        by false e z = abandoned_sound

  drained_sound : (limit : ℕ) → Sound (drained m limit)
  unfolding drained
  drained_sound limit = record {
    live = f.live;
    room = λ k h. rw (get_or-map (past_front limit) m.queues k []) (simp length-drop (let g = f.room k h in omega arith));
    slot_below = f.slot_below;
    queue_below = λ k h.
        rw (get_or-map (past_front limit) m.queues k [])
        (every_drop (λ (w : Waiting). ltb w.number m.next) (count_front limit (queue m k)) (queue m k) (f.queue_below k h));
    ascending = λ k h.
        rw (get_or-map (past_front limit) m.queues k []) (ascends_drop (count_front limit (queue m k)) (queue m k) (f.ascending k h));
  }

  cleared_sound : sound (cleared m) ≡ true
  unfolding cleared sound shard_sound
  cleared_sound = rw (le-leb 1 m.next f.live)

-- ---- what meets a contract on a sound value is sound. A value of the code has sixteen slots by its type

-- the new state where nothing refuses, and the old one otherwise
sound_after : {A : Type 0} (n : ℕ) (a : A) (old new : State) → sound old ≡ true → (n ≡ 0 → sound new ≡ true) → sound (afterwards (unless_refused n (accepted a)) old new) ≡ true
sound_after zero a old new so sn = sn refl
sound_after (suc n) a old new so sn = so

module _ (t : Tracker) (long : length t.slots ≡ 16) (so : sound (view t) ≡ true) where
  shaped : Shaped (view t)
  unfolding view
  shaped = record { slots_long = long; queues_long = refl }

  facts : Sound (view t)
  facts = sound_facts (view t) so

  pub reserve_keeps : (shard ordinal used capacity : ℕ) (sealed : Bool) (len : ℕ) (r : After Reserved) → ReserveMet t shard ordinal used capacity sealed len r
      → sound (view r.tracker) ≡ true
  reserve_keeps shard ordinal used capacity sealed len r met =
      ap sound met.state
      ∙ sound_after (reserve_refusal (view t) shard used capacity sealed len) _ (view t) (reserved (view t) shard ordinal used) so
      (λ e. let free = reserve_free (sound (view t)) shard (view t).next _ used capacity sealed len e in
      facts_sound _ (reserved_sound (view t) shaped facts shard ordinal used free.on_shard free.room))

  pub record_keeps : (shard : ℕ) (delta : ℤ) (r : After ℕ) → RecordMet t shard delta r → sound (view r.tracker) ≡ true
  record_keeps shard delta r met =
      ap sound met.state
      ∙ sound_after (record_refusal (view t) shard) _ (view t) (recorded (view t) shard delta) so
      (λ e. let free = record_free (sound (view t)) shard (view t).next _ _ e in
      facts_sound _ (recorded_sound (view t) shaped facts shard delta free.on_shard free.room))

  finish_keeps : (shard number : ℕ) (new : State) (r : After Finish) → (shard < 16 → Sound new) → FinishMet t shard number new r → sound (view r.tracker) ≡ true
  finish_keeps shard number new r sn met =
      ap sound met.met.state
      ∙ sound_after (finish_refusal (view t) shard) _ (view t) new so (λ e. facts_sound new (sn (finish_free (sound (view t)) shard e).on_shard))

  pub complete_keeps : (shard number : ℕ) (delta : ℤ) (r : After Finish) → CompleteMet t shard number delta r → sound (view r.tracker) ≡ true
  complete_keeps shard number delta r = finish_keeps shard number _ r (λ hs. completed_sound (view t) shaped facts shard number hs delta)

  pub abandon_keeps : (shard number : ℕ) (r : After Finish) → AbandonMet t shard number r → sound (view r.tracker) ≡ true
  abandon_keeps shard number r = finish_keeps shard number _ r (λ hs. abandoned_sound (view t) shaped facts shard number hs)

  pub drain_keeps : (limit : ℕ) (r : After ℤ) → DrainMet t limit r → sound (view r.tracker) ≡ true
  drain_keeps limit r met =
      ap sound met.state ∙ sound_after (sound_refusal (view t)) _ (view t) (drained (view t) limit) so (λ e. facts_sound _ (drained_sound (view t) shaped facts limit))

  pub clear_keeps : (r : After (Unit {0})) → ClearMet t r → sound (view r.tracker) ≡ true
  clear_keeps r met = ap sound met.state ∙ sound_after (sound_refusal (view t)) _ (view t) (cleared (view t)) so (λ e. cleared_sound (view t) shaped facts)
