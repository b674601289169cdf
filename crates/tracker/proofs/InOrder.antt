-- Document 02, request 6: what the order of the queues is for, over whole values and contracts.
-- Assumes nothing.
use mathlib.Core.Path.{◌≡◌, refl, sym, ap, ◌∙◌, subst}
use mathlib.Core.Bool.{true, false}
use mathlib.Core.List.{List, [], ◌∷◌, map}
use Prim.Native.Nat.{ℕ, suc, ◌<◌}
use native.Mathlib.Omega.{arith}
use lib.ListN.{length, get_or}
use lib.Seq.{get_or-set_same}
use lib.IntN.{ℤ, ◌+ℤ◌}
use Rattle.answers.specs.Answers.{accepted}
use Rattle.tracker.specs.declared.Tracker.{Tracker}
use Rattle.tracker.specs.State.{Waiting, view, slot_of, queue, with_queue, joined, behind_equals, inserted}
use Rattle.tracker.specs.Sound.{ascends, sound}
use Rattle.tracker.specs.Least.{least_of}
use Rattle.tracker.specs.Sums.{past_front, sum_of}
use Rattle.tracker.specs.Order.{below, not_below, sum_deltas, sum_below, PutByNumber}
use Rattle.tracker.specs.Finishing.{matches, is_zero, abandoned, completed}
use Rattle.tracker.specs.Checkpoints.{reached_of, checkpoint_of}
use Rattle.tracker.specs.Draining.{drain_of, drained}
use Rattle.tracker.proofs.Views.{queues_long}
use Rattle.tracker.proofs.Ascents.{put_by_number, behind_all, front_sum, front_rest}
use Rattle.tracker.proofs.Kept.{Sound, sound_facts, none_above}

-- ---- queues that all ascend

abbrev Ascend : List (List Waiting) → Type 0
Ascend qs = (k : ℕ) → k < length qs → ascends (get_or qs k []) ≡ true

sums_every : (limit : ℕ) (qs : List (List Waiting)) → Ascend qs → sum_of limit qs ≡ sum_below limit qs
sums_every limit [] h = refl
sums_every limit (q ∷ qs) h =
    ap (λ (z : ℤ). z +ℤ sum_of limit qs) (front_sum limit q (h 0 (omega arith)))
    ∙ ap (λ (z : ℤ). sum_deltas (below limit q) +ℤ z) (sums_every limit qs (λ k p. h (suc k) (omega arith)))

leaves_rest : (limit : ℕ) (qs : List (List Waiting)) → Ascend qs → map (past_front limit) qs ≡ map (not_below limit) qs
leaves_rest limit [] h = refl
leaves_rest limit (q ∷ qs) h =
    ap (λ (l : List Waiting). l ∷ map (past_front limit) qs) (front_rest limit q (h 0 (omega arith)))
    ∙ ap (λ (l : List (List Waiting)). not_below limit q ∷ l) (leaves_rest limit qs (λ k p. h (suc k) (omega arith)))

-- ---- a sound value

module _ (t : Tracker) (so : sound (view t) ≡ true) where
  facts : Sound (view t)
  facts = sound_facts (view t) so

  ascending : Ascend (view t).queues
  ascending k h = facts.ascending k (omega (arith, queues_long t))

  -- "The checkpoint sum .. then take every waiting delta below the limit."
  pub checkpoint_takes_every : (ordinal used : ℕ)
      → (checkpoint_of (view t) ordinal used ≡ accepted (reached_of (view t) ordinal used)) × ((reached_of (view t) ordinal used).sum ≡ sum_below (reached_of (view t) ordinal used).limit (view t).queues)
  unfolding reached_of
  checkpoint_takes_every ordinal used = (rw so, sums_every (least_of ordinal used (view t).slots).limit (view t).queues ascending)

  -- ".. and the drain": it answers their sum, and leaves the others
  pub drain_takes_every : (limit : ℕ)
      → (drain_of (view t) limit ≡ accepted (sum_below limit (view t).queues)) × ((drained (view t) limit).queues ≡ map (not_below limit) (view t).queues)
  unfolding drained
  drain_takes_every limit = (rw so (ap accepted (sums_every limit (view t).queues ascending)), leaves_rest limit (view t).queues ascending)

  -- "completion inserts behind its equals": where a delta goes in at all, it stands behind all that aren't larger and before all that are
  module _ (shard number : ℕ) (delta : ℤ) (hs : shard < 16) (hit : matches (slot_of (view t) shard) number ≡ true) (some : is_zero delta ≡ false) where
    left : queue (completed (view t) shard number delta) shard ≡ behind_equals (record { number = number; delta = delta }) (queue (view t) shard)
    unfolding completed abandoned inserted
    left = rw (hit, some) (get_or-set_same (view t).queues shard _ [] (omega (arith, queues_long t)))

    pub completion_by_number : PutByNumber (record { number = number; delta = delta }) (queue (view t) shard) (queue (completed (view t) shard number delta) shard)
    completion_by_number =
        subst (PutByNumber (record { number = number; delta = delta }) (queue (view t) shard)) (sym left)
        (put_by_number (record { number = number; delta = delta }) (queue (view t) shard) (facts.ascending shard hs))

  -- a recorded delta joins the back, which is where its number belongs
  pub record_by_number : (shard : ℕ) → shard < 16 → (delta : ℤ) → joined (view t) shard (view t).next delta ≡ inserted (view t) shard (view t).next delta
  unfolding joined inserted
  record_by_number shard hs delta =
      ap (with_queue (view t) shard) (sym (behind_all (record { number = (view t).next; delta = delta }) (queue (view t) shard) (none_above (view t) (queue (view t) shard) (facts.queue_below shard hs))))
