-- The soundness test, as the code makes it, and what a sound value is known for.
-- Assumes nothing.
use mathlib.Core.Path.{◌≡◌, sym, ap, ◌∙◌}
use mathlib.Core.Bool.{Bool, true, false, ◌&&◌, ◌||◌}
use mathlib.Core.List.{List}
use Prim.Native.Nat.{ℕ, ◌+◌, ◌≤◌, ◌<◌}
use native.Mathlib.Omega.{arith}
use lib.ListN.{get_or}
use lib.IntN.{ℤ}
use lib.Dec.{ltb, leb, eqb}
use borrow.Author.Tests.{le-leb, lt-leb, ne_eqb, eq-eqb, leb-true}
use Rattle.std.proofs.lemmas.Bool.{and_parts, and_right}
use Rattle.tracker.specs.declared.Tracker.{Tracker}
use Rattle.tracker.specs.State.{Waiting, view, queue, places, idle}
use Rattle.tracker.specs.Sound.{every, ascends, shard_sound, sound}
use Rattle.tracker.specs.Inner.{Roomy, QueueOf, neighbours_ascend, numbers_below}
use Rattle.tracker.proofs.Runs.{all_at, all_false, all_true}
use Rattle.tracker.proofs.Views.{queue_length, parts_are}
use Rattle.tracker.proofs.Ascents.{ascends_queue, below_all}

-- ---- a shard's length and slot

abbrev pub tests : ℕ → ℕ → ℕ → Bool
tests n number next = leb (n + places number) 32 && (eqb number 0 || ltb number next)

module _ (n number next : ℕ) where
  pub head_long : 32 < n → false ≡ tests n number next
  head_long h = sym (rw (lt-leb (n + places number) 32 (omega arith)))

  pub head_idle : n ≤ 32 → number ≡ 0 → true ≡ tests n number next
  head_idle h e = sym (rw (eq-eqb number 0 e, le-leb (n + 0) 32 (omega arith)))

  pub head_full : (number ≡ 0 → ⊥) → 31 < n → false ≡ tests n number next
  head_full ne h = sym (rw (ne_eqb number 0 ne, lt-leb (n + 1) 32 (omega arith)))

  pub head_open : (number ≡ 0 → ⊥) → n ≤ 31 → ltb number next ≡ tests n number next
  head_open ne h = sym (rw (ne_eqb number 0 ne, le-leb (n + 1) 32 (omega arith)))

-- ---- a shard, by the three tests of the code

abbrev pub head_of : Tracker → ℕ → Bool
head_of t s = tests (get_or t.lengths s 0) (get_or t.slots s idle).number t.next

module _ (t : Tracker) (s : ℕ) (hs : s < 16) where
  pub head_is : shard_sound (view t) s ≡ head_of t s && every (λ (w : Waiting). ltb w.number t.next) (queue (view t) s) && ascends (queue (view t) s)
  unfolding shard_sound view
  head_is = rw (queue_length t s hs)

  pub head_false : (h : Bool) → h ≡ head_of t s → h ≡ false → shard_sound (view t) s ≡ false
  head_false h e f = head_is ∙ rw (sym e ∙ f)

  head_most : head_of t s ≡ true → get_or t.lengths s 0 + places (get_or t.slots s idle).number ≤ 32
  head_most e = leb-true _ _ ((and_parts _ (eqb (get_or t.slots s idle).number 0 || ltb (get_or t.slots s idle).number t.next) e).0)

  pub head_room : (h : Bool) → h ≡ head_of t s → h ≡ true → get_or t.lengths s 0 ≤ 32
  head_room h e f = let g = head_most (sym e ∙ f) in omega arith

  -- what a sound shard's queue length is at most
  pub shard_room : shard_sound (view t) s ≡ true → get_or t.lengths s 0 + places (get_or t.slots s idle).number ≤ 32
  shard_room e =
      head_most ((and_parts (head_of t s) (every (λ (w : Waiting). ltb w.number t.next) (queue (view t) s)) ((and_parts (head_of t s && every (λ (w : Waiting). ltb w.number t.next) (queue (view t) s)) (ascends (queue (view t) s)) (sym head_is ∙ e)).0)).0)

  module _ {ns : List ℕ} {ds : List ℤ} (q : QueueOf t s ns ds) where
    shard_tests : shard_sound (view t) s ≡ head_of t s && numbers_below ns t.next && neighbours_ascend ns
    shard_tests =
        head_is
        ∙ ap (λ (w : List Waiting). head_of t s && every (λ (x : Waiting). ltb x.number t.next) w && ascends w) (sym (parts_are t s hs q))
        ∙ rw (below_all ns ds t.next, ascends_queue ns ds)

    pub order_false : (o : Bool) → o ≡ neighbours_ascend ns → o ≡ false → shard_sound (view t) s ≡ false
    order_false o e f = shard_tests ∙ and_right (head_of t s && numbers_below ns t.next) _ (sym e ∙ f)

    pub below_false : (b : Bool) → b ≡ numbers_below ns t.next → b ≡ false → shard_sound (view t) s ≡ false
    below_false b e f = shard_tests ∙ ap (λ (x : Bool). x && neighbours_ascend ns) (and_right (head_of t s) _ (sym e ∙ f))

    pub three_true : (h b o : Bool) → h ≡ head_of t s → h ≡ true → b ≡ numbers_below ns t.next → b ≡ true → o ≡ neighbours_ascend ns → o ≡ true → shard_sound (view t) s ≡ true
    three_true h b o eh fh eb fb eo fo = shard_tests ∙ rw (sym eh ∙ fh, sym eb ∙ fb, sym eo ∙ fo)

-- ---- the whole value

module _ (t : Tracker) where
  pub sound_shard : sound (view t) ≡ true → (s : ℕ) → s < 16 → shard_sound (view t) s ≡ true
  unfolding sound
  sound_shard e s hs = all_at (shard_sound (view t)) 16 ((and_parts (leb 1 (view t).next) _ e).1) s hs

  pub sound_roomy : sound (view t) ≡ true → Roomy t
  sound_roomy e = record { room = λ i hi. let h = shard_room t i hi (sound_shard e i hi) in omega arith }

  pub sound_zero : t.next ≡ 0 → false ≡ sound (view t)
  unfolding sound view
  sound_zero e = rw e

  pub sound_false : (s : ℕ) → s < 16 → shard_sound (view t) s ≡ false → false ≡ sound (view t)
  unfolding sound
  sound_false s hs e = sym (and_right (leb 1 (view t).next) _ (all_false (shard_sound (view t)) 16 s hs e))

  pub sound_true : (t.next ≡ 0 → ⊥) → ((s : ℕ) → s < 16 → shard_sound (view t) s ≡ true) → true ≡ sound (view t)
  unfolding sound view
  sound_true ne h = sym (rw (le-leb 1 t.next (omega arith)) (all_true (shard_sound (view t)) 16 h))
