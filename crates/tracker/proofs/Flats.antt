-- A queue by its places in the flat arrays, from a base on: the laws of the soundness test, of one delta more and of the drain that ask nothing of a
-- queue's parts.
-- Assumes nothing.
use mathlib.Core.Path.{◌≡◌, refl, sym, ap, ◌∙◌}
use mathlib.Core.Bool.{Bool, true, false, ◌&&◌}
use mathlib.Core.List.{List}
use Prim.Native.Nat.{ℕ, ◌+◌, ◌-◌, ◌*◌, ◌≤◌, ◌<◌}
use native.Mathlib.Numerals.{add-one}
use native.Mathlib.Omega.{arith}
use native.Mathlib.Decide.{ℕ_discrete, dec_lt}
use lib.ListN.{length, get_or, set, drop, length-set}
use lib.Seq.{get_or-set_same, get_or-set_other}
use lib.IntN.{ℤ, pos, ◌+ℤ◌}
use lib.Dec.{ltb}
use Rattle.std.proofs.lemmas.Bool.{and_right}
use Rattle.tracker.specs.declared.Tracker.{Tracker}
use Rattle.tracker.specs.declared.Front.{Front}
use Rattle.tracker.specs.State.{Waiting, waiting_at, view, queue, with_queue, behind_equals, inserted}
use Rattle.tracker.specs.Sound.{every, all_below, ascends, shard_sound}
use Rattle.tracker.specs.Sums.{past_front}
use Rattle.tracker.specs.Inner.{Roomy, Fronted, neighbours_ascend_from}
use Rattle.tracker.proofs.Runs.{every_all, drop_seg}
use Rattle.tracker.proofs.Views.{run, queue_is, queue_length, run_of, run_ext, one_queue, waiting_eq}
use Rattle.tracker.proofs.Ascents.{ascends_all}
use Rattle.tracker.proofs.Sounds.{head_of, head_is}
use Rattle.tracker.proofs.Inserts.{behind_run}
use Rattle.tracker.proofs.Totals.{Adding, map_first, with_queues, drains_more as drained_more}

-- ---- the soundness of a shard

abbrev pub below_of : Tracker → ℕ → Bool
below_of t s = all_below (λ (j : ℕ). ltb (get_or t.numbers (s * 32 + j) 0) t.next) (get_or t.lengths s 0)

abbrev pub order_of : Tracker → ℕ → Bool
order_of t s = neighbours_ascend_from t.numbers (s * 32) (get_or t.lengths s 0)

module _ (t : Tracker) (s : ℕ) (hs : s < 16) where
  shard_tests : shard_sound (view t) s ≡ head_of t s && below_of t s && order_of t s
  shard_tests =
      head_is t s hs
      ∙ ap (λ (q : List Waiting). head_of t s && every (λ (w : Waiting). ltb w.number t.next) q && ascends q) (queue_is t s hs)
      ∙ ap (λ (b : Bool). head_of t s && b && ascends (run_of t s))
      (every_all (λ (w : Waiting). ltb w.number t.next) (waiting_at t.numbers t.deltas) (s * 32) (get_or t.lengths s 0))
      ∙ ap (λ (b : Bool). head_of t s && below_of t s && b) (ascends_all t.numbers t.deltas (s * 32) (get_or t.lengths s 0))

  pub queue_false : (q : Bool) → q ≡ below_of t s → q ≡ false → shard_sound (view t) s ≡ false
  queue_false q e f = shard_tests ∙ ap (λ (b : Bool). b && order_of t s) (and_right (head_of t s) _ (sym e ∙ f))

  pub order_false : (o : Bool) → o ≡ order_of t s → o ≡ false → shard_sound (view t) s ≡ false
  order_false o e f = shard_tests ∙ and_right (head_of t s && below_of t s) _ (sym e ∙ f)

  pub three_true : (h q o : Bool) → h ≡ head_of t s → h ≡ true → q ≡ below_of t s → q ≡ true → o ≡ order_of t s → o ≡ true → shard_sound (view t) s ≡ true
  three_true h q o eh fh eq fq eo fo = shard_tests ∙ rw (sym eh ∙ fh, sym eq ∙ fq, sym eo ∙ fo)

-- ---- a delta goes in behind its equals

-- where a number goes among the count from base on: none before that place is larger, and the one that stands there is
pub record Placed (numbers : List ℕ) (base count number place : ℕ) : Type 0 where
  pub within : place ≤ count
  pub before : (j : ℕ) → j < place → get_or numbers (base + j) 0 ≤ number
  pub larger : place < count → number < get_or numbers (base + place) 0

-- ys is xs with x put in at a place of the count from base on, and what stood there and behind one place further
pub record PutIn (A : Type 0) (z : A) (xs ys : List A) (base count place : ℕ) (x : A) : Type 0 where
  pub long : length ys ≡ length xs
  pub low : (p : ℕ) → p < base + place → get_or ys p z ≡ get_or xs p z
  pub here : get_or ys (base + place) z ≡ x
  pub moved : (j : ℕ) → place ≤ j → j < count → get_or ys (base + j + 1) z ≡ get_or xs (base + j) z
  pub high : (p : ℕ) → base + count < p → get_or ys p z ≡ get_or xs p z

-- the queue that results
module _ (t : Tracker) (rm : Roomy t) (long_l : length t.lengths ≡ 16) (s : ℕ) (hs : s < 16) (hk : get_or t.lengths s 0 < 32) (n : ℕ) (d : ℤ) (p : ℕ)
    (pl : Placed t.numbers (s * 32) (get_or t.lengths s 0) n p) (ys : List ℕ) (zs : List ℤ)
    (pn : PutIn ℕ 0 t.numbers ys (s * 32) (get_or t.lengths s 0) p n) (pd : PutIn ℤ (pos 0) t.deltas zs (s * 32) (get_or t.lengths s 0) p d) where
  abbrev count : ℕ
  count = get_or t.lengths s 0

  abbrev put : Tracker
  put = record { slots = t.slots; numbers = ys; deltas = zs; lengths = set t.lengths s (count + 1); next = t.next }

  put_keeps : {A : Type 0} (z : A) (xs xs' : List A) (x : A) → PutIn A z xs xs' (s * 32) count p x
      → (i j : ℕ) → (i ≡ s → ⊥) → j < 32 → Dec (i < s) → get_or xs' (i * 32 + j) z ≡ get_or xs (i * 32 + j) z
  put_keeps z xs xs' x r i j ne hj (yes lt) = r.low (i * 32 + j) (omega arith)
  put_keeps z xs xs' x r i j ne hj (no ge) = r.high (i * 32 + j) (omega arith)

  put_others : (i : ℕ) → i < 16 → (i ≡ s → ⊥) → run_of put i ≡ run_of t i
  put_others i hi ne =
      ap (run ys zs (i * 32)) (get_or-set_other t.lengths s i (count + 1) 0 ne)
      ∙ run_ext t put (i * 32) (i * 32) (get_or t.lengths i 0)
      (λ j hj. put_keeps 0 t.numbers ys n pn i j ne (omega (arith, rm.room i hi)) (dec_lt i s))
      (λ j hj. put_keeps (pos 0) t.deltas zs d pd i j ne (omega (arith, rm.room i hi)) (dec_lt i s))

  put_here : run_of put s ≡ behind_equals (record { number = n; delta = d }) (queue (view t) s)
  put_here =
      ap (run ys zs (s * 32)) (get_or-set_same t.lengths s (count + 1) 0 (omega arith) ∙ add-one count)
      ∙ sym (ap (behind_equals (record { number = n; delta = d })) (queue_is t s hs)
      ∙ behind_run (record { number = n; delta = d }) (waiting_at t.numbers t.deltas) (waiting_at ys zs) (s * 32) p count pl.within pl.before pl.larger
      (λ j hj. waiting_eq (pn.low (s * 32 + j) (omega arith)) (pd.low (s * 32 + j) (omega arith)))
      (waiting_eq pn.here pd.here)
      (λ j a b. waiting_eq (pn.moved j a b) (pd.moved j a b)))

  pub insert_law : view put ≡ inserted (view t) s n d
  unfolding inserted view
  insert_law = one_queue t put s _ hs refl refl put_others put_here

-- ---- the drain

-- ys is xs with the first i places from base taken from gone places on
pub record Slid (A : Type 0) (z : A) (xs ys : List A) (base gone i : ℕ) : Type 0 where
  pub long : length ys ≡ length xs
  pub moved : (j : ℕ) → j < i → get_or ys (base + j) z ≡ get_or xs (base + gone + j) z
  pub low : (p : ℕ) → p < base → get_or ys p z ≡ get_or xs p z
  pub high : (p : ℕ) → base + i ≤ p → get_or ys p z ≡ get_or xs p z

-- shard s's queue without its first c entries
module _ (t : Tracker) (rm : Roomy t) (long_l : length t.lengths ≡ 16) (s c : ℕ) (hs : s < 16) (hc : c ≤ get_or t.lengths s 0) (ys : List ℕ) (zs : List ℤ)
    (sn : Slid ℕ 0 t.numbers ys (s * 32) c (get_or t.lengths s 0 - c)) (sd : Slid ℤ (pos 0) t.deltas zs (s * 32) c (get_or t.lengths s 0 - c)) where
  abbrev left : ℕ
  left = get_or t.lengths s 0 - c

  abbrev cut : Tracker
  cut = record { slots = t.slots; numbers = ys; deltas = zs; lengths = set t.lengths s left; next = t.next }

  length_other : (i : ℕ) → (i ≡ s → ⊥) → get_or cut.lengths i 0 ≡ get_or t.lengths i 0
  length_other i ne = get_or-set_other t.lengths s i left 0 ne

  length_here : get_or cut.lengths s 0 ≡ left
  length_here = get_or-set_same t.lengths s left 0 (omega arith)

  cut_keeps : {A : Type 0} (z : A) (xs xs' : List A) → Slid A z xs xs' (s * 32) c left
      → (i j : ℕ) → (i ≡ s → ⊥) → j < 32 → Dec (i < s) → get_or xs' (i * 32 + j) z ≡ get_or xs (i * 32 + j) z
  cut_keeps z xs xs' sl i j ne hj (yes lt) = sl.low (i * 32 + j) (omega arith)
  cut_keeps z xs xs' sl i j ne hj (no ge) = sl.high (i * 32 + j) (omega (arith, rm.room s hs))

  cut_others : (i : ℕ) → i < 16 → (i ≡ s → ⊥) → run_of cut i ≡ run_of t i
  cut_others i hi ne =
      ap (run ys zs (i * 32)) (length_other i ne)
      ∙ run_ext t cut (i * 32) (i * 32) (get_or t.lengths i 0)
      (λ j hj. cut_keeps 0 t.numbers ys sn i j ne (omega (arith, rm.room i hi)) (dec_lt i s))
      (λ j hj. cut_keeps (pos 0) t.deltas zs sd i j ne (omega (arith, rm.room i hi)) (dec_lt i s))

  cut_here : run_of cut s ≡ drop c (queue (view t) s)
  cut_here =
      ap (run ys zs (s * 32)) length_here
      ∙ run_ext t cut (s * 32) (s * 32 + c) left sn.moved sd.moved
      ∙ sym (ap (drop c) (queue_is t s hs) ∙ drop_seg (waiting_at t.numbers t.deltas) (s * 32) (get_or t.lengths s 0) c hc)

  pub cut_view : view cut ≡ with_queue (view t) s (drop c (queue (view t) s))
  unfolding view
  cut_view = one_queue t cut s (drop c (queue (view t) s)) hs refl refl cut_others cut_here

  pub cut_roomy : Roomy cut
  cut_roomy = record { room = λ i hi. by i hi (ℕ_discrete i s) }
    where
      by : (i : ℕ) → i < 16 → Dec (i ≡ s) → get_or (set t.lengths s (get_or t.lengths s 0 - c)) i 0 ≤ 32
      by i hi (yes e) = rw (ap (λ (k : ℕ). get_or cut.lengths k 0) e ∙ length_here) (omega (arith, rm.room s hs))
      by i hi (no ne) = rw (length_other i ne) (rm.room i hi)

-- the first s queues are drained, and z is their sum; no array has got shorter or longer
pub record Drains (t : Tracker) (limit s : ℕ) (u : Tracker) (z : ℤ) : Type 0 where
  pub view_is : view u ≡ with_queues (view t) (map_first s (past_front limit) (view t).queues)
  pub roomy : Roomy u
  pub adds : Adding t limit s z
  pub long_n : length u.numbers ≡ 512
  pub long_d : length u.deltas ≡ 512
  pub long_l : length u.lengths ≡ 16

module _ (t : Tracker) (limit s : ℕ) (hs : s < 16) (u : Tracker) (z : ℤ) (d : Drains t limit s u z) where
  -- a turn of the loop: the queue's front is summed, and its rest moved to its front
  pub drains_more : (f : Front) (ys : List ℕ) (zs : List ℤ) → Roomy t → Fronted limit (queue (view u) s) f
      → Slid ℕ 0 u.numbers ys (s * 32) f.count (get_or u.lengths s 0 - f.count)
      → Slid ℤ (pos 0) u.deltas zs (s * 32) f.count (get_or u.lengths s 0 - f.count)
      → Drains t limit (s + 1) (record { slots = u.slots; numbers = ys; deltas = zs; lengths = set u.lengths s (get_or u.lengths s 0 - f.count); next = u.next }) (z +ℤ f.sum)
  drains_more f ys zs rm p sn sd =
      let within : f.count ≤ get_or u.lengths s 0 = omega (arith, p.within, queue_length u s hs) in
      let more =
      drained_more t limit s hs u z (record { view_is = d.view_is; roomy = d.roomy; adds = d.adds }) f _
      (record { fronted = p; small = omega (arith, p.small, p.within, queue_length u s hs, d.roomy.room s hs); within = within })
      (cut_roomy u d.roomy d.long_l s f.count hs within ys zs sn sd) (cut_view u d.roomy d.long_l s f.count hs within ys zs sn sd) in
      record {
        view_is = more.view_is;
        roomy = more.roomy;
        adds = more.adds;
        long_n = sn.long ∙ d.long_n;
        long_d = sd.long ∙ d.long_d;
        long_l = length-set u.lengths s _ ∙ d.long_l;
      }
