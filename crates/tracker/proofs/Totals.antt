-- The sum over all queues, shard by shard, and the drain, which removes what it sums.
-- Assumes nothing.
use mathlib.Core.Path.{◌≡◌, refl, sym, ap, ◌∙◌, subst}
use mathlib.Core.Bool.{Bool, true, false, not, ◌&&◌, ◌||◌}
use mathlib.Core.List.{List, [], ◌∷◌, ◌++◌, map}
use Prim.Native.Nat.{ℕ, zero, suc, ◌+◌, ◌*◌, ◌≤◌, ◌<◌}
use native.Mathlib.Nat.{zero-add}
use native.Mathlib.Numerals.{add-one}
use native.Mathlib.Omega.{arith}
use lib.ListN.{length, get_or, set, take, drop}
use lib.Seq.{take-suc, take_all}
use lib.IntN.{ℤ, pos, ◌+ℤ◌, nat_abs, +ℤ_idl, +ℤ_idr, +ℤ_assoc}
use lib.Dec.{eqb}
use Rattle.std.specs.Prelude.{Ok}
use Rattle.std.specs.List.{list_all}
use Rattle.std.proofs.lemmas.List.{same_lists, get_or_default}
use Rattle.answers.specs.Answers.{accepted}
use Rattle.tracker.specs.declared.Tracker.{Tracker}
use Rattle.tracker.specs.declared.Least.{Least}
use Rattle.tracker.specs.declared.Front.{Front}
use Rattle.tracker.specs.State.{State, Waiting, seg, waiting_at, view, queue, queue_of, with_queue}
use Rattle.tracker.specs.Sound.{every, sound}
use Rattle.tracker.specs.Outcome.{Met}
use Rattle.tracker.specs.Least.{least_of}
use Rattle.tracker.specs.Sums.{sum_front, past_front, sum_of}
use Rattle.tracker.specs.Checkpoints.{all_empty, reached_of, checkpoint_of}
use Rattle.tracker.specs.Draining.{drain_of, drained, DrainMet}
use Rattle.tracker.specs.Inner.{Roomy, QueueOf, Fronted, queue_from, all_zero}
use Rattle.tracker.proofs.Runs.{length_seg, get_d_seg, every_all, all_same}
use Rattle.tracker.proofs.Ints.{abs_add}
use Rattle.tracker.proofs.Views.{queue_length, queues_long, run_of, parts_are}
use Rattle.tracker.proofs.Outcomes.{sound_accepts}

-- ---- one queue more

sum_snoc : (limit : ℕ) (qs : List (List Waiting)) (q : List Waiting) → sum_of limit (qs ++ (q ∷ [])) ≡ sum_of limit qs +ℤ sum_front limit q
sum_snoc limit [] q = +ℤ_idr (sum_front limit q) ∙ sym (+ℤ_idl (sum_front limit q))
sum_snoc limit (p ∷ qs) q =
    ap (λ (z : ℤ). sum_front limit p +ℤ z) (sum_snoc limit qs q) ∙ sym (+ℤ_assoc (sum_front limit p) (sum_of limit qs) (sum_front limit q))

-- the sum over the first s queues; each adds at most 32 times 128
pub record Adding (t : Tracker) (limit s : ℕ) (z : ℤ) : Type 0 where
  pub sum_is : z ≡ sum_of limit (take s (view t).queues)
  pub small : nat_abs z ≤ 4096 * s

pub adding_none : (t : Tracker) (limit : ℕ) → Adding t limit 0 (pos 0)
adding_none t limit = record { sum_is = refl; small = omega arith }

pub adding_all : (t : Tracker) (limit s : ℕ) (z : ℤ) → s ≡ 16 → Adding t limit s z → z ≡ sum_of limit (view t).queues
adding_all t limit s z e a = a.sum_is ∙ ap (sum_of limit) (take_all s (view t).queues (omega (arith, queues_long t)))

-- the front of shard s's queue, which is part of it and has a small sum
pub record FrontIs (t : Tracker) (limit s : ℕ) (f : Front) : Type 0 where
  pub fronted : Fronted limit (queue (view t) s) f
  pub small : nat_abs f.sum ≤ 4096
  pub within : f.count ≤ get_or t.lengths s 0

-- the front of the queue's parts is the front of the queue
pub front_is : (t : Tracker) (limit : ℕ) {s : ℕ} {f : Front} {ns : List ℕ} {ds : List ℤ} → Roomy t → s < 16 → QueueOf t s ns ds → Fronted limit (queue_from ns ds) f → FrontIs t limit s f
front_is t limit {s} {f} rm hs q p =
    let w : Fronted limit (queue (view t) s) f = subst (λ (l : List Waiting). Fronted limit l f) (parts_are t s hs q) p in
    record {
      fronted = w;
      small = omega (arith, w.small, w.within, queue_length t s hs, rm.room s hs);
      within = omega (arith, w.within, queue_length t s hs);
    }

module _ (t : Tracker) (limit s : ℕ) (f : Front) (hs : s < 16) (p : Fronted limit (queue (view t) s) f) (small : nat_abs f.sum ≤ 4096) where
  pub adding_more : (z : ℤ) → Adding t limit s z → Adding t limit (s + 1) (z +ℤ f.sum)
  adding_more z a = record { sum_is = rw (a.sum_is, p.sum_is) (sym one_more); small = omega (arith, abs_add z f.sum, a.small, small) }
    where
      one_more : sum_of limit (take (s + 1) (view t).queues) ≡ sum_of limit (take s (view t).queues) +ℤ sum_front limit (queue (view t) s)
      one_more =
          ap (λ (k : ℕ). sum_of limit (take k (view t).queues)) (add-one s)
          ∙ ap (sum_of limit) (take-suc (view t).queues s [] (omega (arith, queues_long t)))
          ∙ sum_snoc limit (take s (view t).queues) (queue (view t) s)

-- ---- drain

-- f at the first n elements
abbrev pub map_first : {A : Type 0} → ℕ → (A → A) → List A → List A
map_first zero f l = l
map_first (suc n) f [] = []
map_first (suc n) f (x ∷ l) = f x ∷ map_first n f l

module _ {A : Type 0} (f : A → A) where
  first_at : (n : ℕ) (l : List A) (d : A) → get_or (map_first n f l) n d ≡ get_or l n d
  first_at zero l d = refl
  first_at (suc n) [] d = refl
  first_at (suc n) (x ∷ l) d = first_at n l d

  first_set : (n : ℕ) (l : List A) (d : A) → n < length l → set (map_first n f l) n (f (get_or l n d)) ≡ map_first (suc n) f l
  first_set n [] d h = absurd (omega arith)
  first_set zero (x ∷ l) d h = refl
  first_set (suc n) (x ∷ l) d h = ap (λ (r : List A). f x ∷ r) (first_set n l d (omega arith))

  first_all : (n : ℕ) (l : List A) → length l ≤ n → map_first n f l ≡ map f l
  first_all zero [] h = refl
  first_all (suc n) [] h = refl
  first_all zero (x ∷ l) h = absurd (omega arith)
  first_all (suc n) (x ∷ l) h = ap (λ (r : List A). f x ∷ r) (first_all n l (omega arith))

abbrev pub with_queues : State → List (List Waiting) → State
with_queues m qs = record { slots = m.slots; queues = qs; next = m.next }

-- the first s queues are drained, and z is their sum
pub record Drains (t : Tracker) (limit s : ℕ) (u : Tracker) (z : ℤ) : Type 0 where
  pub view_is : view u ≡ with_queues (view t) (map_first s (past_front limit) (view t).queues)
  pub roomy : Roomy u
  pub adds : Adding t limit s z

module _ (t : Tracker) (limit s : ℕ) (hs : s < 16) (u : Tracker) (z : ℤ) (d : Drains t limit s u z) where
  same_queue : queue (view u) s ≡ queue (view t) s
  same_queue = ap (λ (m : State). queue m s) d.view_is ∙ first_at (past_front limit) s (view t).queues []

  -- a turn of the loop: the queue's front is summed, and goes
  pub drains_more : (f : Front) (v : Tracker) → FrontIs u limit s f → Roomy v → view v ≡ with_queue (view u) s (drop f.count (queue (view u) s))
      → Drains t limit (s + 1) v (z +ℤ f.sum)
  drains_more f v p rv e = record {
    view_is =
        e
        ∙ ap (λ (m : State). with_queue m s (drop f.count (queue (view u) s))) d.view_is
        ∙ ap (λ (q : List Waiting). with_queues (view t) (set (map_first s (past_front limit) (view t).queues) s q))
        (ap (λ (c : ℕ). drop c (queue (view u) s)) p.fronted.count_is ∙ ap (past_front limit) same_queue)
        ∙ ap (with_queues (view t))
        (first_set (past_front limit) s (view t).queues [] (omega (arith, queues_long t))
        ∙ ap (λ (n : ℕ). map_first n (past_front limit) (view t).queues) (sym (add-one s)));
    roomy = rv;
    adds = adding_more t limit s f hs (subst (λ (q : List Waiting). Fronted limit q f) same_queue p.fronted) p.small z d.adds;
  }

drains_all : (t : Tracker) (limit s : ℕ) (u : Tracker) (z : ℤ) → s ≡ 16 → Drains t limit s u z → view u ≡ drained (view t) limit
unfolding drained
drains_all t limit s u z e d = d.view_is ∙ ap (with_queues (view t)) (first_all (past_front limit) s (view t).queues (omega (arith, queues_long t)))

pub drain_accepted : (t : Tracker) (limit s : ℕ) (u : Tracker) (z : ℤ) → s ≡ 16 → Drains t limit s u z → sound (view t) ≡ true
    → DrainMet t limit (record { tracker = u; answer = Ok z })
drain_accepted t limit s u z e d es =
    subst (λ (x : ℤ). Met ℤ (drain_of (view t) limit) (accepted x) t u (drained (view t) limit)) (sym (adding_all t limit s z e d.adds))
    (sound_accepts t (drained (view t) limit) _ u es (drains_all t limit s u z e d))

-- ---- checkpoint

list_every : {A : Type 0} (p : A → Bool) (l : List A) → list_all p l ≡ every p l
list_every p [] = refl
list_every p (x ∷ l) = ap (λ (b : Bool). p x && b) (list_every p l)

-- sixteen lengths that are 0, one by one
pub lengths_zero : (lengths : List ℕ) → length lengths ≡ 16 → list_all (λ (n : ℕ). eqb n 0) lengths ≡ all_zero lengths
lengths_zero lengths long =
    list_every (λ (n : ℕ). eqb n 0) lengths
    ∙ ap (every (λ (n : ℕ). eqb n 0)) places
    ∙ every_all (λ (n : ℕ). eqb n 0) (λ (k : ℕ). get_or lengths k 0) 0 16
    ∙ all_same (λ (k : ℕ). eqb (get_or lengths (0 + k) 0) 0) (λ (k : ℕ). eqb (get_or lengths k 0) 0) 16 (λ k h. ap (λ (i : ℕ). eqb (get_or lengths i 0) 0) (zero-add k))
  where
    places : lengths ≡ seg (λ (k : ℕ). get_or lengths k 0) 0 16
    places =
        same_lists _ _ (long ∙ sym (length_seg (λ (k : ℕ). get_or lengths k 0) 0 16))
        (λ k d h. get_or_default lengths k d 0 h ∙ sym (get_d_seg (λ (j : ℕ). get_or lengths j 0) 0 16 k d (omega arith) ∙ rw zero-add))

-- sixteen lengths of 0 are sixteen empty queues
pub zero_empty : (t : Tracker) → all_zero t.lengths ≡ all_empty (view t).queues
unfolding all_empty view queue_of
zero_empty t =
    all_same (λ (k : ℕ). eqb (get_or t.lengths k 0) 0) (λ (k : ℕ). eqb (length (run_of t (0 + k))) 0) 16
    (λ k h. ap (λ (n : ℕ). eqb n 0) (sym (length_seg (waiting_at t.numbers t.deltas) ((0 + k) * 32) (get_or t.lengths (0 + k) 0) ∙ ap (λ (i : ℕ). get_or t.lengths i 0) (zero-add k))))
    ∙ sym (every_all (λ (q : List Waiting). eqb (length q) 0) (run_of t) 0 16)

pub or_yes : (a b : Bool) → a ≡ true → a ≡ a || b
or_yes a b e = rw e

pub or_no : (a b : Bool) → a ≡ false → b ≡ a || b
or_no a b e = rw e

module _ (t : Tracker) (ordinal used : ℕ) {l : Least} (el : l ≡ least_of ordinal used t.slots) {z : ℤ} (ez : z ≡ sum_of l.limit (view t).queues)
    {empty : Bool} (ee : empty ≡ all_zero t.lengths) {w : Bool} (ew : w ≡ l.any || not empty) (es : sound (view t) ≡ true) where
  pub reaches : accepted (record { ordinal = l.ordinal; offset = l.offset; sum = z; limit = l.limit; pending = w }) ≡ checkpoint_of (view t) ordinal used
  unfolding view reached_of
  reaches = rw (ez, ew, ee ∙ zero_empty t, el) (sym (rw es))

-- and where the test goes through the lengths one by one
pub reaches_by_each : (t : Tracker) (ordinal used : ℕ) {l : Least} → l ≡ least_of ordinal used t.slots → {z : ℤ} → z ≡ sum_of l.limit (view t).queues
    → length t.lengths ≡ 16 → {empty : Bool} → empty ≡ list_all (λ (n : ℕ). eqb n 0) t.lengths → {w : Bool} → w ≡ l.any || not empty → sound (view t) ≡ true
    → accepted (record { ordinal = l.ordinal; offset = l.offset; sum = z; limit = l.limit; pending = w }) ≡ checkpoint_of (view t) ordinal used
reaches_by_each t ordinal used el ez long ee ew es = reaches t ordinal used el ez (ee ∙ lengths_zero t.lengths long) ew es
