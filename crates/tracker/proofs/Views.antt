-- What the flat arrays, and a store into them, are to the view.
-- Assumes nothing.
use mathlib.Core.Path.{◌≡◌, refl, sym, ap, ◌∙◌}
use mathlib.Core.List.{List, [], ◌∷◌, ◌++◌}
use Prim.Native.Nat.{ℕ, ◌+◌, ◌*◌, ◌<◌}
use native.Mathlib.Nat.{zero-add}
use native.Mathlib.Numerals.{add-one}
use native.Mathlib.Decide.{dec_lt}
use native.Mathlib.Omega.{arith}
use lib.ListN.{length, get_or, set, get_or-eq_default}
use lib.Seq.{get_or-set_same, get_or-set_other}
use lib.IntN.{ℤ, pos}
use Rattle.std.proofs.lemmas.List.Edits.{get_or-between}
use Rattle.tracker.specs.declared.Tracker.{Tracker}
use Rattle.tracker.specs.declared.Slot.{Slot}
use Rattle.tracker.specs.State.{seg, Waiting, State, waiting_at, queue_of, view, queue, joined}
use Rattle.tracker.specs.Inner.{HasRoom, QueueOf, part, queue_from}
use Rattle.tracker.proofs.Runs.{get_d_seg, seg_ext, seg_snoc, seg_set, length_seg}

-- the queue that has count entries from base on
abbrev pub run : List ℕ → List ℤ → ℕ → ℕ → List Waiting
run numbers deltas base count = seg (waiting_at numbers deltas) base count

-- shard s's queue in the arrays
abbrev pub run_of : Tracker → ℕ → List Waiting
run_of t s = run t.numbers t.deltas (s * 32) (get_or t.lengths s 0)

pub queue_is : (t : Tracker) (s : ℕ) → s < 16 → queue (view t) s ≡ run_of t s
unfolding view queue_of
queue_is t s h = get_d_seg (queue_of t.numbers t.deltas t.lengths) 0 16 s [] h ∙ ap (queue_of t.numbers t.deltas t.lengths) (zero-add s)

pub queue_length : (t : Tracker) (s : ℕ) → s < 16 → length (queue (view t) s) ≡ get_or t.lengths s 0
queue_length t s h = rw (queue_is t s h) (length_seg _ _ _)

pub queues_long : (t : Tracker) → length (view t).queues ≡ 16
unfolding view
queues_long t = refl

-- how many wait on any shard, one that isn't there too
pub waiting_is : (t : Tracker) (s : ℕ) → length t.lengths ≡ 16 → get_or t.lengths s 0 ≡ length (queue (view t) s)
waiting_is t s long = by (dec_lt s 16)
  where
    by : Dec (s < 16) → get_or t.lengths s 0 ≡ length (queue (view t) s)
    by (yes h) = sym (queue_length t s h)
    by (no h) =
        get_or-eq_default t.lengths 0 (omega arith) ∙ sym (ap length (get_or-eq_default (view t).queues [] (omega (arith, queues_long t))))

pub waiting_eq : {n n' : ℕ} {d d' : ℤ} → n ≡ n' → d ≡ d' → ◌≡◌ {A = Waiting} (record { number = n; delta = d }) (record { number = n'; delta = d' })
waiting_eq p q = cc

state_eq : {ss ss' : List Slot} {qs qs' : List (List Waiting)} {n n' : ℕ} → ss ≡ ss' → qs ≡ qs' → n ≡ n'
    → ◌≡◌ {A = State} (record { slots = ss; queues = qs; next = n }) (record { slots = ss'; queues = qs'; next = n' })
state_eq p q r = cc

-- a run that starts at a in u and at b in t
pub run_ext : (t u : Tracker) (a b n : ℕ)
    → ((j : ℕ) → j < n → get_or u.numbers (a + j) 0 ≡ get_or t.numbers (b + j) 0)
    → ((j : ℕ) → j < n → get_or u.deltas (a + j) (pos 0) ≡ get_or t.deltas (b + j) (pos 0))
    → run u.numbers u.deltas a n ≡ run t.numbers t.deltas b n
run_ext t u a b n p q =
    seg_ext (waiting_at u.numbers u.deltas) (waiting_at t.numbers t.deltas) a b n (λ j h. waiting_eq (p j h) (q j h))

-- u is t but for the queue of shard s, which is q
pub one_queue : (t u : Tracker) (s : ℕ) (q : List Waiting) → s < 16 → u.slots ≡ t.slots → u.next ≡ t.next
    → ((i : ℕ) → i < 16 → (i ≡ s → ⊥) → run_of u i ≡ run_of t i) → run_of u s ≡ q
    → view u ≡ record { slots = t.slots; queues = set (view t).queues s q; next = t.next }
unfolding view queue_of
one_queue t u s q hs es en others here =
    state_eq es
    (seg_set (run_of t) (run_of u) 0 16 s hs (λ i hi ne. rw zero-add (others i hi ne))
    ∙ ap (set (seg (run_of t) 0 16) s) (ap (run_of u) (zero-add s) ∙ here)) en

-- shard s's queue from its parts of the arrays
module _ (t : Tracker) (s : ℕ) (hs : s < 16) {ns : List ℕ} {ds : List ℤ} (q : QueueOf t s ns ds) where
  part_at : {A : Type 0} (xs : List A) (d : A) (j : ℕ) → j < get_or t.lengths s 0 → get_or (part xs t.lengths s) j d ≡ get_or xs (s * 32 + j) d
  part_at xs d j h = get_or-between xs (s * 32) (s * 32 + get_or t.lengths s 0) j d (omega arith)

  pub number_at : (j : ℕ) → j < get_or t.lengths s 0 → get_or ns j 0 ≡ get_or t.numbers (s * 32 + j) 0
  number_at j h = ap (λ (xs : List ℕ). get_or xs j 0) q.numbers_are ∙ part_at t.numbers 0 j h

  delta_at : (j : ℕ) → j < get_or t.lengths s 0 → get_or ds j (pos 0) ≡ get_or t.deltas (s * 32 + j) (pos 0)
  delta_at j h = ap (λ (xs : List ℤ). get_or xs j (pos 0)) q.deltas_are ∙ part_at t.deltas (pos 0) j h

  pub parts_are : queue_from ns ds ≡ queue (view t) s
  parts_are =
      ap (seg (waiting_at ns ds) 0) q.count
      ∙ seg_ext (waiting_at ns ds) (waiting_at t.numbers t.deltas) 0 (s * 32) (get_or t.lengths s 0) (λ j h. rw zero-add (waiting_eq (number_at j h) (delta_at j h)))
      ∙ sym (queue_is t s hs)

-- one entry more behind the last of shard s
module _ (t : Tracker) (s : ℕ) (hr : HasRoom t s) (long_n : length t.numbers ≡ 512) (long_d : length t.deltas ≡ 512) (long_l : length t.lengths ≡ 16) (n : ℕ) (d : ℤ) where
  abbrev count : ℕ
  count = get_or t.lengths s 0

  abbrev at : ℕ
  at = s * 32 + count

  abbrev put : Tracker
  put = record { slots = t.slots; numbers = set t.numbers at n; deltas = set t.deltas at d; lengths = set t.lengths s (count + 1); next = t.next }

  put_others : (i : ℕ) → i < 16 → (i ≡ s → ⊥) → run_of put i ≡ run_of t i
  put_others i hi ne =
      ap (run put.numbers put.deltas (i * 32)) (get_or-set_other t.lengths s i (count + 1) 0 ne)
      ∙ run_ext t put (i * 32) (i * 32) (get_or t.lengths i 0)
      (λ j hj. get_or-set_other t.numbers at (i * 32 + j) n 0 (λ e. ne (omega (arith, hr.roomy.room i hi))))
      (λ j hj. get_or-set_other t.deltas at (i * 32 + j) d (pos 0) (λ e. ne (omega (arith, hr.roomy.room i hi))))

  put_here : run_of put s ≡ queue (view t) s ++ (record { number = n; delta = d } ∷ [])
  put_here =
      ap (run put.numbers put.deltas (s * 32)) (get_or-set_same t.lengths s (count + 1) 0 (omega arith) ∙ add-one count)
      ∙ seg_snoc (waiting_at put.numbers put.deltas) (s * 32) count
      ∙ ap (λ (l : List Waiting). l ++ (waiting_at put.numbers put.deltas at ∷ []))
      (run_ext t put (s * 32) (s * 32) count
      (λ j hj. get_or-set_other t.numbers at (s * 32 + j) n 0 (λ e. omega arith))
      (λ j hj. get_or-set_other t.deltas at (s * 32 + j) d (pos 0) (λ e. omega arith))
      ∙ sym (queue_is t s hr.on_shard))
      ∙ ap (λ (w : Waiting). queue (view t) s ++ (w ∷ []))
      (waiting_eq (get_or-set_same t.numbers at n 0 (omega arith)) (get_or-set_same t.deltas at d (pos 0) (omega arith)))

  pub push_law : view put ≡ joined (view t) s n d
  unfolding joined view
  push_law = one_queue t put s _ hr.on_shard refl refl put_others put_here
