-- A delta goes into its queue behind its equals: its place, and the queue that results.
-- Assumes nothing.
use mathlib.Core.Path.{◌≡◌, refl, sym, ap, ◌∙◌, subst}
use mathlib.Core.Bool.{Bool, true, false, cond, not}
use lib.Dec.{ltb}
use mathlib.Core.List.{List, [], ◌∷◌}
use Prim.Native.Nat.{ℕ, zero, suc, ◌+◌, ◌*◌, ◌≤◌, ◌<◌}
use native.Mathlib.Nat.{add-zero}
use native.Mathlib.Numerals.{add-one}
use native.Mathlib.Omega.{arith}
use native.Mathlib.Decide.{dec_lt}
use lib.ListN.{length, get_or, set}
use lib.Seq.{get_or-set_same, get_or-set_other}
use lib.IntN.{ℤ, pos}
use borrow.Author.Tests.{lt-ltb, le-ltb, ltb-true, ltb-false}
use Rattle.std.specs.Prelude.{Some, None}
use Rattle.std.specs.Option.{unwrap_or}
use Rattle.std.specs.List.{position_or_len}
use Rattle.std.proofs.lemmas.List.Sums.{prefix_len-le-length, fails_before_first, passes_at_first}
use Rattle.tracker.specs.declared.Tracker.{Tracker}
use Rattle.tracker.specs.State.{seg, Waiting, waiting_at, view, queue, behind_equals, inserted}
use Rattle.tracker.specs.Inner.{HasRoom, QueueOf, place_behind, PutIn}
use Rattle.tracker.proofs.Runs.{seg_ext}
use Rattle.tracker.proofs.Views.{run, queue_is, run_of, run_ext, one_queue, waiting_eq, number_at}

-- ---- the place

-- none before it is larger, and the one that stands there is
pub record Placed (numbers : List ℕ) (number place : ℕ) : Type 0 where
  pub within : place ≤ length numbers
  pub before : (j : ℕ) → j < place → get_or numbers j 0 ≤ number
  pub larger : place < length numbers → number < get_or numbers place 0

pub placed_behind : (numbers : List ℕ) (number : ℕ) → Placed numbers number (place_behind numbers number)
placed_behind numbers number = rw first (record {
  within = prefix_len-le-length _ numbers;
  before = λ j h. ltb-false number _ (fails_before_first (λ (x : ℕ). ltb number x) numbers j 0 h);
  larger = λ h. ltb-true number _ (passes_at_first (λ (x : ℕ). ltb number x) numbers 0 h);
})
  where
    first : place_behind numbers number ≡ position_or_len (λ (x : ℕ). ltb number x) numbers
    first = by (ltb (position_or_len (λ (x : ℕ). ltb number x) numbers) (length numbers)) refl
      where
        by : (b : Bool) → ltb (position_or_len (λ (x : ℕ). ltb number x) numbers) (length numbers) ≡ b
            → unwrap_or (cond b (Some (position_or_len (λ (x : ℕ). ltb number x) numbers)) None) (length numbers) ≡ position_or_len (λ (x : ℕ). ltb number x) numbers
        by true e = refl
        by false e = omega (arith, ltb-false _ _ e, prefix_len-le-length (λ (x : ℕ). not (ltb number x)) numbers)

-- ---- a run that has one more

-- g has w at place p, and else what f has, from there on one place further
pub behind_run : (w : Waiting) (f g : ℕ → Waiting) (a p n : ℕ) → p ≤ n
    → ((j : ℕ) → j < p → (f (a + j)).number ≤ w.number) → (p < n → w.number < (f (a + p)).number)
    → ((j : ℕ) → j < p → g (a + j) ≡ f (a + j)) → g (a + p) ≡ w → ((j : ℕ) → p ≤ j → j < n → g (a + j + 1) ≡ f (a + j))
    → behind_equals w (seg f a n) ≡ seg g a (suc n)
behind_run w f g a zero zero h le lt lo here hi = ap (λ (x : Waiting). x ∷ []) (sym (ap g {x = a} {y = a + 0} (omega arith) ∙ here))
behind_run w f g a zero (suc n) h le lt lo here hi =
    rw (lt-ltb w.number (f a).number (subst (λ (i : ℕ). w.number < (f i).number) (add-zero a) (lt (omega arith))))
    (ap (λ (x : Waiting). x ∷ seg f a (suc n)) (sym (ap g {x = a} {y = a + 0} (omega arith) ∙ here))
    ∙ ap (λ (l : List Waiting). g a ∷ l)
    (seg_ext f g a (suc a) (suc n) (λ i hn. sym (ap g {x = suc a + i} {y = a + i + 1} (omega arith) ∙ hi i (omega arith) hn))))
behind_run w f g a (suc p) zero h le lt lo here hi = absurd (omega arith)
behind_run w f g a (suc p) (suc n) h le lt lo here hi =
    rw (le-ltb w.number (f a).number (subst (λ (i : ℕ). (f i).number ≤ w.number) (add-zero a) (le 0 (omega arith))))
    (ap (λ (x : Waiting). x ∷ behind_equals w (seg f (suc a) n))
    (sym (ap g {x = a} {y = a + 0} (omega arith) ∙ lo 0 (omega arith) ∙ ap f {x = a + 0} {y = a} (omega arith)))
    ∙ ap (λ (l : List Waiting). g a ∷ l)
    (behind_run w f g (suc a) p n (omega arith)
    (λ j hj. subst (λ (i : ℕ). (f i).number ≤ w.number) {x = a + suc j} {y = suc a + j} (omega arith) (le (suc j) (omega arith)))
    (λ hp. subst (λ (i : ℕ). w.number < (f i).number) {x = a + suc p} {y = suc a + p} (omega arith) (lt (omega arith)))
    (λ j hj. ap g {x = suc a + j} {y = a + suc j} (omega arith) ∙ lo (suc j) (omega arith) ∙ ap f {x = a + suc j} {y = suc a + j} (omega arith))
    (ap g {x = suc a + p} {y = a + suc p} (omega arith) ∙ here)
    (λ j b c. ap g {x = suc a + j + 1} {y = a + suc j + 1} (omega arith) ∙ hi (suc j) (omega arith) (omega arith) ∙ ap f {x = a + suc j} {y = suc a + j} (omega arith))))

-- ---- the queue that results

module _ (t : Tracker) (s : ℕ) (hr : HasRoom t s) (long_l : length t.lengths ≡ 16) (n : ℕ) (d : ℤ) {ns : List ℕ} {ds : List ℤ} (q : QueueOf t s ns ds)
    (place : ℕ) (placed : Placed ns n place) where
  abbrev count : ℕ
  count = get_or t.lengths s 0

  module _ (ys : List ℕ) (zs : List ℤ) (pn : PutIn t.numbers ys (s * 32 + place) (s * 32 + count) n) (pd : PutIn t.deltas zs (s * 32 + place) (s * 32 + count) d) where
    abbrev put : Tracker
    put = record { slots = t.slots; numbers = ys; deltas = zs; lengths = set t.lengths s (count + 1); next = t.next }

    keeps : {A : Type 0} (z : A) (xs xs' : List A) (x : A) → PutIn xs xs' (s * 32 + place) (s * 32 + count) x
        → (i j : ℕ) → (i ≡ s → ⊥) → j < 32 → Dec (i < s) → get_or xs' (i * 32 + j) z ≡ get_or xs (i * 32 + j) z
    keeps z xs xs' x r i j ne hj (yes lt) = r.low (i * 32 + j) z (omega arith)
    keeps z xs xs' x r i j ne hj (no ge) = r.high (i * 32 + j) z (omega (arith, hr.free))

    others : (i : ℕ) → i < 16 → (i ≡ s → ⊥) → run_of put i ≡ run_of t i
    others i hi ne =
        ap (run ys zs (i * 32)) (get_or-set_other t.lengths s i (count + 1) 0 ne)
        ∙ run_ext t put (i * 32) (i * 32) (get_or t.lengths i 0)
        (λ j hj. keeps 0 t.numbers ys n pn i j ne (omega (arith, hr.roomy.room i hi)) (dec_lt i s))
        (λ j hj. keeps (pos 0) t.deltas zs d pd i j ne (omega (arith, hr.roomy.room i hi)) (dec_lt i s))

    here : run_of put s ≡ behind_equals (record { number = n; delta = d }) (queue (view t) s)
    here =
        ap (run ys zs (s * 32)) (get_or-set_same t.lengths s (count + 1) 0 (omega (arith, hr.on_shard)) ∙ add-one count)
        ∙ sym (ap (behind_equals (record { number = n; delta = d })) (queue_is t s hr.on_shard)
        ∙ behind_run (record { number = n; delta = d }) (waiting_at t.numbers t.deltas) (waiting_at ys zs) (s * 32) place count (omega (arith, placed.within, q.count))
        (λ j hj. rw (← (number_at t s hr.on_shard q j (omega (arith, placed.within, q.count)))) (placed.before j hj))
        (λ hp. rw (← (number_at t s hr.on_shard q place hp)) (placed.larger (omega (arith, q.count))))
        (λ j hj. waiting_eq (pn.low (s * 32 + j) 0 (omega arith)) (pd.low (s * 32 + j) (pos 0) (omega arith)))
        (waiting_eq (pn.here 0) (pd.here (pos 0)))
        (λ j a b. waiting_eq (pn.moved (s * 32 + j) 0 (omega arith) (omega arith)) (pd.moved (s * 32 + j) (pos 0) (omega arith) (omega arith))))

    pub insert_law : view put ≡ inserted (view t) s n d
    unfolding inserted view
    insert_law = one_queue t put s _ hr.on_shard refl refl others here
