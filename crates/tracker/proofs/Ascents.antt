-- Queues that ascend: the test by neighbours, what keeps the ascent, and what a limit takes of such a queue.
-- Assumes nothing.
use mathlib.Core.Path.{◌≡◌, refl, sym, ap, ◌∙◌, subst}
use mathlib.Core.Bool.{Bool, true, false, cond, false≢true}
use mathlib.Core.List.{List, [], ◌∷◌, ◌++◌}
use Prim.Native.Nat.{ℕ, zero, suc, ◌+◌, ◌-◌, ◌≤◌, ◌<◌}
use native.Mathlib.Nat.{zero-add, add-zero}
use native.Mathlib.Omega.{arith}
use lib.ListN.{length, get_or, drop}
use lib.IntN.{ℤ, pos, ◌+ℤ◌}
use lib.Dec.{ltb, leb}
use borrow.Author.Tests.{lt-ltb, le-ltb, lt-leb, le-leb, ltb-true, ltb-false, leb-true}
use Rattle.std.specs.Bool.{MatchBool}
use Rattle.std.specs.Prelude.{Some}
use Rattle.std.specs.Ordering.{nat_cmp, is_le, is_some_and}
use Rattle.std.specs.List.{IsAllAdjacentAnswer}
use Rattle.std.specs.List.Sorted.{IsNonDecreasing}
use Rattle.std.proofs.lemmas.List.Sorted.{non_decreasing_from_is_sorted}
use Rattle.std.proofs.lemmas.Bool.{and_parts, and_from}
use Rattle.tracker.specs.State.{Waiting, seg, waiting_at, behind_equals}
use Rattle.tracker.specs.Sound.{every, ascends, all_below}
use Rattle.tracker.specs.Sums.{sum_front, count_front, past_front}
use Rattle.tracker.specs.Order.{below, not_below, sum_deltas, PutByNumber}
use Rattle.tracker.specs.Inner.{queue_from, neighbours_ascend, numbers_below, neighbours_ascend_from}
use Rattle.tracker.proofs.Runs.{every_all, every_snoc, every_weaker, all_at, all_true, all_false, all_same}

-- w is above none of ws
abbrev at_most_each : Waiting → List Waiting → Bool
at_most_each w ws = every (λ (x : Waiting). leb w.number x.number) ws

-- above none of an ascending queue, by its first alone
at_most_all : (w x : Waiting) (q : List Waiting) → w.number ≤ x.number → ascends (x ∷ q) ≡ true → at_most_each w (x ∷ q) ≡ true
at_most_all w x q h e = and_from (leb w.number x.number) (at_most_each w q) (le-leb _ _ h)
    (every_weaker (λ (y : Waiting). leb x.number y.number) (λ (y : Waiting). leb w.number y.number)
    (λ y p. le-leb w.number y.number (let g : x.number ≤ y.number = leb-true _ _ p in omega arith)) q ((and_parts (at_most_each x q) (ascends q) e).0))

-- ---- neighbours

module _ (f : ℕ → Waiting) where
  -- the number at a place and at the one behind it
  abbrev Rises : ℕ → ℕ → Type 0
  Rises a j = (f (a + j)).number ≤ (f (a + j + 1)).number

  rises_on : (a j : ℕ) → Rises a (suc j) → Rises (suc a) j
  rises_on a j = subst (λ (i : ℕ). (f i).number ≤ (f (i + 1)).number) {x = a + suc j} {y = suc a + j} (omega arith)

  rises_back : (a j : ℕ) → Rises (suc a) j → Rises a (suc j)
  rises_back a j = subst (λ (i : ℕ). (f i).number ≤ (f (i + 1)).number) {x = suc a + j} {y = a + suc j} (omega arith)

  rises_first : (a : ℕ) → Rises a 0 → (f a).number ≤ (f (suc a)).number
  rises_first a h = subst (λ (i : ℕ). (f a).number ≤ (f i).number) {x = a + 1} {y = suc a} (omega arith)
      (subst (λ (i : ℕ). (f i).number ≤ (f (i + 1)).number) {x = a + 0} {y = a} (omega arith) h)

  first_rises : (a : ℕ) → (f a).number ≤ (f (suc a)).number → Rises a 0
  first_rises a h = subst (λ (i : ℕ). (f i).number ≤ (f (i + 1)).number) {x = a} {y = a + 0} (omega arith)
      (subst (λ (i : ℕ). (f a).number ≤ (f i).number) {x = suc a} {y = a + 1} (omega arith) h)

  run_ascends : (a n : ℕ) → ((j : ℕ) → j < n - 1 → Rises a j) → ascends (seg f a n) ≡ true
  run_ascends a zero h = refl
  run_ascends a (suc zero) h = refl
  run_ascends a (suc (suc n)) h =
      let rest = run_ascends (suc a) (suc n) (λ j p. rises_on a j (h (suc j) (omega arith))) in
      and_from (at_most_each (f a) (seg f (suc a) (suc n))) (ascends (seg f (suc a) (suc n)))
      (at_most_all (f a) (f (suc a)) (seg f (suc (suc a)) n) (rises_first a (h 0 (omega arith))) rest) rest

  ascends_run : (a n : ℕ) → ascends (seg f a n) ≡ true → (j : ℕ) → j < n - 1 → Rises a j
  ascends_run a zero e j h = absurd (omega arith)
  ascends_run a (suc zero) e j h = absurd (omega arith)
  ascends_run a (suc (suc n)) e zero h =
      first_rises a (leb-true _ _ ((and_parts (leb (f a).number (f (suc a)).number) (at_most_each (f a) (seg f (suc (suc a)) n)) ((and_parts (at_most_each (f a) (seg f (suc a) (suc n))) (ascends (seg f (suc a) (suc n))) e).0)).0))
  ascends_run a (suc (suc n)) e (suc j) h =
      rises_back a j (ascends_run (suc a) (suc n) ((and_parts (at_most_each (f a) (seg f (suc a) (suc n))) (ascends (seg f (suc a) (suc n))) e).1) j (omega arith))

-- a queue ascends exactly if its neighbours do
pub ascends_all : (ns : List ℕ) (ds : List ℤ) (base n : ℕ) → ascends (seg (waiting_at ns ds) base n) ≡ neighbours_ascend_from ns base n
ascends_all ns ds base n = by (ascends (seg (waiting_at ns ds) base n)) refl (neighbours_ascend_from ns base n) refl
  where
    by : (a : Bool) → ascends (seg (waiting_at ns ds) base n) ≡ a → (b : Bool) → neighbours_ascend_from ns base n ≡ b → a ≡ b
    by true ea true eb = refl
    by false ea false eb = refl
    by true ea false eb =
        absurd (false≢true (sym eb ∙ all_true (λ (j : ℕ). leb (get_or ns (base + j) 0) (get_or ns (base + j + 1) 0)) (n - 1)
        (λ j h. le-leb _ _ (ascends_run (waiting_at ns ds) base n ea j h))))
    by false ea true eb =
        absurd (false≢true (sym ea ∙ run_ascends (waiting_at ns ds) base n
        (λ j h. leb-true _ _ (all_at (λ (j : ℕ). leb (get_or ns (base + j) 0) (get_or ns (base + j + 1) 0)) (n - 1) eb j h))))

-- and where it is a list of its own
pub ascends_queue : (ns : List ℕ) (ds : List ℤ) → ascends (queue_from ns ds) ≡ neighbours_ascend ns
ascends_queue ns ds = by (ascends (queue_from ns ds)) refl (neighbours_ascend ns) refl
  where
    by : (a : Bool) → ascends (queue_from ns ds) ≡ a → (b : Bool) → neighbours_ascend ns ≡ b → a ≡ b
    by true ea true eb = refl
    by false ea false eb = refl
    by true ea false eb =
        absurd (false≢true (sym eb ∙ all_true (λ (j : ℕ). leb (get_or ns j 0) (get_or ns (j + 1) 0)) (length ns - 1)
        (λ j h. let r = ascends_run (waiting_at ns ds) 0 (length ns) ea j h in le-leb _ _ (rw zero-add at r))))
    by false ea true eb =
        absurd (false≢true (sym ea ∙ run_ascends (waiting_at ns ds) 0 (length ns)
        (λ j h. rw zero-add (leb-true _ _ (all_at (λ (j : ℕ). leb (get_or ns j 0) (get_or ns (j + 1) 0)) (length ns - 1) eb j h)))))

-- all are below the next number exactly if their numbers are
pub below_all : (ns : List ℕ) (ds : List ℤ) (next : ℕ) → every (λ (w : Waiting). ltb w.number next) (queue_from ns ds) ≡ numbers_below ns next
below_all ns ds next =
    every_all (λ (w : Waiting). ltb w.number next) (waiting_at ns ds) 0 (length ns)
    ∙ all_same (λ (j : ℕ). ltb (get_or ns (0 + j) 0) next) (λ (j : ℕ). ltb (get_or ns j 0) next) (length ns) (λ j h. rw zero-add)

-- what the library's test of an order tells
pub sorted_tells : (ns : List ℕ) (r : Bool) → IsAllAdjacentAnswer (λ x y b. is_some_and is_le (Some (nat_cmp x y)) ≡ b) ns r → r ≡ neighbours_ascend ns
sorted_tells ns r h = by r (non_decreasing_from_is_sorted ns r h)
  where
    by : (b : Bool) → MatchBool b (IsNonDecreasing ns) ((k : ℕ) × (k + 1 < length ns) × ((d : ℕ) → get_or ns (k + 1) d < get_or ns k d)) → b ≡ neighbours_ascend ns
    by true m = sym (all_true (λ (j : ℕ). leb (get_or ns j 0) (get_or ns (j + 1) 0)) (length ns - 1) (λ j hj. le-leb _ _ (m j (j + 1) 0 (omega arith) (omega arith))))
    by false m =
        sym (all_false (λ (j : ℕ). leb (get_or ns j 0) (get_or ns (j + 1) 0)) (length ns - 1) m.0 (let k = m.1 in omega arith) (lt-leb _ _ (m.2 0)))

-- and what its test by a closure tells, of a queue or of what is the whole of it
pub sorted_by_tells : (ns tested : List ℕ) (r : Bool) → IsAllAdjacentAnswer (λ x y b. b ≡ leb x y) tested r → tested ≡ ns → r ≡ neighbours_ascend ns
sorted_by_tells ns tested r h whole = by r h ∙ ap neighbours_ascend whole
  where
    by : (b : Bool) → IsAllAdjacentAnswer (λ x y b. b ≡ leb x y) tested b → b ≡ neighbours_ascend tested
    by true m = sym (all_true (λ (j : ℕ). leb (get_or tested j 0) (get_or tested (j + 1) 0)) (length tested - 1) (λ j hj. sym (m j 0 (omega arith))))
    by false m =
        sym (all_false (λ (j : ℕ). leb (get_or tested j 0) (get_or tested (j + 1) 0)) (length tested - 1) m.0 (let k = m.1 in omega arith) (sym (m.2 0)))

-- where neighbours ascend the last number is the largest, so it tells whether all are below a limit
module _ (numbers : List ℕ) (base count : ℕ) (e : neighbours_ascend_from numbers base count ≡ true) where
  later_from : (j d : ℕ) → j + d < count → get_or numbers (base + j) 0 ≤ get_or numbers (base + (j + d)) 0
  later_from j zero h = subst (λ (i : ℕ). get_or numbers (base + j) 0 ≤ get_or numbers (base + i) 0) {x = j} {y = j + 0} (omega arith) (omega arith)
  later_from j (suc d) h =
      let before = later_from j d (omega arith) in
      let step : get_or numbers (base + (j + d)) 0 ≤ get_or numbers (base + (j + d) + 1) 0 =
      leb-true _ _ (all_at (λ (i : ℕ). leb (get_or numbers (base + i) 0) (get_or numbers (base + i + 1) 0)) (count - 1) e (j + d) (omega arith)) in
      subst (λ (i : ℕ). get_or numbers (base + j) 0 ≤ get_or numbers i 0) {x = base + (j + d) + 1} {y = base + (j + suc d)} (omega arith) (omega arith)

  pub last_tells : (next : ℕ) → 0 < count → ltb (get_or numbers (base + count - 1) 0) next ≡ all_below (λ (j : ℕ). ltb (get_or numbers (base + j) 0) next) count
  last_tells next h = by (ltb (get_or numbers (base + count - 1) 0) next) refl
    where
      last : (j : ℕ) → j < count → get_or numbers (base + j) 0 ≤ get_or numbers (base + count - 1) 0
      last j hj =
          subst (λ (i : ℕ). get_or numbers (base + j) 0 ≤ get_or numbers i 0) {x = base + (j + (count - 1 - j))} {y = base + count - 1} (omega arith)
          (later_from j (count - 1 - j) (omega arith))

      by : (b : Bool) → ltb (get_or numbers (base + count - 1) 0) next ≡ b → b ≡ all_below (λ (j : ℕ). ltb (get_or numbers (base + j) 0) next) count
      by true t =
          let below : get_or numbers (base + count - 1) 0 < next = ltb-true _ _ t in
          sym (all_true _ count (λ j hj. lt-ltb (get_or numbers (base + j) 0) next (omega (arith, last j hj))))
      by false t =
          sym (all_false (λ (j : ℕ). ltb (get_or numbers (base + j) 0) next) count (count - 1) (omega arith)
          (ap (λ (i : ℕ). ltb (get_or numbers i 0) next) {x = base + (count - 1)} {y = base + count - 1} (omega arith) ∙ t))

-- and where the queue is a list of its own
module _ (numbers : List ℕ) (e : neighbours_ascend numbers ≡ true) where
  at_most_later : (j d : ℕ) → j + d < length numbers → get_or numbers j 0 ≤ get_or numbers (j + d) 0
  at_most_later j zero h = rw add-zero (omega arith)
  at_most_later j (suc d) h =
      let before = at_most_later j d (omega arith) in
      let step : get_or numbers (j + d) 0 ≤ get_or numbers (j + d + 1) 0 =
      leb-true _ _ (all_at (λ (i : ℕ). leb (get_or numbers i 0) (get_or numbers (i + 1) 0)) (length numbers - 1) e (j + d) (omega arith)) in
      subst (λ (i : ℕ). get_or numbers j 0 ≤ get_or numbers i 0) {x = j + d + 1} {y = j + suc d} (omega arith) (omega arith)

  pub last_of_queue_tells : (next : ℕ) → 0 < length numbers → ltb (get_or numbers (length numbers - 1) 0) next ≡ numbers_below numbers next
  last_of_queue_tells next h = by (ltb (get_or numbers (length numbers - 1) 0) next) refl
    where
      last : (j : ℕ) → j < length numbers → get_or numbers j 0 ≤ get_or numbers (length numbers - 1) 0
      last j hj =
          subst (λ (i : ℕ). get_or numbers j 0 ≤ get_or numbers i 0) {x = j + (length numbers - 1 - j)} {y = length numbers - 1} (omega arith)
          (at_most_later j (length numbers - 1 - j) (omega arith))

      by : (b : Bool) → ltb (get_or numbers (length numbers - 1) 0) next ≡ b → b ≡ numbers_below numbers next
      by true t =
          let below : get_or numbers (length numbers - 1) 0 < next = ltb-true _ _ t in
          sym (all_true _ (length numbers) (λ j hj. lt-ltb (get_or numbers j 0) next (omega (arith, last j hj))))
      by false t = sym (all_false (λ (j : ℕ). ltb (get_or numbers j 0) next) (length numbers) (length numbers - 1) (omega arith) t)

-- ---- what keeps the ascent

-- at the back, a number that none is above
pub ascends_snoc : (q : List Waiting) (w : Waiting) → ascends q ≡ true → every (λ (x : Waiting). leb x.number w.number) q ≡ true → ascends (q ++ (w ∷ [])) ≡ true
ascends_snoc [] w e h = refl
ascends_snoc (x ∷ q) w e h =
    and_from (at_most_each x (q ++ (w ∷ []))) (ascends (q ++ (w ∷ [])))
    (every_snoc (λ (y : Waiting). leb x.number y.number) q w
    ∙ and_from (at_most_each x q) (leb x.number w.number) ((and_parts (at_most_each x q) (ascends q) e).0) ((and_parts (leb x.number w.number) _ h).0))
    (ascends_snoc q w ((and_parts (at_most_each x q) (ascends q) e).1) ((and_parts (leb x.number w.number) _ h).1))

pub ascends_drop : (n : ℕ) (q : List Waiting) → ascends q ≡ true → ascends (drop n q) ≡ true
ascends_drop zero q e = e
ascends_drop (suc n) [] e = e
ascends_drop (suc n) (x ∷ q) e = ascends_drop n q ((and_parts (at_most_each x q) (ascends q) e).1)

pub every_behind : (p : Waiting → Bool) (w : Waiting) (q : List Waiting) → p w ≡ true → every p q ≡ true → every p (behind_equals w q) ≡ true
every_behind p w [] a b = and_from (p w) true a refl
every_behind p w (x ∷ q) a b = by (ltb w.number x.number) (every_behind p w q a ((and_parts (p x) (every p q) b).1))
  where
    by : (c : Bool) → every p (behind_equals w q) ≡ true → every p (cond c (w ∷ x ∷ q) (x ∷ behind_equals w q)) ≡ true
    by true r = and_from (p w) (every p (x ∷ q)) a b
    by false r = and_from (p x) (every p (behind_equals w q)) ((and_parts (p x) (every p q) b).0) r

pub length_behind : (w : Waiting) (q : List Waiting) → length (behind_equals w q) ≡ suc (length q)
length_behind w [] = refl
length_behind w (x ∷ q) = by (ltb w.number x.number) (length_behind w q)
  where
    by : (c : Bool) → length (behind_equals w q) ≡ suc (length q) → length (cond c (w ∷ x ∷ q) (x ∷ behind_equals w q)) ≡ suc (suc (length q))
    by true h = refl
    by false h = ap suc h

pub ascends_behind : (w : Waiting) (q : List Waiting) → ascends q ≡ true → ascends (behind_equals w q) ≡ true
ascends_behind w [] e = refl
ascends_behind w (x ∷ q) e = by (ltb w.number x.number) refl (ascends_behind w q ((and_parts (at_most_each x q) (ascends q) e).1))
  where
    by : (c : Bool) → ltb w.number x.number ≡ c → ascends (behind_equals w q) ≡ true → ascends (cond c (w ∷ x ∷ q) (x ∷ behind_equals w q)) ≡ true
    by true ec r = and_from (at_most_each w (x ∷ q)) (ascends (x ∷ q)) (at_most_all w x q (let h : w.number < x.number = ltb-true _ _ ec in omega arith) e) e
    by false ec r =
        and_from (at_most_each x (behind_equals w q)) (ascends (behind_equals w q))
        (every_behind (λ (y : Waiting). leb x.number y.number) w q (le-leb x.number w.number (ltb-false _ _ ec)) ((and_parts (at_most_each x q) (ascends q) e).0)) r

-- ---- where the insertion puts its delta

-- whatever stands in front without a larger number, and behind with none but larger ones: w goes between
pub between : (w : Waiting) (front back : List Waiting) → every (λ (x : Waiting). leb x.number w.number) front ≡ true
    → every (λ (x : Waiting). ltb w.number x.number) back ≡ true → behind_equals w (front ++ back) ≡ front ++ (w ∷ back)
between w [] [] a b = refl
between w [] (x ∷ back) a b = rw ((and_parts (ltb w.number x.number) _ b).0)
between w (x ∷ front) back a b =
    rw (le-ltb w.number x.number (leb-true _ _ ((and_parts (leb x.number w.number) _ a).0)))
    (ap (λ (l : List Waiting). x ∷ l) (between w front back ((and_parts (leb x.number w.number) _ a).1) b))

-- an ascending queue has such a place
pub put_by_number : (w : Waiting) (q : List Waiting) → ascends q ≡ true → PutByNumber w q (behind_equals w q)
put_by_number w [] e = record { front = []; back = []; was = refl; none_larger = refl; all_larger = refl; is = refl }
put_by_number w (x ∷ q) e = by (ltb w.number x.number) refl (put_by_number w q ((and_parts (at_most_each x q) (ascends q) e).1))
  where
    by : (c : Bool) → ltb w.number x.number ≡ c → PutByNumber w q (behind_equals w q) → PutByNumber w (x ∷ q) (cond c (w ∷ x ∷ q) (x ∷ behind_equals w q))
    by true ec r = record {
      front = [];
      back = x ∷ q;
      was = refl;
      none_larger = refl;
      all_larger = and_from (ltb w.number x.number) _ ec
          (every_weaker (λ (y : Waiting). leb x.number y.number) (λ (y : Waiting). ltb w.number y.number)
          (λ y p. lt-ltb w.number y.number (let h : w.number < x.number = ltb-true _ _ ec in let g : x.number ≤ y.number = leb-true _ _ p in omega arith)) q
          ((and_parts (at_most_each x q) (ascends q) e).0));
      is = refl;
    }
    by false ec r = record {
      front = x ∷ r.front;
      back = r.back;
      was = ap (λ (l : List Waiting). x ∷ l) r.was;
      none_larger = and_from (leb x.number w.number) _ (le-leb x.number w.number (ltb-false _ _ ec)) r.none_larger;
      all_larger = r.all_larger;
      is = ap (λ (l : List Waiting). x ∷ l) r.is;
    }

-- a number that none is above goes to the back
pub behind_all : (w : Waiting) (q : List Waiting) → every (λ (x : Waiting). leb x.number w.number) q ≡ true → behind_equals w q ≡ q ++ (w ∷ [])
behind_all w [] h = refl
behind_all w (x ∷ q) h =
    rw (le-ltb w.number x.number (leb-true _ _ ((and_parts (leb x.number w.number) _ h).0)))
    (ap (λ (l : List Waiting). x ∷ l) (behind_all w q ((and_parts (leb x.number w.number) _ h).1)))

-- ---- what a limit takes

module _ (limit : ℕ) where
  -- behind a number at or above the limit none is below it
  none_below : (w : Waiting) (q : List Waiting) → limit ≤ w.number → at_most_each w q ≡ true → below limit q ≡ []
  none_below w [] h e = refl
  none_below w (x ∷ q) h e =
      let g : w.number ≤ x.number = leb-true _ _ ((and_parts (leb w.number x.number) (at_most_each w q) e).0) in
      rw (le-ltb x.number limit (omega arith)) (none_below w q h ((and_parts (leb w.number x.number) (at_most_each w q) e).1))

  all_left : (w : Waiting) (q : List Waiting) → limit ≤ w.number → at_most_each w q ≡ true → not_below limit q ≡ q
  all_left w [] h e = refl
  all_left w (x ∷ q) h e =
      let g : w.number ≤ x.number = leb-true _ _ ((and_parts (leb w.number x.number) (at_most_each w q) e).0) in
      rw (le-ltb x.number limit (omega arith)) (ap (λ (l : List Waiting). x ∷ l) (all_left w q h ((and_parts (leb w.number x.number) (at_most_each w q) e).1)))

  pub front_sum : (q : List Waiting) → ascends q ≡ true → sum_front limit q ≡ sum_deltas (below limit q)
  front_sum [] e = refl
  front_sum (w ∷ q) e = by (ltb w.number limit) refl (front_sum q ((and_parts (at_most_each w q) (ascends q) e).1))
    where
      by : (c : Bool) → ltb w.number limit ≡ c → sum_front limit q ≡ sum_deltas (below limit q)
          → cond c (w.delta +ℤ sum_front limit q) (pos 0) ≡ sum_deltas (cond c (w ∷ below limit q) (below limit q))
      by true ec r = ap (λ (z : ℤ). w.delta +ℤ z) r
      by false ec r = sym (ap sum_deltas (none_below w q (ltb-false _ _ ec) ((and_parts (at_most_each w q) (ascends q) e).0)))

  pub front_rest : (q : List Waiting) → ascends q ≡ true → past_front limit q ≡ not_below limit q
  front_rest [] e = refl
  front_rest (w ∷ q) e = by (ltb w.number limit) refl (front_rest q ((and_parts (at_most_each w q) (ascends q) e).1))
    where
      by : (c : Bool) → ltb w.number limit ≡ c → past_front limit q ≡ not_below limit q
          → drop (cond c (suc (count_front limit q)) 0) (w ∷ q) ≡ cond c (not_below limit q) (w ∷ not_below limit q)
      by true ec r = r
      by false ec r = ap (λ (l : List Waiting). w ∷ l) (sym (all_left w q (ltb-false _ _ ec) ((and_parts (at_most_each w q) (ascends q) e).0)))
