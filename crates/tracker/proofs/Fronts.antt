-- The loop over the front of a queue: what it has passed, and what is left.
-- Assumes nothing.
use mathlib.Core.Path.{◌≡◌, sym, ap, ◌∙◌, subst}
use mathlib.Core.List.{List, [], ◌∷◌}
use Prim.Native.Nat.{ℕ, suc, ◌+◌, ◌-◌, ◌*◌, ◌≤◌, ◌<◌}
use native.Mathlib.Nat.{zero-add, sub-zero}
use native.Mathlib.Omega.{arith}
use lib.ListN.{length, get_or}
use lib.IntN.{ℤ, pos, ◌+ℤ◌, nat_abs, +ℤ_idl, +ℤ_idr, +ℤ_assoc}
use borrow.Author.Tests.{lt-ltb, le-ltb}
use Rattle.tracker.specs.State.{Waiting, waiting_at, seg}
use Rattle.tracker.specs.Sums.{sum_front, count_front}
use Rattle.tracker.specs.Inner.{queue_from, Fronted}
use Rattle.tracker.proofs.Runs.{seg_cons, length_seg}
use Rattle.tracker.proofs.Ints.{abs_add}

module _ (ns : List ℕ) (ds : List ℤ) where
  -- the queue from its i-th entry
  abbrev rest_of : ℕ → List Waiting
  rest_of i = seg (waiting_at ns ds) i (length ns - i)

  pub record Passed (limit i : ℕ) (z : ℤ) : Type 0 where
    pub small : nat_abs z ≤ 128 * i
    pub sums : sum_front limit (queue_from ns ds) ≡ z +ℤ sum_front limit (rest_of i)
    pub counts : count_front limit (queue_from ns ds) ≡ i + count_front limit (rest_of i)

  module _ (limit : ℕ) where
    -- at the first entry nothing is passed
    pub passed_start : Passed limit 0 (pos 0)
    passed_start = record { small = omega arith; sums = rw (+ℤ_idl, sub-zero); counts = rw (zero-add, sub-zero) }

    rest_cons : (i : ℕ) → i < length ns → rest_of i ≡ waiting_at ns ds i ∷ rest_of (i + 1)
    rest_cons i h =
        seg_cons (waiting_at ns ds) i (length ns - i) (omega arith)
        ∙ ap (λ (k : ℕ). waiting_at ns ds i ∷ seg (waiting_at ns ds) (i + 1) k) {x = length ns - i - 1} {y = length ns - (i + 1)} (omega arith)

    -- an entry below the limit
    module _ (i : ℕ) (hi : i < length ns) (hn : get_or ns i 0 < limit) where
      sum_step : sum_front limit (rest_of i) ≡ get_or ds i (pos 0) +ℤ sum_front limit (rest_of (i + 1))
      sum_step = ap (sum_front limit) (rest_cons i hi) ∙ rw (lt-ltb _ _ hn)

      count_step : count_front limit (rest_of i) ≡ suc (count_front limit (rest_of (i + 1)))
      count_step = ap (count_front limit) (rest_cons i hi) ∙ rw (lt-ltb _ _ hn)

      pub passed_more : (z d : ℤ) → d ≡ get_or ds i (pos 0) → nat_abs d ≤ 128 → Passed limit i z → Passed limit (i + 1) (z +ℤ d)
      passed_more z d ed small p = record {
        small = omega (arith, abs_add z d, p.small);
        sums = p.sums ∙ ap (λ (x : ℤ). z +ℤ x) sum_step ∙ rw (← ed) (sym (+ℤ_assoc z d (sum_front limit (rest_of (i + 1)))));
        counts = omega (arith, p.counts, count_step);
      }

    -- nothing more counts: the rest has neither sum nor count
    ends : (i : ℕ) (z : ℤ) → i ≤ length ns → sum_front limit (rest_of i) ≡ pos 0 → count_front limit (rest_of i) ≡ 0 → Passed limit i z
        → Fronted limit (queue_from ns ds) (record { count = i; sum = z })
    ends i z hi es ec p = record {
      count_is = omega (arith, p.counts);
      sum_is = sym (p.sums ∙ ap (λ (x : ℤ). z +ℤ x) es ∙ +ℤ_idr z);
      small = p.small;
      within = omega (arith, length_seg (waiting_at ns ds) 0 (length ns));
    }

    -- an entry at or above the limit
    pub passed_stop : (i : ℕ) (z : ℤ) → i < length ns → limit ≤ get_or ns i 0 → Passed limit i z → Fronted limit (queue_from ns ds) (record { count = i; sum = z })
    passed_stop i z hi hn p =
        ends i z (omega arith) (ap (sum_front limit) (rest_cons i hi) ∙ rw (le-ltb _ _ hn)) (ap (count_front limit) (rest_cons i hi) ∙ rw (le-ltb _ _ hn)) p

    -- the end of the queue
    pub passed_end : (i : ℕ) (z : ℤ) → i ≡ length ns → Passed limit i z → Fronted limit (queue_from ns ds) (record { count = length ns; sum = z })
    passed_end i z e p = ends (length ns) z (omega arith) (ap (sum_front limit) none) (ap (count_front limit) none) (subst (λ (k : ℕ). Passed limit k z) e p)
      where
        none : rest_of (length ns) ≡ []
        none = ap (seg (waiting_at ns ds) (length ns)) {x = length ns - length ns} {y = 0} (omega arith)
