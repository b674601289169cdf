-- A queue whose rest moves to its front.
-- Assumes nothing.
use mathlib.Core.Path.{◌≡◌, refl, sym, ap, ◌∙◌}
use mathlib.Core.List.{List}
use Prim.Native.Nat.{ℕ, ◌+◌, ◌-◌, ◌*◌, ◌≤◌, ◌<◌}
use native.Mathlib.Omega.{arith}
use native.Mathlib.Decide.{ℕ_discrete, dec_lt}
use lib.ListN.{length, get_or, set, drop}
use Rattle.std.specs.List.{CopiedTo, SameBelow, SameFrom}
use lib.Seq.{get_or-set_same, get_or-set_other}
use lib.IntN.{ℤ, pos}
use Rattle.tracker.specs.declared.Tracker.{Tracker}
use Rattle.tracker.specs.State.{waiting_at, view, queue, with_queue}
use Rattle.tracker.specs.Inner.{Roomy}
use Rattle.tracker.proofs.Runs.{drop_seg}
use Rattle.tracker.proofs.Views.{run, queue_is, run_of, run_ext, one_queue}

-- ys is xs with what stood at the places between two moved to those from base on, as `copy_within` leaves it
abbrev pub Slid : {A : Type 0} → List A → List A → ℕ → ℕ → ℕ → Type 0
Slid xs ys base from end = CopiedTo xs ys from base (end - from) × SameBelow xs ys base × SameFrom xs ys (base + (end - from))

-- shard s's queue without its first c entries
module _ (t : Tracker) (rm : Roomy t) (long_l : length t.lengths ≡ 16) (s c : ℕ) (hs : s < 16) (hc : c ≤ get_or t.lengths s 0) (ys : List ℕ) (zs : List ℤ)
    (sn : Slid t.numbers ys (s * 32) (s * 32 + c) (s * 32 + get_or t.lengths s 0)) (sd : Slid t.deltas zs (s * 32) (s * 32 + c) (s * 32 + get_or t.lengths s 0))
    (left : ℕ) (el : left ≡ get_or t.lengths s 0 - c) where
  abbrev cut : Tracker
  cut = record { slots = t.slots; numbers = ys; deltas = zs; lengths = set t.lengths s left; next = t.next }

  length_other : (i : ℕ) → (i ≡ s → ⊥) → get_or cut.lengths i 0 ≡ get_or t.lengths i 0
  length_other i ne = get_or-set_other t.lengths s i left 0 ne

  length_here : get_or cut.lengths s 0 ≡ left
  length_here = get_or-set_same t.lengths s left 0 (omega arith)

  keeps : {A : Type 0} (z : A) (xs xs' : List A) → Slid xs xs' (s * 32) (s * 32 + c) (s * 32 + get_or t.lengths s 0)
      → (i j : ℕ) → (i ≡ s → ⊥) → j < 32 → Dec (i < s) → get_or xs' (i * 32 + j) z ≡ get_or xs (i * 32 + j) z
  keeps z xs xs' sl i j ne hj (yes lt) = sl.1 (i * 32 + j) z (omega arith)
  keeps z xs xs' sl i j ne hj (no ge) = sl.2 (i * 32 + j) z (omega (arith, rm.room s hs))

  moved : {A : Type 0} (z : A) (xs xs' : List A) → Slid xs xs' (s * 32) (s * 32 + c) (s * 32 + get_or t.lengths s 0)
      → (j : ℕ) → j < left → get_or xs' (s * 32 + j) z ≡ get_or xs (s * 32 + c + j) z
  moved z xs xs' sl j h = sl.0 (s * 32 + j) z (omega arith) (omega arith) ∙ ap (λ (k : ℕ). get_or xs k z) {x = s * 32 + c + (s * 32 + j - s * 32)} {y = s * 32 + c + j} (omega arith)

  others : (i : ℕ) → i < 16 → (i ≡ s → ⊥) → run_of cut i ≡ run_of t i
  others i hi ne =
      ap (run ys zs (i * 32)) (length_other i ne)
      ∙ run_ext t cut (i * 32) (i * 32) (get_or t.lengths i 0)
      (λ j hj. keeps 0 t.numbers ys sn i j ne (omega (arith, rm.room i hi)) (dec_lt i s))
      (λ j hj. keeps (pos 0) t.deltas zs sd i j ne (omega (arith, rm.room i hi)) (dec_lt i s))

  here : run_of cut s ≡ drop c (queue (view t) s)
  here =
      ap (run ys zs (s * 32)) length_here
      ∙ run_ext t cut (s * 32) (s * 32 + c) left (moved 0 t.numbers ys sn) (moved (pos 0) t.deltas zs sd)
      ∙ ap (run t.numbers t.deltas (s * 32 + c)) el
      ∙ sym (ap (drop c) (queue_is t s hs) ∙ drop_seg (waiting_at t.numbers t.deltas) (s * 32) (get_or t.lengths s 0) c hc)

  pub cut_view : view cut ≡ with_queue (view t) s (drop c (queue (view t) s))
  unfolding view
  cut_view = one_queue t cut s (drop c (queue (view t) s)) hs refl refl others here

  pub cut_roomy : Roomy cut
  cut_roomy = record { room = λ i hi. by i hi (ℕ_discrete i s) }
    where
      by : (i : ℕ) → i < 16 → Dec (i ≡ s) → get_or (set t.lengths s left) i 0 ≤ 32
      by i hi (yes e) = rw (ap (λ (k : ℕ). get_or cut.lengths k 0) e ∙ length_here) (omega (arith, rm.room s hs))
      by i hi (no ne) = rw (length_other i ne) (rm.room i hi)
