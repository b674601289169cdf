-- Runs of bytes put over a region: what stands in them, before them and behind them, and one run put behind another.
-- Assumes nothing.
use Prim.Native.Nat.{ℕ, ◌+◌, ◌-◌, ◌/◌, ◌^◌, ◌<◌, ◌≤◌, suc}
use mathlib.Core.Path.{◌≡◌, refl, sym, ap, ap₂, ◌∙◌}
use mathlib.Core.List.{List, [], ◌++◌, append_assoc, ◌∷◌}
use native.Mathlib.Omega.{arith}
use native.Mathlib.Nat.{add-zero}
use borrow.Rule.Slice.PartMut.{put_mid}
use lib.ListN.{length, take, drop, get_or, length-append, length-take, length-drop, take-append-drop, get_or-append, set}
use lib.Seq.{length-take-le, take_at, drop_at, drop-drop, drop-append-add, get_or-append-add, get_or-take, get_or-drop, drop-cons, set_at}
use Rattle.fields.specs.Numbers.{bytes_of}
use Rattle.fields.specs.Runs.{over}
use Rattle.fields.proofs.Widths.{bytes_length, bytes_join}

module _ (region : List ℕ) (at : ℕ) where
  pub over_nothing : over region at [] ≡ region
  unfolding over
  over_nothing = rw add-zero (take-append-drop at region)

  pub over_length : (run : List ℕ) → at + length run ≤ length region → length (over region at run) ≡ length region
  unfolding over
  over_length run h = simp (length-append, length-take, length-drop) (omega arith)

  -- what stands before the run and the run itself, in one
  regroup : (run : List ℕ) → over region at run ≡ (take at region ++ run) ++ drop (at + length run) region
  unfolding over
  regroup run = simp append_assoc

  front_length : (run : List ℕ) → at ≤ length region → length (take at region ++ run) ≡ at + length run
  front_length run h = simp (length-append, length-take) (omega arith)

  -- a run behind a run is one run
  pub over_over : (first second : List ℕ) → at + length first ≤ length region → over (over region at first) (at + length first) second ≡ over region at (first ++ second)
  unfolding over
  over_over first second h =
      let k = at + length first in
      let front : length (take at region ++ first) ≡ k = front_length first (omega arith) in
      let before : take k (over region at first) ≡ take at region ++ first = ap (take k) (regroup first) ∙ take_at (take at region ++ first) (drop k region) k front in
      let behind : drop (k + length second) (over region at first) ≡ drop (k + length second) region =
      ap (drop (k + length second)) (regroup first)
      ∙ ap (λ (m : ℕ). drop (m + length second) ((take at region ++ first) ++ drop k region)) (sym front)
      ∙ drop-append-add (take at region ++ first) (drop k region) (length second)
      ∙ drop-drop (length second) k region in
      let n : at + length (first ++ second) ≡ k + length second = simp length-append (omega arith) in
      ap₂ (λ (x y : List ℕ). x ++ (second ++ y)) before behind
      ∙ ap (λ (m : ℕ). (take at region ++ first) ++ (second ++ drop m region)) (sym n)
      ∙ simp append_assoc

  -- one byte behind a run
  pub over_set : (run : List ℕ) (i b : ℕ) → length run ≡ i → at + i < length region → set (over region at run) (at + i) b ≡ over region at (run ++ b ∷ [])
  over_set run i b e h =
      let k = at + i in
      let is : at + length run ≡ k = ap (λ (m : ℕ). at + m) e in
      let parted : over region at run ≡ (take at region ++ run) ++ (get_or region k 0 ∷ drop (suc k) region) =
      regroup run ∙ ap (λ (m : ℕ). (take at region ++ run) ++ drop m region) is ∙ ap (λ (t : List ℕ). (take at region ++ run) ++ t) (drop-cons region k 0 h) in
      let n : at + length (run ++ b ∷ []) ≡ suc k = simp length-append (omega arith) in
      ap (λ (t : List ℕ). set t k b) parted
      ∙ set_at (take at region ++ run) (get_or region k 0) (drop (suc k) region) b k (front_length run (omega arith) ∙ is)
      ∙ sym (regroup (run ++ b ∷ []) ∙ ap (λ (m : ℕ). (take at region ++ (run ++ b ∷ [])) ++ drop m region) n ∙ simp append_assoc)

  -- a byte of the run, before it and behind it
  pub over_in : (run : List ℕ) (i : ℕ) → at ≤ length region → i < length run → get_or (over region at run) (at + i) 0 ≡ get_or run i 0
  unfolding over
  over_in run i h l =
      ap (λ (m : ℕ). get_or (over region at run) (m + i) 0) (sym (length-take-le at region h))
      ∙ get_or-append-add (take at region) (run ++ drop (at + length run) region) i 0
      ∙ get_or-append run (drop (at + length run) region) 0 i l

  pub over_before : (run : List ℕ) (i : ℕ) → at ≤ length region → i < at → get_or (over region at run) i 0 ≡ get_or region i 0
  unfolding over
  over_before run i h l =
      get_or-append (take at region) (run ++ drop (at + length run) region) 0 i (rw (length-take-le at region h) l)
      ∙ get_or-take at region i 0 l

  pub over_behind : (run : List ℕ) (i : ℕ) → at + length run ≤ length region → at + length run ≤ i → get_or (over region at run) i 0 ≡ get_or region i 0
  over_behind run i h l =
      let k = at + length run in
      let front : length (take at region ++ run) ≡ k = front_length run (omega arith) in
      let e : i ≡ k + (i - k) = omega arith in
      ap₂ (λ (t : List ℕ) (m : ℕ). get_or t m 0) (regroup run) (e ∙ ap (λ (m : ℕ). m + (i - k)) (sym front))
      ∙ get_or-append-add (take at region ++ run) (drop k region) (i - k) 0
      ∙ get_or-drop k region (i - k) 0
      ∙ ap (λ (m : ℕ). get_or region m 0) (sym e)

  -- the bytes from the run's byte h on
  pub over_from : (run : List ℕ) (h : ℕ) → at ≤ length region → drop (at + h) (over region at run) ≡ drop h (run ++ drop (at + length run) region)
  unfolding over
  over_from run h l =
      ap (λ (k : ℕ). drop (k + h) (over region at run)) (sym (length-take-le at region l))
      ∙ drop-append-add (take at region) (run ++ drop (at + length run) region) h

  -- the run read back
  pub over_back : (run : List ℕ) → at ≤ length region → take (length run) (drop at (over region at run)) ≡ run
  unfolding over
  over_back run h =
      ap (take (length run)) (drop_at (take at region) (run ++ drop (at + length run) region) at (length-take-le at region h))
      ∙ take_at run (drop (at + length run) region) (length run) refl

-- the chaining law, for two writers that were called one after the other: the second run begins where the first ends
pub over_then : (region : List ℕ) (at : ℕ) (first second : List ℕ) (k : ℕ) {once twice : List ℕ} → once ≡ over region at first → twice ≡ over once k second → k ≡ at + length first → at + length first ≤ length region → twice ≡ over region at (first ++ second)
over_then region at first second k p q e h =
    q ∙ ap₂ (λ (t : List ℕ) (j : ℕ). over t j second) p e ∙ over_over region at first second h

-- a single byte
pub over_one : (region : List ℕ) (at b : ℕ) → at < length region → set region at b ≡ over region at (b ∷ [])
over_one region at b h =
    ap₂ (λ (t : List ℕ) (k : ℕ). set t k b) (sym (over_nothing region at)) (sym (add-zero at)) ∙ over_set region at [] 0 b refl (omega arith)

-- a number's upper half behind its lower half
pub over_halves : (n : ℕ) (region : List ℕ) (at v : ℕ) {once twice : List ℕ} → once ≡ over region at (bytes_of n v) → twice ≡ over once (at + n) (bytes_of n (v / 256 ^ n)) → at + n ≤ length region → twice ≡ over region at (bytes_of (n + n) v)
over_halves n region at v p q h =
    let l = bytes_length n v in
    over_then region at (bytes_of n v) (bytes_of n (v / 256 ^ n)) (at + n) p q (omega arith) (omega arith)
    ∙ ap (over region at) (sym (bytes_join n n v))

-- a part of the region that a run was written to
pub over_part : (region : List ℕ) (at k : ℕ) {written : List ℕ} (run : List ℕ) → written ≡ run → k ≡ length run → put_mid at k region written ≡ over region at run
unfolding over
over_part region at k run e n = rw (e, n, drop-drop (length run) at region)
