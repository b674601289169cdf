-- A line's trial looks at the region's length and at the entry's own bytes alone.
-- Assumes nothing.
use Prim.Native.Nat.{ℕ, ◌+◌, ◌-◌, ◌<◌, ◌≤◌}
use mathlib.Core.Path.{◌≡◌, sym, ap, ◌∙◌}
use mathlib.Core.List.{List}
use native.Mathlib.Omega.{arith}
use lib.ListN.{length, take, drop, get_or, length-take, length-drop}
use lib.Seq.{ext_get_or, get_or-take, get_or-drop}
use Rattle.fields.specs.Numbers.{field}
use Rattle.fields.proofs.Widths.{field_same}
use Rattle.checksum.specs.Catalogue.{crc16}
use Rattle.entry.specs.Words.{word_mark}
use Rattle.entry.specs.Layout.{entry_at, sum_place}
use Rattle.entry.specs.declared.Entry.{Entry}
use Rattle.entry.proofs.Standing.{Verified, entry_sum, entry_long}

-- s and t hold the same from p up to q
abbrev pub Same : List ℕ → List ℕ → ℕ → ℕ → Type 0
Same s t p q = (i : ℕ) → p ≤ i → i < q → get_or s i 0 ≡ get_or t i 0

module _ (s t : List ℕ) (p q : ℕ) (h : Same s t p q) where
  pub same_field : (n k : ℕ) → p ≤ k → k + n ≤ q → field n s k ≡ field n t k
  same_field n k a b = field_same n s t k k (λ i l. h (k + i) (omega arith) (omega arith))

  pub same_part : (k n : ℕ) → p ≤ k → k + n ≤ q → q ≤ length s → length s ≡ length t → take n (drop k s) ≡ take n (drop k t)
  same_part k n a b c e =
      ext_get_or 0 (take n (drop k s)) (take n (drop k t))
      (simp (length-take, length-drop) (omega arith))
      (λ i l.
      let m = simp (length-take, length-drop) at l in
      get_or-take n (drop k s) i 0 (omega arith) ∙ get_or-drop k s i 0 ∙ h (k + i) (omega arith) (omega arith) ∙ sym (get_or-take n (drop k t) i 0 (omega arith) ∙ get_or-drop k t i 0))

  pub same_entry : p + 8 ≤ q → entry_at s p ≡ entry_at t p
  unfolding entry_at
  same_entry b =
      let e0 = same_field 4 p (omega arith) (omega arith) in
      let e1 = same_field 2 (p + 4) (omega arith) (omega arith) in
      let e2 = same_field 2 (p + 6) (omega arith) (omega arith) in
      cc

pub still_verified : (mark : ℕ → ℕ) (s t : List ℕ) (p : ℕ) {e : Entry} → length s ≡ length t → Same s t p e.end → Verified mark s p e → Verified mark t p e
still_verified mark s t p {e} l h v =
    let x = entry_at s p in
    let n : x.end ≡ e.end = ap (λ (y : Entry). y.end) v.is in
    let g : p + 8 ≤ x.end = entry_long s p in
    let u : x.end ≡ sum_place x + 2 = entry_sum s p in
    let w = v.within in
    let c : x ≡ entry_at t p = same_entry s t p e.end h (omega arith) in
    let word : field 4 s p ≡ field 4 t p = same_field s t p e.end h 4 p (omega arith) (omega arith) in
    record {
      is = sym c ∙ v.is;
      room = let r = v.room in omega arith;
      marked = ap word_mark (sym word) ∙ v.marked;
      known = rw word at v.known;
      within = rw (c, l) at w;
      agreed =
          ap (λ (y : Entry). field 2 t (sum_place y)) (sym c)
          ∙ sym (same_field s t p e.end h 2 (sum_place x) (omega arith) (omega arith))
          ∙ v.agreed
          ∙ ap crc16 (same_part s t p e.end h p (sum_place x - p) (omega arith) (omega arith) (omega arith) l)
          ∙ ap (λ (y : Entry). crc16 (take (sum_place y - p) (drop p t))) c;
    }
