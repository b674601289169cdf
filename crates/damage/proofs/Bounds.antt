-- Every entry that verifies starts before the used bound, because zeros never verify.
-- Assumes nothing.
use Prim.Native.Nat.{ℕ, ◌+◌, ◌-◌, ◌<◌, ◌≤◌}
use mathlib.Core.Path.{◌≡◌, sym, ap, ◌∙◌}
use mathlib.Core.List.{List}
use mathlib.Core.Logic.{⊎_elim}
use native.Mathlib.Omega.{arith}
use lib.ListN.{take, drop, get_or, replicate, length-take, length-drop, get_or-replicate, length-replicate, get_or-eq_default}
use lib.Seq.{ext_get_or, get_or-take, get_or-drop}
use Rattle.fields.specs.Numbers.{field}
use Rattle.checksum.specs.Catalogue.{crc16}
use Rattle.checksum.proofs.Damage.{zeros_never_zero}
use Rattle.entry.specs.Layout.{entry_at, sum_place}
use Rattle.entry.specs.declared.Entry.{Entry}
use Rattle.entry.proofs.Standing.{Verified, entry_sum, entry_long}
use Rattle.tail.specs.Tail.{used_bound}
use Rattle.tail.proofs.Zeros.{below_or, used_zero}

-- zeros are zeros past their end too
pub zeros_get : (n k : ℕ) → get_or {A = ℕ} (replicate n 0) k 0 ≡ 0
zeros_get n k =
    ⊎_elim (λ l. get_or-replicate n k 0 0 l) (λ l. get_or-eq_default (replicate n 0) 0 (rw length-replicate l)) (below_or k n)

-- at an offset with mark 0 either: no run of zeros has the checksum 0
pub zeros_unverified : (mark : ℕ → ℕ) (s : List ℕ) (p : ℕ) {e : Entry} → ((i : ℕ) → p ≤ i → get_or s i 0 ≡ 0) → Verified mark s p e → ⊥
unfolding field
zeros_unverified mark s p z v =
    let q = sum_place (entry_at s p) in
    let long = entry_long s p in
    let sum = entry_sum s p in
    let within = v.within in
    let nothing : field 2 s q ≡ 0 = let a = z q (omega arith) in let b = z (q + 1) (omega arith) in omega arith in
    let zeros : take (q - p) (drop p s) ≡ replicate (q - p) 0 =
    ext_get_or 0 (take (q - p) (drop p s)) (replicate (q - p) 0)
    (simp (length-take, length-drop, length-replicate) (omega arith))
    (λ i l.
    let m = simp (length-take, length-drop) at l in
    get_or-take (q - p) (drop p s) i 0 (omega arith) ∙ get_or-drop p s i 0 ∙ z (p + i) (omega arith) ∙ sym (zeros_get (q - p) i)) in
    zeros_never_zero (q - p) (ap crc16 (sym zeros) ∙ sym v.agreed ∙ nothing)

pub verified_below : (mark : ℕ → ℕ) (s : List ℕ) (p : ℕ) {e : Entry} → Verified mark s p e → p < used_bound s
verified_below mark s p v =
    ⊎_elim (λ l. l) (λ l. absurd (zeros_unverified mark s p (λ i a. used_zero s i (omega arith)) v)) (below_or p (used_bound s))
