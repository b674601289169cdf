-- The sum of a stretch, from the registers at two places and the power between them.
-- Assumes nothing.
use mathlib.Core.Path.{◌≡◌, refl, sym, ap, subst, ◌∙◌}
use mathlib.Core.List.{List, ◌∷◌}
use Prim.Native.Nat.{ℕ, zero, suc, ◌+◌, ◌-◌, ◌*◌, ◌/◌, ◌^◌, ◌<◌, ◌≤◌}
use native.Mathlib.Omega.{arith}
use lib.Dec.{lit<}
use lib.ListN.{length, take, drop, get_or, length-drop}
use lib.Seq.{length-take-le}
use lib.Bits.{bit_xor, xor_lt, xor_self}
use Rattle.checksum.specs.Catalogue.{step, steps, byte, crc_from, crc16}
use Rattle.checksum.specs.Remainder.{AreBytes, none, more}
use Rattle.checksum.proofs.Xor.{xor_assoc, xor_swap}
use Rattle.checksum.proofs.Linear.{steps_lt, steps_xor, byte_lt, added_lt}
use Rattle.checksum.proofs.Runs.{crc_from_lt, crc16_lt}
use Rattle.checksum.proofs.Bytes.{bytes_take, bytes_drop}
use Rattle.folds.specs.Leaves.{Same}
use Rattle.folds.proofs.Congruence.{same_trans, same_low, same_steps}
use Rattle.window.specs.Windows.{Registers, Times}
use Rattle.window.proofs.Places.{run_on, register_at}

-- ---- what is added to the register before a run is added to the one after it, eight bits on for each byte

byte_xor : (r t b : ℕ) → r < 2 ^ 16 → t < 2 ^ 16 → b < 2 ^ 8 → byte (bit_xor r t) b ≡ bit_xor (byte r b) (steps 8 t)
unfolding byte
byte_xor r t b hr ht hb = ap (steps 8) (xor_swap r t (b * 2 ^ 8)) ∙ steps_xor 8 (bit_xor r (b * 2 ^ 8)) t (added_lt r b hr hb) ht

steps_add : (n m x : ℕ) → steps m (steps n x) ≡ steps (n + m) x
unfolding steps
steps_add zero m x = let e : m ≡ 0 + m = omega arith in ap (λ (k : ℕ). steps k x) e
steps_add (suc n) m x = let e : suc (n + m) ≡ suc n + m = omega arith in steps_add n m (step x) ∙ ap (λ (k : ℕ). steps k x) e

crc_from_xor : (r t : ℕ) {bs : List ℕ} → r < 2 ^ 16 → t < 2 ^ 16 → AreBytes bs
    → crc_from (bit_xor r t) bs ≡ bit_xor (crc_from r bs) (steps (8 * length bs) t)
unfolding crc_from steps
crc_from_xor r t hr ht none = refl
crc_from_xor r t hr ht (more {b} {bs} hb h) =
    let e : 8 + 8 * length bs ≡ 8 * length (b ∷ bs) = omega arith in
    ap (λ (x : ℕ). crc_from x bs) (byte_xor r t b hr ht hb)
    ∙ crc_from_xor (byte r b) (steps 8 t) (byte_lt r b) (steps_lt 8 t ht) h
    ∙ ap (bit_xor (crc_from (byte r b) bs)) (steps_add 8 (8 * length bs) t ∙ ap (λ (k : ℕ). steps k t) e)

-- so from the register q after a run comes the register from r, where z is what their difference leaves that far on
another_start : (q r z : ℕ) {bs : List ℕ} → q < 2 ^ 16 → r < 2 ^ 16 → z < 2 ^ 16 → AreBytes bs
    → Same z (bit_xor q r * 2 ^ (8 * length bs)) → crc_from r bs ≡ bit_xor (crc_from q bs) z
another_start q r z {bs} hq hr hz hb p =
    let t : ℕ = bit_xor q r in
    let ht : t < 2 ^ 16 = xor_lt 16 q r hq hr in
    let back : bit_xor q t ≡ r = sym (xor_assoc q q r) ∙ ap (λ (x : ℕ). bit_xor x r) (xor_self q) in
    ap (λ (x : ℕ). crc_from x bs) (sym back)
    ∙ crc_from_xor q t hq ht hb
    ∙ ap (bit_xor (crc_from q bs))
    (sym (same_low hz (steps_lt (8 * length bs) t ht) (same_trans p (same_steps (8 * length bs) t ht))))

-- ---- the whole stretch, as the code joins it

module _ (l w s : List ℕ) {base count p e : ℕ} (room : count ≤ 1024) (taken : Registers l s base count) (reaches : (e - base) / 256 < count) (powers : (j : ℕ) → j < 1024 → Same (get_or w j 0) (2 ^ (2048 * j))) (bytes : AreBytes s) (starts : base ≤ p) (long : p + 256 ≤ e) (fits : e ≤ length s) where
  pub joined : (before z : ℕ)
      → let low = (p - base + 255) / 256 in let high = (e - base) / 256 in let first = base + 256 * low in let last = base + 256 * high in
      before ≡ crc16 (take (first - p) (drop p s)) → Times (bit_xor (get_or l low 0) before) (get_or w (high - low) 0) z
      → crc_from (bit_xor (get_or l high 0) z) (take (e - last) (drop last s)) ≡ crc16 (take (e - p) (drop p s))
  unfolding crc16
  joined before z summed t =
      let low = (p - base + 255) / 256 in
      let high = (e - base) / 256 in
      let first = base + 256 * low in
      let last = base + 256 * high in
      let between = take (last - first) (drop first s) in
      let lows : get_or l low 0 ≡ crc_from 0 (take (first - base) (drop base s)) = register_at l s base taken low (omega arith) in
      let highs : get_or l high 0 ≡ crc_from (get_or l low 0) between =
      register_at l s base taken high reaches
      ∙ run_on 0 base first last s (omega arith) (omega arith)
      ∙ ap (λ (x : ℕ). crc_from x between) (sym lows) in
      let sized : length between ≡ last - first = length-take-le (last - first) (drop first s) (simp length-drop (omega arith)) in
      let bits : 2048 * (high - low) ≡ 8 * length between = omega arith in
      let low-lt : get_or l low 0 < 2 ^ 16 = subst (λ (x : ℕ). x < 2 ^ 16) (sym lows) (crc_from_lt 0 (take (first - base) (drop base s)) (lit< tt)) in
      let before-lt : before < 2 ^ 16 = subst (λ (x : ℕ). x < 2 ^ 16) (sym summed) (crc16_lt (take (first - p) (drop p s))) in
      let moved : Same z (bit_xor (get_or l low 0) before * 2 ^ (8 * length between)) =
      subst (λ (k : ℕ). Same z (bit_xor (get_or l low 0) before * 2 ^ k)) bits
      (t.by (2048 * (high - low)) (powers (high - low) (omega arith))) in
      sym
      (run_on 0xffff p first e s (omega arith) (omega arith)
      ∙ ap (λ (x : ℕ). crc_from x (take (e - first) (drop first s))) (sym summed)
      ∙ run_on before first last e s (omega arith) (omega arith)
      ∙ ap (λ (x : ℕ). crc_from x (take (e - last) (drop last s)))
      (another_start (get_or l low 0) before z low-lt before-lt t.low (bytes_take (last - first) (bytes_drop first bytes)) moved
      ∙ ap (λ (x : ℕ). bit_xor x z) (sym highs)))
