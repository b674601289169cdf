-- The fold of 128 bits, as its two halves of 64: what a shift moves out of one half comes into the other. The code folds one number of
-- 128 bits; these are the laws of one that has numbers of 64 alone.
-- Assumes nothing.
use mathlib.Core.Path.{◌≡◌, refl, sym, ap, ap₂, ◌∙◌}
use Prim.Native.Nat.{ℕ, ◌+◌, ◌*◌, ◌/◌, ◌%◌, ◌^◌, ◌<◌}
use native.Mathlib.Nat.{mod-lt, add-zero, mul_assoc, mul_right_comm, add-mul, add-mul-mod_self_right}
use native.Mathlib.Omega.{arith}
use lib.Pow.{pow_pos, pow-add, split, high, low, shr_lt, shr-shr, mod-pow-add}
use lib.Bits.{bit_xor, xor_lt, xor_block, xor_shifted, xor_zero_r, xor_comm}
use Rattle.checksum.proofs.Xor.{xor_assoc, xor_swap}
use Rattle.folds.specs.Folded.{quotient, folded}
use Rattle.folds.proofs.Folds.{shl_parts}

-- a sum, half by half
both : (u l v k : ℕ) {x y : ℕ} → l < 2 ^ 64 → k < 2 ^ 64 → x ≡ u * 2 ^ 64 + l → y ≡ v * 2 ^ 64 + k → bit_xor x y ≡ bit_xor u v * 2 ^ 64 + bit_xor l k
both u l v k hl hk e g = ap₂ bit_xor e g ∙ xor_block 64 u v l k hl hk

-- a number's halves
halves : (x : ℕ) {u l : ℕ} → l < 2 ^ 64 → x ≡ u * 2 ^ 64 + l → (x / 2 ^ 64 ≡ u) × (x % 2 ^ 64 ≡ l)
halves x {u} {l} h e = (ap (λ (z : ℕ). z / 2 ^ 64) e ∙ high u 64 h, ap (λ (z : ℕ). z % 2 ^ 64) e ∙ low u 64 h)

as_lower : (x : ℕ) → x ≡ 0 * 2 ^ 64 + x
as_lower x = omega arith

-- the lower bits of one number above the upper bits of another, as code joins them, and as a shift of the two together makes them
joined : (j k x y : ℕ) → x * 2 ^ j % 2 ^ 64 ≡ x % 2 ^ k * 2 ^ j → y / 2 ^ k < 2 ^ j → bit_xor (x * 2 ^ j % 2 ^ 64) (y / 2 ^ k) ≡ x * 2 ^ j % 2 ^ 64 + y / 2 ^ k
joined j k x y e h =
    ap (λ (z : ℕ). bit_xor z (y / 2 ^ k)) e ∙ xor_shifted (x % 2 ^ k) j (y / 2 ^ k) h ∙ ap (λ (z : ℕ). z + y / 2 ^ k) (sym e)

shift_32 : (x y : ℕ) → y < 2 ^ 64 → (x * 2 ^ 64 + y) / 2 ^ 32 ≡ x / 2 ^ 32 * 2 ^ 64 + bit_xor (x * 2 ^ 32 % 2 ^ 64) (y / 2 ^ 32)
shift_32 x y h = let e = joined 32 32 x y (omega arith) (shr_lt 32 32 h) in omega arith

shift_24 : (x y : ℕ) → y < 2 ^ 64 → (x * 2 ^ 64 + y) / 2 ^ 24 % 2 ^ 64 ≡ bit_xor (x * 2 ^ 40 % 2 ^ 64) (y / 2 ^ 24)
shift_24 x y h = let e = joined 40 24 x y (omega arith) (shr_lt 40 24 h) in omega arith

-- what a shift leaves in the lower half comes from the lower half
low_shift : (k x : ℕ) → x * 2 ^ k % 2 ^ 64 ≡ x % 2 ^ 64 * 2 ^ k % 2 ^ 64
low_shift k x =
    let u = x / 2 ^ 64 in
    let l = x % 2 ^ 64 in
    let e : l + u * 2 ^ 64 ≡ x = omega arith in
    ap (λ (z : ℕ). z % 2 ^ 64)
    (ap (λ (z : ℕ). z * 2 ^ k) (sym e) ∙ add-mul l (u * 2 ^ 64) (2 ^ k) ∙ ap (λ (z : ℕ). l * 2 ^ k + z) (mul_right_comm u (2 ^ 64) (2 ^ k)))
    ∙ add-mul-mod_self_right (l * 2 ^ k) (u * 2 ^ k) (2 ^ 64)

-- in 128 bits, the upper half stays in 64
in_128 : (u l : ℕ) {x : ℕ} → l < 2 ^ 64 → x ≡ u * 2 ^ 64 + l → x % 2 ^ 128 ≡ u % 2 ^ 64 * 2 ^ 64 + l
in_128 u l {x} h e = let p = halves x h e in mod-pow-add x 64 64 ∙ ap₂ (λ (y z : ℕ). y % 2 ^ 64 * 2 ^ 64 + z) p.0 p.1

module _ (hi lo : ℕ) (hh : hi < 2 ^ 64) (hl : lo < 2 ^ 64) where
  -- the quotient's halves, as code makes them
  pub quotient_halves : let q = quotient 8 (hi * 2 ^ 64 + lo) in
      (q / 2 ^ 64 ≡ bit_xor hi (hi / 2 ^ 32))
      × (q % 2 ^ 64 ≡ bit_xor (bit_xor (bit_xor (hi * 2 ^ 32 % 2 ^ 64) (hi / 2 ^ 24)) (bit_xor hi (hi / 2 ^ 32))) (bit_xor lo (lo / 2 ^ 32)))
  unfolding quotient
  quotient_halves =
      let x = hi * 2 ^ 64 + lo in
      let near = bit_xor x (x / 2 ^ 32) in
      let up = bit_xor hi (hi / 2 ^ 32) in
      let in32 = bit_xor (hi * 2 ^ 32 % 2 ^ 64) (lo / 2 ^ 32) in
      let l32 : in32 < 2 ^ 64 = xor_lt 64 (hi * 2 ^ 32 % 2 ^ 64) (lo / 2 ^ 32) (mod-lt (hi * 2 ^ 32) (pow_pos 64)) (omega arith) in
      let h32 : hi / 2 ^ 32 < 2 ^ 64 = omega arith in
      let h24 : hi / 2 ^ 24 < 2 ^ 64 = omega arith in
      let low-lt : bit_xor lo in32 < 2 ^ 64 = xor_lt 64 lo in32 hl l32 in
      let up_lt : up < 2 ^ 64 = xor_lt 64 hi (hi / 2 ^ 32) hh h32 in
      let e32 : x / 2 ^ 32 ≡ hi / 2 ^ 32 * 2 ^ 64 + in32 = shift_32 hi lo hl in
      let e-near : near ≡ up * 2 ^ 64 + bit_xor lo in32 = both hi lo (hi / 2 ^ 32) in32 hl l32 refl e32 in
      let e64 : near / 2 ^ 64 ≡ 0 * 2 ^ 64 + up = ap (λ (z : ℕ). z / 2 ^ 64) e-near ∙ high up 64 low-lt ∙ as_lower up in
      let e88 : x / 2 ^ 88 ≡ 0 * 2 ^ 64 + hi / 2 ^ 24 =
      sym (shr-shr x 64 24) ∙ ap (λ (z : ℕ). z / 2 ^ 24) (high hi 64 hl) ∙ as_lower (hi / 2 ^ 24) in
      let sum_lt : bit_xor (bit_xor lo in32) up < 2 ^ 64 = xor_lt 64 (bit_xor lo in32) up low-lt up_lt in
      let parts = halves (quotient 8 x) (xor_lt 64 (bit_xor (bit_xor lo in32) up) (hi / 2 ^ 24) sum_lt h24)
      (both (bit_xor up 0) (bit_xor (bit_xor lo in32) up) 0 (hi / 2 ^ 24) sum_lt h24 (both up (bit_xor lo in32) 0 up low-lt up_lt e-near e64) e88) in
      let moved = hi * 2 ^ 32 % 2 ^ 64 in
      let h = hi / 2 ^ 24 in
      let l = bit_xor lo (lo / 2 ^ 32) in (
        parts.0 ∙ xor_zero_r (bit_xor up 0) ∙ xor_zero_r up,
        parts.1
            ∙ ap (λ (z : ℕ). bit_xor (bit_xor z up) h)
            (sym (xor_assoc lo moved (lo / 2 ^ 32)) ∙ xor_swap lo moved (lo / 2 ^ 32) ∙ xor_comm l moved)
            ∙ xor_swap (bit_xor moved l) up h
            ∙ ap (λ (z : ℕ). bit_xor z up) (xor_swap moved l h)
            ∙ xor_swap (bit_xor moved h) l up,
      )

-- the fold's halves, with 128 bits more added, the upper half's in between its two parts
pub halves_added : (x a b u v : ℕ) {l : ℕ} → bit_xor u v ≡ folded 8 x / 2 ^ 64 → l ≡ folded 8 x % 2 ^ 64 → b < 2 ^ 64
    → bit_xor (folded 8 x) (a * 2 ^ 64 + b) ≡ bit_xor (bit_xor u a) v * 2 ^ 64 + bit_xor l b
halves_added x a b u v e g h =
    let f = folded 8 x in
    both (f / 2 ^ 64) (f % 2 ^ 64) a b (mod-lt f (pow_pos 64)) h (sym (split f 64)) refl
    ∙ ap₂ (λ (z k : ℕ). z * 2 ^ 64 + bit_xor k b) (ap (λ (z : ℕ). bit_xor z a) (sym e) ∙ xor_swap u v a) (sym g)

-- the fold's halves, as code makes them of the quotient's
pub folded_halves : (x : ℕ) → let q = quotient 8 x in let u = q / 2 ^ 64 in let l = q % 2 ^ 64 in
    (folded 8 x / 2 ^ 64 ≡ bit_xor (bit_xor u (u * 2 ^ 40 % 2 ^ 64)) (bit_xor (l / 2 ^ 24) (l * 2 ^ 32 % 2 ^ 64)))
    × (folded 8 x % 2 ^ 64 ≡ bit_xor l (l * 2 ^ 40 % 2 ^ 64))
unfolding folded
folded_halves x =
    let q = quotient 8 x in
    let u = q / 2 ^ 64 in
    let l = q % 2 ^ 64 in
    let m = l * 2 ^ 40 % 2 ^ 64 in
    let hl : l < 2 ^ 64 = mod-lt q (pow_pos 64) in
    let hm : m < 2 ^ 64 = mod-lt (l * 2 ^ 40) (pow_pos 64) in
    let sum_lt : bit_xor l m < 2 ^ 64 = xor_lt 64 l m hl hm in
    let in40 = bit_xor (u * 2 ^ 40 % 2 ^ 64) (l / 2 ^ 24) in
    let e40 : q * 2 ^ 40 % 2 ^ 128 ≡ in40 * 2 ^ 64 + m =
    in_128 (q / 2 ^ 24) m hm (shl_parts q 24 40 64 refl ∙ ap (λ (z : ℕ). q / 2 ^ 24 * 2 ^ 64 + z) (low_shift 40 q))
    ∙ ap (λ (z : ℕ). z * 2 ^ 64 + m) (ap (λ (z : ℕ). z / 2 ^ 24 % 2 ^ 64) (sym (split q 64)) ∙ shift_24 u l hl) in
    let e96 : q * 2 ^ 96 % 2 ^ 128 ≡ l * 2 ^ 32 % 2 ^ 64 * 2 ^ 64 + 0 =
    in_128 (q * 2 ^ 32) 0 (pow_pos 64) (ap (λ (z : ℕ). q * z) (pow-add 2 32 64) ∙ sym (mul_assoc q (2 ^ 32) (2 ^ 64)) ∙ sym (add-zero (q * 2 ^ 32 * 2 ^ 64)))
    ∙ ap (λ (z : ℕ). z * 2 ^ 64 + 0) (low_shift 32 q) in
    let parts = halves (folded 8 x) (xor_lt 64 (bit_xor l m) 0 sum_lt (pow_pos 64))
    (both (bit_xor u in40) (bit_xor l m) (l * 2 ^ 32 % 2 ^ 64) 0 sum_lt (pow_pos 64) (both u l in40 m hl hm (sym (split q 64)) e40) e96) in
    let v = u * 2 ^ 40 % 2 ^ 64 in (
      parts.0 ∙ ap (λ (z : ℕ). bit_xor z (l * 2 ^ 32 % 2 ^ 64)) (sym (xor_assoc u v (l / 2 ^ 24))) ∙ xor_assoc (bit_xor u v) (l / 2 ^ 24) (l * 2 ^ 32 % 2 ^ 64),
      parts.1 ∙ xor_zero_r (bit_xor l m),
    )
