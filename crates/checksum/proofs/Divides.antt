-- Each bit divides by the polynomial once, so the register and what was divided differ by a multiple of it.
-- Assumes nothing.
use mathlib.Core.Path.{◌≡◌, sym, ap, ap₂, subst, ◌∙◌}
use mathlib.Core.List.{List, [], ◌∷◌}
use Prim.Native.Nat.{ℕ, zero, suc, ◌+◌, ◌*◌, ◌/◌, ◌%◌, ◌^◌, ◌<◌}
use native.Mathlib.Nat.{mod-lt, mul_assoc, mul_comm, mul-one}
use native.Mathlib.Omega.{arith}
use lib.Arith.{digits_lt}
use lib.Dec.{lit<}
use lib.ListN.{length}
use lib.Pow.{pow_pos, pow-add, shr_lt}
use lib.Bits.{bit_xor, xor_shifted, xor_zero_r, xor_self}
use Rattle.checksum.specs.Catalogue.{taken, step, steps, byte, crc_from}
use Rattle.checksum.specs.Remainder.{polynomial, Multiple, nothing, plus, value, dividend, AreBytes, none, more}
use Rattle.checksum.proofs.Xor.{xor_assoc, xor_cancel, xor_shift}
use Rattle.checksum.proofs.Linear.{step_lt, byte_lt, added_lt, double_pow}

-- ---- multiples: their sums, and a multiple moved up

pub multiple_sum : {a b : ℕ} → Multiple a → Multiple b → Multiple (bit_xor a b)
multiple_sum nothing hb = hb
multiple_sum {b = b} (plus {m} k hm) hb =
    subst Multiple (sym (xor_assoc (polynomial * 2 ^ k) m b)) (plus k (multiple_sum hm hb))

pub multiple_up : {a : ℕ} (j : ℕ) → Multiple a → Multiple (a * 2 ^ j)
multiple_up j nothing = subst Multiple (omega arith) nothing
multiple_up j (plus {m} k hm) =
    let up : polynomial * 2 ^ (k + j) ≡ polynomial * 2 ^ k * 2 ^ j =
    ap (λ (x : ℕ). polynomial * x) (pow-add 2 k j) ∙ sym (mul_assoc polynomial (2 ^ k) (2 ^ j)) in
    subst Multiple
    (ap (λ (x : ℕ). bit_xor x (m * 2 ^ j)) up ∙ sym (xor_shift j (polynomial * 2 ^ k) m))
    (plus (k + j) (multiple_up j hm))

-- ---- one bit multiplies by x, and many bits by a power of x, but for a multiple

taken_apart : (t : ℕ) → t < 2 → Multiple (bit_xor (t * 2 ^ 16) (taken t))
unfolding taken
taken_apart zero h = nothing
taken_apart (suc zero) h = plus 0 nothing
taken_apart (suc (suc t)) h = absurd (omega arith)

step_apart : (x : ℕ) → x < 2 ^ 16 → Multiple (bit_xor (x * 2) (step x))
unfolding step
step_apart x h =
    let t : ℕ = x / 2 ^ 15 in
    let l : ℕ = x * 2 % 2 ^ 16 in
    let parts : x * 2 ≡ t * 2 ^ 16 + l = omega arith in
    let split : x * 2 ≡ bit_xor (t * 2 ^ 16) l = parts ∙ sym (xor_shifted t 16 l (mod-lt (x * 2) (pow_pos 16))) in
    subst Multiple
    (sym (ap (λ (y : ℕ). bit_xor y (bit_xor l (taken t))) split ∙ xor_cancel (t * 2 ^ 16) l (taken t)))
    (taken_apart t (shr_lt 1 15 h))

pub steps_apart : (n x : ℕ) → x < 2 ^ 16 → Multiple (bit_xor (x * 2 ^ n) (steps n x))
unfolding steps
steps_apart zero x h = subst Multiple (sym (ap (λ (y : ℕ). bit_xor y x) (mul-one x) ∙ xor_self x)) nothing
steps_apart (suc n) x h =
    let y : ℕ = step x in
    let z : ℕ = steps n y in
    subst Multiple
    (ap (λ (w : ℕ). bit_xor w (bit_xor (y * 2 ^ n) z)) (xor_shift n (x * 2) y)
    ∙ xor_cancel (x * 2 * 2 ^ n) (y * 2 ^ n) z
    ∙ ap (λ (w : ℕ). bit_xor w z) (double_pow x n))
    (multiple_sum (multiple_up n (step_apart x h)) (steps_apart n y (step_lt x)))

-- ---- what is divided, with one byte more in front

pub more_bits : (n : ℕ) → 2 ^ (8 * suc n) ≡ 2 ^ 8 * 2 ^ (8 * n)
more_bits n = let e : 8 * suc n ≡ 8 + 8 * n = omega arith in ap (λ (k : ℕ). 2 ^ k) e ∙ pow-add 2 8 (8 * n)

pub value_lt : {bs : List ℕ} → AreBytes bs → value bs < 2 ^ (8 * length bs)
unfolding value
value_lt none = lit< tt
value_lt (more {b} {bs} hb h) =
    subst (λ (n : ℕ). b * 2 ^ (8 * length bs) + value bs < n) (sym (more_bits (length bs))) (digits_lt hb (value_lt h))

-- the byte is added to the register's upper half, and both stand above the bytes that follow
dividend_more : (r b : ℕ) {bs : List ℕ} → AreBytes bs
    → dividend r (b ∷ bs) ≡ bit_xor (bit_xor r (b * 2 ^ 8) * 2 ^ 8 * 2 ^ (8 * length bs)) (value bs * 2 ^ 16)
unfolding dividend value
dividend_more r b {bs} h =
    let N : ℕ = 8 * length bs in
    let v : ℕ = value bs in
    let start : r * 2 ^ (8 * suc (length bs)) ≡ r * 2 ^ 8 * 2 ^ N =
    ap (λ (y : ℕ). r * y) (more_bits (length bs)) ∙ sym (mul_assoc r (2 ^ 8) (2 ^ N)) in
    let sixteen : b * 2 ^ 16 ≡ b * 2 ^ 8 * 2 ^ 8 = omega arith in
    let first : b * 2 ^ N * 2 ^ 16 ≡ b * 2 ^ 8 * 2 ^ 8 * 2 ^ N =
    mul_assoc b (2 ^ N) (2 ^ 16) ∙ ap (λ (y : ℕ). b * y) (mul_comm (2 ^ N) (2 ^ 16))
    ∙ sym (mul_assoc b (2 ^ 16) (2 ^ N)) ∙ ap (λ (y : ℕ). y * 2 ^ N) sixteen in
    let bytes : (b * 2 ^ N + v) * 2 ^ 16 ≡ bit_xor (b * 2 ^ 8 * 2 ^ 8 * 2 ^ N) (v * 2 ^ 16) =
    ap (λ (y : ℕ). y * 2 ^ 16) (sym (xor_shifted b N v (value_lt h))) ∙ xor_shift 16 (b * 2 ^ N) v
    ∙ ap (λ (y : ℕ). bit_xor y (v * 2 ^ 16)) first in
    let both : bit_xor r (b * 2 ^ 8) * 2 ^ 8 * 2 ^ N ≡ bit_xor (r * 2 ^ 8 * 2 ^ N) (b * 2 ^ 8 * 2 ^ 8 * 2 ^ N) =
    ap (λ (y : ℕ). y * 2 ^ N) (xor_shift 8 r (b * 2 ^ 8)) ∙ xor_shift N (r * 2 ^ 8) (b * 2 ^ 8 * 2 ^ 8) in
    ap₂ bit_xor start bytes
    ∙ sym (xor_assoc (r * 2 ^ 8 * 2 ^ N) (b * 2 ^ 8 * 2 ^ 8 * 2 ^ N) (v * 2 ^ 16))
    ∙ ap (λ (y : ℕ). bit_xor y (v * 2 ^ 16)) (sym both)

-- ---- so the register is what division leaves, but for a multiple

dividend_none : (r : ℕ) → dividend r [] ≡ r
unfolding dividend value
dividend_none r = xor_zero_r (r * 1) ∙ mul-one r

pub crc_from_apart : (r : ℕ) {bs : List ℕ} → r < 2 ^ 16 → AreBytes bs → Multiple (bit_xor (dividend r bs) (crc_from r bs))
unfolding crc_from byte dividend
crc_from_apart r hr none = subst Multiple (sym (ap (λ (y : ℕ). bit_xor y r) (dividend_none r) ∙ xor_self r)) nothing
crc_from_apart r hr (more {b} {bs} hb h) =
    let x : ℕ = bit_xor r (b * 2 ^ 8) in
    let q : ℕ = steps 8 x in
    let N : ℕ = 8 * length bs in
    let v : ℕ = value bs * 2 ^ 16 in
    let z : ℕ = crc_from q bs in
    let this : Multiple (bit_xor (x * 2 ^ 8) q * 2 ^ N) = multiple_up N (steps_apart 8 x (added_lt r b hr hb)) in
    let rest : Multiple (bit_xor (bit_xor (q * 2 ^ N) v) z) = crc_from_apart q (byte_lt r b) h in
    subst Multiple
    (ap₂ bit_xor (xor_shift N (x * 2 ^ 8) q) (xor_assoc (q * 2 ^ N) v z)
    ∙ xor_cancel (x * 2 ^ 8 * 2 ^ N) (q * 2 ^ N) (bit_xor v z)
    ∙ sym (xor_assoc (x * 2 ^ 8 * 2 ^ N) v z)
    ∙ ap (λ (y : ℕ). bit_xor y z) (sym (dividend_more r b h)))
    (multiple_sum this rest)
