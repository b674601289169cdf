-- Any number of bits goes through exclusive or. This one fact is behind the tables, and behind what damage does to a sum.
-- Assumes nothing.
use mathlib.Core.Path.{◌≡◌, refl, sym, ap, ap₂, ◌∙◌}
use Prim.Native.Nat.{ℕ, zero, suc, ◌+◌, ◌*◌, ◌/◌, ◌%◌, ◌^◌, ◌<◌, ◌≤◌}
use native.Mathlib.Nat.{mod-lt, add-zero, mod-eq_of_lt, div-eq_of_lt, mul_assoc, mul-one, pow-suc, mul_comm, lt_of_lt_of_le}
use native.Mathlib.Omega.{arith}
use lib.Dec.{lit<, lit≤}
use lib.Pow.{pow_pos, pow_mono, split, shr_lt, shl_lt}
use lib.Bits.{bit_xor, xor_lt, xor_mod, xor_shr, xor_block, xor_shifted, xor_zero_r, xor_comm}
use Rattle.checksum.specs.Catalogue.{taken, step, steps, byte}
use Rattle.checksum.proofs.Xor.{xor_swap, xor_four, xor_shift}

-- ---- a register stays below 2 ^ 16

taken_lt : (t : ℕ) → taken t < 2 ^ 16
unfolding taken
taken_lt zero = lit< tt
taken_lt (suc t) = lit< tt

pub step_lt : (x : ℕ) → step x < 2 ^ 16
unfolding step
step_lt x = xor_lt 16 (x * 2 % 2 ^ 16) (taken (x / 2 ^ 15)) (mod-lt (x * 2) (pow_pos 16)) (taken_lt (x / 2 ^ 15))

pub steps_lt : (n x : ℕ) → x < 2 ^ 16 → steps n x < 2 ^ 16
unfolding steps
steps_lt zero x h = h
steps_lt (suc n) x h = steps_lt n (step x) (step_lt x)

-- whatever is put in, a byte leaves a register
pub byte_lt : (r b : ℕ) → byte r b < 2 ^ 16
unfolding byte steps
byte_lt r b = step_lt _

-- with a byte added to its upper half, a register is still one
pub added_lt : (r b : ℕ) → r < 2 ^ 16 → b < 2 ^ 8 → bit_xor r (b * 2 ^ 8) < 2 ^ 16
added_lt r b hr hb = xor_lt 16 r (b * 2 ^ 8) hr (shl_lt 8 8 hb)

-- ---- bits go through exclusive or

taken_xor : (t u : ℕ) → t < 2 → u < 2 → taken (bit_xor t u) ≡ bit_xor (taken t) (taken u)
unfolding taken
taken_xor zero u ht hu = refl
taken_xor (suc zero) zero ht hu = refl
taken_xor (suc zero) (suc zero) ht hu = refl
taken_xor (suc zero) (suc (suc u)) ht hu = absurd (omega arith)
taken_xor (suc (suc t)) u ht hu = absurd (omega arith)

step_xor : (x y : ℕ) → x < 2 ^ 16 → y < 2 ^ 16 → step (bit_xor x y) ≡ bit_xor (step x) (step y)
unfolding step
step_xor x y hx hy =
    ap₂ bit_xor (ap (λ (z : ℕ). z % 2 ^ 16) (xor_shift 1 x y) ∙ xor_mod (x * 2) (y * 2) 16)
    (ap taken (xor_shr x y 15) ∙ taken_xor (x / 2 ^ 15) (y / 2 ^ 15) (shr_lt 1 15 hx) (shr_lt 1 15 hy))
    ∙ xor_four (x * 2 % 2 ^ 16) (y * 2 % 2 ^ 16) (taken (x / 2 ^ 15)) (taken (y / 2 ^ 15))

pub steps_xor : (n x y : ℕ) → x < 2 ^ 16 → y < 2 ^ 16 → steps n (bit_xor x y) ≡ bit_xor (steps n x) (steps n y)
unfolding steps
steps_xor zero x y hx hy = refl
steps_xor (suc n) x y hx hy =
    ap (steps n) (step_xor x y hx hy) ∙ steps_xor n (step x) (step y) (step_lt x) (step_lt y)

-- ---- while no set bit leaves it, a register only moves up

step_low : (x : ℕ) → x < 2 ^ 15 → step x ≡ x * 2
unfolding step taken
step_low x h =
    ap₂ (λ (y t : ℕ). bit_xor y (taken t)) (mod-eq_of_lt (shl_lt 15 1 h)) (div-eq_of_lt h) ∙ xor_zero_r (x * 2)

pub double_pow : (x n : ℕ) → x * 2 * 2 ^ n ≡ x * 2 ^ suc n
double_pow x n = mul_assoc x 2 (2 ^ n) ∙ ap (λ (y : ℕ). x * y) (mul_comm 2 (2 ^ n) ∙ sym (pow-suc 2 n))

steps_low : (k j x : ℕ) → x < 2 ^ j → j + k ≤ 16 → steps k x ≡ x * 2 ^ k
unfolding steps
steps_low zero j x h l = sym (mul-one x)
steps_low (suc k) j x h l =
    ap (steps k) (step_low x (lt_of_lt_of_le h (pow_mono {j = 15} (omega arith))))
    ∙ steps_low k (j + 1) (x * 2) (shl_lt j 1 h) (omega arith)
    ∙ double_pow x k

low_byte : (x : ℕ) → x < 2 ^ 8 → steps 8 x ≡ x * 2 ^ 8
low_byte x h = steps_low 8 8 x h (lit≤ tt)

-- ---- a byte a step: the place in the table is the register's upper half with the byte added to it

pub place_lt : (r b : ℕ) → r < 2 ^ 16 → b < 2 ^ 8 → bit_xor (r / 2 ^ 8) b < 2 ^ 8
place_lt r b hr hb = xor_lt 8 (r / 2 ^ 8) b (shr_lt 8 8 hr) hb

-- the register with the byte added, as its two halves
halves : (r b : ℕ) → bit_xor r (b * 2 ^ 8) ≡ bit_xor (r % 2 ^ 8) (bit_xor (r / 2 ^ 8) b * 2 ^ 8)
halves r b =
    let low : r % 2 ^ 8 < 2 ^ 8 = mod-lt r (pow_pos 8) in
    ap₂ bit_xor (sym (split r 8)) (sym (add-zero (b * 2 ^ 8)))
    ∙ xor_block 8 (r / 2 ^ 8) b (r % 2 ^ 8) 0 low (pow_pos 8)
    ∙ ap (λ (x : ℕ). bit_xor (r / 2 ^ 8) b * 2 ^ 8 + x) (xor_zero_r (r % 2 ^ 8))
    ∙ sym (xor_shifted (bit_xor (r / 2 ^ 8) b) 8 (r % 2 ^ 8) low)
    ∙ xor_comm (bit_xor (r / 2 ^ 8) b * 2 ^ 8) (r % 2 ^ 8)

-- through eight bits: what stands in the lower half only moves up, and what stands in the upper one leaves it
eight_bits : (low up : ℕ) → low < 2 ^ 8 → up < 2 ^ 8 → steps 8 (bit_xor low (up * 2 ^ 8)) ≡ bit_xor (low * 2 ^ 8) (steps 8 (up * 2 ^ 8))
eight_bits low up hl hu =
    steps_xor 8 low (up * 2 ^ 8) (omega arith) (shl_lt 8 8 hu)
    ∙ ap (λ (x : ℕ). bit_xor x (steps 8 (up * 2 ^ 8))) (low_byte low hl)

pub byte_by_place : (r b : ℕ) → r < 2 ^ 16 → b < 2 ^ 8
    → byte r b ≡ bit_xor (r * 2 ^ 8 % 2 ^ 16) (steps 8 (bit_xor (r / 2 ^ 8) b * 2 ^ 8))
unfolding byte
byte_by_place r b hr hb =
    let up : ℕ = bit_xor (r / 2 ^ 8) b in
    let moved : r % 2 ^ 8 * 2 ^ 8 ≡ r * 2 ^ 8 % 2 ^ 16 = omega arith in
    ap (steps 8) (halves r b)
    ∙ eight_bits (r % 2 ^ 8) up (mod-lt r (pow_pos 8)) (place_lt r b hr hb)
    ∙ ap (λ (x : ℕ). bit_xor x (steps 8 (up * 2 ^ 8))) moved

-- ---- two bytes: the second may be added before the first one's bits, to the register's lower half

pub two_bytes : (r a b : ℕ) → r < 2 ^ 16 → a < 2 ^ 8 → b < 2 ^ 8
    → byte (byte r a) b ≡ steps 8 (steps 8 (bit_xor (bit_xor r (a * 2 ^ 8)) b))
unfolding byte
two_bytes r a b hr ha hb =
    let x : ℕ = bit_xor r (a * 2 ^ 8) in
    ap (λ (y : ℕ). steps 8 (bit_xor (steps 8 x) y)) (sym (low_byte b hb))
    ∙ ap (steps 8) (sym (steps_xor 8 x b (added_lt r a hr ha) (omega arith)))

-- ---- two bytes a step: the second byte's place is the register's lower half with that byte added to it

pub lower_place_lt : (r b : ℕ) → b < 2 ^ 8 → bit_xor (r % 2 ^ 8) b < 2 ^ 8
lower_place_lt r b hb = xor_lt 8 (r % 2 ^ 8) b (mod-lt r (pow_pos 8)) hb

pub pair_by_places : (r a b : ℕ) → r < 2 ^ 16 → a < 2 ^ 8 → b < 2 ^ 8
    → byte (byte r a) b ≡ bit_xor (steps 16 (bit_xor (r / 2 ^ 8) a * 2 ^ 8)) (steps 8 (bit_xor (r % 2 ^ 8) b * 2 ^ 8))
unfolding steps
pair_by_places r a b hr ha hb =
    let up : ℕ = bit_xor (r / 2 ^ 8) a in
    let low : ℕ = bit_xor (r % 2 ^ 8) b in
    let hu : up < 2 ^ 8 = place_lt r a hr ha in
    let hl : low < 2 ^ 8 = lower_place_lt r b hb in
    let added : bit_xor (bit_xor r (a * 2 ^ 8)) b ≡ bit_xor low (up * 2 ^ 8) =
    ap (λ (x : ℕ). bit_xor x b) (halves r a) ∙ xor_swap (r % 2 ^ 8) (up * 2 ^ 8) b in
    two_bytes r a b hr ha hb
    ∙ ap (λ (x : ℕ). steps 8 (steps 8 x)) added
    ∙ ap (steps 8) (eight_bits low up hl hu)
    ∙ steps_xor 8 (low * 2 ^ 8) (steps 8 (up * 2 ^ 8)) (shl_lt 8 8 hl) (steps_lt 8 (up * 2 ^ 8) (shl_lt 8 8 hu))
    ∙ xor_comm (steps 8 (low * 2 ^ 8)) (steps 16 (up * 2 ^ 8))
