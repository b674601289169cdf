-- A register of 16 * m bits moved up by 16 * m places, by shifts. The polynomial's square has four terms too, as squares over two
-- elements have, and so have the fourth and the eighth power. One law over m, which is 1, 2, 4 or 8.
-- Assumes nothing.
use mathlib.Core.Path.{◌≡◌, sym, ap, ap₂, subst, ◌∙◌}
use Prim.Native.Nat.{ℕ, zero, suc, ◌+◌, ◌-◌, ◌*◌, ◌/◌, ◌%◌, ◌^◌, ◌<◌, ◌≤◌}
use native.Mathlib.Nat.{mod-lt, mul_assoc, mul_comm, div-eq_of_lt, mod-eq_of_lt, one-mul, lt_of_lt_of_le, lt_of_le_of_lt}
use native.Mathlib.Omega.{arith}
use lib.Arith.{bin_ind}
use lib.Dec.{lit<}
use lib.Pow.{pow_pos, pow_mono, split, shr-shr, shl-shr, shr_le, shl_exact, mod-mod-pow}
use lib.Bits.{bit_xor, xor_lt, xor_mod, xor_shr, xor_block, xor_shifted, xor_zero_r, xor_comm}
use Rattle.checksum.specs.Remainder.{Multiple, nothing, plus}
use Rattle.checksum.proofs.Xor.{xor_assoc, xor_swap, xor_four, xor_twice, xor_cancel, xor_shift}
use Rattle.checksum.proofs.Divides.{multiple_sum, multiple_up}
use Rattle.folds.specs.Leaves.{Same}
use Rattle.folds.specs.Folded.{times, quotient, folded}

-- ---- the powers of the polynomial, and their multiples

times_xor : (m x y : ℕ) → times m (bit_xor x y) ≡ bit_xor (times m x) (times m y)
unfolding times
times_xor m x y =
    let b = 5 * m in
    let a = 12 * m in
    ap₂ bit_xor (xor_shift (16 * m) x y)
    (ap₂ bit_xor (ap (bit_xor (bit_xor x y)) (xor_shift b x y) ∙ xor_four x y (x * 2 ^ b) (y * 2 ^ b)) (xor_shift a x y)
    ∙ xor_four (bit_xor x (x * 2 ^ b)) (bit_xor y (y * 2 ^ b)) (x * 2 ^ a) (y * 2 ^ a))
    ∙ xor_four (x * 2 ^ (16 * m)) (y * 2 ^ (16 * m)) (bit_xor (bit_xor x (x * 2 ^ b)) (x * 2 ^ a)) (bit_xor (bit_xor y (y * 2 ^ b)) (y * 2 ^ a))

swap : (x k : ℕ) → x * 2 ^ k * 2 ≡ x * 2 * 2 ^ k
swap x k = mul_assoc x (2 ^ k) 2 ∙ ap (λ (y : ℕ). x * y) (mul_comm (2 ^ k) 2) ∙ sym (mul_assoc x 2 (2 ^ k))

times_double : (m x : ℕ) → times m x * 2 ≡ times m (x * 2)
unfolding times
times_double m x =
    let b = 5 * m in
    let a = 12 * m in
    xor_shift 1 (x * 2 ^ (16 * m)) (bit_xor (bit_xor x (x * 2 ^ b)) (x * 2 ^ a))
    ∙ ap₂ bit_xor (swap x (16 * m))
    (xor_shift 1 (bit_xor x (x * 2 ^ b)) (x * 2 ^ a)
    ∙ ap₂ bit_xor (xor_shift 1 x (x * 2 ^ b) ∙ ap (bit_xor (x * 2)) (swap x b)) (swap x a))

-- a power is a multiple of the polynomial, and so is each multiple of the power: digit by digit
times_digit : (m d : ℕ) → d < 2 → Multiple (times m 1) → Multiple (times m d)
unfolding times
times_digit m zero h power =
    let e : (k : ℕ) → 0 ≡ 0 * 2 ^ k = λ k. omega arith in
    subst Multiple (ap₂ bit_xor (e (16 * m)) (ap₂ bit_xor (ap (bit_xor 0) (e (5 * m))) (e (12 * m)))) nothing
times_digit m (suc zero) h power = power
times_digit m (suc (suc d)) h power = absurd (omega arith)

times_multiple : (m : ℕ) → Multiple (times m 1) → (q : ℕ) → Multiple (times m q)
times_multiple m power =
    bin_ind (λ (n : ℕ). Multiple (times m n)) (times_digit m 0 (lit< tt) power)
    (λ n ih.
    let d : n % 2 < 2 = mod-lt n (lit< tt) in
    subst Multiple
    (ap (λ (x : ℕ). bit_xor x (times m (n % 2))) (times_double m (n / 2))
    ∙ sym (times_xor m (n / 2 * 2) (n % 2))
    ∙ ap (times m) (xor_shifted (n / 2) 1 (n % 2) d ∙ split n 1))
    (multiple_sum (multiple_up 1 ih) (times_digit m (n % 2) d power)))

-- the polynomial, and then each power as the one before it times itself
pub power_1 : Multiple (times 1 1)
unfolding times
power_1 = plus 0 nothing

pub power_2 : Multiple (times 2 1)
unfolding times
power_2 = times_multiple 1 power_1 (times 1 1)

pub power_4 : Multiple (times 4 1)
unfolding times
power_4 = times_multiple 2 power_2 (times 2 1)

pub power_8 : Multiple (times 8 1)
unfolding times
power_8 = times_multiple 4 power_4 (times 4 1)

-- ---- the quotient

-- a shift to the left, as what leaves w bits and what stays in them
pub shl_parts : (q j k w : ℕ) → j + k ≡ w → q * 2 ^ k ≡ q / 2 ^ j * 2 ^ w + q * 2 ^ k % 2 ^ w
shl_parts q j k w e =
    let c : k + j ≡ w = omega arith in
    sym (split (q * 2 ^ k) w)
    ∙ ap (λ (x : ℕ). x * 2 ^ w + q * 2 ^ k % 2 ^ w)
    (ap (λ (i : ℕ). q * 2 ^ k / 2 ^ i) (sym c) ∙ sym (shr-shr (q * 2 ^ k) k j) ∙ ap (λ (x : ℕ). x / 2 ^ j) (shl-shr q k))

-- six numbers, of which all but the first meet themselves
meets : (a b c d e f : ℕ) → bit_xor (bit_xor (bit_xor (bit_xor (bit_xor a b) (bit_xor c d)) e) (bit_xor (bit_xor (bit_xor b c) d) f)) (bit_xor e f) ≡ a
meets a b c d e f =
    ap (λ (x : ℕ). bit_xor x (bit_xor e f))
    (xor_four (bit_xor (bit_xor a b) (bit_xor c d)) e (bit_xor (bit_xor b c) d) f
    ∙ ap (λ (x : ℕ). bit_xor x (bit_xor e f))
    (xor_four (bit_xor a b) (bit_xor c d) (bit_xor b c) d ∙ ap₂ bit_xor (xor_cancel a b c) (xor_twice c d) ∙ xor_twice a c))
    ∙ xor_twice a (bit_xor e f)

module _ (m x : ℕ) (h : x < 2 ^ (16 * m)) where
  abbrev near : ℕ
  near = bit_xor x (x / 2 ^ (4 * m))

  gone : (k : ℕ) → 16 * m ≤ k → x / 2 ^ k ≡ 0
  gone k l = div-eq_of_lt (lt_of_lt_of_le h (pow_mono l))

  down : (j k i : ℕ) → j + k ≡ i → x / 2 ^ j / 2 ^ k ≡ x / 2 ^ i
  down j k i e = shr-shr x j k ∙ ap (λ (z : ℕ). x / 2 ^ z) e

  near_down : (k j : ℕ) → 4 * m + k ≡ j → near / 2 ^ k ≡ bit_xor (x / 2 ^ k) (x / 2 ^ j)
  near_down k j g = xor_shr x (x / 2 ^ (4 * m)) k ∙ ap (bit_xor (x / 2 ^ k)) (down (4 * m) k j g)

  far_down : (k i j : ℕ) → 8 * m + k ≡ i → 4 * m + i ≡ j → near / 2 ^ (8 * m) / 2 ^ k ≡ bit_xor (x / 2 ^ i) (x / 2 ^ j)
  far_down k i j e g = shr-shr near (8 * m) k ∙ ap (λ (z : ℕ). near / 2 ^ z) e ∙ near_down i j g

  -- the quotient, with what its shifts to the left carry out of 16 * m bits, is x
  back : let q = quotient m x in bit_xor (bit_xor q (q / 2 ^ (4 * m))) (q / 2 ^ (11 * m)) ≡ x
  unfolding quotient
  back =
      let q = quotient m x in
      let far = near / 2 ^ (8 * m) in
      let z = bit_xor near far in
      let x4 = x / 2 ^ (4 * m) in
      let x8 = x / 2 ^ (8 * m) in
      let x11 = x / 2 ^ (11 * m) in
      let x12 = x / 2 ^ (12 * m) in
      let x15 = x / 2 ^ (15 * m) in
      let qq : q ≡ bit_xor (bit_xor (bit_xor x x4) (bit_xor x8 x12)) x11 =
      ap (λ (u : ℕ). bit_xor (bit_xor near u) x11) (near_down (8 * m) (12 * m) (omega arith)) in
      let z4 : z / 2 ^ (4 * m) ≡ bit_xor (bit_xor x4 x8) x12 =
      xor_shr near far (4 * m)
      ∙ ap₂ bit_xor (near_down (4 * m) (8 * m) (omega arith))
      (far_down (4 * m) (12 * m) (16 * m) (omega arith) (omega arith) ∙ ap (bit_xor x12) (gone (16 * m) (omega arith)) ∙ xor_zero_r x12) in
      let q4 : q / 2 ^ (4 * m) ≡ bit_xor (bit_xor (bit_xor x4 x8) x12) x15 =
      xor_shr z x11 (4 * m) ∙ ap₂ bit_xor z4 (down (11 * m) (4 * m) (15 * m) (omega arith)) in
      let z11 : z / 2 ^ (11 * m) ≡ bit_xor x11 x15 =
      xor_shr near far (11 * m)
      ∙ ap₂ bit_xor (near_down (11 * m) (15 * m) (omega arith))
      (far_down (11 * m) (19 * m) (23 * m) (omega arith) (omega arith) ∙ ap₂ bit_xor (gone (19 * m) (omega arith)) (gone (23 * m) (omega arith)))
      ∙ xor_zero_r (bit_xor x11 x15) in
      let q11 : q / 2 ^ (11 * m) ≡ bit_xor x11 x15 =
      xor_shr z x11 (11 * m)
      ∙ ap₂ bit_xor z11 (down (11 * m) (11 * m) (22 * m) (omega arith) ∙ gone (22 * m) (omega arith)) ∙ xor_zero_r (bit_xor x11 x15) in
      ap₂ bit_xor (ap₂ bit_xor qq q4) q11 ∙ meets x x4 x8 x12 x11 x15

  below : (k : ℕ) {y : ℕ} → y < 2 ^ (16 * m) → y / 2 ^ k < 2 ^ (16 * m)
  below k {y} l = lt_of_le_of_lt (shr_le y k) l

  quotient_lt : quotient m x < 2 ^ (16 * m)
  unfolding quotient
  quotient_lt =
      let n : near < 2 ^ (16 * m) = xor_lt (16 * m) x (x / 2 ^ (4 * m)) h (below (4 * m) h) in
      xor_lt (16 * m) _ (x / 2 ^ (11 * m)) (xor_lt (16 * m) near _ n (below (8 * m) n)) (below (11 * m) h)

  -- ---- the law

  pub fold : Multiple (times m 1) → Same (x * 2 ^ (16 * m)) (folded m x)
  unfolding folded times
  fold power =
      let w = 16 * m in
      let q = quotient m x in
      let l5 = q * 2 ^ (5 * m) % 2 ^ w in
      let l12 = q * 2 ^ (12 * m) % 2 ^ w in
      let u5 = q / 2 ^ (11 * m) in
      let u12 = q / 2 ^ (4 * m) in
      let s = bit_xor (bit_xor q l5) l12 in
      let hq : q < 2 ^ w = quotient_lt in
      let h5 : l5 < 2 ^ w = mod-lt (q * 2 ^ (5 * m)) (pow_pos w) in
      let h12 : l12 < 2 ^ w = mod-lt (q * 2 ^ (12 * m)) (pow_pos w) in
      let hs : bit_xor q l5 < 2 ^ w = xor_lt w q l5 hq h5 in
      let z : q ≡ 0 * 2 ^ w + q = omega arith in
      let e : bit_xor (bit_xor q (q * 2 ^ (5 * m))) (q * 2 ^ (12 * m)) ≡ bit_xor (bit_xor u5 u12 * 2 ^ w) s =
      ap₂ bit_xor
      (ap₂ bit_xor z (shl_parts q (11 * m) (5 * m) w (omega arith)) ∙ xor_block w 0 u5 q l5 hq h5)
      (shl_parts q (4 * m) (12 * m) w (omega arith))
      ∙ xor_block w u5 u12 (bit_xor q l5) l12 hs h12
      ∙ sym (xor_shifted (bit_xor u5 u12) w s (xor_lt w (bit_xor q l5) l12 hs h12)) in
      let g : bit_xor q (bit_xor u5 u12) ≡ x = ap (bit_xor q) (xor_comm u5 u12) ∙ sym (xor_assoc q u12 u5) ∙ back in
      record {
        apart =
            subst Multiple
            (ap (bit_xor (q * 2 ^ w)) e
            ∙ sym (xor_assoc (q * 2 ^ w) (bit_xor u5 u12 * 2 ^ w) s)
            ∙ ap (λ (u : ℕ). bit_xor u s) (sym (xor_shift w q (bit_xor u5 u12)) ∙ ap (λ (u : ℕ). u * 2 ^ w) g))
            (times_multiple m power q);
      }

  -- ---- in the code, whose numbers have 128 bits: a shift to the left there, cut to fewer bits

  cut : (k : ℕ) → 16 * m ≤ 128 → quotient m x * 2 ^ k % 2 ^ 128 % 2 ^ (16 * m) ≡ quotient m x * 2 ^ k % 2 ^ (16 * m)
  cut k l =
      let e : 128 ≡ 128 - 16 * m + 16 * m = omega arith in
      ap (λ (n : ℕ). quotient m x * 2 ^ k % 2 ^ n % 2 ^ (16 * m)) e ∙ mod-mod-pow (quotient m x * 2 ^ k) (128 - 16 * m) (16 * m)

  pub fold_code : {q : ℕ} → q ≡ quotient m x → m ≤ 4 → Multiple (times m 1)
      → Same (x * 2 ^ (16 * m)) (bit_xor (bit_xor q (q * 2 ^ (12 * m) % 2 ^ 128)) (q * 2 ^ (5 * m) % 2 ^ 128) % (1 * 2 ^ (16 * m) % 2 ^ 128))
  unfolding folded
  fold_code {q} e l power =
      let w = 16 * m in
      let a = λ (n : ℕ). n * 2 ^ (5 * m) % 2 ^ 128 in
      let b = λ (n : ℕ). n * 2 ^ (12 * m) % 2 ^ 128 in
      let v = quotient m x in
      let small : 1 * 2 ^ w % 2 ^ 128 ≡ 2 ^ w = shl_exact 1 w 128 (lit< tt) (omega arith) ∙ one-mul (2 ^ w) in
      let is : bit_xor (bit_xor q (b q)) (a q) % (1 * 2 ^ w % 2 ^ 128) ≡ folded m x =
      ap₂ (λ (n k : ℕ). bit_xor (bit_xor n (b n)) (a n) % k) e small
      ∙ ap (λ (n : ℕ). n % 2 ^ w) (xor_swap v (b v) (a v))
      ∙ xor_mod (bit_xor v (a v)) (b v) w
      ∙ ap₂ bit_xor (xor_mod v (a v) w ∙ ap₂ bit_xor (mod-eq_of_lt quotient_lt) (cut (5 * m) (omega arith))) (cut (12 * m) (omega arith)) in
      subst (λ (n : ℕ). Same (x * 2 ^ w) n) (sym is) (fold power)
