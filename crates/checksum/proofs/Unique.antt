-- Division by the polynomial leaves one remainder, since no multiple but 0 has a degree below 16; and that remainder is the sum.
-- Assumes nothing.
use mathlib.Core.Path.{◌≡◌, refl, sym, ap, subst, ◌∙◌}
use mathlib.Core.Bool.{Bool, true, false, not}
use mathlib.Core.Logic.{◌⊎◌, ⊎_elim, inl, inr}
use mathlib.Core.List.{List, [], ◌∷◌}
use Prim.Native.Nat.{ℕ, zero, suc, ◌*◌, ◌/◌, ◌^◌, ◌<◌, ◌≤◌}
use native.Mathlib.Nat.{mul_assoc, pow-suc, div-eq_of_lt}
use native.Mathlib.Omega.{arith}
use lib.Dec.{lit<, lit≤}
use lib.Bits.{bit_xor, xor_lt, xor_shr, xor_zero_r, xor_comm}
use Rattle.checksum.specs.Catalogue.{crc16}
use Rattle.checksum.specs.Remainder.{polynomial, Multiple, nothing, plus, Remainder, dividend, AreBytes}
use Rattle.checksum.proofs.Xor.{xor_assoc, xor_cancel, xor_shift, xor_twice, xor_zero}
use Rattle.checksum.proofs.Runs.{crc16_lt}
use Rattle.checksum.proofs.Divides.{multiple_sum, crc_from_apart}

-- ---- every multiple has a quotient: a list of coefficients, the lowest first

-- the polynomial times these coefficients
times : List Bool → ℕ
times [] = 0
times (false ∷ cs) = times cs * 2
times (true ∷ cs) = bit_xor (times cs * 2) polynomial

-- one coefficient changed
flip : ℕ → List Bool → List Bool
flip zero [] = true ∷ []
flip zero (c ∷ cs) = not c ∷ cs
flip (suc k) [] = false ∷ flip k []
flip (suc k) (c ∷ cs) = c ∷ flip k cs

double : (k x : ℕ) → bit_xor (polynomial * 2 ^ k) x * 2 ≡ bit_xor (polynomial * 2 ^ suc k) (x * 2)
double k x =
    xor_shift 1 (polynomial * 2 ^ k) x
    ∙ ap (λ (y : ℕ). bit_xor y (x * 2)) (mul_assoc polynomial (2 ^ k) 2 ∙ ap (λ (y : ℕ). polynomial * y) (sym (pow-suc 2 k)))

times_flip : (k : ℕ) (cs : List Bool) → times (flip k cs) ≡ bit_xor (polynomial * 2 ^ k) (times cs)
unfolding times flip
times_flip zero [] = refl
times_flip zero (false ∷ cs) = xor_comm (times cs * 2) polynomial
times_flip zero (true ∷ cs) = sym (xor_comm polynomial (bit_xor (times cs * 2) polynomial) ∙ xor_twice (times cs * 2) polynomial)
times_flip (suc k) [] = ap (λ (x : ℕ). x * 2) (times_flip k []) ∙ double k 0
times_flip (suc k) (false ∷ cs) = ap (λ (x : ℕ). x * 2) (times_flip k cs) ∙ double k (times cs)
times_flip (suc k) (true ∷ cs) =
    ap (λ (x : ℕ). bit_xor (x * 2) polynomial) (times_flip k cs)
    ∙ ap (λ (x : ℕ). bit_xor x polynomial) (double k (times cs))
    ∙ xor_assoc (polynomial * 2 ^ suc k) (times cs * 2) polynomial

quotient : {a : ℕ} → Multiple a → List Bool
quotient nothing = []
quotient (plus k h) = flip k (quotient h)

times_quotient : {a : ℕ} (h : Multiple a) → times (quotient h) ≡ a
unfolding times quotient
times_quotient nothing = refl
times_quotient (plus k h) = times_flip k (quotient h) ∙ ap (bit_xor (polynomial * 2 ^ k)) (times_quotient h)

-- ---- so no multiple is low, but 0

-- what is added below 2 ^ 17 leaves the bits above
stays_high : (x y : ℕ) → 2 ^ 17 ≤ x → y < 2 ^ 17 → 2 ^ 17 ≤ bit_xor x y
stays_high x y hx hy =
    let e : bit_xor x y / 2 ^ 17 ≡ x / 2 ^ 17 =
    xor_shr x y 17 ∙ ap (bit_xor (x / 2 ^ 17)) (div-eq_of_lt hy) ∙ xor_zero_r (x / 2 ^ 17) in
    omega arith

times_high : (cs : List Bool) → (times cs ≡ 0) ⊎ (2 ^ 16 ≤ times cs)
unfolding times
times_high [] = inl refl
times_high (false ∷ cs) = ⊎_elim (λ e. inl (omega arith)) (λ h. inr (omega arith)) (times_high cs)
times_high (true ∷ cs) =
    ⊎_elim
    (λ e. inr (subst (λ (x : ℕ). 2 ^ 16 ≤ bit_xor (x * 2) polynomial) (sym e) (lit≤ tt)))
    (λ h.
    let g : 2 ^ 17 ≤ bit_xor (times cs * 2) polynomial = stays_high (times cs * 2) polynomial (omega arith) (lit< tt) in
    inr (omega arith))
    (times_high cs)

low_zero : {a : ℕ} → Multiple a → a < 2 ^ 16 → a ≡ 0
low_zero {a} m h =
    let e : times (quotient m) ≡ a = times_quotient m in
    ⊎_elim (λ z. sym e ∙ z) (λ g. absurd (omega arith)) (times_high (quotient m))

pub remainder_unique : {m r s : ℕ} → Remainder m r → Remainder m s → r ≡ s
remainder_unique {m} {r} {s} hr hs =
    xor_zero r s
    (low_zero
    (subst Multiple (ap (λ (x : ℕ). bit_xor x (bit_xor m s)) (xor_comm m r) ∙ xor_cancel r m s)
    (multiple_sum hr.apart hs.apart))
    (xor_lt 16 r s hr.low hs.low))

-- ---- the sum is the remainder of the message, and nothing else is

pub crc16_is_the_remainder : {bs : List ℕ} → AreBytes bs → Remainder (dividend 0xffff bs) (crc16 bs)
unfolding crc16
crc16_is_the_remainder {bs} h = record { low = crc16_lt bs; apart = crc_from_apart 0xffff (lit< tt) h }

pub crc16_is_the_only_remainder : {bs : List ℕ} (r : ℕ) → AreBytes bs → Remainder (dividend 0xffff bs) r → r ≡ crc16 bs
crc16_is_the_only_remainder r h hr = remainder_unique hr (crc16_is_the_remainder h)
