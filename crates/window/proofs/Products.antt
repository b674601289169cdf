-- What a product leaves, digit by digit of its first factor.
-- Assumes nothing.
use mathlib.Core.Path.{◌≡◌, refl, sym, ap, subst, ◌∙◌}
use Prim.Native.Nat.{ℕ, zero, suc, ◌+◌, ◌-◌, ◌*◌, ◌/◌, ◌%◌, ◌^◌, ◌<◌}
use native.Mathlib.Nat.{mul_right_comm, mod-lt, div-one}
use native.Mathlib.Omega.{arith}
use lib.Dec.{lit<}
use lib.Pow.{shr-shr, split}
use lib.Bits.{bit_xor, xor_lt, xor_shifted}
use Rattle.checksum.specs.Catalogue.{taken, step, steps}
use Rattle.checksum.proofs.Xor.{xor_shift}
use Rattle.checksum.proofs.Linear.{step_lt}
use Rattle.folds.specs.Leaves.{Same}
use Rattle.folds.proofs.Congruence.{same_of, same_sym, same_trans, same_xor, same_shift, same_steps}
use Rattle.window.specs.Windows.{Times}

-- ---- a digit as a factor

-- the bit that leaves the register takes the polynomial that often
pub taken_times : (t : ℕ) → t < 2 → t * 0x1021 ≡ taken t
unfolding taken
taken_times zero h = refl
taken_times (suc zero) h = refl
taken_times (suc (suc t)) h = absurd (omega arith)

pub digit_lt : (b d : ℕ) → b < 2 ^ 16 → d < 2 → b * d < 2 ^ 16
digit_lt b zero hb hd = omega arith
digit_lt b (suc zero) hb hd = omega arith
digit_lt b (suc (suc d)) hb hd = absurd (omega arith)

digit_same : (b c d : ℕ) → d < 2 → Same b c → Same (d * c) (b * d)
digit_same b c zero h p = let e : 0 * c ≡ b * 0 = omega arith in same_of e
digit_same b c (suc zero) h p =
    let one : 1 * c ≡ c = omega arith in
    let same : b ≡ b * 1 = omega arith in
    same_trans (same_of one) (same_trans (same_sym p) (same_of same))
digit_same b c (suc (suc d)) h p = absurd (omega arith)

-- ---- a product: of no digits, of one more, and of all

pub times_none : (a b : ℕ) → a ≡ 0 → Times a b 0
times_none a b h =
    record {
      low = lit< tt;
      by = λ e p. let none : 0 ≡ 0 * 2 ^ e = omega arith in same_of (none ∙ ap (λ (x : ℕ). x * 2 ^ e) (sym h));
    }

next_digit : (a k : ℕ) → a / 2 ^ (k + 1) * 2 + a / 2 ^ k % 2 ≡ a / 2 ^ k
next_digit a k = ap (λ (x : ℕ). x * 2 + a / 2 ^ k % 2) (sym (shr-shr a k 1)) ∙ split (a / 2 ^ k) 1

pub times_more : (a k : ℕ) {b r o : ℕ} → b < 2 ^ 16 → o ≡ step r → 0 < k → Times (a / 2 ^ k) b r
    → Times (a / 2 ^ (k - 1)) b (bit_xor o (b * (a / 2 ^ (k - 1) % 2)))
unfolding steps
times_more a k {b} {r} {o} hb ho hk t =
    let d : ℕ = a / 2 ^ (k - 1) % 2 in
    let h : ℕ = a / 2 ^ k in
    let one : k - 1 + 1 ≡ k = omega arith in
    let hd : d < 2 = mod-lt (a / 2 ^ (k - 1)) (lit< tt) in
    let digits : a / 2 ^ (k - 1) ≡ bit_xor (h * 2) d =
    sym (xor_shifted h 1 d hd ∙ ap (λ (i : ℕ). a / 2 ^ i * 2 + d) (sym one) ∙ next_digit a (k - 1)) in
    record {
      low = xor_lt 16 o (b * d) (subst (λ (x : ℕ). x < 2 ^ 16) (sym ho) (step_lt r)) (digit_lt b d hb hd);
      by = λ e p.
          same_sym
          (same_trans
          (same_of (ap (λ (x : ℕ). x * 2 ^ e) digits ∙ xor_shift e (h * 2) d ∙ ap (λ (x : ℕ). bit_xor x (d * 2 ^ e)) (mul_right_comm h 2 (2 ^ e))))
          (same_xor
          (same_trans (same_shift 1 (same_sym (t.by e p))) (same_trans (same_steps 1 r t.low) (same_of (sym ho))))
          (digit_same b (2 ^ e) d hd p)));
    }

pub times_all : (a k : ℕ) {b r : ℕ} → k ≡ 0 → Times (a / 2 ^ k) b r → Times a b r
times_all a k {b} {r} e t = subst (λ (x : ℕ). Times x b r) (ap (λ (i : ℕ). a / 2 ^ i) e ∙ div-one a) t

-- ---- the one power that is written down: the checker takes the 2,048 bits

pub power_right : Same 64848 (2 ^ 2048)
unfolding steps step taken
power_right = same_sym (same_steps 2048 1 (lit< tt))
