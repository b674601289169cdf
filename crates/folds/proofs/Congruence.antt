-- To leave the same remainder goes through sums and through shifts.
-- Assumes nothing.
use mathlib.Core.Path.{◌≡◌, refl, sym, ap, subst, ◌∙◌}
use Prim.Native.Nat.{ℕ, ◌+◌, ◌*◌, ◌/◌, ◌%◌, ◌^◌, ◌<◌}
use native.Mathlib.Nat.{mod-lt}
use lib.Pow.{pow_pos, split}
use lib.Bits.{bit_xor, xor_self, xor_comm, xor_shifted}
use Rattle.checksum.specs.Catalogue.{steps}
use Rattle.checksum.specs.Remainder.{Multiple, nothing}
use Rattle.checksum.proofs.Xor.{xor_four, xor_cancel, xor_shift}
use Rattle.checksum.proofs.Divides.{multiple_sum, multiple_up, steps_apart}
use Rattle.checksum.proofs.Unique.{remainder_unique}
use Rattle.folds.specs.Leaves.{Same}

pub same_of : {a b : ℕ} → a ≡ b → Same a b
same_of {a} {b} e = record { apart = subst Multiple (sym (xor_self b) ∙ ap (λ (x : ℕ). bit_xor x b) (sym e)) nothing }

pub same_sym : {a b : ℕ} → Same a b → Same b a
same_sym {a} {b} p = record { apart = subst Multiple (xor_comm a b) p.apart }

pub same_trans : {a b c : ℕ} → Same a b → Same b c → Same a c
same_trans {a} {b} {c} p q = record { apart = subst Multiple (xor_cancel a b c) (multiple_sum p.apart q.apart) }

pub same_xor : {a b c d : ℕ} → Same a b → Same c d → Same (bit_xor a c) (bit_xor b d)
same_xor {a} {b} {c} {d} p q = record { apart = subst Multiple (xor_four a b c d) (multiple_sum p.apart q.apart) }

pub same_shift : (j : ℕ) {a b : ℕ} → Same a b → Same (a * 2 ^ j) (b * 2 ^ j)
same_shift j {a} {b} p = record { apart = subst Multiple (xor_shift j a b) (multiple_up j p.apart) }

-- two registers that leave the same are one
pub same_low : {r s : ℕ} → r < 2 ^ 16 → s < 2 ^ 16 → Same r s → r ≡ s
same_low {r} {s} hr hs p =
    remainder_unique {m = r} (record { low = hr; apart = (same_of {a = r} refl).apart }) (record { low = hs; apart = p.apart })

-- bits taken one by one, as the catalogue takes them
pub same_steps : (n x : ℕ) → x < 2 ^ 16 → Same (x * 2 ^ n) (steps n x)
same_steps n x h = record { apart = steps_apart n x h }

-- a number's upper part may take another form, with the lower part below it
pub same_above : (k u : ℕ) {x y f : ℕ} → y < 2 ^ k → x ≡ u * 2 ^ k + y → Same (u * 2 ^ k) f → Same x (bit_xor f y)
same_above k u {y = y} h e p = same_trans (same_of (e ∙ sym (xor_shifted u k y h))) (same_xor p (same_of refl))

-- its upper part being what stands from bit k on
pub same_split : (k x : ℕ) {f : ℕ} → Same (x / 2 ^ k * 2 ^ k) f → Same x (bit_xor f (x % 2 ^ k))
same_split k x p = same_above k (x / 2 ^ k) (mod-lt x (pow_pos k)) (sym (split x k)) p
