-- Exclusive or as addition: the laws that lib.Bits leaves out, and that every other file here counts with.
-- Assumes nothing.
use mathlib.Core.Path.{◌≡◌, sym, ap, ap₂, ◌∙◌}
use Prim.Native.Nat.{ℕ, ◌*◌, ◌^◌}
use native.Mathlib.Nat.{add-zero}
use lib.Pow.{pow_pos}
use lib.Bits.{bit_xor, xor_comm, xor_block, xor_self, xor_zero_r}
pub use lib.Bits.{xor_assoc}

-- the last two of three change places
pub xor_swap : (a b c : ℕ) → bit_xor (bit_xor a b) c ≡ bit_xor (bit_xor a c) b
xor_swap a b c = xor_assoc a b c ∙ ap (bit_xor a) (xor_comm b c) ∙ sym (xor_assoc a c b)

-- two sums of two, regrouped
pub xor_four : (a b c d : ℕ) → bit_xor (bit_xor a b) (bit_xor c d) ≡ bit_xor (bit_xor a c) (bit_xor b d)
xor_four a b c d =
    sym (xor_assoc (bit_xor a b) c d)
    ∙ ap (λ (x : ℕ). bit_xor x d) (xor_swap a b c)
    ∙ xor_assoc (bit_xor a c) b d

-- what is added twice falls out
pub xor_twice : (a b : ℕ) → bit_xor (bit_xor a b) b ≡ a
xor_twice a b = xor_assoc a b b ∙ ap (bit_xor a) (xor_self b) ∙ xor_zero_r a

-- a part that two sums share falls out of their sum
pub xor_cancel : (a b c : ℕ) → bit_xor (bit_xor a b) (bit_xor b c) ≡ bit_xor a c
xor_cancel a b c = sym (xor_assoc (bit_xor a b) b c) ∙ ap (λ (x : ℕ). bit_xor x c) (xor_twice a b)

-- two numbers whose sum is 0 are one
pub xor_zero : (a b : ℕ) → bit_xor a b ≡ 0 → a ≡ b
xor_zero a b e = sym (xor_twice a b) ∙ ap (λ (x : ℕ). bit_xor x b) e

-- two numbers that give one sum with a third are one
pub xor_same : (a b c : ℕ) → bit_xor a c ≡ bit_xor b c → a ≡ b
xor_same a b c e = sym (xor_twice a c) ∙ ap (λ (x : ℕ). bit_xor x c) e ∙ xor_twice b c

-- a sum moves up as its parts do
pub xor_shift : (j x y : ℕ) → bit_xor x y * 2 ^ j ≡ bit_xor (x * 2 ^ j) (y * 2 ^ j)
xor_shift j x y =
    sym
    (ap₂ bit_xor (sym (add-zero (x * 2 ^ j))) (sym (add-zero (y * 2 ^ j))) ∙ xor_block j x y 0 0 (pow_pos j) (pow_pos j)
    ∙ add-zero (bit_xor x y * 2 ^ j))
