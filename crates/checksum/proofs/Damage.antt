-- Bits lose nothing of the register. So one changed byte, or two neighbours, always change the sum, and no run of zeros has
-- the sum 0.
-- Assumes nothing.
use mathlib.Core.Path.{◌≡◌, refl, sym, ap, ◌∙◌}
use mathlib.Core.List.{List, ◌∷◌, ◌++◌}
use Prim.Native.Nat.{ℕ, zero, suc, ◌+◌, ◌*◌, ◌/◌, ◌%◌, ◌^◌, ◌<◌}
use native.Mathlib.Omega.{arith}
use lib.Dec.{lit<}
use lib.ListN.{replicate}
use lib.Pow.{shr_lt}
use lib.Bits.{bit_xor, xor_lt, xor_zero_r, xor_self, xor_comm, xor_shifted}
use Rattle.checksum.specs.Catalogue.{taken, step, steps, byte, crc_from, crc16}
use Rattle.checksum.specs.Remainder.{AreBytes, none, more}
use Rattle.checksum.proofs.Xor.{xor_assoc, xor_zero, xor_same}
use Rattle.checksum.proofs.Linear.{step_lt, steps_lt, steps_xor, byte_lt, added_lt, two_bytes}
use Rattle.checksum.proofs.Runs.{crc16_append, crc16_lt}

-- ---- only 0 goes to 0

-- the polynomial is odd, and what it is added to is even
taken_zero : (t l : ℕ) → t < 2 → bit_xor (l * 2) (taken t) ≡ 0 → t ≡ 0
unfolding taken
taken_zero zero l h e = refl
taken_zero (suc zero) l h e = let o : l * 2 ≡ taken 1 = xor_zero (l * 2) (taken 1) e in absurd (omega arith)
taken_zero (suc (suc t)) l h e = absurd (omega arith)

step_zero : (x : ℕ) → x < 2 ^ 16 → step x ≡ 0 → x ≡ 0
unfolding step taken
step_zero x h e =
    let l : ℕ = x * 2 % 2 ^ 16 in
    let even : l ≡ x % 2 ^ 15 * 2 = omega arith in
    let top : x / 2 ^ 15 ≡ 0 =
    taken_zero (x / 2 ^ 15) (x % 2 ^ 15) (shr_lt 1 15 h) (ap (λ (y : ℕ). bit_xor y (taken (x / 2 ^ 15))) (sym even) ∙ e) in
    let rest : l ≡ 0 = sym (xor_zero_r l) ∙ ap (λ (y : ℕ). bit_xor l (taken y)) (sym top) ∙ e in
    omega arith

steps_zero : (n x : ℕ) → x < 2 ^ 16 → steps n x ≡ 0 → x ≡ 0
unfolding steps
steps_zero zero x h e = e
steps_zero (suc n) x h e = step_zero x h (steps_zero n (step x) (step_lt x) e)

-- ---- so what was there before follows from what is there after

steps_same : (n x y : ℕ) → x < 2 ^ 16 → y < 2 ^ 16 → steps n x ≡ steps n y → x ≡ y
steps_same n x y hx hy e =
    xor_zero x y
    (steps_zero n (bit_xor x y) (xor_lt 16 x y hx hy)
    (steps_xor n x y hx hy ∙ ap (λ (z : ℕ). bit_xor z (steps n y)) e ∙ xor_self (steps n y)))

-- the register before a byte
register_same : (r s b : ℕ) → r < 2 ^ 16 → s < 2 ^ 16 → b < 2 ^ 8 → byte r b ≡ byte s b → r ≡ s
unfolding byte
register_same r s b hr hs hb e = xor_same r s (b * 2 ^ 8) (steps_same 8 _ _ (added_lt r b hr hb) (added_lt s b hs hb) e)

-- the byte that was taken
byte_same : (r a b : ℕ) → r < 2 ^ 16 → a < 2 ^ 8 → b < 2 ^ 8 → byte r a ≡ byte r b → a ≡ b
unfolding byte
byte_same r a b hr ha hb e =
    let same : bit_xor r (a * 2 ^ 8) ≡ bit_xor r (b * 2 ^ 8) = steps_same 8 _ _ (added_lt r a hr ha) (added_lt r b hr hb) e in
    let up : a * 2 ^ 8 ≡ b * 2 ^ 8 =
    xor_same (a * 2 ^ 8) (b * 2 ^ 8) r (xor_comm (a * 2 ^ 8) r ∙ same ∙ xor_comm r (b * 2 ^ 8)) in
    omega arith

-- the two bytes that were taken
pair_same : (r a b c d : ℕ) → r < 2 ^ 16 → a < 2 ^ 8 → b < 2 ^ 8 → c < 2 ^ 8 → d < 2 ^ 8
    → byte (byte r a) b ≡ byte (byte r c) d → (a ≡ c) × (b ≡ d)
pair_same r a b c d hr ha hb hc hd e =
    let x : ℕ = bit_xor (bit_xor r (a * 2 ^ 8)) b in
    let y : ℕ = bit_xor (bit_xor r (c * 2 ^ 8)) d in
    let hx : x < 2 ^ 16 = xor_lt 16 _ b (added_lt r a hr ha) (omega arith) in
    let hy : y < 2 ^ 16 = xor_lt 16 _ d (added_lt r c hr hc) (omega arith) in
    let sums : steps 8 (steps 8 x) ≡ steps 8 (steps 8 y) = sym (two_bytes r a b hr ha hb) ∙ e ∙ two_bytes r c d hr hc hd in
    let same : x ≡ y = steps_same 8 x y hx hy (steps_same 8 (steps 8 x) (steps 8 y) (steps_lt 8 x hx) (steps_lt 8 y hy) sums) in
    let added : (p q : ℕ) → q < 2 ^ 8 → bit_xor (bit_xor r (p * 2 ^ 8)) q ≡ bit_xor (p * 2 ^ 8 + q) r =
    λ p q hq. xor_assoc r (p * 2 ^ 8) q ∙ ap (bit_xor r) (xor_shifted p 8 q hq) ∙ xor_comm r (p * 2 ^ 8 + q) in
    let both : a * 2 ^ 8 + b ≡ c * 2 ^ 8 + d = xor_same _ _ r (sym (added a b hb) ∙ same ∙ added c d hd) in
    (omega arith, omega arith)

crc_from_same : (r s : ℕ) {bs : List ℕ} → r < 2 ^ 16 → s < 2 ^ 16 → AreBytes bs → crc_from r bs ≡ crc_from s bs → r ≡ s
unfolding crc_from
crc_from_same r s hr hs none e = e
crc_from_same r s hr hs (more {b} hb h) e =
    register_same r s b hr hs hb (crc_from_same (byte r b) (byte s b) (byte_lt r b) (byte_lt s b) h e)

-- ---- damage: where the sum is the same after one byte was written anew, or two neighbours, they were written as they stood

pub one_changed : (p : List ℕ) {q : List ℕ} (a b : ℕ) → AreBytes q → a < 2 ^ 8 → b < 2 ^ 8
    → crc16 (p ++ (a ∷ q)) ≡ crc16 (p ++ (b ∷ q)) → a ≡ b
unfolding crc_from
one_changed p {q} a b hq ha hb e =
    let r : ℕ = crc16 p in
    byte_same r a b (crc16_lt p) ha hb
    (crc_from_same (byte r a) (byte r b) (byte_lt r a) (byte_lt r b) hq
    (sym (crc16_append p (a ∷ q)) ∙ e ∙ crc16_append p (b ∷ q)))

pub two_changed : (p : List ℕ) {q : List ℕ} (a b c d : ℕ) → AreBytes q → a < 2 ^ 8 → b < 2 ^ 8 → c < 2 ^ 8 → d < 2 ^ 8
    → crc16 (p ++ (a ∷ b ∷ q)) ≡ crc16 (p ++ (c ∷ d ∷ q)) → (a ≡ c) × (b ≡ d)
unfolding crc_from
two_changed p {q} a b c d hq ha hb hc hd e =
    let r : ℕ = crc16 p in
    pair_same r a b c d (crc16_lt p) ha hb hc hd
    (crc_from_same (byte (byte r a) b) (byte (byte r c) d) (byte_lt (byte r a) b) (byte_lt (byte r c) d) hq
    (sym (crc16_append p (a ∷ b ∷ q)) ∙ e ∙ crc16_append p (c ∷ d ∷ q)))

-- ---- zeros: a register that isn't 0 stays so

byte_zero : (r : ℕ) → r < 2 ^ 16 → byte r 0 ≡ 0 → r ≡ 0
unfolding byte
byte_zero r h e = steps_zero 8 r h (ap (steps 8) (sym (xor_zero_r r)) ∙ e)

pub zeros_zero : (n r : ℕ) → r < 2 ^ 16 → crc_from r (replicate n 0) ≡ 0 → r ≡ 0
unfolding crc_from
zeros_zero zero r h e = e
zeros_zero (suc n) r h e = byte_zero r h (zeros_zero n (byte r 0) (byte_lt r 0) e)

pub zeros_never_zero : (n : ℕ) → crc16 (replicate n 0) ≡ 0 → ⊥
unfolding crc16
zeros_never_zero n e = omega (arith, zeros_zero n 0xffff (lit< tt) e)
