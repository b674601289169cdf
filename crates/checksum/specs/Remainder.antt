-- What a sum means. A polynomial with coefficients 0 and 1 is a number: bit k is the coefficient of x ^ k. Two are added by
-- `bit_xor`, and to multiply by x ^ k is to multiply by 2 ^ k. In these words the sum is a remainder (proofs/Unique.antt).
-- Assumes nothing.
use Rattle.std.specs.Prelude.{ℕ, ◌+◌, ◌*◌, ◌^◌, ◌<◌, List, [], ◌∷◌, length}
use Rattle.std.specs.Int.Bits.{bit_xor}

-- x ^ 16 + x ^ 12 + x ^ 5 + 1: the catalogue's 0x1021 with the leading x ^ 16, which the catalogue leaves out
abbrev pub polynomial : ℕ
polynomial = 0x11021

-- a multiple of the polynomial is a sum of none or more copies of it, each moved up by any number of places
pub data Multiple : ℕ → Type 0 where
  nothing : Multiple 0
  plus : {m : ℕ} (k : ℕ) → Multiple m → Multiple (bit_xor (polynomial * 2 ^ k) m)

-- r is what division of m by the polynomial leaves: it has a lower degree, and m differs from it by a multiple
pub record Remainder (m r : ℕ) : Type 0 where
  pub low : r < 2 ^ 16
  pub apart : Multiple (bit_xor m r)

-- a run of bytes read as one number, the first byte highest
unfoldable pub value : List ℕ → ℕ
value [] = 0
value (b ∷ bs) = b * 2 ^ (8 * length bs) + value bs

-- what is divided: the bytes with sixteen zero bits after them, and the register's start r added to the first sixteen bits
unfoldable pub dividend : ℕ → List ℕ → ℕ
dividend r bs = bit_xor (r * 2 ^ (8 * length bs)) (value bs * 2 ^ 16)

-- every number of the run is below 256, as those of a slice of u8 are
pub data AreBytes : List ℕ → Type 0 where
  none : AreBytes []
  more : {b : ℕ} {bs : List ℕ} → b < 2 ^ 8 → AreBytes bs → AreBytes (b ∷ bs)
