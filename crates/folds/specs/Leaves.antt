-- What the contracts inside this crate say of the numbers on the way to a sum. The sum itself is not defined here: `sum` and `sum_on`
-- cite the catalogue's `crc16` and `crc_from`, of the crate checksum.
-- Assumes nothing.
use Rattle.std.specs.Prelude.{◌≡◌, List, ℕ, ◌+◌, ◌*◌, ◌^◌, ◌<◌, length, take, drop}
use Rattle.std.specs.Int.Bits.{bit_xor}
use Rattle.checksum.specs.Remainder.{Multiple, value}

-- a and b leave the same remainder: they are apart by a multiple of the polynomial
pub record Same (a b : ℕ) : Type 0 where
  pub apart : Multiple (bit_xor a b)

-- r is the number that the n bytes of s from place i on make, the first highest, and so it is below 2 ^ (8 * n)
pub record Reads (s : List ℕ) (i n r : ℕ) : Type 0 where
  pub is : r ≡ value (take n (drop i s))
  pub small : r < 2 ^ (8 * n)

-- the number x with the bytes bs written behind it
unfoldable pub followed : ℕ → List ℕ → ℕ
followed x bs = x * 2 ^ (8 * length bs) + value bs
