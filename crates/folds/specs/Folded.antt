-- How a register is folded, at one width for all: 16 * m bits, where m is 1, 2, 4 or 8. That the fold leaves what it should is a
-- theorem, `fold` of proofs/Folds.antt.
-- Assumes nothing.
use Rattle.std.specs.Prelude.{ℕ, ◌*◌, ◌/◌, ◌%◌, ◌^◌}
use Rattle.std.specs.Int.Bits.{bit_xor}

-- q times x ^ (16 * m) + x ^ (12 * m) + x ^ (5 * m) + 1, which is the polynomial's m-th power
unfoldable pub times : ℕ → ℕ → ℕ
times m q = bit_xor (q * 2 ^ (16 * m)) (bit_xor (bit_xor q (q * 2 ^ (5 * m))) (q * 2 ^ (12 * m)))

-- this many times the power makes up x * x ^ (16 * m), but for what stands below x ^ (16 * m)
unfoldable pub quotient : ℕ → ℕ → ℕ
quotient m x = let y = bit_xor x (x / 2 ^ (4 * m)) in bit_xor (bit_xor y (y / 2 ^ (8 * m))) (x / 2 ^ (11 * m))

-- what stands there: the quotient times the power's three lower terms, in 16 * m bits
unfoldable pub folded : ℕ → ℕ → ℕ
folded m x = let q = quotient m x in bit_xor (bit_xor q (q * 2 ^ (5 * m) % 2 ^ (16 * m))) (q * 2 ^ (12 * m) % 2 ^ (16 * m))

-- at m = 8, of the upper half of what stands there the part that hangs on the register's upper half alone
unfoldable pub kept : ℕ → ℕ
kept hi = let q = bit_xor hi (hi / 2 ^ 32) in bit_xor q (q * 2 ^ 40 % 2 ^ 64)
