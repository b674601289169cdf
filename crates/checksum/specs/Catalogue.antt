-- CRC-16/IBM-3740, as the public catalogue of parametrised CRC algorithms has it:
--
--   width=16 poly=0x1021 init=0xffff refin=false refout=false xorout=0x0000 check=0x29b1 residue=0x0000
--
-- Each definition below has the words of that entry above it which it writes down. The last two words are theorems:
-- `check_value` and `residue` of proofs/Runs.antt.
-- Assumes nothing.
use Rattle.std.specs.Prelude.{ℕ, zero, suc, ◌*◌, ◌/◌, ◌%◌, ◌^◌, List, [], ◌∷◌}
use Rattle.std.specs.Int.Bits.{bit_xor}

-- poly=0x1021: what is added, without carry, for the bit that leaves the register: the polynomial where that bit is set
unfoldable pub taken : ℕ → ℕ
taken zero = 0
taken (suc b) = 0x1021

-- width=16: the register is a number below 2 ^ 16. One bit moves it left by one place, and its highest bit leaves it
unfoldable pub step : ℕ → ℕ
step r = bit_xor (r * 2 % 2 ^ 16) (taken (r / 2 ^ 15))

-- that many bits
unfoldable pub steps : ℕ → ℕ → ℕ
steps zero r = r
steps (suc n) r = steps n (step r)

-- refin=false: a byte comes in with its highest bit first, so it is added to the register's upper half, and eight bits follow
unfoldable pub byte : ℕ → ℕ → ℕ
byte r b = steps 8 (bit_xor r (b * 2 ^ 8))

-- the register after a run of bytes, from any register
unfoldable pub crc_from : ℕ → List ℕ → ℕ
crc_from r [] = r
crc_from r (b ∷ bs) = crc_from (byte r b) bs

-- init=0xffff, refout=false, xorout=0x0000: the register starts at 0xffff, and where it ends is the sum, unturned and unchanged
unfoldable pub crc16 : List ℕ → ℕ
crc16 bs = crc_from 0xffff bs
