-- Document 01, "Bytes on the card": numbers in bytes, and lines.
-- Assumes nothing.
use Rattle.std.specs.Prelude.{ℕ, zero, suc, ◌+◌, ◌*◌, ◌/◌, ◌%◌, List, [], ◌∷◌, get_or}

-- "All numbers are little-endian": the number in the n bytes of s from p on, the lowest byte first
unfoldable pub field : ℕ → List ℕ → ℕ → ℕ
field zero s p = 0
field (suc n) s p = get_or s p 0 + field n s (p + 1) * 256

-- and back: the n lowest bytes of a number, the lowest first
unfoldable pub bytes_of : ℕ → ℕ → List ℕ
bytes_of zero v = []
bytes_of (suc n) v = v % 256 ∷ bytes_of n (v / 256)

-- "Alignment 16": n rounded up to a line, the first multiple of 16 that is at least n
unfoldable pub aligned : ℕ → ℕ
aligned n = (n + 15) / 16 * 16
