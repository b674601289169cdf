-- Small damage: one changed byte, or two neighbours, of an entry.
-- Assumes nothing.
use Rattle.std.specs.Prelude.{ℕ, ◌+◌, ◌^◌, ◌<◌, ◌≤◌, ◌≡◌, List, ◌⊎◌, length, get_or}
use Rattle.entry.specs.Layout.{sum_place}
use Rattle.entry.specs.declared.Entry.{Entry}

-- two regions of bytes that differ, from p up to q, in the byte at x or in the one behind it or in both, and in no other. One changed byte is the
-- case in which the other of the two is the same
pub record Changed (s t : List ℕ) (p q x : ℕ) : Type 0 where
  pub long : length s ≡ length t
  pub old : (k : ℕ) → get_or s k 0 < 2 ^ 8
  pub new : (k : ℕ) → get_or t k 0 < 2 ^ 8
  pub only : (k : ℕ) → p ≤ k → k < q → (k ≡ x → ⊥) → (k ≡ x + 1 → ⊥) → get_or s k 0 ≡ get_or t k 0
  pub indeed : get_or s x 0 ≡ get_or t x 0 → get_or s (x + 1) 0 ≡ get_or t (x + 1) 0 → ⊥

-- both bytes are among those that the entry's checksum covers, or they are the checksum: not the last byte before it with the first byte of it
abbrev pub OnOneSide : Entry → ℕ → Type 0
OnOneSide e x = ((e.offset ≤ x) × (x + 2 ≤ sum_place e)) ⊎ (x ≡ sum_place e)

-- and the bytes before the value are as they were
abbrev pub HeadKept : List ℕ → List ℕ → Entry → Type 0
HeadKept s t e = (k : ℕ) → e.offset ≤ k → k < e.vplace → get_or s k 0 ≡ get_or t k 0
