-- Document 01, "Values the text names but does not define" and "Bytes on the card": the mark and the entry word; with document 02's request 10,
-- the mark of each version.
-- Assumes nothing.
use Rattle.std.specs.Prelude.{ℕ, ◌+◌, ◌*◌, ◌/◌, ◌%◌, ◌^◌, eqb}
use Rattle.answers.specs.Answers.{pick_number}

-- "Mark at offset p: (p/16 + 0x5A17C0) mod 2^24." A mark rule gives each offset its mark. What the walk, the appends and the damage theorem
-- say holds for any rule; the code's core takes a seed in the place of 0x5A17C0
unfoldable pub mark_from : ℕ → ℕ → ℕ
mark_from seed p = (p / 16 + seed) % 2 ^ 24

-- version 1's rule
abbrev pub version1 : ℕ → ℕ
version1 = mark_from 0x5A17C0

-- "In version 2 the mark is (p/16 + 0x5A17C0 + ordinal mod 2^24) mod 2^24. Version 1 keeps its mark": the seed of a file's marks
unfoldable pub seed_of : (version ordinal : ℕ) → ℕ
seed_of version ordinal = 0x5A17C0 + pick_number (eqb version 2) (ordinal % 2 ^ 24) 0

-- "and the header's version decides for the whole file": the mark rule of a file with this version and ordinal
abbrev pub mark_of : (version ordinal : ℕ) → ℕ → ℕ
mark_of version ordinal = mark_from (seed_of version ordinal)

-- "The first word of an entry packs the mark in bits 0 to 23, the namespace in bits 24 to 29 and the type in bits 30 and 31."
unfoldable pub word_of : ℕ → ℕ → ℕ → ℕ
word_of mark ns kind = mark + ns * 2 ^ 24 + kind * 2 ^ 30

unfoldable pub word_mark : ℕ → ℕ
word_mark word = word % 2 ^ 24

unfoldable pub word_namespace : ℕ → ℕ
word_namespace word = word / 2 ^ 24 % 2 ^ 6

unfoldable pub word_kind : ℕ → ℕ
word_kind word = word / 2 ^ 30 % 2 ^ 2
