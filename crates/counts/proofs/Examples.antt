-- Document 02's request 9, computed: document 01's sample as it is, with its second entry damaged and of type 3, the 13-byte region, regions without an
-- entry, neither version, other files of version 2, and the outer columns.
-- Assumes nothing.
use Prim.Native.Nat.{ℕ}
use mathlib.Core.Path.{◌≡◌, refl}
use mathlib.Core.List.{List, [], ◌∷◌, ◌++◌}
use lib.ListN.{take, replicate}
use Rattle.answers.specs.Answers.{accepted, refused}
use Rattle.answers.specs.Versions.{is_version, version_refusal}
use Rattle.fields.specs.Numbers.{field, aligned}
use Rattle.checksum.specs.Catalogue.{taken, step, steps, byte, crc_from, crc16}
use Rattle.entry.specs.Words.{mark_from, version1, seed_of, word_mark, word_namespace, word_kind}
use Rattle.entry.specs.Layout.{head_length, length_of, placed, entry_at, agrees, intact, verifies}
use Rattle.scan.specs.Walk.{trial, walk_lines, walk_from, walk}
use Rattle.scan.specs.Listing.{list_most, list}
use Rattle.tail.specs.Tail.{nonzero_to, used_bound}
use Rattle.tail.proofs.Examples.{around, second, sample}
use Rattle.counts.specs.Grid.{count_of, along, grid_of, no_grid}
use Rattle.counts.specs.Counts.{counts_listed, counts_of, counts_in}

-- a row with one entry in namespace 1, and one without an entry
abbrev one : List ℕ
one = 0 ∷ 1 ∷ replicate 62 0

abbrev none : List ℕ
none = replicate 64 0

-- one of each type in namespace 1
pub sample_counts : counts_of version1 sample ≡ accepted (one ∷ one ∷ one ∷ [])
unfolding counts_of counts_listed grid_of along count_of used_bound nonzero_to list list_most walk walk_from walk_lines trial verifies intact agrees entry_at placed head_length length_of field aligned crc16 crc_from byte steps step taken mark_from word_mark word_namespace word_kind
sample_counts = refl

-- the second entry with a wrong checksum isn't counted, and the one behind it is; of type 3 it leaves no grid
pub second_damaged : (counts_of version1 (around (second 0x41 0x02 0x30)) ≡ accepted (one ∷ none ∷ one ∷ [])) × (counts_of version1 (around (second 0xC1 0x02 0x31)) ≡ refused 10 (16 ∷ []))
unfolding counts_of counts_listed grid_of along count_of used_bound nonzero_to list list_most walk walk_from walk_lines trial verifies intact agrees entry_at placed head_length length_of field aligned crc16 crc_from byte steps step taken mark_from word_mark word_namespace word_kind
second_damaged = (refl, refl)

-- the 13-byte region has its entry, and with a byte less it has none; nor have no bytes, and zeros
pub thirteen_counted : (counts_of version1 (take 13 sample) ≡ accepted (one ∷ none ∷ none ∷ [])) × (counts_of version1 (take 12 sample) ≡ accepted no_grid) × (counts_of version1 [] ≡ accepted no_grid) × (counts_of version1 (replicate 32 0) ≡ accepted no_grid)
unfolding counts_of counts_listed grid_of along count_of used_bound nonzero_to list list_most walk walk_from walk_lines trial verifies intact agrees entry_at placed head_length length_of field aligned crc16 crc_from byte steps step taken mark_from word_mark word_namespace word_kind
thirteen_counted = (refl, refl, refl, refl)

-- neither version is refused; another version 2 file's marks are all wrong, and where its ordinal is 0 modulo 2^24 they are version 1's
pub sample_elsewhere : (counts_in 3 0 sample ≡ refused 2 []) × (counts_in 2 7 sample ≡ accepted no_grid) × (counts_in 2 16777216 sample ≡ accepted (one ∷ one ∷ one ∷ []))
unfolding is_version version_refusal counts_of counts_listed grid_of along count_of used_bound nonzero_to list list_most walk walk_from walk_lines trial verifies intact agrees entry_at placed head_length length_of field aligned crc16 crc_from byte steps step taken mark_from seed_of word_mark word_namespace word_kind
sample_elsewhere = (refl, refl, refl)

-- the first and the last column: tombstones without a key in namespaces 0 and 63
pub outer_columns : counts_of version1 ((0xC0 ∷ 0x17 ∷ 0x5A ∷ 0x80 ∷ 0x00 ∷ 0x00 ∷ 0x64 ∷ 0xF5 ∷ replicate 8 0xFF) ++ (0xC1 ∷ 0x17 ∷ 0x5A ∷ 0xBF ∷ 0x00 ∷ 0x00 ∷ 0x50 ∷ 0x59 ∷ [])) ≡ accepted (none ∷ none ∷ (1 ∷ (replicate 62 0 ++ (1 ∷ []))) ∷ [])
unfolding counts_of counts_listed grid_of along count_of used_bound nonzero_to list list_most walk walk_from walk_lines trial verifies intact agrees entry_at placed head_length length_of field aligned crc16 crc_from byte steps step taken mark_from word_mark word_namespace word_kind
outer_columns = refl
