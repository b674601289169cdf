-- Document 02's request 8, computed: document 01's sample as it is and with its second entry changed, regions with few bytes left, and a hostile one.
-- Assumes nothing.
use Prim.Native.Nat.{ℕ}
use mathlib.Core.Path.{◌≡◌, refl}
use mathlib.Core.List.{List, [], ◌∷◌, ◌++◌}
use lib.ListN.{take, replicate}
use Rattle.answers.specs.Answers.{accepted, refused}
use Rattle.answers.specs.Versions.{is_version, version_refusal}
use Rattle.fields.specs.Numbers.{field, aligned}
use Rattle.checksum.specs.Catalogue.{taken, step, steps, byte, crc_from, crc16}
use Rattle.entry.specs.Words.{mark_from, version1, seed_of, word_mark, word_namespace, word_kind}
use Rattle.entry.specs.Layout.{head_length, length_of, placed, entry_at, agrees, intact, verifies}
use Rattle.scan.specs.Walk.{trial, walk_lines, walk_from, walk}
use Rattle.scan.specs.Listing.{list_most, list}
use Rattle.scan.specs.Efforts.{summed, lines_at, bytes_at, counted_lines, counted_from, counted_walk, walks_effort, list_effort}
use Rattle.scan.proofs.Counting.{taking}
use Rattle.tail.specs.Tail.{durable, durable_of}
use Rattle.tail.specs.Efforts.{effort_of, effort_in}

-- insert `9`, 13 bytes at 0; tombstone, 10 bytes at 32; and what stands at 16 between them
abbrev pub around : List ℕ → List ℕ
around middle =
    (0xC0 ∷ 0x17 ∷ 0x5A ∷ 0x01 ∷ 0x02 ∷ 0x00 ∷ 0x01 ∷ 0x00 ∷ 0x39 ∷ 0x41 ∷ 0x37 ∷ 0xBF ∷ 0xDC ∷ 0xFF ∷ 0xFF ∷ 0xFF ∷ [])
    ++ (middle ++ (0xC2 ∷ 0x17 ∷ 0x5A ∷ 0x81 ∷ 0x02 ∷ 0x00 ∷ 0x41 ∷ 0x37 ∷ 0xC0 ∷ 0x70 ∷ 0xFF ∷ 0xFF ∷ 0xFF ∷ 0xFF ∷ 0xFF ∷ 0xFF ∷ []))

-- update `10`, 14 bytes, its word's last byte, its value's length and its value's first byte as they are given
abbrev pub second : ℕ → ℕ → ℕ → List ℕ
second top vlen first = 0xC1 ∷ 0x17 ∷ 0x5A ∷ top ∷ 0x02 ∷ 0x00 ∷ vlen ∷ 0x00 ∷ first ∷ 0x30 ∷ 0x41 ∷ 0x37 ∷ 0x0D ∷ 0xA9 ∷ 0xFF ∷ 0xFF ∷ []

abbrev pub sample : List ℕ
sample = around (second 0x41 0x02 0x31)

-- three entries, of 13, 14 and 10 bytes, each less 2. Up to a smaller bound fewer lines are tried; over N the call is refused before any is, and so
-- it is for neither version; another version 2 file's marks are all wrong
pub sample_effort : (effort_of version1 sample 48 ≡ taking 3 31) × (effort_of version1 sample 17 ≡ taking 2 23) × (effort_of version1 sample 16 ≡ taking 1 11) × (effort_of version1 sample 0 ≡ taking 0 0) × (effort_of version1 sample 49 ≡ taking 0 0) × (effort_in 3 0 sample 48 ≡ taking 0 0) × (effort_in 2 7 sample 48 ≡ taking 3 0)
unfolding effort_of list_effort walks_effort counted_walk counted_from counted_lines lines_at bytes_at summed list list_most walk walk_from walk_lines trial verifies intact agrees entry_at placed head_length length_of field aligned crc16 crc_from byte steps step taken mark_from seed_of word_mark word_namespace word_kind is_version version_refusal
sample_effort = (refl, refl, refl, refl, refl, refl, refl)

-- the second entry with a wrong checksum is summed up all the same; with a length that reaches just to N it adds 30, and one byte past N nothing
pub second_changed : (effort_of version1 (around (second 0x41 0x02 0x30)) 48 ≡ taking 3 31) × (effort_of version1 (around (second 0x41 0x14 0x31)) 48 ≡ taking 3 49) × (effort_of version1 (around (second 0x41 0x15 0x31)) 48 ≡ taking 3 19)
unfolding effort_of list_effort walks_effort counted_walk counted_from counted_lines lines_at bytes_at summed list list_most walk walk_from walk_lines trial verifies intact agrees entry_at placed head_length length_of field aligned crc16 crc_from byte steps step taken mark_from word_mark word_namespace word_kind
second_changed = (refl, refl, refl)

-- of type 3: refused there, with the counts up to and including that line
pub up_to_ten : (durable_of version1 (around (second 0xC1 0x02 0x31)) 48 ≡ refused 10 (16 ∷ [])) × (effort_of version1 (around (second 0xC1 0x02 0x31)) 48 ≡ taking 2 11)
unfolding durable_of durable effort_of list_effort walks_effort counted_walk counted_from counted_lines lines_at bytes_at summed list list_most walk walk_from walk_lines trial verifies intact agrees entry_at placed head_length length_of field aligned crc16 crc_from byte steps step taken mark_from word_mark word_namespace word_kind
up_to_ten = (refl, refl)

-- the 13-byte region, the same with one byte less, and zeros: a line with fewer than eight bytes left isn't tried
pub few_bytes_left : (effort_of version1 (take 13 sample) 13 ≡ taking 1 11) × (effort_of version1 (take 12 sample) 12 ≡ taking 1 0) × (effort_of version1 (replicate 24 0) 24 ≡ taking 2 0) × (effort_of version1 (replicate 23 0) 23 ≡ taking 1 0) × (effort_of version1 (replicate 7 0) 7 ≡ taking 0 0)
unfolding effort_of list_effort walks_effort counted_walk counted_from counted_lines lines_at bytes_at summed list list_most walk walk_from walk_lines trial verifies intact agrees entry_at placed head_length length_of field aligned crc16 crc_from byte steps step taken mark_from word_mark word_namespace word_kind
few_bytes_left = (refl, refl, refl, refl, refl)

-- every mark right, every entry up to N, no checksum right: 30 and 14 bytes
pub hostile_effort : (durable_of version1 (0xC0 ∷ 0x17 ∷ 0x5A ∷ 0x01 ∷ 0x16 ∷ replicate 11 0 ++ (0xC1 ∷ 0x17 ∷ 0x5A ∷ 0x01 ∷ 0x06 ∷ replicate 11 0)) 32 ≡ accepted 0) × (effort_of version1 (0xC0 ∷ 0x17 ∷ 0x5A ∷ 0x01 ∷ 0x16 ∷ replicate 11 0 ++ (0xC1 ∷ 0x17 ∷ 0x5A ∷ 0x01 ∷ 0x06 ∷ replicate 11 0)) 32 ≡ taking 2 44)
unfolding durable_of durable effort_of list_effort walks_effort counted_walk counted_from counted_lines lines_at bytes_at summed list list_most walk walk_from walk_lines trial verifies intact agrees entry_at placed head_length length_of field aligned crc16 crc_from byte steps step taken mark_from word_mark word_namespace word_kind
hostile_effort = (refl, refl)
