-- What the regions of specs/Examples.antt list. Everything here is computed from the definitions alone, and no law is used.
-- Assumes nothing.
use mathlib.Core.Path.{◌≡◌, refl}
use mathlib.Core.List.{[], ◌∷◌, ◌++◌}
use native.Mathlib.Bridge.{le_by_compare, IsLe}
use lib.ListN.{take, replicate, set}
use Rattle.answers.specs.Answers.{accepted, refused}
use Rattle.answers.specs.Versions.{is_version, version_refusal}
use Rattle.fields.specs.Numbers.{field, bytes_of, aligned}
use Rattle.fields.specs.Runs.{over}
use Rattle.checksum.specs.Catalogue.{taken, step, steps, byte, crc_from, crc16}
use Rattle.entry.specs.Words.{mark_from, version1, seed_of, mark_of, word_of, word_mark, word_namespace, word_kind}
use Rattle.entry.specs.Layout.{head_length, length_of, placed, entry_at, agrees, intact, verifies}
use Rattle.append.specs.Bytes.{item, head_of, covered_of, encoded}
use Rattle.append.specs.Append.{append_of, append_refusal, append_tests}
use Rattle.std.specs.Prelude.{Ok}
use Rattle.scan.specs.Walk.{ended, trial, walk_lines, walk_from, walk}
use Rattle.scan.specs.Listing.{list_most, list}
use Rattle.scan.specs.Parts.{fits, part_of}
use Rattle.tail.specs.Tail.{nonzero_to, used_bound, durable, durable_of}
use Rattle.damage.specs.Log.{Logged, zeroed, data-appended, tombstone_appended}
use Rattle.damage.specs.Examples.{listed_under, read_back_under, listed, read_back, a7, nine, ten, gone, nine_bytes, ten_bytes, gone_bytes, around, changed_value, changed_type, changed_across, nesting, nested_sum, nested_tombstone, left_over, zero_sum, recycled_card}

-- the three appends, each by its contract, give these bytes
pub appended_three : Logged version1 (around ten_bytes) 48 (nine ∷ ten ∷ gone ∷ [])
unfolding IsLe over encoded covered_of head_of bytes_of word_of mark_from aligned head_length length_of crc16 crc_from byte steps step taken is_version version_refusal append_of append_refusal append_tests
appended_three =
    tombstone_appended {first = version_refusal 1} {answer = Ok 48}
    (data-appended {first = version_refusal 1} {answer = Ok 32}
    (data-appended {first = version_refusal 1} {answer = Ok 16} (zeroed 64 (le_by_compare 64 268435456 tt)) (record { says = refl; leaves = refl }) refl)
    (record { says = refl; leaves = refl }) refl)
    (record { says = refl; leaves = refl }) refl

-- the other entries of these examples are what appends at offset 0 write, too
pub nesting_written : nesting ≡ encoded (version1 0) (item 0 1 a7 (replicate 8 0x2E ++ take 13 (encoded (version1 16) (item 0 1 a7 (0x31 ∷ [])))))
unfolding encoded covered_of head_of bytes_of word_of mark_from aligned crc16 crc_from byte steps step taken
nesting_written = refl

pub nested_sum_written : nested_sum ≡ encoded (version1 0) (item 0 1 [] (0x39 ∷ 0x86 ∷ 0xCE ∷ []))
unfolding encoded covered_of head_of bytes_of word_of mark_from aligned crc16 crc_from byte steps step taken
nested_sum_written = refl

pub nested_tombstone_written : nested_tombstone ≡ encoded (version1 0) (item 0 1 a7 (0x4D ∷ 0xE1 ∷ []))
unfolding encoded covered_of head_of bytes_of word_of mark_from aligned crc16 crc_from byte steps step taken
nested_tombstone_written = refl

pub zero_sum_written : zero_sum ≡ encoded (version1 0) (item 0 1 [] (0x84 ∷ 0x53 ∷ 0x34 ∷ 0x32 ∷ []))
unfolding encoded covered_of head_of bytes_of word_of mark_from aligned crc16 crc_from byte steps step taken
zero_sum_written = refl

-- the middle entry damaged: the first and the third are listed
pub second_skipped : (read_back (around changed_value) ≡ nine ∷ gone ∷ []) × (durable_of version1 (around changed_value) (used_bound (around changed_value)) ≡ accepted 48)
unfolding field aligned over crc16 crc_from byte steps step taken mark_from word_mark word_namespace word_kind head_length placed entry_at agrees intact verifies trial walk_lines walk_from walk list_most list fits part_of nonzero_to used_bound durable durable_of
second_skipped = (refl, refl)

-- a line of type 3: one changed bit ends the listing, and what stands behind it is not listed
pub type_three : (read_back (around changed_type) ≡ nine ∷ []) × ((listed (around changed_type)).stop ≡ refused 10 (16 ∷ []))
unfolding field aligned over crc16 crc_from byte steps step taken mark_from word_mark word_namespace word_kind head_length placed entry_at agrees intact verifies trial walk_lines walk_from walk list_most list fits part_of nonzero_to used_bound
type_three = (refl, refl)

-- the last byte that the checksum covers and the first byte of the checksum: two changed neighbours, and the line verifies with another key
pub changed_across_lem : read_back (around changed_across) ≡ nine ∷ item 1 1 (0x41 ∷ 0xBE ∷ []) (0x31 ∷ 0x30 ∷ []) ∷ gone ∷ []
unfolding field aligned over crc16 crc_from byte steps step taken mark_from word_mark word_namespace word_kind head_length placed entry_at agrees intact verifies trial walk_lines walk_from walk list_most list fits part_of nonzero_to used_bound
changed_across_lem = refl

-- a value that has an entry in it: one changed byte of the outer entry, and the inner one, which nobody appended, is listed
pub nested_shown : read_back (set nesting 0 0xC1) ≡ item 0 1 a7 (0x31 ∷ []) ∷ []
unfolding field aligned over crc16 crc_from byte steps step taken mark_from word_mark word_namespace word_kind head_length placed entry_at agrees intact verifies trial walk_lines walk_from walk list_most list fits part_of nonzero_to used_bound
nested_shown = refl

-- a changed length: one changed byte, and the line verifies as a shorter entry
pub shorter_shown : read_back (set nested_sum 6 0x01) ≡ item 0 1 [] (0x39 ∷ []) ∷ []
unfolding field aligned over crc16 crc_from byte steps step taken mark_from word_mark word_namespace word_kind head_length placed entry_at agrees intact verifies trial walk_lines walk_from walk list_most list fits part_of nonzero_to used_bound
shorter_shown = refl

-- a changed type: one changed bit, and an insert verifies as a tombstone of another key
pub tombstone_shown : read_back (set nested_tombstone 3 0x81) ≡ item 2 1 (0x02 ∷ 0x00 ∷ []) [] ∷ []
unfolding field aligned over crc16 crc_from byte steps step taken mark_from word_mark word_namespace word_kind head_length placed entry_at agrees intact verifies trial walk_lines walk_from walk list_most list fits part_of nonzero_to used_bound
tombstone_shown = refl

-- a region that was not zeroed: what an earlier use left behind the log is listed
pub left_over_shown : read_back (nine_bytes ++ left_over) ≡ nine ∷ item 0 1 a7 (0x38 ∷ []) ∷ []
unfolding field aligned over crc16 crc_from byte steps step taken mark_from word_mark word_namespace word_kind head_length placed entry_at agrees intact verifies trial walk_lines walk_from walk list_most list fits part_of nonzero_to used_bound
left_over_shown = refl

-- a power cut after ten bytes with the checksum 0: the line verifies with zeros in the value
pub zero_sum_shown : read_back (take 10 zero_sum ++ replicate 6 0) ≡ item 0 1 [] (0x84 ∷ 0x53 ∷ 0 ∷ 0 ∷ []) ∷ []
unfolding field aligned over crc16 crc_from byte steps step taken mark_from word_mark word_namespace word_kind head_length placed entry_at agrees intact verifies trial walk_lines walk_from walk list_most list fits part_of nonzero_to used_bound
zero_sum_shown = refl

-- two stretches, the first entry and the third: the second is listed
pub two_stretches : read_back (set nine_bytes 8 0x38 ++ (ten_bytes ++ (set gone_bytes 7 0x38 ++ replicate 16 0))) ≡ ten ∷ []
unfolding field aligned over crc16 crc_from byte steps step taken mark_from word_mark word_namespace word_kind head_length placed entry_at agrees intact verifies trial walk_lines walk_from walk list_most list fits part_of nonzero_to used_bound
two_stretches = refl

-- the recycled card's entries are what appends write: the insert under ordinal 8, the others under ordinal 7
pub recycled_written : recycled_card ≡ encoded (mark_of 2 8 0) nine ++ (encoded (mark_of 2 7 16) ten ++ (encoded (mark_of 2 7 32) gone ++ replicate 16 0))
unfolding encoded covered_of head_of bytes_of word_of mark_from seed_of aligned crc16 crc_from byte steps step taken
recycled_written = refl

-- under ordinal 8 the old entries are not listed; under ordinal 7 they still would be, and the insert would not
pub recycled_listed : (read_back_under (mark_of 2 8) recycled_card ≡ nine ∷ []) × (read_back_under (mark_of 2 7) recycled_card ≡ ten ∷ gone ∷ []) × (read_back recycled_card ≡ [])
unfolding field aligned over crc16 crc_from byte steps step taken mark_from seed_of word_mark word_namespace word_kind head_length placed entry_at agrees intact verifies trial walk_lines walk_from walk list_most list fits part_of nonzero_to used_bound
recycled_listed = (refl, refl, refl)

-- a region of 0xff: where an ordinal gives offset 0 the mark 0xFFFFFF, the listing ends with 10 there, and under the ordinals beside it with End
pub erased_stops : ((listed_under (mark_of 2 0xA5E83F) (replicate 16 0xFF)).stop ≡ refused 10 (0 ∷ [])) × ((listed_under (mark_of 2 0xA5E83E) (replicate 16 0xFF)).stop ≡ accepted ended) × ((listed_under (mark_of 2 0xA5E840) (replicate 16 0xFF)).stop ≡ accepted ended)
unfolding field aligned over crc16 crc_from byte steps step taken mark_from seed_of word_mark word_namespace word_kind head_length placed entry_at agrees intact verifies trial walk_lines walk_from walk list_most list fits part_of nonzero_to used_bound
erased_stops = (refl, refl, refl)
