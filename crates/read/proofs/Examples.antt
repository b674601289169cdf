-- Document 02's request 4 at document 01's sample, computed: the first code of A7 is an insert, and the one issued anew an update.
-- Assumes nothing.
use Prim.Native.Nat.{ℕ}
use mathlib.Core.Path.{◌≡◌, refl}
use mathlib.Core.List.{List, [], ◌∷◌}
use Rattle.answers.specs.Answers.{accepted, refused}
use Rattle.fields.specs.Numbers.{field}
use Rattle.checksum.specs.Catalogue.{taken, step, steps, byte, crc_from, crc16}
use Rattle.entry.specs.Words.{mark_from, version1, word_mark, word_namespace, word_kind}
use Rattle.entry.specs.Layout.{placed, agrees}
use Rattle.read.specs.Reading.{view_of, parse_tests, parse_of, read_of}

-- insert `9` at 0 with its filling, update `10` at 16 without
abbrev codes : List ℕ
codes =
    0xC0 ∷ 0x17 ∷ 0x5A ∷ 0x01 ∷ 0x02 ∷ 0x00 ∷ 0x01 ∷ 0x00 ∷ 0x39 ∷ 0x41 ∷ 0x37 ∷ 0xBF ∷ 0xDC ∷ 0xFF ∷ 0xFF ∷ 0xFF
    ∷ 0xC1 ∷ 0x17 ∷ 0x5A ∷ 0x41 ∷ 0x02 ∷ 0x00 ∷ 0x02 ∷ 0x00 ∷ 0x31 ∷ 0x30 ∷ 0x41 ∷ 0x37 ∷ 0x0D ∷ 0xA9 ∷ []

pub first_code : read_of version1 codes 0 13 ≡ accepted (placed 0 0 1 2 1)
unfolding read_of parse_of parse_tests view_of field agrees crc16 crc_from byte steps step taken mark_from word_mark word_namespace word_kind
first_code = refl

pub issued_anew : read_of version1 codes 16 14 ≡ accepted (placed 16 1 1 2 2)
unfolding read_of parse_of parse_tests view_of field agrees crc16 crc_from byte steps step taken mark_from word_mark word_namespace word_kind
issued_anew = refl

-- one byte less is looked at
pub cut_short : read_of version1 codes 16 13 ≡ refused 6 []
unfolding read_of parse_of parse_tests view_of field agrees crc16 crc_from byte steps step taken mark_from word_mark word_namespace word_kind
cut_short = refl
