-- Small regions, byte by byte: the worked example of docs/DAMAGE.md and, for each hypothesis of the damage theorem, what happens without it. What is
-- listed in each is computed in proofs/Examples.antt.
-- Assumes nothing.
use Rattle.std.specs.Prelude.{ℕ, List, [], ◌∷◌, ◌++◌, map, replicate, set}
use Rattle.entry.specs.Words.{version1}
use Rattle.append.specs.Bytes.{Item, item}
use Rattle.scan.specs.Listing.{Listed, list}
use Rattle.tail.specs.Tail.{used_bound}
use Rattle.damage.specs.Damage.{item_at}

-- the listing up to the used bound, and what is read back from its entries
abbrev pub listed_under : (ℕ → ℕ) → List ℕ → Listed
listed_under mark s = list mark s (used_bound s) 0

abbrev pub read_back_under : (ℕ → ℕ) → List ℕ → List Item
read_back_under mark s = map (item_at s) (listed_under mark s).entries

-- in version 1, of which all the examples are but the last
abbrev pub listed : List ℕ → Listed
listed = listed_under version1

abbrev pub read_back : List ℕ → List Item
read_back = read_back_under version1

-- the key of the examples, "A7"
abbrev pub a7 : List ℕ
a7 = 0x41 ∷ 0x37 ∷ []

-- the lister's three entries: insert "9", update "10", tombstone
abbrev pub nine : Item
nine = item 0 1 a7 (0x39 ∷ [])

abbrev pub ten : Item
ten = item 1 1 a7 (0x31 ∷ 0x30 ∷ [])

abbrev pub gone : Item
gone = item 2 1 a7 []

abbrev pub nine_bytes : List ℕ
nine_bytes = 0xC0 ∷ 0x17 ∷ 0x5A ∷ 0x01 ∷ 0x02 ∷ 0x00 ∷ 0x01 ∷ 0x00 ∷ 0x39 ∷ 0x41 ∷ 0x37 ∷ 0xBF ∷ 0xDC ∷ 0xFF ∷ 0xFF ∷ 0xFF ∷ []

abbrev pub ten_bytes : List ℕ
ten_bytes = 0xC1 ∷ 0x17 ∷ 0x5A ∷ 0x41 ∷ 0x02 ∷ 0x00 ∷ 0x02 ∷ 0x00 ∷ 0x31 ∷ 0x30 ∷ 0x41 ∷ 0x37 ∷ 0x0D ∷ 0xA9 ∷ 0xFF ∷ 0xFF ∷ []

abbrev pub gone_bytes : List ℕ
gone_bytes = 0xC2 ∷ 0x17 ∷ 0x5A ∷ 0x81 ∷ 0x02 ∷ 0x00 ∷ 0x41 ∷ 0x37 ∷ 0xC0 ∷ 0x70 ∷ 0xFF ∷ 0xFF ∷ 0xFF ∷ 0xFF ∷ 0xFF ∷ 0xFF ∷ []

-- a region of 64 bytes after these three appends, with anything in the place of the second entry
abbrev pub around : List ℕ → List ℕ
around middle = nine_bytes ++ (middle ++ (gone_bytes ++ replicate 16 0))

-- the second entry with one byte of its value changed, "10" to "40"
abbrev pub changed_value : List ℕ
changed_value = set ten_bytes 8 0x34

-- with one bit of its type changed, 1 to 3
abbrev pub changed_type : List ℕ
changed_type = set ten_bytes 3 0xC1

-- with the last byte of its key and the first byte of its checksum changed
abbrev pub changed_across : List ℕ
changed_across = set (set ten_bytes 11 0xBE) 12 0xAC

-- an entry of three lines whose value has a whole entry at the second line
abbrev pub nesting : List ℕ
nesting =
    0xC0 ∷ 0x17 ∷ 0x5A ∷ 0x01 ∷ 0x02 ∷ 0x00 ∷ 0x15 ∷ 0x00 ∷ 0x2E ∷ 0x2E ∷ 0x2E ∷ 0x2E ∷ 0x2E ∷ 0x2E ∷ 0x2E ∷ 0x2E
    ∷ 0xC1 ∷ 0x17 ∷ 0x5A ∷ 0x01 ∷ 0x02 ∷ 0x00 ∷ 0x01 ∷ 0x00 ∷ 0x31 ∷ 0x41 ∷ 0x37 ∷ 0x57 ∷ 0xAD ∷ 0x41 ∷ 0x37 ∷ 0x32
    ∷ 0xB0 ∷ replicate 15 0xFF

-- an insert whose value "9" is followed, still in the value, by the checksum of a shorter entry
abbrev pub nested_sum : List ℕ
nested_sum = 0xC0 ∷ 0x17 ∷ 0x5A ∷ 0x01 ∷ 0x00 ∷ 0x00 ∷ 0x03 ∷ 0x00 ∷ 0x39 ∷ 0x86 ∷ 0xCE ∷ 0x2A ∷ 0x09 ∷ 0xFF ∷ 0xFF ∷ 0xFF ∷ []

-- an insert whose value is the checksum of the tombstone that one changed bit of the type makes of it
abbrev pub nested_tombstone : List ℕ
nested_tombstone = 0xC0 ∷ 0x17 ∷ 0x5A ∷ 0x01 ∷ 0x02 ∷ 0x00 ∷ 0x02 ∷ 0x00 ∷ 0x4D ∷ 0xE1 ∷ 0x41 ∷ 0x37 ∷ 0x42 ∷ 0xAA ∷ 0xFF ∷ 0xFF ∷ []

-- an entry that an earlier use of the region left at the second line
abbrev pub left_over : List ℕ
left_over = 0xC1 ∷ 0x17 ∷ 0x5A ∷ 0x01 ∷ 0x02 ∷ 0x00 ∷ 0x01 ∷ 0x00 ∷ 0x38 ∷ 0x41 ∷ 0x37 ∷ 0xC6 ∷ 0x33 ∷ 0xFF ∷ 0xFF ∷ 0xFF ∷ []

-- an insert without a key whose first ten bytes have the checksum 0
abbrev pub zero_sum : List ℕ
zero_sum = 0xC0 ∷ 0x17 ∷ 0x5A ∷ 0x01 ∷ 0x00 ∷ 0x00 ∷ 0x04 ∷ 0x00 ∷ 0x84 ∷ 0x53 ∷ 0x34 ∷ 0x32 ∷ 0x40 ∷ 0xDF ∷ 0xFF ∷ 0xFF ∷ []

-- the same update and tombstone in a version 2 file of ordinal 7
abbrev pub ten_bytes7 : List ℕ
ten_bytes7 = 0xC8 ∷ 0x17 ∷ 0x5A ∷ 0x41 ∷ 0x02 ∷ 0x00 ∷ 0x02 ∷ 0x00 ∷ 0x31 ∷ 0x30 ∷ 0x41 ∷ 0x37 ∷ 0xD0 ∷ 0xB1 ∷ 0xFF ∷ 0xFF ∷ []

abbrev pub gone_bytes7 : List ℕ
gone_bytes7 = 0xC9 ∷ 0x17 ∷ 0x5A ∷ 0x81 ∷ 0x02 ∷ 0x00 ∷ 0x41 ∷ 0x37 ∷ 0x6F ∷ 0xA6 ∷ 0xFF ∷ 0xFF ∷ 0xFF ∷ 0xFF ∷ 0xFF ∷ 0xFF ∷ []

-- and the insert in one of ordinal 8
abbrev pub nine_bytes8 : List ℕ
nine_bytes8 = 0xC8 ∷ 0x17 ∷ 0x5A ∷ 0x01 ∷ 0x02 ∷ 0x00 ∷ 0x01 ∷ 0x00 ∷ 0x39 ∷ 0x41 ∷ 0x37 ∷ 0x31 ∷ 0x7E ∷ 0xFF ∷ 0xFF ∷ 0xFF ∷ []

-- a recycled card: of its first life, in a file of ordinal 7, the update and the tombstone are left at their places, and the insert of its second
-- life, in a file of ordinal 8, stands where the first life's insert stood
abbrev pub recycled_card : List ℕ
recycled_card = nine_bytes8 ++ (ten_bytes7 ++ (gone_bytes7 ++ replicate 16 0))
