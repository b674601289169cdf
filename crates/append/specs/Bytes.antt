-- Document 01, "Bytes on the card": the bytes of an entry that is written.
-- Assumes nothing.
use Rattle.std.specs.Prelude.{ℕ, ◌+◌, ◌-◌, List, [], ◌++◌, Bool, true, false, length, replicate, eqb}
use Rattle.fields.specs.Numbers.{bytes_of, aligned}
use Rattle.checksum.specs.Catalogue.{crc16}
use Rattle.entry.specs.Words.{word_of}
use Rattle.entry.specs.Layout.{length_of}

-- what an append is asked to write: type, namespace, key and value
pub record Item : Type 0 where
  pub kind : ℕ
  pub ns : ℕ
  pub key : List ℕ
  pub value : List ℕ

abbrev pub item : ℕ → ℕ → List ℕ → List ℕ → Item
item kind ns key value = record { kind = kind; ns = ns; key = key; value = value }

abbrev pub pick_bytes : Bool → List ℕ → List ℕ → List ℕ
pick_bytes true a b = a
pick_bytes false a b = b

-- "word, key length (2), value length (2)"; a tombstone has no value length
unfoldable pub head_of : ℕ → ℕ → ℕ → ℕ → List ℕ
head_of word kind klen vlen = bytes_of 4 word ++ (bytes_of 2 klen ++ pick_bytes (eqb kind 2) [] (bytes_of 2 vlen))

-- ", value, key": what the checksum covers
unfoldable pub covered_of : ℕ → Item → List ℕ
covered_of mark i = head_of (word_of mark i.ns i.kind) i.kind (length i.key) (length i.value) ++ (i.value ++ i.key)

-- ", checksum (2)", and "The writer fills up to the next line with 0xff"
unfoldable pub encoded : ℕ → Item → List ℕ
encoded mark i =
    let covered = covered_of mark i in
    covered ++ (bytes_of 2 (crc16 covered) ++ replicate (aligned (length covered + 2) - (length covered + 2)) 0xff)

-- the entry's length without the filling, and with it
abbrev pub item_length : Item → ℕ
item_length i = length_of i.kind (length i.key) (length i.value)

abbrev pub size_of : Item → ℕ
size_of i = aligned (item_length i)
