-- Document 01, "Bytes on the card": where an entry's parts lie, what the bytes at a place say, and when a line verifies.
-- Assumes nothing.
use Rattle.std.specs.Prelude.{ℕ, ◌+◌, ◌-◌, List, Bool, ◌&&◌, length, take, drop, leb, ltb, eqb}
use Rattle.answers.specs.Answers.{pick_number}
use Rattle.fields.specs.Numbers.{field}
use Rattle.checksum.specs.Catalogue.{crc16}
use Rattle.entry.specs.Words.{word_mark, word_namespace, word_kind}
use Rattle.entry.specs.declared.Entry.{Entry}

-- "Data entry: word, key length (2), value length (2), value, key, checksum (2)", "Tombstone: word, key length (2), key, checksum (2)":
-- the bytes before the value. "Types: Insert 0, Update 1, Tombstone 2"
unfoldable pub head_length : ℕ → ℕ
head_length kind = pick_number (eqb kind 2) 6 8

-- "Length 10 + klen + vlen", and of a tombstone "Length 8 + klen"
unfoldable pub length_of : ℕ → ℕ → ℕ → ℕ
length_of kind klen vlen = head_length kind + vlen + klen + 2

-- the entry at p with these fields
unfoldable pub placed : ℕ → ℕ → ℕ → ℕ → ℕ → Entry
placed p kind ns klen vlen =
    record { offset = p; kind = kind; ns = ns; klen = klen; vlen = vlen; vplace = p + head_length kind; kplace = p + head_length kind + vlen; end = p + head_length kind + vlen + klen + 2 }

-- the checksum stands behind the key
abbrev pub sum_place : Entry → ℕ
sum_place e = e.kplace + e.klen

-- what the bytes at p say, right or wrong; a tombstone has no value length
unfoldable pub entry_at : List ℕ → ℕ → Entry
entry_at s p =
    let kind = word_kind (field 4 s p) in
    placed p kind (word_namespace (field 4 s p)) (field 2 s (p + 4)) (pick_number (eqb kind 2) 0 (field 2 s (p + 6)))

-- "The checksum covers all earlier bytes of the entry": the two bytes at `sum` are the sum of those from `from` up to it
unfoldable pub agrees : List ℕ → ℕ → ℕ → Bool
agrees s from sum = eqb (field 2 s sum) (crc16 (take (sum - from) (drop from s)))

-- "the whole entry lies within N, and the checksum agrees"
unfoldable pub intact : List ℕ → Entry → Bool
intact s e = leb e.end (length s) && agrees s e.offset (sum_place e)

-- "A line p of a region of N bytes verifies if N - p is at least 8, the mark is right, the type is 0, 1 or 2, the whole entry lies within N, and
-- the checksum agrees."
unfoldable pub verifies : (ℕ → ℕ) → List ℕ → ℕ → Bool
verifies mark s p =
    leb (p + 8) (length s)
    && (eqb (word_mark (field 4 s p)) (mark p) && (ltb (word_kind (field 4 s p)) 3 && intact s (entry_at s p)))
