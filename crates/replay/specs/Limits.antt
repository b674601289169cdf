-- Document 01, "Replay limits and start": which entries are accepted for replay.
-- Assumes nothing.
use Rattle.std.specs.Prelude.{ℕ, ◌+◌, [], ◌∷◌, ltb}
use Rattle.answers.specs.Answers.{first_of}
use Rattle.answers.specs.Limits.{largest_region, largest_key, largest_value}
use Rattle.fields.specs.Numbers.{aligned}

-- "Data entry: .. Length 10 + klen + vlen." "Tombstone: .. Length 8 + klen."
abbrev pub data_size : ℕ → ℕ → ℕ
data_size klen vlen = aligned (10 + klen + vlen)

abbrev pub tombstone_size : ℕ → ℕ
tombstone_size klen = aligned (8 + klen)

-- "An entry is accepted for replay exactly if key and value keep the limits and the aligned size is at most the configured maximum region size."
-- "Replay 3, 11, 12, 13": "configured maximum over 268,435,456"; "Key at most 4,096 bytes, value at most 32,768"; "aligned size over the configured
-- maximum". 0 is accepted
unfoldable pub data_limits : ℕ → ℕ → ℕ → ℕ
data_limits klen vlen maximum =
    first_of (
    (ltb largest_region maximum, 3)
    ∷ (ltb largest_key klen, 11)
    ∷ (ltb largest_value vlen, 12)
    ∷ (ltb maximum (data_size klen vlen), 13)
    ∷ [])

-- a tombstone has no value
unfoldable pub tombstone_limits : ℕ → ℕ → ℕ
tombstone_limits klen maximum =
    first_of (
    (ltb largest_region maximum, 3)
    ∷ (ltb largest_key klen, 11)
    ∷ (ltb maximum (tombstone_size klen), 13)
    ∷ [])
