-- The power cut: an append that was under way at the log's end has brought only the first bytes of its entry onto the card.
-- Assumes nothing.
use Rattle.std.specs.Prelude.{ℕ, ◌-◌, List, ◌++◌, take, replicate}
use Rattle.append.specs.Bytes.{Item, encoded, size_of}

-- the first n bytes of an entry that was being written, and the zeros that stood there before, for the rest
abbrev pub cut : ℕ → Item → ℕ → List ℕ
cut mark i n = take n (encoded mark i) ++ replicate (size_of i - n) 0
