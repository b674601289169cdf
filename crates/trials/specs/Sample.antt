-- Document 01, "The lister": "Three entries in namespace 1 with key A7 (insert `9`, update `10`, tombstone)", and what they list as.
-- Assumes nothing.
use Rattle.std.specs.Prelude.{ℕ, List, [], ◌∷◌, ◌++◌}
use Rattle.answers.specs.Answers.{accepted}
use Rattle.entry.specs.Words.{version1}
use Rattle.entry.specs.Layout.{placed}
use Rattle.append.specs.Bytes.{item, encoded}
use Rattle.scan.specs.Walk.{ended}
use Rattle.scan.specs.Listing.{Listed}

abbrev key : List ℕ
key = 0x41 ∷ 0x37 ∷ []

unfoldable pub sample : List ℕ
sample =
    encoded (version1 0) (item 0 1 key (0x39 ∷ []))
    ++ (encoded (version1 16) (item 1 1 key (0x31 ∷ 0x30 ∷ []))
    ++ encoded (version1 32) (item 2 1 key []))

-- offset, type, namespace, key length and value length, line by line
abbrev pub sample_listing : Listed
sample_listing = record { entries = placed 0 0 1 2 1 ∷ placed 16 1 1 2 2 ∷ placed 32 2 1 2 0 ∷ []; stop = accepted ended }
