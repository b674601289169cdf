-- Document 01, "The key is handed back as the caller's own bytes, a part of the lent region, and so is the value", "empty where the places
-- don't fit".
-- Assumes nothing.
use Rattle.std.specs.Prelude.{ℕ, ◌-◌, List, [], Bool, true, false, ◌&&◌, length, take, drop, leb}
use Rattle.answers.specs.Answers.{pick_number}

abbrev pub pick_part : Bool → List ℕ → List ℕ
pick_part true part = part
pick_part false part = []

-- len bytes from `at` on lie within s
unfoldable pub fits : List ℕ → ℕ → ℕ → Bool
fits s at len = leb at (length s) && leb len (length s - at)

-- those bytes, or none where they run past the end
unfoldable pub part_of : List ℕ → ℕ → ℕ → List ℕ
part_of s at len = pick_part (fits s at len) (take len (drop at s))

-- and where they begin: an empty part begins with the region
unfoldable pub part_start : List ℕ → ℕ → ℕ → ℕ
part_start s at len = pick_number (fits s at len) at 0
