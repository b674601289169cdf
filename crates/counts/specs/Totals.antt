-- One cell of a grid, and all of them together.
-- Assumes nothing.
use Rattle.std.specs.Prelude.{ℕ, ◌+◌, List, [], ◌∷◌, get_or}
use Rattle.counts.specs.Grid.{Grid}

-- the cell in this row and this column
abbrev pub cell : Grid → (kind ns : ℕ) → ℕ
cell grid kind ns = get_or (get_or grid kind []) ns 0

unfoldable pub sum : List ℕ → ℕ
sum [] = 0
sum (n ∷ ns) = n + sum ns

-- the sum of all cells, row by row
unfoldable pub total : Grid → ℕ
total [] = 0
total (row ∷ rows) = sum row + total rows
