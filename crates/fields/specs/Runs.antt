-- A run of bytes put over a region: what every writer leaves behind.
-- Assumes nothing.
use Rattle.std.specs.Prelude.{ℕ, ◌+◌, List, ◌++◌, length, take, drop}

-- the region with the run over it from `at` on, every other byte as it was
unfoldable pub over : List ℕ → ℕ → List ℕ → List ℕ
over region at run = take at region ++ (run ++ drop (at + length run) region)
