-- What a table of 256 registers holds. The code's two tables are `entries 8` and `entries 16`: the checker computes them, so no
-- proof repeats a table.
-- Assumes nothing.
use Rattle.std.specs.Prelude.{ℕ, zero, suc, ◌*◌, ◌^◌, List, [], ◌∷◌}
use Rattle.checksum.specs.Catalogue.{steps}

-- f i, f (i + 1), .., m of them
unfoldable pub tabulate : (ℕ → ℕ) → ℕ → ℕ → List ℕ
tabulate f i zero = []
tabulate f i (suc m) = f i ∷ tabulate f (suc i) m

-- at place k: the register after n bits that started with the byte k above eight zeros
unfoldable pub entries : ℕ → List ℕ
entries n = tabulate (λ k. steps n (k * 2 ^ 8)) 0 256
