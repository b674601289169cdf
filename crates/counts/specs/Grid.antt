-- Document 02, request 9: "how many entries of each type stand in each namespace: a grid of three rows by sixty-four columns, handed back whole."
-- Assumes nothing.
use Rattle.std.specs.Prelude.{ℕ, zero, suc, ◌+◌, List, [], ◌∷◌, Bool, ◌&&◌, replicate, eqb}
use Rattle.answers.specs.Answers.{pick_number}
use Rattle.entry.specs.declared.Entry.{Entry}

-- an entry of this type in this namespace
abbrev pub of_kind : (kind ns : ℕ) → Entry → Bool
of_kind kind ns e = eqb e.kind kind && eqb e.ns ns

-- "the number of .. entries of that kind"
unfoldable pub count_of : (kind ns : ℕ) → List Entry → ℕ
count_of kind ns [] = 0
count_of kind ns (e ∷ es) = pick_number (of_kind kind ns e) 1 0 + count_of kind ns es

-- f at p, p + 1, .., n of them
unfoldable pub along : {A : Type 0} → (ℕ → A) → ℕ → ℕ → List A
along f p zero = []
along f p (suc n) = f p ∷ along f (suc p) n

-- rows of columns
abbrev pub Grid : Type 0
Grid = List (List ℕ)

-- "a grid of three rows by sixty-four columns": a row for each type, in it a column for each namespace
unfoldable pub grid_of : List Entry → Grid
grid_of es = along (λ (kind : ℕ). along (λ (ns : ℕ). count_of kind ns es) 0 64) 0 3

-- "without a grid": what is handed back with a refusal has 0 in every cell
abbrev pub no_grid : Grid
no_grid = replicate 3 (replicate 64 0)
