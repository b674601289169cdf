-- Sums of a grid's rows, column by column: what the loop over the namespaces adds up is the sum of all cells.
-- Assumes nothing.
use Prim.Native.Nat.{ℕ, zero, suc, ◌+◌, ◌≤◌}
use mathlib.Core.Path.{◌≡◌, refl, ap, ◌∙◌}
use mathlib.Core.List.{List, [], ◌∷◌}
use native.Mathlib.Omega.{arith}
use lib.ListN.{length, take, get_or}
use lib.Seq.{take_all}
use denote.Array.{Array, each}
use denote.Plain.{UInt}
use denote.Shadow.{shadow}
use mir.Syntax.{w32}
use mir.Val.{Val}
use Rattle.counts.specs.Grid.{Grid}
use Rattle.counts.specs.Totals.{cell, sum, total}

-- an array's rows, as they are handed to a function, are no longer than their type says
pub rows_long : (n : ℕ) (grid : Grid) (us : List Val) (i : ℕ) → shadow (each (List ℕ) (Array (UInt w32) n).own_val grid us) → length (get_or grid i []) ≤ n
rows_long n [] us i p = omega arith
rows_long n (row ∷ rows) [] i p = absurd p
rows_long n (row ∷ rows) (u ∷ us) zero p = let e : length row ≡ n = p.0.1.0.1 in omega arith
rows_long n (row ∷ rows) (u ∷ us) (suc i) p = rows_long n rows us i p.1

-- the first n cells of a row
abbrev pub first : ℕ → Grid → ℕ → ℕ
first kind grid n = sum (take n (get_or grid kind []))

pub first_none : (grid : Grid) → 0 ≡ first 0 grid 0 + first 1 grid 0 + first 2 grid 0
unfolding sum
first_none grid = refl

-- one column more, past the row's end too, where a cell is 0
sum_more : (row : List ℕ) (n : ℕ) → sum (take (suc n) row) ≡ sum (take n row) + get_or row n 0
unfolding sum
sum_more [] zero = refl
sum_more [] (suc n) = refl
sum_more (x ∷ row) zero = omega arith
sum_more (x ∷ row) (suc n) = let h = sum_more row n in omega arith

pub first_more : (kind : ℕ) (grid : Grid) (n : ℕ) → first kind grid (n + 1) ≡ first kind grid n + cell grid kind n
first_more kind grid n = ap (first kind grid) (let e : n + 1 ≡ suc n = omega arith in e) ∙ sum_more (get_or grid kind []) n

pub first_all : (kind : ℕ) (grid : Grid) (n : ℕ) → length (get_or grid kind []) ≤ n → first kind grid n ≡ sum (get_or grid kind [])
first_all kind grid n h = ap sum (take_all n (get_or grid kind []) h)

pub three_rows : (grid : Grid) → length grid ≡ 3 → total grid ≡ sum (get_or grid 0 []) + sum (get_or grid 1 []) + sum (get_or grid 2 [])
unfolding total
three_rows [] e = absurd (omega arith)
three_rows (a ∷ []) e = absurd (omega arith)
three_rows (a ∷ b ∷ []) e = absurd (omega arith)
three_rows (a ∷ b ∷ c ∷ []) e = omega arith
three_rows (a ∷ b ∷ c ∷ d ∷ rows) e = absurd (omega arith)
