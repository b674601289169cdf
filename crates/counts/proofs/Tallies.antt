-- Counting entry by entry: what the cells hold so far, together with what is left, is the count of all.
-- Assumes nothing.
use Prim.Native.Nat.{ℕ, ◌+◌, ◌<◌, ◌≤◌}
use mathlib.Core.Path.{◌≡◌}
use mathlib.Core.List.{List, [], ◌∷◌}
use mathlib.Core.Bool.{Bool, true, false}
use native.Mathlib.Omega.{arith}
use lib.ListN.{length}
use Rattle.answers.specs.Answers.{pick_number}
use Rattle.entry.specs.declared.Entry.{Entry}
use Rattle.counts.specs.Grid.{Grid, of_kind, count_of, grid_of, no_grid}
use Rattle.counts.specs.Totals.{cell}
use Rattle.counts.proofs.Cells.{Shape, grid_shape, grid_cell, none_shape, none_cell, same_cells, raised, raised_shape, raised_cell}

-- no cell counts more entries than there are
pub count_few : (kind ns : ℕ) (es : List Entry) → count_of kind ns es ≤ length es
unfolding count_of
count_few kind ns [] = omega arith
count_few kind ns (e ∷ es) = omega (arith, one (of_kind kind ns e), count_few kind ns es)
  where
    one : (b : Bool) → pick_number b 1 0 ≤ 1
    one true = omega arith
    one false = omega arith

-- a grid in which some of all entries are counted, and those that are left
pub record Tallied (grid : Grid) (left all : List Entry) : Type 0 where
  pub shape : Shape grid
  pub cells : (kind ns : ℕ) → kind < 3 → ns < 64 → cell grid kind ns + count_of kind ns left ≡ count_of kind ns all

pub tallied_none : (all : List Entry) → Tallied no_grid all all
tallied_none all = record { shape = none_shape; cells = λ kind ns k n. let z = none_cell kind ns k n in omega arith }

module _ (grid : Grid) (all : List Entry) where
  pub tallied_more : (e : Entry) (left : List Entry) → e.kind < 3 → e.ns < 64 → Tallied grid (e ∷ left) all → Tallied (raised grid e.kind e.ns) left all
  unfolding count_of
  tallied_more e left k n t =
      record {
        shape = raised_shape grid t.shape e.kind e.ns k n;
        cells = λ i j hi hj. let c = t.cells i j hi hj in let r = raised_cell grid t.shape e.kind e.ns k n i j in omega arith;
      }

  pub tallied_all : Tallied grid [] all → grid ≡ grid_of all
  unfolding count_of
  tallied_all t =
      same_cells grid (grid_of all) t.shape (grid_shape all)
      (λ kind ns k n. let c = t.cells kind ns k n in let g = grid_cell all kind ns k n in omega arith)

  pub tallied_few : (left : List Entry) (kind ns : ℕ) → kind < 3 → ns < 64 → Tallied grid left all → cell grid kind ns ≤ length all
  tallied_few left kind ns k n t = let c = t.cells kind ns k n in omega (arith, count_few kind ns all)
