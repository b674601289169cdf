-- A grid cell by cell: the grid of a list of entries has in each cell the entries of that kind, and a grid is known by its cells.
-- Assumes nothing.
use Prim.Native.Nat.{ℕ, zero, suc, ◌+◌, ◌<◌}
use mathlib.Core.Path.{◌≡◌, refl, sym, ap, ◌∙◌}
use mathlib.Core.List.{List, []}
use mathlib.Core.Bool.{Bool, true, false, ◌&&◌}
use native.Mathlib.Omega.{arith}
use borrow.Author.Tests.{eqb-true, eqb-false}
use lib.Dec.{eqb}
use lib.ListN.{length, get_or, set, replicate, length-set, get_or-replicate}
use lib.Seq.{get_or-set_same, get_or-set_other, ext_get_or}
use Rattle.answers.specs.Answers.{pick_number}
use Rattle.entry.specs.declared.Entry.{Entry}
use Rattle.counts.specs.Grid.{Grid, along, count_of, grid_of, no_grid}
use Rattle.counts.specs.Totals.{cell}

-- what `along` lists
module _ {A : Type 0} (f : ℕ → A) where
  pub along_length : (p n : ℕ) → length (along f p n) ≡ n
  unfolding along
  along_length p zero = refl
  along_length p (suc n) = ap suc (along_length (suc p) n)

  from_at : (none : A) (p n i : ℕ) → i < n → get_or (along f p n) i none ≡ f (p + i)
  unfolding along
  from_at none p zero i h = absurd (omega arith)
  from_at none p (suc n) zero h = ap f (omega arith)
  from_at none p (suc n) (suc i) h = from_at none (suc p) n i (omega arith) ∙ ap f (omega arith)

  pub along_at : (none : A) (n i : ℕ) → i < n → get_or (along f 0 n) i none ≡ f i
  along_at none n i h = from_at none 0 n i h ∙ ap f (omega arith)

-- three rows by sixty-four columns
pub record Shape (grid : Grid) : Type 0 where
  pub rows : length grid ≡ 3
  pub columns : (kind : ℕ) → kind < 3 → length (get_or grid kind []) ≡ 64

module _ (es : List Entry) where
  row_at : (kind : ℕ) → kind < 3 → get_or (grid_of es) kind [] ≡ along (λ (ns : ℕ). count_of kind ns es) 0 64
  unfolding grid_of
  row_at kind h = along_at (λ (k : ℕ). along (λ (ns : ℕ). count_of k ns es) 0 64) [] 3 kind h

  pub grid_shape : Shape (grid_of es)
  unfolding grid_of
  grid_shape = record { rows = along_length _ 0 3; columns = λ kind h. ap length (row_at kind h) ∙ along_length _ 0 64 }

  -- "Each cell equals the number of .. entries of that kind."
  pub grid_cell : (kind ns : ℕ) → kind < 3 → ns < 64 → cell (grid_of es) kind ns ≡ count_of kind ns es
  grid_cell kind ns k n = ap (λ (row : List ℕ). get_or row ns 0) (row_at kind k) ∙ along_at (λ (j : ℕ). count_of kind j es) 0 64 ns n

pub none_shape : Shape no_grid
none_shape = record { rows = refl; columns = λ kind h. ap length (get_or-replicate 3 kind (replicate {A = ℕ} 64 0) [] h) }

pub none_cell : (kind ns : ℕ) → kind < 3 → ns < 64 → cell no_grid kind ns ≡ 0
none_cell kind ns k n = rw (get_or-replicate 3 kind (replicate {A = ℕ} 64 0) [] k, get_or-replicate {A = ℕ} 64 ns 0 0 n)

-- two grids with the same cells are one
pub same_cells : (g h : Grid) → Shape g → Shape h → ((kind ns : ℕ) → kind < 3 → ns < 64 → cell g kind ns ≡ cell h kind ns) → g ≡ h
same_cells g h a b same =
    ext_get_or [] g h (a.rows ∙ sym b.rows) (λ kind k. let three : kind < 3 = let r = a.rows in omega arith in row kind three)
  where
    row : (kind : ℕ) → kind < 3 → get_or g kind [] ≡ get_or h kind []
    row kind k =
        ext_get_or 0 (get_or g kind []) (get_or h kind []) (a.columns kind k ∙ sym (b.columns kind k))
        (λ ns n. same kind ns k (let c = a.columns kind k in omega arith))

-- the grid with one more in the cell of a type and a namespace, as the code stores it
abbrev pub raised : Grid → (kind ns : ℕ) → Grid
raised grid kind ns = set grid kind (set (get_or grid kind []) ns (cell grid kind ns + 1))

module _ (grid : Grid) (shape : Shape grid) (kind ns : ℕ) (k : kind < 3) (n : ns < 64) where
  row_raised : get_or (raised grid kind ns) kind [] ≡ set (get_or grid kind []) ns (cell grid kind ns + 1)
  row_raised = get_or-set_same grid kind _ [] (let h = shape.rows in omega arith)

  row_kept : (i : ℕ) → (kind ≡ i → ⊥) → get_or (raised grid kind ns) i [] ≡ get_or grid i []
  row_kept i other = get_or-set_other grid kind i _ [] (λ q. other (sym q))

  pub raised_shape : Shape (raised grid kind ns)
  raised_shape = record { rows = rw length-set shape.rows; columns = λ i h. go i h (eqb kind i) refl }
    where
      go : (i : ℕ) → i < 3 → (same : Bool) → eqb kind i ≡ same → length (get_or (raised grid kind ns) i []) ≡ 64
      go i h true e = rw (← eqb-true kind i e, row_raised, length-set) (shape.columns kind k)
      go i h false e = ap length (row_kept i (eqb-false kind i e)) ∙ shape.columns i h

  pub raised_cell : (i j : ℕ) → cell (raised grid kind ns) i j ≡ pick_number (eqb kind i && eqb ns j) 1 0 + cell grid i j
  raised_cell i j = go (eqb kind i) (eqb ns j) refl refl
    where
      go : (row column : Bool) → eqb kind i ≡ row → eqb ns j ≡ column → cell (raised grid kind ns) i j ≡ pick_number (row && column) 1 0 + cell grid i j
      go true true e f =
          let h = shape.columns kind k in
          rw (← eqb-true kind i e, ← eqb-true ns j f, row_raised) (get_or-set_same (get_or grid kind []) ns _ 0 (omega arith) ∙ omega arith)
      go true false e f =
          rw (← eqb-true kind i e, row_raised) (get_or-set_other (get_or grid kind []) ns j _ 0 (λ q. eqb-false ns j f (sym q)) ∙ omega arith)
      go false column e f = ap (λ (row : List ℕ). get_or row j 0) (row_kept i (eqb-false kind i e)) ∙ omega arith
