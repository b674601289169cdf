-- The sum of all cells is the listing's length: each listed entry has one cell, and stands in no second one.
-- Assumes nothing.
use Prim.Native.Nat.{ℕ, zero, suc, ◌+◌, ◌<◌, ◌≤◌}
use mathlib.Core.Path.{◌≡◌, refl, sym, ap, ap₂, ◌∙◌}
use mathlib.Core.List.{List, [], ◌∷◌}
use mathlib.Core.Bool.{Bool, true, false, ◌&&◌}
use mathlib.Core.Logic.{⊎_elim}
use native.Mathlib.Omega.{arith}
use borrow.Author.Tests.{eq-eqb, ne_eqb}
use lib.Dec.{eqb, ltb}
use lib.ListN.{length}
use Rattle.answers.specs.Answers.{Said, accepted, refused, pick_number, first_of, said_stopped}
use Rattle.answers.specs.Limits.{largest_region}
use Rattle.answers.specs.Versions.{version_refusal}
use Rattle.answers.proofs.Orders.{accepted_unrefused}
use Rattle.entry.specs.Words.{mark_of}
use Rattle.entry.specs.declared.Entry.{Entry}
use Rattle.std.specs.Prelude.{Ok}
use Rattle.scan.specs.Walk.{Step, found, ended, walk}
use Rattle.scan.specs.Listing.{grow, list_most, list}
use Rattle.scan.proofs.Walks.{walk_found, stands_kind, stands_namespace}
use Rattle.tail.specs.Tail.{used_bound, unless_stopped}
use Rattle.tail.proofs.Zeros.{below_or}
use Rattle.counts.specs.Grid.{Grid, of_kind, count_of, along, grid_of}
use Rattle.counts.specs.Counts.{counts_listed, counts_of, counts_in}
use Rattle.counts.specs.Totals.{sum, total}

abbrev one : Bool → ℕ
one b = pick_number b 1 0

-- the sum of f at p, p + 1, .., n of them
abbrev summing : (ℕ → ℕ) → ℕ → ℕ → ℕ
summing f p n = sum (along f p n)

along_same : (f g : ℕ → ℕ) → ((i : ℕ) → f i ≡ g i) → (p n : ℕ) → along f p n ≡ along g p n
unfolding along
along_same f g same p zero = refl
along_same f g same p (suc n) = ap₂ ◌∷◌ (same p) (along_same f g same (suc p) n)

summing_both : (f g : ℕ → ℕ) (p n : ℕ) → summing (λ (i : ℕ). f i + g i) p n ≡ summing f p n + summing g p n
unfolding sum along
summing_both f g p zero = refl
summing_both f g p (suc n) = let h = summing_both f g (suc p) n in omega arith

-- a number is at none of the places behind it, and once among those that reach past it
none_there : (x p n : ℕ) → x < p → summing (λ (i : ℕ). one (eqb x i)) p n ≡ 0
unfolding sum along
none_there x p zero h = refl
none_there x p (suc n) h = rw (ne_eqb x p (λ e. omega arith)) (let r = none_there x (suc p) n (omega arith) in omega arith)

once_there : (x p n : ℕ) → p ≤ x → x < p + n → summing (λ (i : ℕ). one (eqb x i)) p n ≡ 1
unfolding sum along
once_there x p zero a b = absurd (omega arith)
once_there x p (suc n) a b =
    ⊎_elim
    (λ later. rw (ne_eqb x p (λ e. omega arith)) (let r = once_there x (suc p) n later (omega arith) in omega arith))
    (λ here. rw (eq-eqb x p (omega arith)) (let r = none_there x (suc p) n (omega arith) in omega arith))
    (below_or p x)

total_along : (f : ℕ → List ℕ) (p n : ℕ) → total (along f p n) ≡ summing (λ (i : ℕ). sum (f i)) p n
unfolding total sum along
total_along f p zero = refl
total_along f p (suc n) = ap (λ (k : ℕ). sum (f p) + k) (total_along f (suc p) n)

-- an entry with a row and a column stands in one cell
in_row : (b : Bool) (ns : ℕ) → ns < 64 → summing (λ (j : ℕ). one (b && eqb ns j)) 0 64 ≡ one b
unfolding sum along
in_row true ns h = once_there ns 0 64 (omega arith) (omega arith)
in_row false ns h = refl

one_cell : (kind ns : ℕ) → kind < 3 → ns < 64 → summing (λ (i : ℕ). summing (λ (j : ℕ). one (eqb kind i && eqb ns j)) 0 64) 0 3 ≡ 1
one_cell kind ns k n =
    ap sum (along_same _ _ (λ i. in_row (eqb kind i) ns n) 0 3)
    ∙ once_there kind 0 3 (omega arith) (omega arith)

-- the cells of all rows and columns together
abbrev counted : List Entry → ℕ
counted es = summing (λ (kind : ℕ). summing (λ (ns : ℕ). count_of kind ns es) 0 64) 0 3

grid_total : (es : List Entry) → total (grid_of es) ≡ counted es
unfolding grid_of
grid_total es = total_along (λ (kind : ℕ). along (λ (ns : ℕ). count_of kind ns es) 0 64) 0 3

-- one entry more is one more in all
counted_more : (e : Entry) (es : List Entry) → e.kind < 3 → e.ns < 64 → counted (e ∷ es) ≡ suc (counted es)
unfolding count_of
counted_more e es k n =
    ap sum (along_same _ _ (λ kind. summing_both (λ (ns : ℕ). one (of_kind kind ns e)) (λ (ns : ℕ). count_of kind ns es) 0 64) 0 3)
    ∙ summing_both (λ (kind : ℕ). summing (λ (ns : ℕ). one (of_kind kind ns e)) 0 64) (λ (kind : ℕ). summing (λ (ns : ℕ). count_of kind ns es) 0 64) 0 3
    ∙ ap (λ (m : ℕ). m + counted es) (one_cell e.kind e.ns k n)
    ∙ omega arith

counted_none : counted [] ≡ 0
unfolding count_of sum along
counted_none = refl

module _ (mark : ℕ → ℕ) (s : List ℕ) where
  most_counted : (bound n offset : ℕ) → counted (list_most mark s n bound offset).entries ≡ length (list_most mark s n bound offset).entries
  unfolding list_most
  most_counted bound zero offset = counted_none
  most_counted bound (suc n) offset = go (walk mark s bound offset) refl (λ e. most_counted bound n e.end)
    where
      go : (x : Said Step) → walk mark s bound offset ≡ x → ((e : Entry) → counted (list_most mark s n bound e.end).entries ≡ length (list_most mark s n bound e.end).entries) → counted (grow x (λ (e : Entry). list_most mark s n bound e.end)).entries ≡ length (grow x (λ (e : Entry). list_most mark s n bound e.end)).entries
      go (accepted (found e)) q ih =
          let z = walk_found mark s bound offset q in
          counted_more e _ (stands_kind mark s _ _ z) (stands_namespace mark s _ _ z) ∙ ap suc (ih e)
      go (accepted ended) q ih = counted_none
      go (refused k v) q ih = counted_none

  -- every listed entry is counted once
  pub total_listed : (bound offset : ℕ) → total (grid_of (list mark s bound offset).entries) ≡ length (list mark s bound offset).entries
  unfolding list
  total_listed bound offset = grid_total _ ∙ most_counted bound _ offset

  -- a grid that was handed over is that of the whole listing
  pub counts_grid : {grid : Grid} → counts_of mark s ≡ accepted grid → grid_of (list mark s (used_bound s) 0).entries ≡ grid
  unfolding counts_of counts_listed
  counts_grid {grid} e =
      let l = list mark s (used_bound s) 0 in
      unstopped l.stop (accepted_unrefused (first_of ((ltb largest_region (length s), 3) ∷ [])) (counts_listed l) e).1
    where
      unstopped : (stop : Said Step) {g : Grid} → unless_stopped stop g ≡ accepted grid → g ≡ grid
      unstopped (accepted step) q = cc
      unstopped (refused k v) q = absurd (let z : ◌≡◌ {A = ℕ} 0 1 = cc in omega arith)

-- "The sum of all cells is the listing's length", of the call's own grid
pub accepted_total : (version ordinal : ℕ) (s : List ℕ) {grid : Grid} → counts_in version ordinal s ≡ accepted grid → total grid ≡ length (list (mark_of version ordinal) s (used_bound s) 0).entries
accepted_total version ordinal s {grid} e =
    let m = mark_of version ordinal in
    ap total (sym (counts_grid m s (accepted_unrefused (version_refusal version) (counts_of m s) e).1))
    ∙ total_listed m s (used_bound s) 0

-- and of what the call answers
pub told_total : (version ordinal : ℕ) (s : List ℕ) (grid : Grid) → said_stopped (Ok grid) ≡ counts_in version ordinal s → total grid ≡ length (list (mark_of version ordinal) s (used_bound s) 0).entries
told_total version ordinal s grid e = accepted_total version ordinal s (sym e)
