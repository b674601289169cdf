-- The counts are refused with 2, 3 or 10, "no refusal is given otherwise": so 0 tells that there is a grid.
-- Assumes nothing.
use Prim.Native.Nat.{ℕ, suc}
use mathlib.Core.Path.{◌≡◌, refl, ap}
use mathlib.Core.List.{List}
use mathlib.Core.Bool.{Bool, true, false, not}
use mathlib.Core.Logic.{◌⊎◌, inl, inr, ⊎_elim}
use native.Mathlib.Omega.{arith}
use lib.ListN.{length}
use lib.Dec.{ltb}
use Rattle.answers.specs.Answers.{Said, accepted, refused, pick_number, unless_refused, number_said, value_out}
use Rattle.answers.specs.Limits.{largest_region}
use Rattle.answers.specs.Versions.{is_version, version_refusal}
use Rattle.entry.specs.Words.{mark_of}
use Rattle.scan.specs.Walk.{Step}
use Rattle.scan.specs.Listing.{list}
use Rattle.scan.proofs.Refusals.{list_refused}
use Rattle.tail.specs.Tail.{used_bound, unless_stopped}
use Rattle.counts.specs.Grid.{Grid, grid_of}
use Rattle.counts.specs.Counts.{counts_listed, counts_of, counts_in}

-- what one test refuses, or what stands behind it
behind_test : {A : Type 0} (test : Bool) (number : ℕ) (answer : Said A) {n : ℕ} {values : List ℕ} → unless_refused (pick_number test (suc number) 0) answer ≡ refused n values → (n ≡ suc number) ⊎ (answer ≡ refused n values)
behind_test true number answer h = inl cc
behind_test false number answer h = inr h

stopped : (stop : Said Step) (grid : Grid) {n : ℕ} {values : List ℕ} → unless_stopped stop grid ≡ refused n values → stop ≡ refused n values
stopped (accepted step) grid h = absurd (let z : ◌≡◌ {A = ℕ} 0 1 = cc in omega arith)
stopped (refused k v) grid h = cc

pub counts_refusals : (version ordinal : ℕ) (s : List ℕ) {n : ℕ} {values : List ℕ} → counts_in version ordinal s ≡ refused n values → (n ≡ 2) ⊎ ((n ≡ 3) ⊎ (n ≡ 10))
unfolding version_refusal counts_of counts_listed
counts_refusals version ordinal s h =
    let m = mark_of version ordinal in
    let listed = list m s (used_bound s) 0 in
    ⊎_elim inl
    (λ q. inr
    (⊎_elim inl (λ r. inr (list_refused m s (used_bound s) 0 (stopped listed.stop (grid_of listed.entries) r))) (behind_test (ltb largest_region (length s)) 2 (counts_listed listed) q)))
    (behind_test (not (is_version version)) 1 (counts_of m s) h)

-- none of which is 0
pub never_refused_0 : (version ordinal : ℕ) (s : List ℕ) {values : List ℕ} → counts_in version ordinal s ≡ refused 0 values → ⊥
never_refused_0 version ordinal s h =
    ⊎_elim (λ two. omega arith) (λ more. ⊎_elim (λ three. omega arith) (λ ten. omega arith) more) (counts_refusals version ordinal s h)

-- so with 0 the grid is told, whatever stood in its place, and with any other number it isn't
pub grid_told : (version ordinal : ℕ) (s : List ℕ) → number_said (counts_in version ordinal s) ≡ 0 → (a b : Grid) → value_out (counts_in version ordinal s) a ≡ value_out (counts_in version ordinal s) b
grid_told version ordinal s zero-said a b = go (counts_in version ordinal s) (λ values h. never_refused_0 version ordinal s h) zero-said
  where
    go : (counts : Said Grid) → ((values : List ℕ) → counts ≡ refused 0 values → ⊥) → number_said counts ≡ 0 → value_out counts a ≡ value_out counts b
    go (accepted grid) never e = refl
    go (refused n values) never e = absurd (never values (ap (λ (k : ℕ). refused k values) e))

pub grid_kept : (counts : Said Grid) → (number_said counts ≡ 0 → ⊥) → (old : Grid) → old ≡ value_out counts old
grid_kept (accepted grid) nonzero old = absurd (nonzero refl)
grid_kept (refused n values) nonzero old = refl
