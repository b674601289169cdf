-- `scan::part_of` meets its contract: the definition's two tests, and the part between the places.
-- Assumes nothing.
use Prim.Native.Nat.{ℕ}
use mathlib.Core.Path.{◌≡◌, refl, ap}
use mathlib.Core.Bool.{true, false}
use native.Mathlib.Nat.{add-sub_cancel_left}
use borrow.Author.Rules.{rules}
use borrow.Author.Tests.{lt-leb, le-leb}
use lib.ListN.{take, drop}
use Rattle.scan.specs.Parts.{fits, part_of, part_start}
use Rattle.scan.proofs.part_of.Goals as goal

pub returns-then-region-at : goal.returns-then-region-at
unfolding fits part_of part_start
returns-then-region-at c =
    let a = c.args in
    let past : fits a.region.now a.at a.len ≡ false = simp (lt-leb _ _ c.if-region-at.true) in
    record { bytes = simp past; lent = (refl, simp past (search rules)) }

pub returns-then-region-at-2 : goal.returns-then-region-at-2
unfolding fits part_of part_start
returns-then-region-at-2 c =
    let a = c.args in
    let past : fits a.region.now a.at a.len ≡ false = simp (le-leb _ _ c.if-region-at.false, lt-leb _ _ c.if-region-at-2.true) in
    record { bytes = simp past; lent = (refl, simp past (search rules)) }

pub returns : goal.returns
unfolding fits part_of part_start
returns c =
    let a = c.args in
    let within : fits a.region.now a.at a.len ≡ true = simp (le-leb _ _ c.if-region-at.false, le-leb _ _ c.if-region-at-2.false) in
    record { bytes = simp within (ap (λ (k : ℕ). take k (drop a.at a.region.now)) (add-sub_cancel_left a.at a.len)); lent = (refl, simp within (search rules)) }
