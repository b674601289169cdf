-- `scan::part_start` meets its contract: the definition's two tests.
-- Assumes nothing.
use borrow.Author.Tests.{lt-leb, le-leb}
use Rattle.scan.specs.Parts.{fits, part_start}
use Rattle.scan.proofs.part_start.Goals as goal

pub returns-then-region-at : goal.returns-then-region-at
unfolding fits part_start
returns-then-region-at c = simp (lt-leb _ _ c.if-region-at.true)

pub returns-then-region-at-2 : goal.returns-then-region-at-2
unfolding fits part_start
returns-then-region-at-2 c = simp (le-leb _ _ c.if-region-at.false, lt-leb _ _ c.if-region-at-2.true)

pub returns : goal.returns
unfolding fits part_start
returns c = simp (le-leb _ _ c.if-region-at.false, le-leb _ _ c.if-region-at-2.false)
