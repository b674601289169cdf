-- `folds::narrow` meets its contract. The invariant: from the register, the bytes that are left give what all the bytes give from the
-- first state.
-- Assumes nothing.
use mathlib.Core.Path.{◌≡◌}
use lib.ListN.{drop}
use Rattle.checksum.specs.Catalogue.{crc_from}
use Rattle.folds.proofs.narrow.Given as goal

abbrev pub invariant-loop-b : goal.invariant-loop-b
invariant-loop-b l = crc_from l.r (drop l.b-index l.bytes) ≡ crc_from l.state l.bytes
