-- `checksum::update` meets its contract. Each loop's invariant: from the register, the bytes that are left give what all the
-- bytes give from the first state.
-- Assumes nothing.
use Prim.Native.Nat.{◌*◌}
use mathlib.Core.Path.{◌≡◌}
use lib.ListN.{drop}
use Rattle.checksum.specs.Catalogue.{crc_from}
use Rattle.checksum.proofs.update.Given as goal

abbrev pub invariant-loop-a : goal.invariant-loop-a
invariant-loop-a l = crc_from l.r (drop (l.a-index * 2) l.bytes) ≡ crc_from l.state l.bytes

abbrev pub invariant-loop-b : goal.invariant-loop-b
invariant-loop-b l = crc_from l.r (drop l.b-index l.rest) ≡ crc_from l.state l.bytes
