-- `fields::put_run` meets its contract. The invariant: the bytes of the run up to i stand over the region, and its length stays.
-- Assumes nothing.
use Prim.Native.Nat.{◌≤◌}
use mathlib.Core.Path.{◌≡◌}
use lib.ListN.{length, take}
use Rattle.fields.specs.Runs.{over}
use Rattle.fields.proofs.put_run.Given as goal

abbrev pub invariant-loop-i : goal.invariant-loop-i
invariant-loop-i l = (l.i ≤ length l.run) × (l.region ≡ over l.initial.region l.at (take l.i l.run)) × (length l.region ≡ length l.initial.region)
