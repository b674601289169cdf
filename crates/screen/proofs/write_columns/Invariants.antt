-- In each turn `screen::write_columns` adds one column.
-- Assumes nothing.
use Rattle.std.proofs.Common.{◌≡◌, ◌+◌, ◌*◌, ◌≤◌}
use Rattle.screen.proofs.Columns.{first}
use Rattle.screen.proofs.write_columns.Given as goal

abbrev pub invariant-loop-ns : goal.invariant-loop-ns
invariant-loop-ns g l =
    (l.told ≤ l.ns * 12884901888) × (l.told ≡ first 0 l.grid l.ns + first 1 l.grid l.ns + first 2 l.grid l.ns)
