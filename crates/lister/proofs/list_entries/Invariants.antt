-- What is left to list decides the answer of `lister::list_entries`. Each entry that the walk finds ends past the offset that the walk began at, so
-- less is left before the bound.
-- Assumes nothing.
use Rattle.std.proofs.Common.{◌≡◌, ◌-◌, ◌≤◌, length}
use Rattle.entry.specs.Words.{mark_of}
use Rattle.scan.specs.Listing.{list}
use Rattle.tail.specs.Tail.{durable, durable_of}
use Rattle.lister.proofs.list_entries.Given as goal

abbrev pub invariant-loop-e : goal.invariant-loop-e
invariant-loop-e g l =
    (l.from ≤ length l.region) × (durable l.from (list (mark_of l.file.version l.file.ordinal) l.region l.bound l.from) ≡ durable_of (mark_of l.file.version l.file.ordinal) l.region l.bound)

abbrev pub decreases-loop-e : goal.decreases-loop-e
decreases-loop-e g l = l.bound - l.from
