-- `tail::last_end` meets its contract: the loop goes along the listing, and keeps that what is left to list decides the answer.
-- Assumes nothing.
use Rattle.std.proofs.Common.{◌≡◌, ◌-◌, ◌≤◌, length}
use Rattle.entry.specs.Words.{mark_from}
use Rattle.scan.specs.Listing.{list}
use Rattle.tail.specs.Tail.{durable}
use Rattle.tail.proofs.last_end.Given as goal

abbrev pub invariant-loop-e : goal.invariant-loop-e
invariant-loop-e l =
    (l.listing.window.region.now ≡ l.initial.listing.window.region.now)
    × (l.listing.seed ≡ l.initial.listing.seed)
    × (l.listing.bound ≡ l.initial.listing.bound)
    × (durable l.end (list (mark_from l.listing.seed) l.listing.window.region.now l.listing.bound l.listing.from) ≡ durable 0 (list (mark_from l.initial.listing.seed) l.initial.listing.window.region.now l.initial.listing.bound l.initial.listing.from))
    × (l.end ≤ length l.listing.window.region.now)

abbrev pub decreases-loop-e : goal.decreases-loop-e
decreases-loop-e l = l.listing.bound - l.listing.from
