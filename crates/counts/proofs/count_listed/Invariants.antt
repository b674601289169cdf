-- `counts::count_listed` meets its contract: the loop keeps that the entries which are counted and those which are left are all of them, and that the
-- listing from here on ends as the whole one does.
-- Assumes nothing.
use Rattle.std.proofs.Common.{◌≡◌, ◌-◌}
use Rattle.entry.specs.Words.{mark_from}
use Rattle.scan.specs.Listing.{list}
use Rattle.counts.proofs.Tallies.{Tallied}
use Rattle.counts.proofs.count_listed.Given as goal

abbrev pub invariant-loop-e : goal.invariant-loop-e
invariant-loop-e l =
    (l.listing.window.region.now ≡ l.initial.listing.window.region.now)
    × (l.listing.seed ≡ l.initial.listing.seed)
    × (l.listing.bound ≡ l.initial.listing.bound)
    × Tallied l.grid (list (mark_from l.listing.seed) l.listing.window.region.now l.listing.bound l.listing.from).entries (list (mark_from l.initial.listing.seed) l.initial.listing.window.region.now l.initial.listing.bound 0).entries
    × ((list (mark_from l.listing.seed) l.listing.window.region.now l.listing.bound l.listing.from).stop ≡ (list (mark_from l.initial.listing.seed) l.initial.listing.window.region.now l.initial.listing.bound 0).stop)

abbrev pub decreases-loop-e : goal.decreases-loop-e
decreases-loop-e l = l.listing.bound - l.listing.from
