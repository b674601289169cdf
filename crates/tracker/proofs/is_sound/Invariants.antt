-- `tracker::is_sound`: every shard passed is sound.
-- Assumes nothing.
use Rattle.std.proofs.Common.{◌≡◌, ℕ, true, ◌<◌}
use Rattle.tracker.specs.State.{view}
use Rattle.tracker.specs.Sound.{shard_sound}
use Rattle.tracker.proofs.is_sound.Given as goal

abbrev pub invariant-loop-shard : goal.invariant-loop-shard
invariant-loop-shard l = (k : ℕ) → k < l.shard → shard_sound (view l.tracker) k ≡ true
