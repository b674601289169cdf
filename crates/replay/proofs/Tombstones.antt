-- A tombstone's limits are those of an entry without a value.
-- Assumes nothing.
use Prim.Native.Nat.{ℕ}
use native.Mathlib.Nat.{add-zero}
use mathlib.Core.Path.{◌≡◌}
use Rattle.replay.specs.Inner.{entry_limits}
use Rattle.replay.specs.Limits.{tombstone_limits}

pub without_value : (klen maximum : ℕ) → entry_limits 8 klen 0 maximum ≡ tombstone_limits klen maximum
unfolding entry_limits tombstone_limits
without_value klen maximum = rw add-zero
