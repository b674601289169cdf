-- A part that lies within the region is handed back as it stands.
-- Assumes nothing.
use Prim.Native.Nat.{ℕ, ◌+◌, ◌-◌, ◌≤◌}
use mathlib.Core.Path.{◌≡◌}
use mathlib.Core.List.{List}
use native.Mathlib.Omega.{arith}
use borrow.Author.Tests.{le-leb}
use lib.ListN.{length, take, drop}
use Rattle.scan.specs.Parts.{fits, part_of}

pub part_within : (s : List ℕ) (at len : ℕ) → at + len ≤ length s → part_of s at len ≡ take len (drop at s)
unfolding part_of fits
part_within s at len h = simp (le-leb at (length s) (omega arith), le-leb len (length s - at) (omega arith))
