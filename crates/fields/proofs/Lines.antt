-- Rounding up to a line.
-- Assumes nothing.
use Prim.Native.Nat.{ℕ, ◌+◌, ◌%◌, ◌<◌, ◌≤◌}
use mathlib.Core.Path.{◌≡◌}
use native.Mathlib.Omega.{arith}
use Rattle.fields.specs.Numbers.{aligned}

pub aligned_le : (n : ℕ) → n ≤ aligned n
unfolding aligned
aligned_le n = omega arith

pub aligned_lt : (n : ℕ) → aligned n < n + 16
unfolding aligned
aligned_lt n = omega arith

pub aligned_line : (n : ℕ) → aligned n % 16 ≡ 0
unfolding aligned
aligned_line n = omega arith

-- a line stays where it is
pub aligned_self : (n : ℕ) → n % 16 ≡ 0 → aligned n ≡ n
unfolding aligned
aligned_self n h = omega arith

-- counted from a line on
pub aligned_from : (line n : ℕ) → line % 16 ≡ 0 → aligned (line + n) ≡ line + aligned n
unfolding aligned
aligned_from line n h = omega arith

-- it is the first line that is not below n
pub aligned_least : (line n : ℕ) → line % 16 ≡ 0 → n ≤ line → aligned n ≤ line
unfolding aligned
aligned_least line n h l = omega arith
