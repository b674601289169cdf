-- The size of a sum of integers, in ℕ, where omega reads it.
-- Assumes nothing.
use mathlib.Core.Path.{◌≡◌, refl, ap}
use mathlib.Core.Bool.{Bool, true, false, cond}
use Prim.Native.Nat.{ℕ, suc, ◌+◌, ◌-◌, ◌≤◌, ◌<◌, ◌^◌}
use native.Mathlib.Omega.{arith}
use lib.IntN.{ℤ, pos, negsuc, ◌+ℤ◌, nat_abs, sub_ℕ}
use lib.Signed.{mag}
use lib.Dec.{ltb, lit<}
use mir.Val.{SFits, to_z, of_z}
use mir.Syntax.{w8, w64}
use mir.Facts.{to_z-of_z}
use native.Mathlib.Nat.{lt_of_le_of_lt}
use borrow.Author.Tests.{ltb-true}

by_case : (a b : ℕ) (t : Bool) → ltb a b ≡ t → nat_abs (cond t (negsuc (b - suc a)) (pos (a - b))) ≤ a + b
by_case a b true e = let h : a < b = ltb-true a b e in omega arith
by_case a b false e = omega arith

pub abs_sub : (a b : ℕ) → nat_abs (sub_ℕ a b) ≤ a + b
abs_sub a b = by_case a b (ltb a b) refl

pub abs_add : (x y : ℤ) → nat_abs (x +ℤ y) ≤ nat_abs x + nat_abs y
abs_add (pos a) (pos b) = omega arith
abs_add (pos a) (negsuc b) = abs_sub a (suc b)
abs_add (negsuc a) (pos b) = let h = abs_sub b (suc a) in omega arith
abs_add (negsuc a) (negsuc b) = omega arith

pub mag_abs : (x : ℤ) → mag x ≤ nat_abs x
mag_abs (pos n) = omega arith
mag_abs (negsuc n) = omega arith

pub abs_mag : (x : ℤ) → nat_abs x ≤ mag x + 1
abs_mag (pos n) = omega arith
abs_mag (negsuc n) = omega arith

-- ---- an i64 that is far from its ends: a local holds bits, which read back as the number

pub far64 : (x : ℤ) → nat_abs x ≤ 2 ^ 20 → SFits w64 x
far64 x h = record { sfits = lt_of_le_of_lt (mag_abs x) (lt_of_le_of_lt h (lit< tt)) }

pub reads64 : (x : ℤ) → nat_abs x ≤ 2 ^ 20 → to_z w64 (of_z w64 x) ≡ x
reads64 x h = to_z-of_z (far64 x h)

module _ (z r : ℤ) (hz : nat_abs z ≤ 2 ^ 19) (hr : nat_abs r ≤ 2 ^ 19) where
  both : nat_abs (z +ℤ r) ≤ 2 ^ 20
  both = omega (arith, abs_add z r)

  r_small : nat_abs r ≤ 2 ^ 20
  r_small = omega arith

  pub sum_fits : SFits w64 (z +ℤ to_z w64 (of_z w64 r))
  sum_fits = rw (reads64 r r_small) (far64 (z +ℤ r) both)

  pub sum_reads : to_z w64 (of_z w64 (z +ℤ to_z w64 (of_z w64 r))) ≡ z +ℤ r
  sum_reads = rw (reads64 r r_small) (reads64 (z +ℤ r) both)

-- an i8 is small
pub small8 : (x : ℤ) → SFits w8 x → nat_abs x ≤ 128
small8 x h = omega (arith, abs_mag x, h.sfits)

-- ---- a test of an i8 against 0 is a test of its bits

pub bits_zero : (d : ℤ) → SFits w8 d → of_z w8 d ≡ 0 → d ≡ pos 0
bits_zero (pos n) f e = ap pos e
bits_zero (negsuc n) f e = absurd (omega (arith, f.sfits))

pub bits_other : (d : ℤ) → (of_z w8 d ≡ 0 → ⊥) → nat_abs d ≡ 0 → ⊥
bits_other (pos n) ne e = ne e
bits_other (negsuc n) ne e = omega arith
