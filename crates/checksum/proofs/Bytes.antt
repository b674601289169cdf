-- Where `AreBytes` comes from: what a slice knows of its elements, and the runs that are made of other runs.
-- Assumes nothing.
use mathlib.Core.List.{List, [], ◌∷◌, ◌++◌}
use Prim.Native.Nat.{ℕ, zero, suc, ◌^◌, ◌<◌}
use lib.ListN.{get_or, take, drop, replicate}
use Rattle.checksum.specs.Remainder.{AreBytes, none, more}

-- a slice's rule gives the bound at each index
pub bytes_from_places : (s : List ℕ) → ((i : ℕ) → get_or s i 0 < 2 ^ 8) → AreBytes s
bytes_from_places [] h = none
bytes_from_places (b ∷ s) h = more (h 0) (bytes_from_places s (λ i. h (suc i)))

pub bytes_append : {a b : List ℕ} → AreBytes a → AreBytes b → AreBytes (a ++ b)
bytes_append none hb = hb
bytes_append (more h ha) hb = more h (bytes_append ha hb)

pub bytes_take : (n : ℕ) {s : List ℕ} → AreBytes s → AreBytes (take n s)
bytes_take zero h = none
bytes_take (suc n) none = none
bytes_take (suc n) (more hb h) = more hb (bytes_take n h)

pub bytes_drop : (n : ℕ) {s : List ℕ} → AreBytes s → AreBytes (drop n s)
bytes_drop zero h = h
bytes_drop (suc n) none = none
bytes_drop (suc n) (more hb h) = bytes_drop n h

pub bytes_replicate : (n : ℕ) {b : ℕ} → b < 2 ^ 8 → AreBytes (replicate n b)
bytes_replicate zero h = none
bytes_replicate (suc n) h = more h (bytes_replicate n h)
