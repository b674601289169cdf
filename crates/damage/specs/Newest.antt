-- What the people at the door go by: for a namespace and key, the newest entry.
-- Assumes nothing.
use Rattle.std.specs.Prelude.{ℕ, Bool, true, false, ◌&&◌, List, [], ◌∷◌, map, eqb}
use Rattle.append.specs.Bytes.{Item}
use Rattle.scan.specs.Listing.{list}
use Rattle.damage.specs.Damage.{item_at}

unfoldable pub same_bytes : List ℕ → List ℕ → Bool
same_bytes [] [] = true
same_bytes [] (b ∷ t) = false
same_bytes (a ∷ s) [] = false
same_bytes (a ∷ s) (b ∷ t) = eqb a b && same_bytes s t

pub data Newest : Type 0 where
  absent : Newest
  present : Item → Newest

abbrev pub pick_newest : Bool → Newest → Newest → Newest
pick_newest true a b = a
pick_newest false a b = b

module _ (ns : ℕ) (key : List ℕ) where
  -- the item is one for this namespace and key
  unfoldable pub bears : Item → Bool
  bears i = eqb i.ns ns && same_bytes i.key key

  -- the last such item, or what was the last before these
  unfoldable pub newest_after : Newest → List Item → Newest
  newest_after last [] = last
  newest_after last (i ∷ is) = newest_after (pick_newest (bears i) (present i) last) is

  -- of items in the order in which they were appended
  abbrev pub newest : List Item → Newest
  newest items = newest_after absent items

  -- of a region: the last such entry that the listing up to the bound has, by the bytes of the region
  abbrev pub newest_listed : (ℕ → ℕ) → List ℕ → ℕ → Newest
  newest_listed mark s bound = newest (map (item_at s) (list mark s bound 0).entries)
