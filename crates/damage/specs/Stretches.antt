-- More than demand 3 asks: any number of stretches.
-- Assumes nothing.
use Rattle.std.specs.Prelude.{ℕ, ◌+◌, ◌%◌, ◌<◌, ◌≤◌, ◌≡◌, List, [], ◌∷◌, get_or}
use Rattle.entry.specs.declared.Entry.{Entry}
use Rattle.append.specs.Bytes.{Item, size_of}
use Rattle.damage.specs.Log.{entry_of}
use Rattle.damage.specs.Damage.{Quiet}

-- the items of a log from p on, each kept, with its bytes as they were, or lost, with all its lines quiet; and then the entries and the items that
-- are kept
pub data Fates (mark : ℕ → ℕ) (region damaged : List ℕ) : ℕ → List Item → List Entry → List Item → Type 0 where
  over : {p : ℕ} → Fates mark region damaged p [] [] []
  kept : {p : ℕ} {i : Item} {is stay : List Item} {es : List Entry}
      → ((k : ℕ) → p ≤ k → k < p + size_of i → get_or region k 0 ≡ get_or damaged k 0)
      → Fates mark region damaged (p + size_of i) is es stay
      → Fates mark region damaged p (i ∷ is) (entry_of p i ∷ es) (i ∷ stay)
  lost : {p : ℕ} {i : Item} {is stay : List Item} {es : List Entry}
      → ((q : ℕ) → q % 16 ≡ 0 → p ≤ q → q < p + size_of i → Quiet mark damaged q)
      → Fates mark region damaged (p + size_of i) is es stay
      → Fates mark region damaged p (i ∷ is) es stay
