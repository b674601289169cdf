-- Document 01, "Tracker", with document 02's request 6: which values are sound.
-- Assumes nothing.
use Rattle.std.specs.Prelude.{ℕ, zero, suc, ◌+◌, Bool, true, ◌&&◌, ◌||◌, List, [], ◌∷◌, length, ltb, leb, eqb}
use Rattle.tracker.specs.State.{Waiting, State, slot_of, queue, places}

-- a test holds of each element
abbrev pub every : {A : Type 0} → (A → Bool) → List A → Bool
every p [] = true
every p (x ∷ xs) = p x && every p xs

-- a test holds of each number below n
abbrev pub all_below : (ℕ → Bool) → ℕ → Bool
all_below f zero = true
all_below f (suc n) = all_below f n && f n

-- Request 6: "each queue ascending by number at all times, equal numbers allowed": no number is above one that stands behind it
abbrev pub ascends : List Waiting → Bool
ascends [] = true
ascends (w ∷ ws) = every (λ (x : Waiting). leb w.number x.number) ws && ascends ws

-- "each queue length is at most 32, and at most 31 beside an open slot", and "every open or waiting number is below" the next number. Request 6:
-- "A tracker is sound from now on only if its queues ascend"
unfoldable pub shard_sound : State → ℕ → Bool
shard_sound m shard =
    leb (length (queue m shard) + places (slot_of m shard).number) 32
    && (eqb (slot_of m shard).number 0 || ltb (slot_of m shard).number m.next)
    && every (λ (w : Waiting). ltb w.number m.next) (queue m shard)
    && ascends (queue m shard)

-- "the next number is at least 1", and each of the sixteen shards is sound
unfoldable pub sound : State → Bool
sound m = leb 1 m.next && all_below (shard_sound m) 16
