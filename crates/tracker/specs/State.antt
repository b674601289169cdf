-- Document 01, "Tracker": the value as the paper speaks of it, its queues as lists from the front.
-- Assumes nothing.
use Rattle.std.specs.Prelude.{ℕ, zero, suc, ◌*◌, cond, List, [], ◌∷◌, ◌++◌, get_or, set, replicate, ltb, eqb, ℤ, pos}
use Rattle.tracker.specs.declared.Slot.{Slot}
use Rattle.tracker.specs.declared.Tracker.{Tracker}

-- a delta that waits, under its number
pub record Waiting : Type 0 where
  pub number : ℕ
  pub delta : ℤ

-- "One value holds 16 slots (number, ordinal, offset; number 0 is idle) and room for 512 waiting deltas, thirty-two to a shard."
pub record State : Type 0 where
  pub slots : List Slot
  pub queues : List (List Waiting)
  pub next : ℕ

-- f a, f (a + 1), .. , n of them
abbrev pub seg : {A : Type 0} → (ℕ → A) → ℕ → ℕ → List A
seg f a zero = []
seg f a (suc n) = f a ∷ seg f (suc a) n

-- what waits at one place of the two flat arrays
abbrev pub waiting_at : List ℕ → List ℤ → ℕ → Waiting
waiting_at numbers deltas i = record { number = get_or numbers i 0; delta = get_or deltas i (pos 0) }

-- a shard's queue: as many as its length says, from place 32 times the shard. "Nothing past a queue's length counts as state."
unfoldable pub queue_of : List ℕ → List ℤ → List ℕ → ℕ → List Waiting
queue_of numbers deltas lengths shard = seg (waiting_at numbers deltas) (shard * 32) (get_or lengths shard 0)

unfoldable pub view : Tracker → State
view t = record { slots = t.slots; queues = seg (queue_of t.numbers t.deltas t.lengths) 0 16; next = t.next }

abbrev pub idle : Slot
idle = record { number = 0; ordinal = 0; offset = 0 }

-- "Numbers start at 1."
abbrev pub fresh_state : State
fresh_state = record { slots = replicate 16 idle; queues = replicate 16 []; next = 1 }

-- a shard's slot and queue; idle and empty for a shard that isn't there
abbrev pub slot_of : State → ℕ → Slot
slot_of m shard = get_or m.slots shard idle

abbrev pub queue : State → ℕ → List Waiting
queue m shard = get_or m.queues shard []

-- "1 for an open slot", by its number
abbrev pub places : ℕ → ℕ
places number = cond (eqb number 0) 0 1

abbrev pub with_slot : State → ℕ → Slot → State
with_slot m shard slot = record { slots = set m.slots shard slot; queues = m.queues; next = m.next }

abbrev pub with_next : State → ℕ → State
with_next m next = record { slots = m.slots; queues = m.queues; next = next }

abbrev pub with_queue : State → ℕ → List Waiting → State
with_queue m shard q = record { slots = m.slots; queues = set m.queues shard q; next = m.next }

-- one delta more at the back of the shard's queue: there a new number belongs, which is above all that wait
unfoldable pub joined : State → ℕ → ℕ → ℤ → State
joined m shard number delta = with_queue m shard (queue m shard ++ (record { number = number; delta = delta } ∷ []))

-- Document 02, request 6: "completion inserts behind its equals", so before the first number that is larger
abbrev pub behind_equals : Waiting → List Waiting → List Waiting
behind_equals w [] = w ∷ []
behind_equals w (x ∷ xs) = cond (ltb w.number x.number) (w ∷ x ∷ xs) (x ∷ behind_equals w xs)

-- one delta more in the shard's queue, behind its equals
unfoldable pub inserted : State → ℕ → ℕ → ℤ → State
inserted m shard number delta = with_queue m shard (behind_equals (record { number = number; delta = delta }) (queue m shard))
