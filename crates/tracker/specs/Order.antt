-- Document 02, request 6: what the order of the queues is for, and where an insertion puts its delta.
-- Assumes nothing.
use Rattle.std.specs.Prelude.{ℕ, ◌≡◌, true, cond, List, [], ◌∷◌, ◌++◌, ltb, leb, ℤ, pos, ◌+ℤ◌}
use Rattle.tracker.specs.State.{Waiting}
use Rattle.tracker.specs.Sound.{every}

-- "every waiting delta below the limit", wherever it stands in its queue
abbrev pub below : ℕ → List Waiting → List Waiting
below limit [] = []
below limit (w ∷ ws) = cond (ltb w.number limit) (w ∷ below limit ws) (below limit ws)

-- and those that aren't below it
abbrev pub not_below : ℕ → List Waiting → List Waiting
not_below limit [] = []
not_below limit (w ∷ ws) = cond (ltb w.number limit) (not_below limit ws) (w ∷ not_below limit ws)

abbrev pub sum_deltas : List Waiting → ℤ
sum_deltas [] = pos 0
sum_deltas (w ∷ ws) = w.delta +ℤ sum_deltas ws

-- the sum of all that is below the limit, over all queues
abbrev pub sum_below : ℕ → List (List Waiting) → ℤ
sum_below limit [] = pos 0
sum_below limit (q ∷ qs) = sum_deltas (below limit q) +ℤ sum_below limit qs

-- "behind its equals": r is the queue q with w put in behind all that aren't larger and before all that are
pub record PutByNumber (w : Waiting) (q r : List Waiting) : Type 0 where
  pub front : List Waiting
  pub back : List Waiting
  pub was : q ≡ front ++ back
  pub none_larger : every (λ (x : Waiting). leb x.number w.number) front ≡ true
  pub all_larger : every (λ (x : Waiting). ltb w.number x.number) back ≡ true
  pub is : r ≡ front ++ (w ∷ back)
