-- Document 01, "Tracker": the front of a queue, which the checkpoint sums and the drain removes.
-- Assumes nothing.
use Rattle.std.specs.Prelude.{ℕ, suc, cond, List, [], ◌∷◌, ltb, drop, ℤ, pos, ◌+ℤ◌}
use Rattle.tracker.specs.State.{Waiting}

-- "The sum adds each queue from its front and stops at the first number at or above the limit."
abbrev pub sum_front : ℕ → List Waiting → ℤ
sum_front limit [] = pos 0
sum_front limit (w ∷ ws) = cond (ltb w.number limit) (w.delta +ℤ sum_front limit ws) (pos 0)

-- how many it adds
abbrev pub count_front : ℕ → List Waiting → ℕ
count_front limit [] = 0
count_front limit (w ∷ ws) = cond (ltb w.number limit) (suc (count_front limit ws)) 0

-- what it leaves
abbrev pub past_front : ℕ → List Waiting → List Waiting
past_front limit ws = drop (count_front limit ws) ws

-- over all queues
abbrev pub sum_of : ℕ → List (List Waiting) → ℤ
sum_of limit [] = pos 0
sum_of limit (q ∷ qs) = sum_front limit q +ℤ sum_of limit qs
