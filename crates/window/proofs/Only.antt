-- No second sum fits the contract of `sum_between`; where the window stands after it is the code's own affair.
-- Assumes nothing.
use mathlib.Core.Path.{◌≡◌}
use Rattle.answers.specs.OneAnswer.{Agree}
use Rattle.window.proofs.Window.sum_between.Kinds as sum-between-kinds
use Rattle.window.proofs.Window.sum_between.Reads as sum-between

pub sum_between_only : Agree 2 sum-between-kinds.ps sum-between-kinds.r sum-between.Post (λ κs r s x y. r ≡ s)
sum_between_only κs args r s x y hr hs = cc
