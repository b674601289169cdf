-- No second answer fits the contracts of `sum` and `sum_on`; and these are the answers of `checksum::hash` and `checksum::update`.
-- Assumes nothing.
use mathlib.Core.Path.{sym, ◌∙◌}
use mathlib.Core.Logic.{◌⊎◌, ⊎_elim}
use Rattle.answers.specs.OneAnswer.{OneAnswer}
use Rattle.checksum.proofs.hash.Reads as hash
use Rattle.checksum.proofs.update.Reads as update
use Rattle.folds.proofs.sum.Kinds as sum-kinds
use Rattle.folds.proofs.sum.Reads as sum
use Rattle.folds.proofs.sum_on.Kinds as sum-on-kinds
use Rattle.folds.proofs.sum_on.Reads as sum-on

pub sum_only : OneAnswer 1 sum-kinds.ps sum-kinds.r sum.Post
sum_only κs args r s x y hr hs = cc

pub sum_on_only : OneAnswer 1 sum-on-kinds.ps sum-on-kinds.r sum-on.Post
sum_on_only κs args r s x y hr hs = cc

-- on the same bytes, what meets the one contract or the other is one answer: `sum` may stand for `hash`, and `hash` for `sum`
pub sum_is_hash : OneAnswer 1 sum-kinds.ps sum-kinds.r (λ κs args r x. sum.Post κs args r x ⊎ hash.Post κs args r x)
sum_is_hash κs args r s x y hr hs = ⊎_elim (λ h. h) (λ h. h) hr ∙ sym (⊎_elim (λ h. h) (λ h. h) hs)

-- from the same state too
pub sum_on_is_update : OneAnswer 1 sum-on-kinds.ps sum-on-kinds.r (λ κs args r x. sum-on.Post κs args r x ⊎ update.Post κs args r x)
sum_on_is_update κs args r s x y hr hs = ⊎_elim (λ h. h) (λ h. h) hr ∙ sym (⊎_elim (λ h. h) (λ h. h) hs)
