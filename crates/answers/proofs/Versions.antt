-- What the test of a version tells: a call that takes one answers 2, or what stands behind that test. `known` is what the code has tested.
-- Assumes nothing.
use Prim.Native.Nat.{ℕ}
use mathlib.Core.Path.{◌≡◌, sym, ◌∙◌}
use mathlib.Core.Bool.{Bool, true, false, not}
use mathlib.Core.List.{[]}
use Rattle.answers.specs.Answers.{Said, refused, unless_refused}
use Rattle.answers.specs.Versions.{is_version, version_refusal}
use Rattle.answers.proofs.Orders.{not-true, not-false}

-- the refusal itself: none, or 2
module _ (version : ℕ) {known : Bool} (tested : known ≡ is_version version) where
  pub no_refusal : not known ≡ false → version_refusal version ≡ 0
  unfolding version_refusal
  no_refusal h = simp (sym tested ∙ not-false known h)

  pub refusal_2 : not known ≡ true → version_refusal version ≡ 2
  unfolding version_refusal
  refusal_2 h = simp (sym tested ∙ not-true known h)

module _ (version : ℕ) {A : Type 0} (answer : Said A) where
  pub right_version : is_version version ≡ true → unless_refused (version_refusal version) answer ≡ answer
  unfolding version_refusal
  right_version h = simp h

  wrong_version : is_version version ≡ false → unless_refused (version_refusal version) answer ≡ refused 2 []
  unfolding version_refusal
  wrong_version h = simp h

  module _ {known : Bool} (tested : known ≡ is_version version) where
    pub version_passed : not known ≡ false → unless_refused (version_refusal version) answer ≡ answer
    version_passed h = right_version (sym tested ∙ not-false known h)

    pub version_refused : not known ≡ true → unless_refused (version_refusal version) answer ≡ refused 2 []
    version_refused h = wrong_version (sym tested ∙ not-true known h)
