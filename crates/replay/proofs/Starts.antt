-- The start file's whole answer: each refusal, Nothing, and the place of the ordinal that is chosen.
-- Assumes nothing.
use Prim.Native.Nat.{ℕ, ◌≤◌, ◌<◌}
use mathlib.Core.Path.{◌≡◌, refl, sym, ap, subst, ◌∙◌}
use mathlib.Core.Bool.{true, false}
use mathlib.Core.List.{List, [], ◌∷◌}
use native.Mathlib.Omega.{arith}
use lib.ListN.{length, get_or}
use borrow.Author.Tests.{lt-ltb, le-ltb}
use Rattle.answers.specs.Answers.{accepted, refused}
use Rattle.replay.specs.Start.{file, nothing, twins, start_ordinal, place_of, started_of, start_of}
use Rattle.replay.specs.Choice.{Chosen}
use Rattle.replay.proofs.Listings.{place_back}
use Rattle.replay.proofs.Choices.{Kept, kept_chosen, chosen_ordinal}

started_some : (cursor : ℕ) (os : List ℕ) (n : ℕ) → n < length os → started_of cursor os ≡ file (place_of (start_ordinal cursor os) os)
started_some cursor [] n h = absurd (omega arith)
started_some cursor (o ∷ os) n h = refl

started_none : (cursor : ℕ) (os : List ℕ) → length os ≡ 0 → started_of cursor os ≡ nothing
started_none cursor [] h = refl
started_none cursor (o ∷ os) h = absurd (omega arith)

module _ (os : List ℕ) (cursor : ℕ) where
  pub start_many : 64 < length os → refused 18 [] ≡ start_of os cursor
  unfolding start_of
  start_many h = sym (rw (lt-ltb 64 (length os) h) refl)

  pub start_equal : length os ≤ 64 → twins os ≡ true → refused 22 [] ≡ start_of os cursor
  unfolding start_of
  start_equal few e = sym (rw (le-ltb 64 (length os) few, e) refl)

  module _ (few : length os ≤ 64) (apart : twins os ≡ false) where
    start_answers : start_of os cursor ≡ accepted (started_of cursor os)
    unfolding start_of
    start_answers = rw (le-ltb 64 (length os) few, apart) refl

    pub start_nothing : length os ≡ 0 → accepted nothing ≡ start_of os cursor
    start_nothing e = sym (start_answers ∙ ap accepted (started_none cursor os e))

    pub start_at : (place : ℕ) → place < length os → Chosen cursor os (get_or os place 0) → start_of os cursor ≡ accepted (file place)
    start_at place h c =
        start_answers ∙ ap accepted (started_some cursor os place h
        ∙ ap file (ap (λ (o : ℕ). place_of o os) (chosen_ordinal cursor os (get_or os place 0) c) ∙ place_back os apart place h))

    pub start_found_lem : (n place : ℕ) → n ≡ length os → Kept cursor os n place → accepted (file place) ≡ start_of os cursor
    start_found_lem n place e k = let all = subst (λ (m : ℕ). Kept cursor os m place) e k in sym (start_at place all.within (kept_chosen cursor os place all))
