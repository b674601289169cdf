-- What the theorems about the start file speak of (proofs/Orders.antt), and what the test of two ordinals promises; no contract of a public
-- operation rests on it.
-- Assumes nothing.
use Rattle.std.specs.Prelude.{ℕ, suc, ◌-◌, ◌≤◌, ◌<◌, ◌≡◌, true, false, cond, List, [], ◌∷◌, length, get_or, ltb, leb}
use Rattle.answers.specs.Answers.{Said, accepted, refused, first_of, unless_refused}
use Rattle.replay.specs.Start.{Started, file, nothing, listed, twins}

-- ---- request 5's sentence, without a list's order

-- replay may begin at o as far as q is concerned: where o is at or above the cursor's, no smaller q is; where o is below, no q is larger
pub record Suits (cursor o q : ℕ) : Type 0 where
  pub smallest : cursor ≤ o → cursor ≤ q → o ≤ q
  pub largest : o < cursor → q ≤ o

-- "The start file is the one with the smallest ordinal at or above the cursor's, else the one with the largest."
pub record Chosen (cursor : ℕ) (os : List ℕ) (o : ℕ) : Type 0 where
  pub stands : listed o os ≡ true
  pub suits : (q : ℕ) → listed q os ≡ true → Suits cursor o q

-- replay begins at a place: the list is taken, and the place's ordinal is the one chosen
pub record Begins (os : List ℕ) (cursor place : ℕ) : Type 0 where
  pub few : length os ≤ 64
  pub apart : twins os ≡ false
  pub within : place < length os
  pub chosen : Chosen cursor os (get_or os place 0)

-- the answer with the file's ordinal told, not its place
abbrev pub by_ordinal : List ℕ → Said Started → Said Started
by_ordinal os (accepted (file place)) = accepted (file (get_or os place 0))
by_ordinal os (accepted nothing) = accepted nothing
by_ordinal os (refused n values) = refused n values

-- ---- document 01's sentence, which request 5 replaces

-- how many stand before "the first with ordinal at or above the cursor's"
abbrev pub count_below : ℕ → List ℕ → ℕ
count_below cursor [] = 0
count_below cursor (o ∷ os) = cond (leb cursor o) 0 (suc (count_below cursor os))

-- "in the list as given .., the first with ordinal at or above the cursor's, else the last; the answer is its place in the list, from 0"
unfoldable pub place_as_listed : ℕ → List ℕ → ℕ
place_as_listed cursor os = cond (ltb (count_below cursor os) (length os)) (count_below cursor os) (length os - 1)

-- "an empty list answers Nothing"
abbrev pub started_as_listed : ℕ → List ℕ → Started
started_as_listed cursor [] = nothing
started_as_listed cursor (o ∷ os) = file (place_as_listed cursor (o ∷ os))

-- "Start file 18": "more than 64 ordinals"
unfoldable pub start_as_listed : List ℕ → ℕ → Said Started
start_as_listed os cursor = unless_refused (first_of ((ltb 64 (length os), 18) ∷ [])) (accepted (started_as_listed cursor os))

-- strictly ascending: a later ordinal of the list is a larger one
abbrev pub Ascending : List ℕ → Type 0
Ascending os = (i j : ℕ) → i < j → j < length os → get_or os i 0 < get_or os j 0
