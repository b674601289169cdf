-- Document 01, "Replay limits and start", as document 02's request 5 has it: the start file.
-- Assumes nothing.
use Rattle.std.specs.Prelude.{ℕ, suc, Bool, false, cond, ◌||◌, List, [], ◌∷◌, length, ltb, leb, eqb, Option, Some, None, Result, Ok, Err}
use Rattle.answers.specs.Numbers.{number_of}
use Rattle.answers.specs.Answers.{Said, accepted, refused, first_of, unless_refused}
use Rattle.answers.specs.declared.Refusal.{Refusal}

pub data Started : Type 0 where
  file : ℕ → Started
  nothing : Started

-- whether an ordinal stands in a list
abbrev pub listed : ℕ → List ℕ → Bool
listed o [] = false
listed o (q ∷ qs) = eqb o q || listed o qs

-- request 5: "two equal ordinals"
abbrev pub twins : List ℕ → Bool
twins [] = false
twins (o ∷ os) = listed o os || twins os

-- the ordinals of a list that are "at or above the cursor's"
abbrev pub at_or_above : ℕ → List ℕ → List ℕ
at_or_above cursor [] = []
at_or_above cursor (o ∷ os) = cond (leb cursor o) (o ∷ at_or_above cursor os) (at_or_above cursor os)

-- "the smallest" of a list, "else" the number that is handed along
abbrev pub smallest_else : ℕ → List ℕ → ℕ
smallest_else otherwise [] = otherwise
smallest_else otherwise (o ∷ os) = cond (ltb (smallest_else o os) o) (smallest_else o os) o

-- "the largest" of a list; no ordinal is below 0
abbrev pub largest : List ℕ → ℕ
largest [] = 0
largest (o ∷ os) = cond (ltb o (largest os)) (largest os) o

-- request 5: "The start file is the one with the smallest ordinal at or above the cursor's, else the one with the largest."
unfoldable pub start_ordinal : ℕ → List ℕ → ℕ
start_ordinal cursor os = smallest_else (largest os) (at_or_above cursor os)

-- "its place in the list, from 0": how many stand before it
abbrev pub place_of : ℕ → List ℕ → ℕ
place_of ordinal [] = 0
place_of ordinal (o ∷ os) = cond (eqb ordinal o) 0 (suc (place_of ordinal os))

-- "an empty list answers Nothing"
abbrev pub started_of : ℕ → List ℕ → Started
started_of cursor [] = nothing
started_of cursor (o ∷ os) = file (place_of (start_ordinal cursor (o ∷ os)) (o ∷ os))

-- "Start file 18": "more than 64 ordinals"; request 5: "22 for two equal ordinals, after 18"
abbrev pub start_tests : List ℕ → List (Bool × ℕ)
start_tests os = (ltb 64 (length os), 18) ∷ (twins os, 22) ∷ []

unfoldable pub start_of : List ℕ → ℕ → Said Started
start_of os cursor = unless_refused (first_of (start_tests os)) (accepted (started_of cursor os))

abbrev pub said_start : Result (Option ℕ) Refusal → Said Started
said_start (Ok (Some place)) = accepted (file place)
said_start (Ok None) = accepted nothing
said_start (Err r) = refused (number_of r) []
