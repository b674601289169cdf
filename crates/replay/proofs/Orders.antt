-- The start file does not depend on the list's order, and on an ascending list it is document 01's.
-- Assumes nothing.
use Prim.Native.Nat.{ℕ, zero, suc, ◌-◌, ◌≤◌, ◌<◌}
use mathlib.Core.Path.{◌≡◌, refl, sym, ap, subst, ◌∙◌}
use mathlib.Core.Bool.{Bool, true, false, cond}
use mathlib.Core.List.{List, [], ◌∷◌, Permᴰ}
use native.Mathlib.Omega.{arith}
use lib.Dec.{ltb, leb}
use lib.ListN.{length, get_or}
use borrow.Author.Tests.{ltb-true, ltb-false, leb-true, le-leb}
use Rattle.answers.specs.Answers.{Said, accepted, first_of, unless_refused}
use Rattle.answers.proofs.Orders.{first_passed, accepted_unrefused}
use Rattle.replay.specs.Start.{Started, file, nothing, twins, start_ordinal, place_of, started_of, start_tests, start_of}
use Rattle.replay.specs.Choice.{Chosen, Begins, by_ordinal, count_below, place_as_listed, started_as_listed, start_as_listed, Ascending}
use Rattle.replay.proofs.Listings.{listed_placed, place_back, ascending_apart, listed_any_order, twins_any_order, length_any_order}
use Rattle.replay.proofs.Choices.{Kept, kept_chosen, chosen_ordinal, start_chosen}
use Rattle.replay.proofs.Starts.{start_at}

-- ---- a place is answered exactly where the list is taken and that place's ordinal is the one chosen

pub begins_start : (os : List ℕ) (cursor place : ℕ) → Begins os cursor place → start_of os cursor ≡ accepted (file place)
begins_start os cursor place b = start_at os cursor b.few b.apart place b.within b.chosen

-- what is answered of a list that isn't empty is the place of the start ordinal
started_placed : (os : List ℕ) (cursor place : ℕ) → accepted (started_of cursor os) ≡ accepted (file place)
    → (place < length os) × Chosen cursor os (get_or os place 0)
started_placed [] cursor place e = let z : ◌≡◌ {A = ℕ} 0 1 = cc in absurd (omega arith)
started_placed (o ∷ os) cursor place e =
    let ordinal = start_ordinal cursor (o ∷ os) in
    let chosen = start_chosen cursor o os in
    let at = listed_placed ordinal (o ∷ os) chosen.stands in
    let same : place_of ordinal (o ∷ os) ≡ place = cc in (
      subst (λ (p : ℕ). p < length (o ∷ os)) same at.within,
      subst (λ (x : ℕ). Chosen cursor (o ∷ os) x) (sym at.there ∙ ap (λ (p : ℕ). get_or (o ∷ os) p 0) same) chosen,
    )

pub start_begins : (os : List ℕ) (cursor place : ℕ) → start_of os cursor ≡ accepted (file place) → Begins os cursor place
unfolding start_of
start_begins os cursor place e =
    let u = accepted_unrefused (first_of (start_tests os)) (accepted (started_of cursor os)) e in
    let many = first_passed (ltb 64 (length os)) 17 (first_of ((twins os, 22) ∷ [])) u.0 in
    let equal = first_passed (twins os) 21 0 many.1 in
    let at = started_placed os cursor place u.1 in
    record { few = ltb-false 64 (length os) many.0; apart = equal.0; within = at.0; chosen = at.1 }

-- ---- any order: told by its ordinal, the answer is the same

-- what is told of a list that is taken
chosen_of : ℕ → List ℕ → Said Started
chosen_of cursor [] = accepted nothing
chosen_of cursor (o ∷ os) = accepted (file (start_ordinal cursor (o ∷ os)))

ordinal_started : (os : List ℕ) (cursor : ℕ) → by_ordinal os (accepted (started_of cursor os)) ≡ chosen_of cursor os
unfolding chosen_of
ordinal_started [] cursor = refl
ordinal_started (o ∷ os) cursor = ap (λ (x : ℕ). accepted (file x)) (listed_placed (start_ordinal cursor (o ∷ os)) (o ∷ os) (start_chosen cursor o os).stands).there

ordinal_unless : (os : List ℕ) (n : ℕ) (answer : Said Started) → by_ordinal os (unless_refused n answer) ≡ unless_refused n (by_ordinal os answer)
ordinal_unless os zero answer = refl
ordinal_unless os (suc n) answer = refl

ordinal_start : (os : List ℕ) (cursor : ℕ)
    → by_ordinal os (start_of os cursor) ≡ unless_refused (first_of (start_tests os)) (chosen_of cursor os)
unfolding start_of
ordinal_start os cursor =
    ordinal_unless os (first_of (start_tests os)) (accepted (started_of cursor os))
    ∙ ap (unless_refused (first_of (start_tests os))) (ordinal_started os cursor)

-- the record of the choice speaks of no order
chosen_any_order : (cursor : ℕ) {os os' : List ℕ} → Permᴰ os os' → (o : ℕ) → Chosen cursor os o → Chosen cursor os' o
chosen_any_order cursor p o c =
    record { stands = sym (listed_any_order o p) ∙ c.stands; suits = λ q s. c.suits q (listed_any_order q p ∙ s) }

chosen_told : (os os' : List ℕ) (cursor : ℕ) → Permᴰ os os' → chosen_of cursor os ≡ chosen_of cursor os'
unfolding chosen_of
chosen_told [] [] cursor p = refl
chosen_told [] (o' ∷ os') cursor p = let e = length_any_order p in absurd (omega (arith, e))
chosen_told (o ∷ os) [] cursor p = let e = length_any_order p in absurd (omega (arith, e))
chosen_told (o ∷ os) (o' ∷ os') cursor p =
    ap (λ (x : ℕ). accepted (file x)) (sym (chosen_ordinal cursor (o' ∷ os') (start_ordinal cursor (o ∷ os)) (chosen_any_order cursor p (start_ordinal cursor (o ∷ os)) (start_chosen cursor o os))))

pub any_order : (os os' : List ℕ) (cursor : ℕ) → Permᴰ os os' → by_ordinal os (start_of os cursor) ≡ by_ordinal os' (start_of os' cursor)
any_order os os' cursor p =
    ordinal_start os cursor
    ∙ rw (length_any_order p, twins_any_order p, chosen_told os os' cursor p) refl
    ∙ sym (ordinal_start os' cursor)

-- ---- an ascending list

module _ (cursor : ℕ) where
  -- what stands before the first at or above the cursor's is below it
  count_first : (os : List ℕ) (j : ℕ) → cursor ≤ get_or os j 0 → count_below cursor os ≤ j
  count_first [] j h = omega arith
  count_first (o ∷ os) zero h = rw (le-leb cursor o h) (omega arith)
  count_first (o ∷ os) (suc j) h = by (leb cursor o) (count_first os j h)
    where
      by : (t : Bool) → count_below cursor os ≤ j → cond t 0 (suc (count_below cursor os)) ≤ suc j
      by true rest = omega arith
      by false rest = omega arith

  count_there : (os : List ℕ) → count_below cursor os < length os → cursor ≤ get_or os (count_below cursor os) 0
  count_there [] h = absurd (omega arith)
  count_there (o ∷ os) h = by (leb cursor o) refl h (count_there os)
    where
      by : (t : Bool) → leb cursor o ≡ t → cond t 0 (suc (count_below cursor os)) < suc (length os)
          → (count_below cursor os < length os → cursor ≤ get_or os (count_below cursor os) 0) → cursor ≤ get_or (o ∷ os) (cond t 0 (suc (count_below cursor os))) 0
      by true t h rest = leb-true cursor o t
      by false t h rest = rest (omega arith)

  module _ (os : List ℕ) (up : Ascending os) where
    -- an ordinal isn't above a later one
    not_after : (i j : ℕ) → i ≤ j → j < length os → get_or os i 0 ≤ get_or os j 0
    not_after i j h hj = by (ltb i j) refl
      where
        by : (t : Bool) → ltb i j ≡ t → get_or os i 0 ≤ get_or os j 0
        by true t = let below = up i j (ltb-true i j t) hj in omega (arith, below)
        by false t = let e : i ≡ j = omega (arith, ltb-false i j t) in rw e (omega arith)

    listed_kept : 0 < length os → Kept cursor os (length os) (place_as_listed cursor os)
    unfolding place_as_listed
    listed_kept some = by (ltb (count_below cursor os) (length os)) refl
      where
        by : (t : Bool) → ltb (count_below cursor os) (length os) ≡ t → Kept cursor os (length os) (cond t (count_below cursor os) (length os - 1))
        by true t =
            let within = ltb-true (count_below cursor os) (length os) t in
            record {
              within = within;
              suits = λ j hj. record {
                smallest = λ h hq. not_after (count_below cursor os) j (count_first os j hq) hj;
                largest = λ h. absurd (omega (arith, h, count_there os within));
              };
            }
        by false t =
            let over = ltb-false (count_below cursor os) (length os) t in
            record {
              within = omega (arith, some);
              suits = λ j hj. record {
                smallest = λ h hq. absurd (omega (arith, over, some, count_first os (length os - 1) h));
                largest = λ h. not_after j (length os - 1) (omega arith) (omega (arith, some));
              };
            }

started_as_listed_lem : (cursor : ℕ) (os : List ℕ) → Ascending os → started_of cursor os ≡ started_as_listed cursor os
started_as_listed_lem cursor [] up = refl
started_as_listed_lem cursor (o ∷ os) up =
    let place = place_as_listed cursor (o ∷ os) in
    let kept = listed_kept cursor (o ∷ os) up (omega arith) in
    ap file (ap (λ (x : ℕ). place_of x (o ∷ os)) (chosen_ordinal cursor (o ∷ os) (get_or (o ∷ os) place 0) (kept_chosen cursor (o ∷ os) place kept))
    ∙ place_back (o ∷ os) (ascending_apart (o ∷ os) up) place kept.within)

pub ascending_as_listed : (os : List ℕ) (cursor : ℕ) → Ascending os → start_of os cursor ≡ start_as_listed os cursor
unfolding start_of start_as_listed
ascending_as_listed os cursor up = rw (ascending_apart os up, started_as_listed_lem cursor os up) refl

-- so of any list the ordinal is the one that document 01's rule finds in the same list sorted
pub as_if_sorted : (os sorted : List ℕ) (cursor : ℕ) → Permᴰ os sorted → Ascending sorted
    → by_ordinal os (start_of os cursor) ≡ by_ordinal sorted (start_as_listed sorted cursor)
as_if_sorted os sorted cursor p up = any_order os sorted cursor p ∙ ap (by_ordinal sorted) (ascending_as_listed sorted cursor up)
