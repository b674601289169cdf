-- The ordinal at which replay begins: it is chosen as request 5 says, no other is, and the search finds its place.
-- Assumes nothing.
use Prim.Native.Nat.{ℕ, ◌+◌, ◌≤◌, ◌<◌}
use mathlib.Core.Path.{◌≡◌, refl, sym, ap, subst, ◌∙◌}
use mathlib.Core.Bool.{Bool, true, false, cond, true≢false, false≢true}
use mathlib.Core.Logic.{◌⊎◌, inl, inr}
use mathlib.Core.List.{List, [], ◌∷◌}
use native.Mathlib.Omega.{arith}
use lib.Dec.{ltb, leb}
use lib.ListN.{length, get_or}
use borrow.Author.Tests.{ltb-true, ltb-false, leb-true, leb-false, le-ltb}
use Rattle.replay.specs.Start.{listed, at_or_above, smallest_else, largest, start_ordinal}
use Rattle.replay.specs.Choice.{Suits, Chosen}
use Rattle.replay.proofs.Listings.{listed_first, listed_later, listed_either, listed_none, listed_at, listed_placed}

-- ---- the ordinals at or above the cursor's

module _ (cursor q : ℕ) where
  above_listed : (os : List ℕ) → cursor ≤ q → listed q os ≡ true → listed q (at_or_above cursor os) ≡ true
  above_listed [] h e = e
  above_listed (o ∷ os) h e = by (leb cursor o) refl (listed_either q o os e) (above_listed os h)
    where
      by : (t : Bool) → leb cursor o ≡ t → (q ≡ o) ⊎ (listed q os ≡ true) → (listed q os ≡ true → listed q (at_or_above cursor os) ≡ true)
          → listed q (cond t (o ∷ at_or_above cursor os) (at_or_above cursor os)) ≡ true
      by true t (inl same) rest = subst (λ (k : ℕ). listed q (k ∷ at_or_above cursor os) ≡ true) same (listed_first q (at_or_above cursor os))
      by true t (inr s) rest = listed_later q o (at_or_above cursor os) (rest s)
      by false t (inl same) rest = absurd (omega (arith, leb-false cursor o t, same))
      by false t (inr s) rest = rest s

  listed_above : (os : List ℕ) → listed q (at_or_above cursor os) ≡ true → (cursor ≤ q) × (listed q os ≡ true)
  listed_above [] e = listed_none q e
  listed_above (o ∷ os) e = by (leb cursor o) refl e (λ s. later (listed_above os s))
    where
      later : (cursor ≤ q) × (listed q os ≡ true) → (cursor ≤ q) × (listed q (o ∷ os) ≡ true)
      later s = (s.0, listed_later q o os s.1)

      first : cursor ≤ o → (q ≡ o) ⊎ (listed q (at_or_above cursor os) ≡ true) → (listed q (at_or_above cursor os) ≡ true → (cursor ≤ q) × (listed q (o ∷ os) ≡ true))
          → (cursor ≤ q) × (listed q (o ∷ os) ≡ true)
      first h (inl same) rest = (omega (arith, same), subst (λ (k : ℕ). listed q (k ∷ os) ≡ true) same (listed_first q os))
      first h (inr s) rest = rest s

      by : (t : Bool) → leb cursor o ≡ t → listed q (cond t (o ∷ at_or_above cursor os) (at_or_above cursor os)) ≡ true
          → (listed q (at_or_above cursor os) ≡ true → (cursor ≤ q) × (listed q (o ∷ os) ≡ true)) → (cursor ≤ q) × (listed q (o ∷ os) ≡ true)
      by true t e rest = first (leb-true cursor o t) (listed_either q o (at_or_above cursor os) e) rest
      by false t e rest = rest e

-- ---- the smallest and the largest of a list stand in it, and no other is smaller or larger

smaller_low : (a b : ℕ) → (cond (ltb a b) a b ≤ a) × (cond (ltb a b) a b ≤ b)
smaller_low a b = by (ltb a b) refl
  where
    by : (t : Bool) → ltb a b ≡ t → (cond t a b ≤ a) × (cond t a b ≤ b)
    by true t = (omega arith, omega (arith, ltb-true a b t))
    by false t = (ltb-false a b t, omega arith)

smallest_least : (otherwise : ℕ) (os : List ℕ) (q : ℕ) → listed q os ≡ true → smallest_else otherwise os ≤ q
smallest_least otherwise [] q e = listed_none q e
smallest_least otherwise (o ∷ os) q e = by (listed_either q o os e) (smallest_least o os q)
  where
    by : (q ≡ o) ⊎ (listed q os ≡ true) → (listed q os ≡ true → smallest_else o os ≤ q) → smallest_else otherwise (o ∷ os) ≤ q
    by (inl same) rest = omega (arith, same, (smaller_low (smallest_else o os) o).1)
    by (inr s) rest = omega (arith, rest s, (smaller_low (smallest_else o os) o).0)

larger_high : (a b : ℕ) → (a ≤ cond (ltb a b) b a) × (b ≤ cond (ltb a b) b a)
larger_high a b = by (ltb a b) refl
  where
    by : (t : Bool) → ltb a b ≡ t → (a ≤ cond t b a) × (b ≤ cond t b a)
    by true t = (omega (arith, ltb-true a b t), omega arith)
    by false t = (omega arith, ltb-false a b t)

largest_most : (os : List ℕ) (q : ℕ) → listed q os ≡ true → q ≤ largest os
largest_most [] q e = listed_none q e
largest_most (o ∷ os) q e = by (listed_either q o os e) (largest_most os q)
  where
    by : (q ≡ o) ⊎ (listed q os ≡ true) → (listed q os ≡ true → q ≤ largest os) → q ≤ largest (o ∷ os)
    by (inl same) rest = omega (arith, same, (larger_high o (largest os)).0)
    by (inr s) rest = omega (arith, rest s, (larger_high o (largest os)).1)

either_listed : (t : Bool) (a b : ℕ) (os : List ℕ) → listed a os ≡ true → listed b os ≡ true → listed (cond t a b) os ≡ true
either_listed true a b os ha hb = ha
either_listed false a b os ha hb = hb

smallest_listed : (otherwise o : ℕ) (os : List ℕ) → listed (smallest_else otherwise (o ∷ os)) (o ∷ os) ≡ true
smallest_listed otherwise o [] = either_listed (ltb o o) o o (o ∷ []) (listed_first o []) (listed_first o [])
smallest_listed otherwise o (q ∷ os) =
    let rest = smallest_else o (q ∷ os) in
    either_listed (ltb rest o) rest o (o ∷ q ∷ os) (listed_later rest o (q ∷ os) (smallest_listed o q os)) (listed_first o (q ∷ os))

largest_listed : (o : ℕ) (os : List ℕ) → listed (largest (o ∷ os)) (o ∷ os) ≡ true
largest_listed o [] = rw (le-ltb o 0 (omega arith)) (listed_first o [])
largest_listed o (q ∷ os) =
    let rest = largest (q ∷ os) in
    either_listed (ltb o rest) rest o (o ∷ q ∷ os) (listed_later rest o (q ∷ os) (largest_listed q os)) (listed_first o (q ∷ os))

-- ---- the start ordinal is chosen

pub start_chosen : (cursor o : ℕ) (os : List ℕ) → Chosen cursor (o ∷ os) (start_ordinal cursor (o ∷ os))
unfolding start_ordinal
start_chosen cursor o os = by (at_or_above cursor (o ∷ os)) refl
  where
    by : (above : List ℕ) → at_or_above cursor (o ∷ os) ≡ above → Chosen cursor (o ∷ os) (smallest_else (largest (o ∷ os)) above)
    by [] e =
        record {
          stands = largest_listed o os;
          suits = λ q s. record {
            smallest = λ h hq. listed_none q (sym (ap (listed q) e) ∙ above_listed cursor q (o ∷ os) hq s);
            largest = λ h. largest_most (o ∷ os) q s;
          };
        }
    by (a ∷ more) e =
        let x = smallest_else (largest (o ∷ os)) (a ∷ more) in
        let in-above = listed_above cursor x (o ∷ os) (ap (listed x) e ∙ smallest_listed (largest (o ∷ os)) a more) in
        record {
          stands = in-above.1;
          suits = λ q s. record {
            smallest = λ h hq. smallest_least (largest (o ∷ os)) (a ∷ more) q (sym (ap (listed q) e) ∙ above_listed cursor q (o ∷ os) hq s);
            largest = λ h. absurd (omega (arith, h, in-above.0));
          };
        }

-- ---- and no other

module _ (cursor : ℕ) where
  suits_self : (a : ℕ) → Suits cursor a a
  suits_self a = record { smallest = λ h hq. omega arith; largest = λ h. omega arith }

  both_suit : (a b : ℕ) → Suits cursor a b → Suits cursor b a → a ≡ b
  both_suit a b s t = by (leb cursor a) (leb cursor b) refl refl
    where
      by : (x y : Bool) → leb cursor a ≡ x → leb cursor b ≡ y → a ≡ b
      by true true hx hy =
          omega (arith, s.smallest (leb-true cursor a hx) (leb-true cursor b hy), t.smallest (leb-true cursor b hy) (leb-true cursor a hx))
      by true false hx hy = absurd (omega (arith, leb-true cursor a hx, leb-false cursor b hy, t.largest (leb-false cursor b hy)))
      by false true hx hy = absurd (omega (arith, leb-false cursor a hx, leb-true cursor b hy, s.largest (leb-false cursor a hx)))
      by false false hx hy = omega (arith, s.largest (leb-false cursor a hx), t.largest (leb-false cursor b hy))

  suits_on : (a b c : ℕ) → Suits cursor a b → Suits cursor b c → Suits cursor a c
  suits_on a b c s t = by (leb cursor b) refl
    where
      by : (x : Bool) → leb cursor b ≡ x → Suits cursor a c
      by true hx =
          record {
            smallest = λ h hc. omega (arith, s.smallest h (leb-true cursor b hx), t.smallest (leb-true cursor b hx) hc);
            largest = λ h. absurd (omega (arith, h, leb-true cursor b hx, s.largest h));
          }
      by false hx =
          record {
            smallest = λ h hc. absurd (omega (arith, hc, leb-false cursor b hx, t.largest (leb-false cursor b hx)));
            largest = λ h. omega (arith, s.largest h, t.largest (leb-false cursor b hx));
          }

  -- what the test of two ordinals shows, either way
  pub first_suits : (a b : ℕ) (t : Bool) → cond t (Suits cursor a b) (Suits cursor b a) → t ≡ true → Suits cursor a b
  first_suits a b true s e = s
  first_suits a b false s e = absurd (false≢true e)

  pub second_suits : (a b : ℕ) (t : Bool) → cond t (Suits cursor a b) (Suits cursor b a) → t ≡ false → Suits cursor b a
  second_suits a b true s e = absurd (true≢false e)
  second_suits a b false s e = s

  pub below_shows : (a b : ℕ) → b < cursor → cond (ltb b a) (Suits cursor a b) (Suits cursor b a)
  below_shows a b h = by (ltb b a) refl
    where
      by : (t : Bool) → ltb b a ≡ t → cond t (Suits cursor a b) (Suits cursor b a)
      by true t = record { smallest = λ ha hb. absurd (omega (arith, h, hb)); largest = λ ha. omega (arith, ltb-true b a t) }
      by false t = record { smallest = λ hb ha. absurd (omega (arith, h, hb)); largest = λ hb. ltb-false b a t }

  pub above_shows : (a b : ℕ) → cursor ≤ b → cursor ≤ a → cond (ltb a b) (Suits cursor a b) (Suits cursor b a)
  above_shows a b hb ha = by (ltb a b) refl
    where
      by : (t : Bool) → ltb a b ≡ t → cond t (Suits cursor a b) (Suits cursor b a)
      by true t = record { smallest = λ h hq. omega (arith, ltb-true a b t); largest = λ h. absurd (omega (arith, ha, h)) }
      by false t = record { smallest = λ h hq. ltb-false a b t; largest = λ h. absurd (omega (arith, hb, h)) }

  module _ (os : List ℕ) where
    pub chosen_once : (o o' : ℕ) → Chosen cursor os o → Chosen cursor os o' → o ≡ o'
    chosen_once o o' c c' = both_suit o o' (c.suits o' c'.stands) (c'.suits o c.stands)

    -- ---- the search: the place kept suits as far as the first n are concerned
    pub record Kept (n place : ℕ) : Type 0 where
      pub within : place < n
      pub suits : (j : ℕ) → j < n → Suits cursor (get_or os place 0) (get_or os j 0)

    up_one : (x n : ℕ) → ((j : ℕ) → j < n → Suits cursor x (get_or os j 0)) → Suits cursor x (get_or os n 0)
        → (j : ℕ) → j < n + 1 → Suits cursor x (get_or os j 0)
    up_one x n h s j hj = by (ltb j n) refl
      where
        by : (t : Bool) → ltb j n ≡ t → Suits cursor x (get_or os j 0)
        by true t = h j (ltb-true j n t)
        by false t = let e : n ≡ j = omega (arith, ltb-false j n t) in subst (λ (k : ℕ). Suits cursor x (get_or os k 0)) e s

    pub kept_first : Kept 1 0
    kept_first = record { within = omega arith; suits = up_one (get_or os 0 0) 0 (λ j h. absurd (omega arith)) (suits_self (get_or os 0 0)) }

    pub kept_on : (n place : ℕ) → Kept n place → Suits cursor (get_or os place 0) (get_or os n 0) → Kept (n + 1) place
    kept_on n place k s = record { within = omega (arith, k.within); suits = up_one (get_or os place 0) n k.suits s }

    pub kept_new : (n place : ℕ) → Kept n place → Suits cursor (get_or os n 0) (get_or os place 0) → Kept (n + 1) n
    kept_new n place k s =
        record {
          within = omega arith;
          suits = up_one (get_or os n 0) n (λ j h. suits_on (get_or os n 0) (get_or os place 0) (get_or os j 0) s (k.suits j h)) (suits_self (get_or os n 0));
        }

    pub kept_chosen : (place : ℕ) → Kept (length os) place → Chosen cursor os (get_or os place 0)
    kept_chosen place k =
        record {
          stands = listed_at os place k.within;
          suits = λ q s. let at = listed_placed q os s in subst (λ (x : ℕ). Suits cursor (get_or os place 0) x) at.there (k.suits _ at.within);
        }

    pub chosen_ordinal : (o : ℕ) → Chosen cursor os o → start_ordinal cursor os ≡ o
    chosen_ordinal o c = by os refl
      where
        by : (l : List ℕ) → os ≡ l → start_ordinal cursor os ≡ o
        by [] e = listed_none o (sym (ap (listed o) e) ∙ c.stands)
        by (a ∷ more) e = chosen_once (start_ordinal cursor os) o (subst (λ (l : List ℕ). Chosen cursor l (start_ordinal cursor l)) (sym e) (start_chosen cursor a more)) c
