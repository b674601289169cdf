-- What the tests of a list say: that an ordinal stands in it, and that two of its ordinals are equal. Neither looks at the list's order.
-- Assumes nothing.
use Prim.Native.Nat.{ℕ, zero, suc, ◌<◌}
use mathlib.Core.Path.{◌≡◌, refl, sym, ap, ap₂, ◌∙◌}
use mathlib.Core.Bool.{Bool, true, false, cond, ◌||◌, true≢false, false≢true}
use mathlib.Core.Logic.{◌⊎◌, inl, inr}
use mathlib.Core.List.{List, [], ◌∷◌, Permᴰ}
use native.Mathlib.Omega.{arith}
use lib.Dec.{eqb}
use lib.ListN.{length, get_or, take, drop}
use borrow.Author.Tests.{eqb-true, eqb-false, eq-eqb, ne_eqb}
use Rattle.std.proofs.lemmas.Bool.{or_cases, or_parts, or_right}
use Rattle.std.specs.List.{list_any}
use Rattle.replay.specs.Start.{listed, twins, place_of}
use Rattle.replay.specs.Choice.{Ascending}

-- ---- one test or another

or_swap : (a b c : Bool) → (a || (b || c)) ≡ (b || (a || c))
or_swap true true c = refl
or_swap true false c = refl
or_swap false b c = refl

-- ---- an ordinal in a list

pub listed_first : (o : ℕ) (os : List ℕ) → listed o (o ∷ os) ≡ true
listed_first o os = rw (eq-eqb o o refl) refl

pub listed_later : (q o : ℕ) (os : List ℕ) → listed q os ≡ true → listed q (o ∷ os) ≡ true
listed_later q o os e = or_right (eqb q o) (listed q os) e

pub listed_either : (q o : ℕ) (os : List ℕ) → listed q (o ∷ os) ≡ true → (q ≡ o) ⊎ (listed q os ≡ true)
listed_either q o os e = by (or_cases (eqb q o) (listed q os) e)
  where
    by : (eqb q o ≡ true) ⊎ (listed q os ≡ true) → (q ≡ o) ⊎ (listed q os ≡ true)
    by (inl t) = inl (eqb-true q o t)
    by (inr t) = inr t

pub listed_none : {A : Type 0} (q : ℕ) → listed q [] ≡ true → A
listed_none q e = absurd (false≢true e)

pub listed_at : (os : List ℕ) (i : ℕ) → i < length os → listed (get_or os i 0) os ≡ true
listed_at [] i h = absurd (omega arith)
listed_at (o ∷ os) zero h = listed_first o os
listed_at (o ∷ os) (suc i) h = listed_later (get_or os i 0) o os (listed_at os i (omega arith))

-- an ordinal that is listed stands at its place
pub record Placed (q : ℕ) (os : List ℕ) (i : ℕ) : Type 0 where
  pub within : i < length os
  pub there : get_or os i 0 ≡ q

pub listed_placed : (q : ℕ) (os : List ℕ) → listed q os ≡ true → Placed q os (place_of q os)
listed_placed q [] e = listed_none q e
listed_placed q (o ∷ os) e = by (eqb q o) refl e (listed_placed q os)
  where
    by : (t : Bool) → eqb q o ≡ t → (t || listed q os) ≡ true → (listed q os ≡ true → Placed q os (place_of q os))
        → Placed q (o ∷ os) (cond t 0 (suc (place_of q os)))
    by true t e rest = record { within = omega arith; there = sym (eqb-true q o t) }
    by false t e rest = let r = rest e in record { within = omega (arith, r.within); there = r.there }

-- ---- two equal ordinals

-- where there are none, each ordinal leads back to its place
pub place_back : (os : List ℕ) → twins os ≡ false → (i : ℕ) → i < length os → place_of (get_or os i 0) os ≡ i
place_back [] e i h = absurd (omega arith)
place_back (o ∷ os) e zero h = rw (eq-eqb o o refl) refl
place_back (o ∷ os) e (suc i) h =
    let apart = or_parts (listed o os) (twins os) e in
    let other : get_or os i 0 ≡ o → ⊥ = λ same. true≢false (sym (listed_at os i (omega arith)) ∙ ap (λ (q : ℕ). listed q os) same ∙ apart.0) in
    rw (ne_eqb (get_or os i 0) o other) (ap suc (place_back os apart.1 i (omega arith)))

-- so no two places have one ordinal
pub apart : (os : List ℕ) → twins os ≡ false → (i j : ℕ) → i < j → j < length os → get_or os i 0 ≡ get_or os j 0 → ⊥
apart os e i j lt hj same = omega (arith, sym (place_back os e i (omega arith)) ∙ ap (λ (q : ℕ). place_of q os) same ∙ place_back os e j hj)

not_listed : (q : ℕ) (os : List ℕ) → ((i : ℕ) → i < length os → q ≡ get_or os i 0 → ⊥) → listed q os ≡ false
not_listed q [] h = refl
not_listed q (o ∷ os) h = rw (ne_eqb q o (h 0 (omega arith))) (not_listed q os (λ i hi. h (suc i) (omega arith)))

-- and a list of which that can be said has none
pub no_twins : (os : List ℕ) → ((i j : ℕ) → i < j → j < length os → get_or os i 0 ≡ get_or os j 0 → ⊥) → twins os ≡ false
no_twins [] h = refl
no_twins (o ∷ os) h =
    rw (not_listed o os (λ i hi. h 0 (suc i) (omega arith) (omega arith)))
    (no_twins os (λ i j lt hj. h (suc i) (suc j) (omega arith) (omega arith)))

pub ascending_apart : (os : List ℕ) → Ascending os → twins os ≡ false
ascending_apart os up = no_twins os (λ i j lt hj same. let below = up i j lt hj in omega (arith, below, same))

-- ---- the search for twins

eqb_turned : (a b : ℕ) → eqb a b ≡ eqb b a
eqb_turned a b = by (eqb a b) refl
  where
    by : (t : Bool) → eqb a b ≡ t → t ≡ eqb b a
    by true t = sym (eq-eqb b a (sym (eqb-true a b t)))
    by false t = sym (ne_eqb b a (λ same. eqb-false a b t (sym same)))

-- the library's test whether a list contains an ordinal
listed_any : (o : ℕ) (os : List ℕ) → list_any (λ q. eqb q o) os ≡ listed o os
listed_any o [] = refl
listed_any o (q ∷ os) = rw (eqb_turned q o) (ap (λ (b : Bool). eqb o q || b) (listed_any o os))

-- what passes a test in a part of a list passes it in the list
pub any_taken : (n : ℕ) (os : List ℕ) (p : ℕ → Bool) → list_any p (take n os) ≡ true → list_any p os ≡ true
any_taken zero os p e = absurd (false≢true e)
any_taken (suc n) [] p e = e
any_taken (suc n) (q ∷ os) p e = by (or_cases (p q) (list_any p (take n os)) e) (any_taken n os p)
  where
    by : (p q ≡ true) ⊎ (list_any p (take n os) ≡ true) → (list_any p (take n os) ≡ true → list_any p os ≡ true) → p q || list_any p os ≡ true
    by (inl t) rest = rw t refl
    by (inr t) rest = or_right (p q) (list_any p os) (rest t)

pub any_later : (k : ℕ) (os : List ℕ) (p : ℕ → Bool) → list_any p (drop k os) ≡ true → list_any p os ≡ true
any_later zero os p e = e
any_later (suc k) [] p e = e
any_later (suc k) (q ∷ os) p e = or_right (p q) (list_any p os) (any_later k os p e)

pub drop_none : (k : ℕ) (os : List ℕ) → k ≡ 0 → drop k os ≡ os
drop_none k os e = ap (λ (j : ℕ). drop j os) e

-- a list of one has none, nor has the empty one
pub twins_few : (os : List ℕ) → length os < 2 → twins os ≡ false
twins_few [] few = refl
twins_few (o ∷ []) few = refl
twins_few (o ∷ q ∷ os) few = absurd (omega (arith, few))

-- what the first ordinal tells: it stands again among the others, or they decide
module _ (o : ℕ) (os : List ℕ) where
  pub twins_found : list_any (λ q. eqb q o) os ≡ true → twins (o ∷ os) ≡ true
  twins_found e = rw (sym (listed_any o os) ∙ e)

  pub twins_passed : list_any (λ q. eqb q o) os ≡ false → twins (o ∷ os) ≡ twins os
  twins_passed e = rw (sym (listed_any o os) ∙ e)

  -- the same where a part of the others is searched: what stands in it stands among them, and what doesn't, doesn't if it is all of them
  pub twins_found_in : (part : List ℕ) → list_any (λ q. eqb q o) part ≡ true → ((p : ℕ → Bool) → list_any p part ≡ true → list_any p os ≡ true) → twins (o ∷ os) ≡ true
  twins_found_in part e within = twins_found (within (λ q. eqb q o) e)

  pub twins_passed_in : (part : List ℕ) → list_any (λ q. eqb q o) part ≡ false → part ≡ os → twins (o ∷ os) ≡ twins os
  twins_passed_in part e whole = twins_passed (sym (ap (list_any (λ q. eqb q o)) whole) ∙ e)

-- ---- any order of the list

pub listed_any_order : (q : ℕ) {os os' : List ℕ} → Permᴰ os os' → listed q os ≡ listed q os'
listed_any_order q Permᴰ.nil = refl
listed_any_order q (Permᴰ.cons e d) = rw (e, listed_any_order q d) refl
listed_any_order q (Permᴰ.swap {a} {b} {a'} {b'} {l} e₁ e₂) = rw (e₁, e₂) (or_swap (eqb q b') (eqb q a') (listed q l))
listed_any_order q (Permᴰ.trans d₁ d₂) = listed_any_order q d₁ ∙ listed_any_order q d₂

pairs_swap : (e x y z : Bool) → ((e || x) || (y || z)) ≡ ((e || y) || (x || z))
pairs_swap true x y z = refl
pairs_swap false x y z = or_swap x y z

pub twins_any_order : {os os' : List ℕ} → Permᴰ os os' → twins os ≡ twins os'
twins_any_order Permᴰ.nil = refl
twins_any_order (Permᴰ.cons {a} {b} {l₁} {l₂} e d) = rw (e, listed_any_order b d, twins_any_order d) refl
twins_any_order (Permᴰ.swap {a} {b} {a'} {b'} {l} e₁ e₂) =
    ap₂ (λ (x y : ℕ). twins (x ∷ y ∷ l)) e₁ e₂ ∙ rw (eqb_turned b' a') (pairs_swap (eqb a' b') (listed b' l) (listed a' l) (twins l))
twins_any_order (Permᴰ.trans d₁ d₂) = twins_any_order d₁ ∙ twins_any_order d₂

pub length_any_order : {os os' : List ℕ} → Permᴰ os os' → length os ≡ length os'
length_any_order Permᴰ.nil = refl
length_any_order (Permᴰ.cons e d) = ap suc (length_any_order d)
length_any_order (Permᴰ.swap e₁ e₂) = refl
length_any_order (Permᴰ.trans d₁ d₂) = length_any_order d₁ ∙ length_any_order d₂
