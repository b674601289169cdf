-- The search for the least place and number along a run of slots: how the loop goes, and what its answer means.
-- Assumes nothing.
use mathlib.Core.Path.{◌≡◌, refl, sym, ◌∙◌, ap, subst}
use mathlib.Core.Bool.{Bool, true, false, cond}
use mathlib.Core.Logic.{◌⊎◌, inl, inr}
use mathlib.Core.List.{List, [], ◌∷◌}
use Prim.Native.Nat.{ℕ, zero, suc, ◌+◌, ◌<◌, ◌≤◌}
use native.Mathlib.Nat.{not-suc-le-zero, le_of_suc-le-suc}
use native.Mathlib.Numerals.{add-one}
use native.Mathlib.Omega.{arith}
use lib.Dec.{ltb, eqb}
use lib.ListN.{length, get_or, drop, drop_of_length-le}
use lib.Seq.{drop-cons}
use borrow.Author.Tests.{ltb-true, ltb-false, eqb-false, eq-eqb, ne_eqb}
use Rattle.tracker.specs.Least.{before, lesser_of, placed, step_of, none_are_open, least_from, least_of}
use Rattle.tracker.specs.declared.Slot.{Slot}
use Rattle.tracker.specs.declared.Least.{Least}

-- ---- the loop: what is kept at place i, and the rest of the run from there, lead to the answer

module _ (ordinal used : ℕ) (slots : List Slot) where
  pub start : least_from (none_are_open ordinal used) (drop 0 slots) ≡ least_of ordinal used slots
  unfolding least_of
  start = refl

  pub onward : (d : Slot) (i : ℕ) (l : Least) → i < length slots → least_from l (drop i slots) ≡ least_of ordinal used slots
      → least_from (step_of l (get_or slots i d)) (drop (i + 1) slots) ≡ least_of ordinal used slots
  onward d i l h e = ap (λ (k : ℕ). least_from (step_of l (get_or slots i d)) (drop k slots)) (add-one i) ∙ sym (ap (least_from l) (drop-cons slots i d h)) ∙ e

  pub over : (i : ℕ) (l : Least) → length slots ≤ i → least_from l (drop i slots) ≡ least_of ordinal used slots → l ≡ least_of ordinal used slots
  over i l h e = sym (ap (least_from l) (drop_of_length-le slots h)) ∙ e

-- ---- the answer is at or before every open slot's place, and at most every open slot's number

-- (o, p) lies at or after (o', p')
abbrev pub AtOrAfter : ℕ → ℕ → ℕ → ℕ → Type 0
AtOrAfter o p o' p' = (o' < o) ⊎ ((o' ≡ o) × (p' ≤ p))

after_trans : (o p o₁ p₁ o₂ p₂ : ℕ) → AtOrAfter o p o₁ p₁ → AtOrAfter o₁ p₁ o₂ p₂ → AtOrAfter o p o₂ p₂
after_trans o p o₁ p₁ o₂ p₂ (inl a) (inl b) = inl (omega arith)
after_trans o p o₁ p₁ o₂ p₂ (inl a) (inr b) = inl (omega (arith, b.0))
after_trans o p o₁ p₁ o₂ p₂ (inr a) (inl b) = inl (omega (arith, a.0))
after_trans o p o₁ p₁ o₂ p₂ (inr a) (inr b) = inr (b.0 ∙ a.0, omega (arith, a.1, b.1))

module _ (o p o' p' : ℕ) where
  by_tests : (x y z : Bool) → ltb o o' ≡ x → ltb o' o ≡ y → ltb p p' ≡ z → (r : Bool) → cond x true (cond y false z) ≡ r
      → cond r (AtOrAfter o' p' o p) (AtOrAfter o p o' p')
  by_tests true y z e₁ e₂ e₃ true e = inl (ltb-true o o' e₁)
  by_tests true y z e₁ e₂ e₃ false e = let w : ◌≡◌ {A = ℕ} 0 1 = cc in absurd (omega (arith, w))
  by_tests false true z e₁ e₂ e₃ true e = let w : ◌≡◌ {A = ℕ} 0 1 = cc in absurd (omega (arith, w))
  by_tests false true z e₁ e₂ e₃ false e = inl (ltb-true o' o e₂)
  by_tests false false z e₁ e₂ e₃ true e = inr (omega (arith, ltb-false o o' e₁, ltb-false o' o e₂), omega (arith, ltb-true p p' (e₃ ∙ e)))
  by_tests false false z e₁ e₂ e₃ false e = inr (omega (arith, ltb-false o o' e₁, ltb-false o' o e₂), ltb-false p p' (e₃ ∙ e))

  -- what the test of two places shows, either way
  before_shows : (r : Bool) → before o p o' p' ≡ r → cond r (AtOrAfter o' p' o p) (AtOrAfter o p o' p')
  unfolding before
  before_shows r e = by_tests (ltb o o') (ltb o' o) (ltb p p') refl refl refl r e

lesser_low : (a b : ℕ) → (lesser_of a b ≤ a) × (lesser_of a b ≤ b)
unfolding lesser_of
lesser_low a b = by (ltb a b) refl
  where
    by : (z : Bool) → ltb a b ≡ z → (cond z a b ≤ a) × (cond z a b ≤ b)
    by true e = (omega arith, omega (arith, ltb-true a b e))
    by false e = (ltb-false a b e, omega arith)

pub record AtMost (l : Least) (slot : Slot) : Type 0 where
  pub any : l.any ≡ true
  pub place : AtOrAfter slot.ordinal slot.offset l.ordinal l.offset
  pub limit : l.limit ≤ slot.number

-- whether the slot's place is taken
abbrev taken : Least → Slot → Bool
taken l slot = cond l.any (before slot.ordinal slot.offset l.ordinal l.offset) true

kept_if : (y b : Bool) → cond y b true ≡ false → b ≡ false
kept_if true b e = e
kept_if false b e = let w : ◌≡◌ {A = ℕ} 0 1 = cc in absurd (omega (arith, w))

taken_if : (y b : Bool) → y ≡ true → cond y b true ≡ true → b ≡ true
taken_if true b h e = e
taken_if false b h e = let w : ◌≡◌ {A = ℕ} 0 1 = cc in absurd (omega (arith, w))

placed_self : (l : Least) (s : Slot) (z : Bool) → taken l s ≡ z → AtMost (placed l s z) s
placed_self l s true e = record { any = refl; place = inr (refl, omega arith); limit = (lesser_low s.number l.limit).0 }
placed_self l s false e = record {
  any = refl;
  place = before_shows s.ordinal s.offset l.ordinal l.offset false (kept_if l.any _ e);
  limit = (lesser_low s.number l.limit).0;
}

placed_keeps : (l : Least) (s t : Slot) (z : Bool) → taken l s ≡ z → AtMost l t → AtMost (placed l s z) t
placed_keeps l s t true e h = record {
  any = refl;
  place =
      after_trans t.ordinal t.offset l.ordinal l.offset s.ordinal s.offset h.place
      (before_shows s.ordinal s.offset l.ordinal l.offset true (taken_if l.any _ h.any e));
  limit = omega (arith, (lesser_low s.number l.limit).1, h.limit);
}
placed_keeps l s t false e h = record { any = refl; place = h.place; limit = omega (arith, (lesser_low s.number l.limit).1, h.limit) }

step_by : (l : Least) (s : Slot) (w : Bool) → eqb s.number 0 ≡ w → step_of l s ≡ cond w l (placed l s (taken l s))
unfolding step_of
step_by l s w e = rw e

step_keeps : (l : Least) (s t : Slot) (w : Bool) → eqb s.number 0 ≡ w → AtMost l t → AtMost (step_of l s) t
step_keeps l s t true e h = subst (λ (r : Least). AtMost r t) (sym (step_by l s true e)) h
step_keeps l s t false e h = subst (λ (r : Least). AtMost r t) (sym (step_by l s false e)) (placed_keeps l s t _ refl h)

keeps : (l : Least) (slots : List Slot) (t : Slot) → AtMost l t → AtMost (least_from l slots) t
keeps l [] t h = h
keeps l (s ∷ slots) t h = keeps (step_of l s) slots t (step_keeps l s t (eqb s.number 0) refl h)

pub at_most : (l : Least) (slots : List Slot) (d : Slot) (i : ℕ) → i < length slots → ((get_or slots i d).number ≡ 0 → ⊥) → AtMost (least_from l slots) (get_or slots i d)
at_most l [] d i h ne = absurd (not-suc-le-zero h)
at_most l (s ∷ slots) d zero h ne =
    keeps (step_of l s) slots s (subst (λ (r : Least). AtMost r s) (sym (step_by l s false (ne_eqb s.number 0 ne))) (placed_self l s _ refl))
at_most l (s ∷ slots) d (suc i) h ne = at_most (step_of l s) slots d i (le_of_suc-le-suc h) ne

-- ---- no slot is open: the answer is what it started from

pub none_open : (l : Least) (slots : List Slot) (d : Slot) → ((i : ℕ) → i < length slots → (get_or slots i d).number ≡ 0) → least_from l slots ≡ l
none_open l [] d h = refl
none_open l (s ∷ slots) d h =
    ap (λ (r : Least). least_from r slots) (step_by l s true (eq-eqb s.number 0 (h 0 (omega arith)))) ∙ none_open l slots d (λ i g. h (suc i) (omega (arith, g)))

-- ---- what is found stands in the run

-- an open slot of the run
pub record Open (slots : List Slot) (d : Slot) (i : ℕ) : Type 0 where
  pub within : i < length slots
  pub busy : (get_or slots i d).number ≡ 0 → ⊥

-- the place of l, or an open slot's; the limit of l, or an open slot's number
abbrev PlaceFrom : Least → List Slot → Slot → Least → Type 0
PlaceFrom l slots d r =
    ((r.any ≡ l.any) × (r.ordinal ≡ l.ordinal) × (r.offset ≡ l.offset))
    ⊎ ((i : ℕ) × (Open slots d i × (r.ordinal ≡ (get_or slots i d).ordinal) × (r.offset ≡ (get_or slots i d).offset)))

abbrev LimitFrom : Least → List Slot → Slot → Least → Type 0
LimitFrom l slots d r = (r.limit ≡ l.limit) ⊎ ((i : ℕ) × (Open slots d i × (r.limit ≡ (get_or slots i d).number)))

module _ (d : Slot) where
  later : (s : Slot) (slots : List Slot) (i : ℕ) → Open slots d i → Open (s ∷ slots) d (suc i)
  later s slots i o = record { within = omega (arith, o.within); busy = o.busy }

  here : (s : Slot) (slots : List Slot) → eqb s.number 0 ≡ false → Open (s ∷ slots) d 0
  here s slots e = record { within = omega arith; busy = eqb-false s.number 0 e }

  any_kept : (y b : Bool) → cond y b true ≡ false → true ≡ y
  any_kept true b e = refl
  any_kept false b e = let w : ◌≡◌ {A = ℕ} 0 1 = cc in absurd (omega (arith, w))

  place_step : (l r : Least) (s : Slot) (slots : List Slot) (w z : Bool) → eqb s.number 0 ≡ w → taken l s ≡ z
      → PlaceFrom (step_of l s) slots d r → PlaceFrom l (s ∷ slots) d r
  place_step l r s slots w z ew ez (inr p) = inr (suc p.0, (later s slots p.0 p.1.0, p.1.1, p.1.2))
  place_step l r s slots true z ew ez (inl p) =
      let e = step_by l s true ew in
      inl (p.0 ∙ ap (λ (x : Least). x.any) e, p.1 ∙ ap (λ (x : Least). x.ordinal) e, p.2 ∙ ap (λ (x : Least). x.offset) e)
  place_step l r s slots false true ew ez (inl p) =
      let e = step_by l s false ew ∙ ap (placed l s) ez in
      inr (0, (here s slots ew, p.1 ∙ ap (λ (x : Least). x.ordinal) e, p.2 ∙ ap (λ (x : Least). x.offset) e))
  place_step l r s slots false false ew ez (inl p) =
      let e = step_by l s false ew ∙ ap (placed l s) ez in
      inl (p.0 ∙ ap (λ (x : Least). x.any) e ∙ any_kept l.any _ ez, p.1 ∙ ap (λ (x : Least). x.ordinal) e, p.2 ∙ ap (λ (x : Least). x.offset) e)

  pub place_from : (l : Least) (slots : List Slot) → PlaceFrom l slots d (least_from l slots)
  place_from l [] = inl (refl, refl, refl)
  place_from l (s ∷ slots) = place_step l (least_from (step_of l s) slots) s slots (eqb s.number 0) (taken l s) refl refl (place_from (step_of l s) slots)

  limit_of : (l : Least) (s : Slot) (z : Bool) → (placed l s z).limit ≡ lesser_of s.number l.limit
  limit_of l s true = refl
  limit_of l s false = refl

  limit_step : (l r : Least) (s : Slot) (slots : List Slot) (w z : Bool) → eqb s.number 0 ≡ w → ltb s.number l.limit ≡ z
      → LimitFrom (step_of l s) slots d r → LimitFrom l (s ∷ slots) d r
  unfolding lesser_of
  limit_step l r s slots w z ew ez (inr p) = inr (suc p.0, (later s slots p.0 p.1.0, p.1.1))
  limit_step l r s slots true z ew ez (inl p) = inl (p ∙ ap (λ (x : Least). x.limit) (step_by l s true ew))
  limit_step l r s slots false true ew ez (inl p) = inr (0, (here s slots ew, p ∙ ap (λ (x : Least). x.limit) (step_by l s false ew) ∙ limit_of l s (taken l s) ∙ rw ez))
  limit_step l r s slots false false ew ez (inl p) = inl (p ∙ ap (λ (x : Least). x.limit) (step_by l s false ew) ∙ limit_of l s (taken l s) ∙ rw ez)

  pub limit_from : (l : Least) (slots : List Slot) → LimitFrom l slots d (least_from l slots)
  limit_from l [] = inl refl
  limit_from l (s ∷ slots) = limit_step l (least_from (step_of l s) slots) s slots (eqb s.number 0) (ltb s.number l.limit) refl refl (limit_from (step_of l s) slots)
