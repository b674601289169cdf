-- Only zeros stand from the used bound on, and the used bound is the first line of which that holds, or the region's end.
-- Assumes nothing.
use Prim.Native.Nat.{ℕ, zero, suc, ◌%◌, ◌<◌, ◌≤◌}
use mathlib.Core.Path.{◌≡◌, refl, ap, ◌∙◌}
use mathlib.Core.List.{List, [], ◌∷◌}
use mathlib.Core.Bool.{Bool, true, false}
use mathlib.Core.Logic.{⊎_elim, ◌⊎◌, inl, inr}
use native.Mathlib.Omega.{arith}
use borrow.Author.Tests.{ltb-true, ltb-false, eqb-true, eqb-false, le-ltb}
use lib.Dec.{ltb, eqb}
use lib.ListN.{length, get_or, get_or-eq_default}
use Rattle.answers.specs.Answers.{accepted, first_of, pick_number}
use Rattle.answers.specs.Limits.{largest_region}
use Rattle.answers.proofs.Orders.{first_passed, accepted_unrefused}
use Rattle.fields.proofs.Lines.{aligned_le, aligned_least}
use Rattle.scan.specs.Listing.{list}
use Rattle.tail.specs.Tail.{nonzero_to, used_bound, used_of, durable, durable_of}

pub below_or : (a b : ℕ) → (a < b) ⊎ (b ≤ a)
below_or a b = go (ltb a b) refl
  where
    go : (t : Bool) → ltb a b ≡ t → (a < b) ⊎ (b ≤ a)
    go true e = inl (ltb-true a b e)
    go false e = inr (ltb-false a b e)

nonzero_past : (s : List ℕ) (n i : ℕ) → nonzero_to s n ≤ i → i < n → get_or s i 0 ≡ 0
unfolding nonzero_to
nonzero_past s zero i a b = absurd (omega arith)
nonzero_past s (suc n) i a b = go (eqb (get_or s n 0) 0) refl a (nonzero_past s n i)
  where
    go : (t : Bool) → eqb (get_or s n 0) 0 ≡ t → pick_number t (nonzero_to s n) (suc n) ≤ i → (nonzero_to s n ≤ i → i < n → get_or s i 0 ≡ 0) → get_or s i 0 ≡ 0
    go true e c ih = ⊎_elim (λ l. ih c l) (λ l. let q : i ≡ n = omega arith in ap (λ (k : ℕ). get_or s k 0) q ∙ eqb-true _ _ e) (below_or i n)
    go false e c ih = absurd (omega arith)

nonzero_least : (s : List ℕ) (l n : ℕ) → ((i : ℕ) → l ≤ i → get_or s i 0 ≡ 0) → nonzero_to s n ≤ l
unfolding nonzero_to
nonzero_least s l zero h = omega arith
nonzero_least s l (suc n) h = go (eqb (get_or s n 0) 0) refl (nonzero_least s l n h)
  where
    go : (t : Bool) → eqb (get_or s n 0) 0 ≡ t → nonzero_to s n ≤ l → pick_number t (nonzero_to s n) (suc n) ≤ l
    go true e ih = ih
    go false e ih = ⊎_elim (λ a. a) (λ a. absurd (eqb-false _ _ e (h n a))) (below_or n l)

module _ (s : List ℕ) where
  pub used_zero : (i : ℕ) → used_bound s ≤ i → get_or s i 0 ≡ 0
  unfolding used_bound
  used_zero i h =
      ⊎_elim
      (λ l. let u = aligned_le (nonzero_to s (length s)) in nonzero_past s (length s) i (omega arith) l)
      (λ l. get_or-eq_default s 0 l)
      (below_or i (length s))

  pub used_length : used_bound s ≤ length s
  unfolding used_bound
  used_length = omega arith

  -- a bound that was answered is the used bound of a region that isn't too large
  pub used_told : {bound : ℕ} → used_of s ≡ accepted bound → (length s ≤ largest_region) × (used_bound s ≡ bound)
  unfolding used_of
  used_told {bound} e =
      let u = accepted_unrefused (first_of ((ltb largest_region (length s), 3) ∷ [])) (accepted (used_bound s)) e in
      let q : accepted (used_bound s) ≡ accepted bound = u.1 in
      (ltb-false _ _ (first_passed _ 2 0 u.0).0, cc)

  -- so it can be walked to
  pub used_within : {bound : ℕ} → used_of s ≡ accepted bound → bound ≤ length s
  used_within e = let t = used_told e in omega (arith, used_length)

  pub used_least : (line : ℕ) → line % 16 ≡ 0 → ((i : ℕ) → line ≤ i → get_or s i 0 ≡ 0) → used_bound s ≤ line
  unfolding used_bound
  used_least line a h = let z = aligned_least line (nonzero_to s (length s)) a (nonzero_least s line (length s) h) in omega arith

  -- the calls are not refused with 3 or 4
  module _ (small : length s ≤ largest_region) where
    pub used_accepted : used_of s ≡ accepted (used_bound s)
    unfolding used_of
    used_accepted = simp (le-ltb _ _ small)

    pub durable_accepted : (mark : ℕ → ℕ) (bound : ℕ) → bound ≤ length s → durable_of mark s bound ≡ durable 0 (list mark s bound 0)
    unfolding durable_of
    durable_accepted mark bound h = simp (le-ltb _ _ small, le-ltb _ _ h)
