-- Laws of `seg`, a run of values, and of tests over runs.
-- Assumes nothing.
use mathlib.Core.Path.{◌≡◌, refl, sym, ap, ◌∙◌}
use mathlib.Core.Bool.{Bool, true, false, ◌&&◌}
use mathlib.Core.List.{List, [], ◌∷◌, ◌++◌}
use Prim.Native.Nat.{ℕ, zero, suc, ◌+◌, ◌-◌, ◌≤◌, ◌<◌}
use native.Mathlib.Nat.{add-zero, sub-zero}
use native.Mathlib.Decide.{ℕ_discrete}
use native.Mathlib.Omega.{arith}
use lib.ListN.{length, get_or, set, drop}
use Rattle.std.proofs.Math.Bool.{and-true, and_assoc}
use Rattle.std.proofs.lemmas.Bool.{and_parts, and_right}
use Rattle.tracker.specs.State.{seg}
use Rattle.tracker.specs.Sound.{every, all_below}

module _ {A : Type 0} where
  pub length_seg : (f : ℕ → A) (a n : ℕ) → length (seg f a n) ≡ n
  length_seg f a zero = refl
  length_seg f a (suc n) = ap suc (length_seg f (suc a) n)

  pub get_d_seg : (f : ℕ → A) (a n i : ℕ) (d : A) → i < n → get_or (seg f a n) i d ≡ f (a + i)
  get_d_seg f a zero i d h = absurd (omega arith)
  get_d_seg f a (suc n) zero d h = ap f (sym (add-zero a))
  get_d_seg f a (suc n) (suc i) d h = get_d_seg f (suc a) n i d (omega arith) ∙ ap f (omega arith)

  -- two runs that agree at each place
  pub seg_ext : (f g : ℕ → A) (a b n : ℕ) → ((i : ℕ) → i < n → f (a + i) ≡ g (b + i)) → seg f a n ≡ seg g b n
  seg_ext f g a b zero h = refl
  seg_ext f g a b (suc n) h =
      ap (λ (x : A). x ∷ seg f (suc a) n) (ap f (omega arith) ∙ h 0 (omega arith) ∙ ap g (omega arith))
      ∙ ap (λ (l : List A). g b ∷ l)
      (seg_ext f g (suc a) (suc b) n (λ i p. ap f (omega arith) ∙ h (suc i) (omega arith) ∙ ap g (omega arith)))

  -- the last apart, the first apart, the first c gone
  pub seg_snoc : (f : ℕ → A) (a n : ℕ) → seg f a (suc n) ≡ seg f a n ++ (f (a + n) ∷ [])
  seg_snoc f a zero = ap (λ (i : ℕ). f i ∷ []) (sym (add-zero a))
  seg_snoc f a (suc n) =
      ap (λ (l : List A). f a ∷ l) (seg_snoc f (suc a) n ∙ ap (λ (i : ℕ). seg f (suc a) n ++ (f i ∷ [])) (omega arith))

  pub seg_cons : (f : ℕ → A) (a n : ℕ) → 0 < n → seg f a n ≡ f a ∷ seg f (a + 1) (n - 1)
  seg_cons f a zero h = absurd (omega arith)
  seg_cons f a (suc n) h =
      ap (λ (i : ℕ). f a ∷ seg f i n) {x = suc a} {y = a + 1} (omega arith)
      ∙ ap (λ (i : ℕ). f a ∷ seg f (a + 1) i) {x = n} {y = suc n - 1} (omega arith)

  pub drop_seg : (f : ℕ → A) (a n c : ℕ) → c ≤ n → drop c (seg f a n) ≡ seg f (a + c) (n - c)
  drop_seg f a n zero h = simp (add-zero, sub-zero)
  drop_seg f a zero (suc c) h = absurd (omega arith)
  drop_seg f a (suc n) (suc c) h =
      drop_seg f (suc a) n c (omega arith)
      ∙ ap (λ (i : ℕ). seg f i (n - c)) {x = suc a + c} {y = a + suc c} (omega arith)
      ∙ ap (seg f (a + suc c)) {x = n - c} {y = suc n - suc c} (omega arith)

  -- another value at s, and the same elsewhere
  pub seg_set : (f g : ℕ → A) (a n s : ℕ) → s < n → ((i : ℕ) → i < n → (i ≡ s → ⊥) → g (a + i) ≡ f (a + i)) → seg g a n ≡ set (seg f a n) s (g (a + s))
  seg_set f g a zero s h e = absurd (omega arith)
  seg_set f g a (suc n) zero h e =
      ap (λ (i : ℕ). g i ∷ seg g (suc a) n) (omega arith)
      ∙ ap (λ (l : List A). g (a + 0) ∷ l)
      (seg_ext g f (suc a) (suc a) n (λ i p. ap g (omega arith) ∙ e (suc i) (omega arith) (λ q. omega arith) ∙ ap f (omega arith)))
  seg_set f g a (suc n) (suc s) h e =
      ap (λ (x : A). x ∷ seg g (suc a) n) (ap g (omega arith) ∙ e 0 (omega arith) (λ q. omega arith) ∙ ap f (omega arith))
      ∙ ap (λ (l : List A). f a ∷ l)
      (seg_set f g (suc a) n s (omega arith) (λ i p ne. ap g (omega arith) ∙ e (suc i) (omega arith) (λ q. ne (omega arith)) ∙ ap f (omega arith))
      ∙ ap (λ (i : ℕ). set (seg f (suc a) n) s (g i)) (omega arith))

  pub every_snoc : (p : A → Bool) (l : List A) (x : A) → every p (l ++ (x ∷ [])) ≡ every p l && p x
  every_snoc p [] x = and-true (p x)
  every_snoc p (y ∷ l) x = ap (λ (b : Bool). p y && b) (every_snoc p l x) ∙ sym (and_assoc (p y) (every p l) (p x))

  -- a test of each element of a run, by its places
  pub every_all : (p : A → Bool) (f : ℕ → A) (a n : ℕ) → every p (seg f a n) ≡ all_below (λ (j : ℕ). p (f (a + j))) n
  every_all p f a zero = refl
  every_all p f a (suc n) =
      ap (every p) (seg_snoc f a n) ∙ every_snoc p (seg f a n) (f (a + n)) ∙ ap (λ (b : Bool). b && p (f (a + n))) (every_all p f a n)

  pub every_drop : (p : A → Bool) (n : ℕ) (l : List A) → every p l ≡ true → every p (drop n l) ≡ true
  every_drop p zero l e = e
  every_drop p (suc n) [] e = e
  every_drop p (suc n) (x ∷ l) e = every_drop p n l ((and_parts (p x) (every p l) e).1)

  pub every_weaker : (p q : A → Bool) → ((x : A) → p x ≡ true → q x ≡ true) → (l : List A) → every p l ≡ true → every q l ≡ true
  every_weaker p q f [] e = refl
  every_weaker p q f (x ∷ l) e = rw (f x ((and_parts (p x) _ e).0)) (every_weaker p q f l ((and_parts (p x) (every p l) e).1))

-- ---- a test of each number below n

pub all_false : (f : ℕ → Bool) (n i : ℕ) → i < n → f i ≡ false → all_below f n ≡ false
all_false f zero i h e = absurd (omega arith)
all_false f (suc n) i h e = by (λ p. all_false f n i p e) (ℕ_discrete i n)
  where
    by : (i < n → all_below f n ≡ false) → Dec (i ≡ n) → all_below f n && f n ≡ false
    by r (yes p) = and_right (all_below f n) _ (ap f (sym p) ∙ e)
    by r (no q) = ap (λ (b : Bool). b && f n) (r (omega arith))

pub all_true : (f : ℕ → Bool) (n : ℕ) → ((i : ℕ) → i < n → f i ≡ true) → all_below f n ≡ true
all_true f zero h = refl
all_true f (suc n) h = rw (all_true f n (λ i p. h i (omega arith))) (h n (omega arith))

pub all_at : (f : ℕ → Bool) (n : ℕ) → all_below f n ≡ true → (i : ℕ) → i < n → f i ≡ true
all_at f zero e i h = absurd (omega arith)
all_at f (suc n) e i h = by (all_at f n ((and_parts (all_below f n) (f n) e).0) i) (ℕ_discrete i n)
  where
    by : (i < n → f i ≡ true) → Dec (i ≡ n) → f i ≡ true
    by r (yes p) = ap f p ∙ (and_parts (all_below f n) (f n) e).1
    by r (no q) = r (omega arith)

-- two tests that agree below n
pub all_same : (f g : ℕ → Bool) (n : ℕ) → ((i : ℕ) → i < n → f i ≡ g i) → all_below f n ≡ all_below g n
all_same f g zero h = refl
all_same f g (suc n) h = rw (all_same f g n (λ i p. h i (omega arith)), h n (omega arith))
