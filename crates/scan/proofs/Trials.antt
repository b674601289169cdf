-- The trial of one line: what it gives, case by case, and what an entry that it gives tells.
-- Assumes nothing.
use Prim.Native.Nat.{ℕ, ◌+◌, ◌<◌, ◌≤◌}
use mathlib.Core.Path.{◌≡◌, refl, ap}
use mathlib.Core.List.{List, [], ◌∷◌}
use mathlib.Core.Bool.{Bool, true, false, not}
use native.Mathlib.Omega.{arith}
use borrow.Author.Tests.{le-ltb, lt-ltb, eq-eqb, ne_eqb, eqb-true}
use lib.ListN.{length}
use lib.Dec.{ltb, eqb}
use Rattle.answers.specs.Answers.{accepted, refused}
use Rattle.fields.specs.Numbers.{field}
use Rattle.entry.specs.Words.{word_mark, word_kind}
use Rattle.entry.specs.Layout.{entry_at, verifies}
use Rattle.entry.specs.declared.Entry.{Entry}
use Rattle.entry.proofs.Standing.{Verified, verified, verifying}
use Rattle.scan.specs.Walk.{found, ended, Trial, done, next, pick_trial, trial}

module _ (mark : ℕ → ℕ) (s : List ℕ) (p : ℕ) where
  pub trial_short : length s < p + 8 → trial mark s p ≡ done (accepted ended)
  unfolding trial
  trial_short h = simp (lt-ltb _ _ h)

  module _ (room : p + 8 ≤ length s) where
    pub trial_unmarked : (word_mark (field 4 s p) ≡ mark p → ⊥) → trial mark s p ≡ next
    unfolding trial
    trial_unmarked m = simp (le-ltb _ _ room, ne_eqb _ _ m)

    pub trial_unknown : word_mark (field 4 s p) ≡ mark p → word_kind (field 4 s p) ≡ 3 → trial mark s p ≡ done (refused 10 (p ∷ []))
    unfolding trial
    trial_unknown m k = simp (le-ltb _ _ room, eq-eqb _ _ m, eq-eqb _ _ k)

    -- the right mark and a type that is known: the line verifies or it doesn't
    pub trial_known : {t : Trial} → word_mark (field 4 s p) ≡ mark p → (word_kind (field 4 s p) ≡ 3 → ⊥) → pick_trial (verifies mark s p) (done (accepted (found (entry_at s p)))) next ≡ t → trial mark s p ≡ t
    unfolding trial
    trial_known m k e = simp (le-ltb _ _ room, eq-eqb _ _ m, ne_eqb _ _ k) e

  pub verified_found : {e : Entry} → Verified mark s p e → trial mark s p ≡ done (accepted (found e))
  verified_found {e} v =
      trial_known v.room v.marked (λ k. let n = v.known in omega arith)
      (simp (verifying mark s p v) (ap (λ (x : Entry). done (accepted (found x))) v.is))

-- the four tests of a trial, as the definition nests them
abbrev tested : Bool → Bool → Bool → Bool → Entry → ℕ → Trial
tested short marked unknown verified e p =
    pick_trial short (done (accepted ended))
    (pick_trial (not marked) next
    (pick_trial unknown (done (refused 10 (p ∷ [])))
    (pick_trial verified (done (accepted (found e))) next)))

passed : (a b c d : Bool) (x : Entry) (p : ℕ) → a ≡ false → (b ≡ true → c ≡ true → ⊥) → (d ≡ true → ⊥) → tested a b c d x p ≡ next
passed true b c d x p h k n = absurd (let z : ◌≡◌ {A = ℕ} 0 1 = cc in omega arith)
passed false true true d x p h k n = absurd (k refl refl)
passed false true false true x p h k n = absurd (n refl)
passed false true false false x p h k n = refl
passed false false c d x p h k n = refl

gave : (a b c d : Bool) (x y : Entry) (p : ℕ) → tested a b c d x p ≡ done (accepted (found y)) → (d ≡ true) × (x ≡ y)
gave true b c d x y p h = absurd (let z : ◌≡◌ {A = ℕ} 0 1 = cc in omega arith)
gave false true true d x y p h = absurd (let z : ◌≡◌ {A = ℕ} 0 1 = cc in omega arith)
gave false true false true x y p h = (refl, cc)
gave false true false false x y p h = absurd (let z : ◌≡◌ {A = ℕ} 0 1 = cc in omega arith)
gave false false c d x y p h = absurd (let z : ◌≡◌ {A = ℕ} 0 1 = cc in omega arith)

refuses : (a b c d : Bool) (x : Entry) (p : ℕ) {n : ℕ} {values : List ℕ} → tested a b c d x p ≡ done (refused n values) → n ≡ 10
refuses true b c d x p h = absurd (let z : ◌≡◌ {A = ℕ} 0 1 = cc in omega arith)
refuses false true true d x p h = cc
refuses false true false true x p h = absurd (let z : ◌≡◌ {A = ℕ} 0 1 = cc in omega arith)
refuses false true false false x p h = absurd (let z : ◌≡◌ {A = ℕ} 0 1 = cc in omega arith)
refuses false false c d x p h = absurd (let z : ◌≡◌ {A = ℕ} 0 1 = cc in omega arith)

module _ (mark : ℕ → ℕ) (s : List ℕ) (p : ℕ) where
  -- a line that neither verifies nor holds type 3 under the right mark is passed over
  pub trial_passed : p + 8 ≤ length s → (verifies mark s p ≡ true → ⊥) → (word_mark (field 4 s p) ≡ mark p → word_kind (field 4 s p) ≡ 3 → ⊥) → trial mark s p ≡ next
  unfolding trial
  trial_passed room dead known =
      passed (ltb (length s) (p + 8)) (eqb (word_mark (field 4 s p)) (mark p)) (eqb (word_kind (field 4 s p)) 3) (verifies mark s p) (entry_at s p) p
      (le-ltb _ _ room) (λ m k. known (eqb-true _ _ m) (eqb-true _ _ k)) dead

  -- an entry is given only where the line verifies, and it is what the bytes say
  pub found_verified : {e : Entry} → trial mark s p ≡ done (accepted (found e)) → Verified mark s p e
  unfolding trial
  found_verified {e} h =
      let g = gave (ltb (length s) (p + 8)) (eqb (word_mark (field 4 s p)) (mark p)) (eqb (word_kind (field 4 s p)) 3) (verifies mark s p) (entry_at s p) e p h in
      let v = verified mark s p g.0 in
      record { is = g.1; room = v.room; marked = v.marked; known = v.known; within = v.within; agreed = v.agreed }

  -- a line is refused with 10 alone
  pub trial_refused : {n : ℕ} {values : List ℕ} → trial mark s p ≡ done (refused n values) → n ≡ 10
  unfolding trial
  trial_refused h = refuses (ltb (length s) (p + 8)) (eqb (word_mark (field 4 s p)) (mark p)) (eqb (word_kind (field 4 s p)) 3) (verifies mark s p) (entry_at s p) p h
