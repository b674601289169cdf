-- Past 3 and 4 a walk is refused with 10 alone, and so is a listing.
-- Assumes nothing.
use Prim.Native.Nat.{ℕ, zero, suc, ◌+◌, ◌-◌, ◌/◌}
use mathlib.Core.Path.{◌≡◌, refl, sym, ap, ◌∙◌}
use mathlib.Core.List.{List}
use native.Mathlib.Omega.{arith}
use Rattle.answers.specs.Answers.{Said, accepted, refused}
use Rattle.fields.specs.Numbers.{aligned}
use Rattle.entry.specs.declared.Entry.{Entry}
use Rattle.scan.specs.Walk.{Step, found, ended, Trial, done, next, or_else, trial, walk_lines, walk_from, walk}
use Rattle.scan.specs.Listing.{grow, list_most, list}
use Rattle.scan.proofs.Trials.{trial_refused}
use Rattle.scan.proofs.Walks.{walk_aligned}

module _ (mark : ℕ → ℕ) (s : List ℕ) {n : ℕ} {values : List ℕ} where
  lines_refused : (lines p : ℕ) → walk_lines mark s lines p ≡ refused n values → n ≡ 10
  unfolding walk_lines
  lines_refused zero p h = absurd (let z : ◌≡◌ {A = ℕ} 0 1 = cc in omega arith)
  lines_refused (suc lines) p h = go (trial mark s p) refl h (lines_refused lines (p + 16))
    where
      go : (t : Trial) → trial mark s p ≡ t → or_else t (walk_lines mark s lines (p + 16)) ≡ refused n values → (walk_lines mark s lines (p + 16) ≡ refused n values → n ≡ 10) → n ≡ 10
      go (done a) t q ih = trial_refused mark s p (t ∙ ap done q)
      go next t q ih = ih q

  pub walk_refused : (bound offset : ℕ) → walk mark s bound offset ≡ refused n values → n ≡ 10
  unfolding walk_from
  walk_refused bound offset h = lines_refused ((bound + 15 - aligned offset) / 16) (aligned offset) (sym (walk_aligned mark s bound offset) ∙ h)

  most_refused : (bound most offset : ℕ) → (list_most mark s most bound offset).stop ≡ refused n values → n ≡ 10
  unfolding list_most
  most_refused bound zero offset h = absurd (let z : ◌≡◌ {A = ℕ} 0 1 = cc in omega arith)
  most_refused bound (suc most) offset h = go (walk mark s bound offset) refl h (λ e. most_refused bound most e.end)
    where
      go : (x : Said Step) → walk mark s bound offset ≡ x → (grow x (λ (e : Entry). list_most mark s most bound e.end)).stop ≡ refused n values → ((e : Entry) → (list_most mark s most bound e.end).stop ≡ refused n values → n ≡ 10) → n ≡ 10
      go (accepted (found e)) w q ih = ih e q
      go (accepted ended) w q ih = absurd (let z : ◌≡◌ {A = ℕ} 0 1 = cc in omega arith)
      go (refused k v) w q ih = walk_refused bound offset (w ∙ q)

  pub list_refused : (bound offset : ℕ) → (list mark s bound offset).stop ≡ refused n values → n ≡ 10
  unfolding list
  list_refused bound offset = most_refused bound _ offset
