-- The walk, line by line, over any mark rule.
-- Assumes nothing.
use Prim.Native.Nat.{ℕ, zero, suc, ◌+◌, ◌-◌, ◌*◌, ◌/◌, ◌^◌, ◌<◌, ◌≤◌}
use mathlib.Core.Path.{◌≡◌, refl, sym, ap, ◌∙◌}
use mathlib.Core.List.{List, []}
use mathlib.Core.Bool.{Bool, true, false}
use native.Mathlib.Omega.{arith}
use borrow.Author.Tests.{leb-true, le-ltb}
use lib.ListN.{length}
use lib.Dec.{leb}
use Rattle.answers.specs.Answers.{Said, accepted, refused, unless_refused}
use Rattle.answers.specs.Numbers.{number_of}
use Rattle.answers.specs.declared.Refusal.{Refusal}
use Rattle.answers.proofs.Cases.{refusal_refuses}
use Rattle.answers.specs.Limits.{largest_region}
use Rattle.fields.specs.Numbers.{field, aligned}
use Rattle.fields.proofs.Lines.{aligned_le}
use Rattle.entry.specs.Words.{word_namespace, word_kind}
use Rattle.entry.specs.declared.Entry.{Entry}
use Rattle.entry.proofs.Standing.{entry_offset, entry_kind, entry_namespace, entry_long}
use Rattle.entry.proofs.Packing.{namespace_lt}
use Rattle.scan.specs.Walk.{Step, found, ended, Trial, done, next, or_else, pick_step, trial, walk_lines, walk_from, walk, walk_of}
use Rattle.scan.specs.Inner.{walk_refusal}
use Rattle.scan.proofs.Trials.{found_verified}

-- an entry that a walk gave: where it stands, from a line on and before another, and that the region holds it
pub record Stands (mark : ℕ → ℕ) (s : List ℕ) (from to : ℕ) (e : Entry) : Type 0 where
  pub low : from ≤ e.offset
  pub high : e.offset + 16 ≤ to
  pub tried : trial mark s e.offset ≡ done (accepted (found e))
  pub long : e.offset + 8 ≤ e.end
  pub fits : e.end ≤ length s

module _ (mark : ℕ → ℕ) (s : List ℕ) where
  pub walk_end : (bound p : ℕ) → bound ≤ p → walk_from mark s bound p ≡ accepted ended
  unfolding walk_from walk_lines
  walk_end bound p h =
      let none : (bound + 15 - p) / 16 ≡ 0 = omega arith in
      rw none

  walk_step : (bound p : ℕ) → p < bound → walk_from mark s bound p ≡ or_else (trial mark s p) (walk_from mark s bound (p + 16))
  unfolding walk_from walk_lines
  walk_step bound p h =
      let more : (bound + 15 - p) / 16 ≡ suc ((bound + 15 - (p + 16)) / 16) = omega arith in
      rw more

  pub walk_done : (bound p : ℕ) {answer : Said Step} → p < bound → trial mark s p ≡ done answer → walk_from mark s bound p ≡ answer
  walk_done bound p h t = walk_step bound p h ∙ ap (λ (x : Trial). or_else x (walk_from mark s bound (p + 16))) t

  pub walk_next : (bound p : ℕ) → p < bound → trial mark s p ≡ next → walk_from mark s bound p ≡ walk_from mark s bound (p + 16)
  walk_next bound p h t = walk_step bound p h ∙ ap (λ (x : Trial). or_else x (walk_from mark s bound (p + 16))) t

  -- rounding before the bound is tested would give the same, were there no largest number
  pub walk_aligned : (bound offset : ℕ) → walk mark s bound offset ≡ walk_from mark s bound (aligned offset)
  unfolding walk
  walk_aligned bound offset = go (leb bound offset) refl
    where
      go : (b : Bool) → leb bound offset ≡ b → pick_step b (accepted ended) (walk_from mark s bound (aligned offset)) ≡ walk_from mark s bound (aligned offset)
      go true e = sym (walk_end bound (aligned offset) (omega (arith, aligned_le offset, leb-true bound offset e)))
      go false e = refl

  pub walk_none : (bound offset : ℕ) → bound ≤ offset → walk mark s bound offset ≡ accepted ended
  walk_none bound offset h = walk_aligned bound offset ∙ walk_end bound (aligned offset) (omega (arith, aligned_le offset))

  pub walk_over : (bound offset : ℕ) → bound ≤ aligned offset → walk mark s bound offset ≡ accepted ended
  walk_over bound offset h = walk_aligned bound offset ∙ walk_end bound (aligned offset) h

  pub walk_of_accepted : (bound offset : ℕ) → length s ≤ largest_region → bound ≤ length s → walk_of mark s bound offset ≡ walk mark s bound offset
  unfolding walk_of
  walk_of_accepted bound offset h b = simp (le-ltb _ _ h, le-ltb _ _ b)

  -- what refuses with 3 or 4 comes first
  pub walk_of_refused : (bound offset : ℕ) (r : Refusal) → number_of r ≡ walk_refusal s bound → walk_of mark s bound offset ≡ refused (number_of r) []
  unfolding walk_of
  walk_of_refused bound offset r e = ap (λ (n : ℕ). unless_refused n (walk mark s bound offset)) (sym e) ∙ refusal_refuses r (walk mark s bound offset)

  -- what the walk from the offset's line on answers is what neither of them refuses
  pub walk_of_from : (bound offset : ℕ) {p : ℕ} {answer : Said Step} → length s ≤ largest_region → bound ≤ length s → p ≡ aligned offset → walk_from mark s bound p ≡ answer → answer ≡ walk_of mark s bound offset
  walk_of_from bound offset h b e w =
      sym (walk_of_accepted bound offset h b ∙ walk_aligned bound offset ∙ ap (walk_from mark s bound) (sym e) ∙ w)

  stands_here : (p to : ℕ) {e : Entry} → p + 16 ≤ to → trial mark s p ≡ done (accepted (found e)) → Stands mark s p to e
  stands_here p to {e} h t =
      let v = found_verified mark s p t in
      let o : e.offset ≡ p = ap (λ (x : Entry). x.offset) (sym v.is) ∙ entry_offset s p in
      let l : p + 8 ≤ e.end = rw v.is at (entry_long s p) in
      let f : e.end ≤ length s = rw v.is at v.within in
      record { low = omega arith; high = omega arith; tried = ap (trial mark s) o ∙ t; long = omega arith; fits = f }

  lines_found : (n p : ℕ) {e : Entry} → walk_lines mark s n p ≡ accepted (found e) → Stands mark s p (p + 16 * n) e
  unfolding walk_lines
  lines_found zero p h = absurd (let z : ◌≡◌ {A = ℕ} 0 1 = cc in omega arith)
  lines_found (suc n) p {e} h = go (trial mark s p) refl h (lines_found n (p + 16))
    where
      go : (t : Trial) → trial mark s p ≡ t → or_else t (walk_lines mark s n (p + 16)) ≡ accepted (found e) → (walk_lines mark s n (p + 16) ≡ accepted (found e) → Stands mark s (p + 16) (p + 16 + 16 * n) e) → Stands mark s p (p + 16 * suc n) e
      go (done a) t q ih = stands_here p (p + 16 * suc n) (omega arith) (t ∙ ap done q)
      go next t q ih =
          let i = ih q in
          record { low = omega arith; high = omega arith; tried = i.tried; long = i.long; fits = i.fits }

  pub walk_found : (bound offset : ℕ) {e : Entry} → walk mark s bound offset ≡ accepted (found e) → Stands mark s (aligned offset) (bound + 15) e
  unfolding walk_from
  walk_found bound offset {e} h =
      let i = lines_found ((bound + 15 - aligned offset) / 16) (aligned offset) (sym (walk_aligned bound offset) ∙ h) in
      record { low = i.low; high = omega arith; tried = i.tried; long = i.long; fits = i.fits }

  -- its type is 0, 1 or 2, and its namespace has six bits
  pub stands_kind : (from to : ℕ) {e : Entry} → Stands mark s from to e → e.kind < 3
  stands_kind from to {e} z =
      let v = found_verified mark s e.offset z.tried in
      let k : word_kind (field 4 s e.offset) ≡ e.kind = sym (entry_kind s e.offset) ∙ ap (λ (x : Entry). x.kind) v.is in
      rw k at v.known

  pub stands_namespace : (from to : ℕ) {e : Entry} → Stands mark s from to e → e.ns < 2 ^ 6
  stands_namespace from to {e} z =
      let v = found_verified mark s e.offset z.tried in
      let n : word_namespace (field 4 s e.offset) ≡ e.ns = sym (entry_namespace s e.offset) ∙ ap (λ (x : Entry). x.ns) v.is in
      rw n at (namespace_lt (field 4 s e.offset))
