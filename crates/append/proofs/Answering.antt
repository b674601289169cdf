-- An append refused or accepted, from the number of its refusal, and the same append behind the test of a version.
-- Assumes nothing.
use Prim.Native.Nat.{ℕ, ◌+◌}
use mathlib.Core.Path.{◌≡◌, refl, sym, ap, subst, ◌∙◌}
use mathlib.Core.List.{List, []}
use mathlib.Core.Bool.{Bool}
use lib.ListN.{length}
use Rattle.answers.specs.Numbers.{number_of, number_of_verdict}
use Rattle.std.specs.Prelude.{Result, Ok, Err}
use Rattle.answers.specs.Answers.{Said, accepted, refused, said, unless_refused, afterwards}
use Rattle.answers.specs.Versions.{version_refusal}
use Rattle.answers.specs.declared.Refusal.{Refusal}
use Rattle.answers.proofs.Cases.{refusal_refuses}
use Rattle.answers.proofs.Orders.{accepted_unrefused, refused_first}
use Rattle.fields.specs.Runs.{over}
use Rattle.entry.specs.Words.{mark_from, seed_of, mark_of}
use Rattle.append.specs.Bytes.{Item, encoded, size_of}
use Rattle.append.specs.Append.{append_refusal, append_of, Appends}

module _ (mark : ℕ → ℕ) (region : List ℕ) (used : ℕ) (allowed : Bool) (i : Item) where
  abbrev number : ℕ
  number = append_refusal (length region) used allowed i.kind i.ns (length i.key) (length i.value)

  meets : {answer : Result ℕ Refusal} {after : List ℕ} (a : Said ℕ) → append_of region used allowed i ≡ a → said answer ≡ a → after ≡ afterwards a region (over region used (encoded (mark used) i)) → Appends 0 mark region used allowed i answer after
  meets a e s l = record { says = s ∙ sym e; leaves = l ∙ ap (λ (x : Said ℕ). afterwards x region (over region used (encoded (mark used) i))) (sym e) }

  pub refused_append : {verdict : Result (Unit {0}) Refusal} → number_of_verdict verdict ≡ number → {r : Refusal} → verdict ≡ Err r → {answer : Result ℕ Refusal} → answer ≡ Err r → Appends 0 mark region used allowed i answer region
  unfolding append_of
  refused_append checked {r} refuses is =
      meets (refused (number_of r) [])
      (ap (λ (n : ℕ). unless_refused n (accepted (used + size_of i))) (sym checked ∙ ap number_of_verdict refuses) ∙ refusal_refuses r (accepted (used + size_of i)))
      (ap said is) refl

  pub accepted_append : {next : ℕ} {after : List ℕ} → 0 ≡ number → next ≡ used + size_of i → after ≡ over region used (encoded (mark used) i) → Appends 0 mark region used allowed i (Ok next) after
  unfolding append_of
  accepted_append e n l = meets (accepted (used + size_of i)) (ap (λ (n : ℕ). unless_refused n (accepted (used + size_of i))) (sym e)) (ap accepted n) l

-- behind the seed of its file an append is what it is under that seed; where the file has neither version, that refuses first
module _ (version ordinal : ℕ) (region : List ℕ) (used : ℕ) (allowed : Bool) (i : Item) where
  behind_seed : {answer : Result ℕ Refusal} {after : List ℕ} (a : Said ℕ) → unless_refused (version_refusal version) (append_of region used allowed i) ≡ a → said answer ≡ a → after ≡ afterwards a region (over region used (encoded (mark_of version ordinal used) i)) → Appends (version_refusal version) (mark_of version ordinal) region used allowed i answer after
  behind_seed a e s l = record { says = s ∙ sym e; leaves = l ∙ ap (λ (x : Said ℕ). afterwards x region (over region used (encoded (mark_of version ordinal used) i))) (sym e) }

  pub seed_refuses : {seeded : Result ℕ Refusal} → said seeded ≡ unless_refused (version_refusal version) (accepted (seed_of version ordinal)) → {r : Refusal} → seeded ≡ Err r → Appends (version_refusal version) (mark_of version ordinal) region used allowed i (Err r) region
  seed_refuses {seeded} read {r} h =
      behind_seed (refused (number_of r) [])
      (refused_first (version_refusal version) (seed_of version ordinal) (append_of region used allowed i) (sym read ∙ ap said h))
      refl refl

  pub seed_passes : {seeded : Result ℕ Refusal} → said seeded ≡ unless_refused (version_refusal version) (accepted (seed_of version ordinal)) → {seed : ℕ} → seeded ≡ Ok seed → {answer : Result ℕ Refusal} {after : List ℕ} → Appends 0 (mark_from seed) region used allowed i answer after → Appends (version_refusal version) (mark_of version ordinal) region used allowed i answer after
  seed_passes {seeded} read {seed} h {answer} {after} a =
      let found = accepted_unrefused (version_refusal version) (accepted (seed_of version ordinal)) (sym read ∙ ap said h) in
      let same : ◌≡◌ {A = Said ℕ} (accepted (seed_of version ordinal)) (accepted seed) = found.1 in
      let e : seed ≡ seed_of version ordinal = cc in
      let b = subst (λ (s : ℕ). Appends 0 (mark_from s) region used allowed i answer after) e a in
      behind_seed (append_of region used allowed i) (ap (λ (n : ℕ). unless_refused n (append_of region used allowed i)) found.0) b.says b.leaves
