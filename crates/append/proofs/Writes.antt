-- What an append has written when its answer is an accepting one.
-- Assumes nothing.
use Prim.Native.Nat.{ℕ, ◌+◌}
use mathlib.Core.Path.{◌≡◌, sym, ap, ◌∙◌}
use mathlib.Core.List.{List}
use mathlib.Core.Bool.{Bool}
use lib.ListN.{length}
use Rattle.std.specs.Prelude.{Result}
use Rattle.answers.specs.declared.Refusal.{Refusal}
use Rattle.answers.specs.Answers.{Said, accepted, said, unless_refused, afterwards}
use Rattle.answers.proofs.Orders.{accepted_unrefused}
use Rattle.fields.specs.Runs.{over}
use Rattle.append.specs.Bytes.{Item, encoded, size_of}
use Rattle.append.specs.Append.{Appends, append_refusal, append_of}
use Rattle.append.proofs.Acceptance.{Accepted, accepted_facts}

-- what a call's contract and its accepting answer tell together: the new used count, and the region with the entry written
pub record Wrote (mark : ℕ → ℕ) (region : List ℕ) (used : ℕ) (allowed : Bool) (i : Item) (next : ℕ) (after : List ℕ) : Type 0 where
  pub facts : Accepted (length region) used allowed i.kind i.ns (length i.key) (length i.value)
  pub grown : next ≡ used + size_of i
  pub bytes : after ≡ over region used (encoded (mark used) i)

pub wrote : (mark : ℕ → ℕ) (region : List ℕ) (used : ℕ) (allowed : Bool) (i : Item) {first : ℕ} {answer : Result ℕ Refusal} {next : ℕ} {after : List ℕ} → Appends first mark region used allowed i answer after → said answer ≡ accepted next → Wrote mark region used allowed i next after
unfolding append_of
wrote mark region used allowed i {first} {answer} {next} {after} a e =
    let yes : unless_refused first (append_of region used allowed i) ≡ accepted next = sym a.says ∙ e in
    let v = accepted_unrefused first (append_of region used allowed i) yes in
    let u = accepted_unrefused (append_refusal (length region) used allowed i.kind i.ns (length i.key) (length i.value)) (accepted (used + size_of i)) v.1 in
    let same : accepted (used + size_of i) ≡ accepted next = u.1 in
    record {
      facts = accepted_facts u.0;
      grown = cc;
      bytes = a.leaves ∙ ap (λ (x : Said ℕ). afterwards x region (over region used (encoded (mark used) i))) yes;
    }
