-- "It may exceed the bound, and N by at most 15": how far the durable end can lie.
-- Assumes nothing.
use Prim.Native.Nat.{ℕ, ◌+◌, ◌≤◌}
use mathlib.Core.Path.{◌≡◌, refl, ap, ◌∙◌}
use mathlib.Core.List.{List, [], ◌∷◌}
use native.Mathlib.Omega.{arith}
use lib.ListN.{length}
use lib.Dec.{ltb}
use Rattle.answers.specs.Answers.{Said, accepted, refused, first_of, unless_refused, said_stopped}
use Rattle.answers.specs.Limits.{largest_region}
use Rattle.std.specs.Prelude.{Err}
use Rattle.answers.specs.declared.Stopped.{Stopped}
use Rattle.answers.specs.declared.Stopped.TheVariants.{Refused, UnknownAt}
use Rattle.entry.specs.declared.Entry.{Entry}
use Rattle.answers.specs.Numbers.{number_of}
use Rattle.answers.specs.declared.Refusal.{Refusal}
use Rattle.answers.proofs.Cases.{refusal_refuses}
use Rattle.scan.specs.Inner.{walk_refusal}
use Rattle.answers.proofs.Orders.{accepted_unrefused}
use Rattle.fields.specs.Numbers.{aligned}
use Rattle.scan.specs.Walk.{Step, said}
use Rattle.scan.specs.Listing.{Listed, grow, list, last_end}
use Rattle.scan.proofs.Listings.{list_ends}
use Rattle.tail.specs.Tail.{unless_stopped, durable, durable_of}

-- what stops a listing is its answer
pub stopped_durable : (stopped : Stopped) (none : ℕ) (rest : Entry → Listed) → said_stopped {A = ℕ} (Err stopped) ≡ durable none (grow (said (Err stopped)) rest)
unfolding durable
stopped_durable (Refused r) none rest = refl
stopped_durable (UnknownAt p) none rest = refl

-- of what 3 and 4 refuse, and of what they don't
module _ (mark : ℕ → ℕ) (s : List ℕ) (bound : ℕ) where
  pub durable_unrefused : walk_refusal s bound ≡ 0 → durable_of mark s bound ≡ durable 0 (list mark s bound 0)
  unfolding durable_of
  durable_unrefused e = ap (λ (n : ℕ). unless_refused n (durable 0 (list mark s bound 0))) e

  pub durable_refused : (r : Refusal) → walk_refusal s bound ≡ number_of r → durable_of mark s bound ≡ refused (number_of r) []
  unfolding durable_of
  durable_refused r e = ap (λ (n : ℕ). unless_refused n (durable 0 (list mark s bound 0))) e ∙ refusal_refuses r (durable 0 (list mark s bound 0))

stopped : (stop : Said Step) (n : ℕ) {end : ℕ} → unless_stopped stop n ≡ accepted end → n ≡ end
stopped (accepted step) n e = cc
stopped (refused k values) n e = absurd (let z : ◌≡◌ {A = ℕ} 0 1 = cc in omega arith)

pub durable_within : (mark : ℕ → ℕ) (s : List ℕ) (bound : ℕ) {end : ℕ} → durable_of mark s bound ≡ accepted end → end ≤ length s + 15
unfolding durable_of durable aligned
durable_within mark s bound {end} e =
    let l = list mark s bound 0 in
    let q : durable 0 l ≡ accepted end = (accepted_unrefused (first_of ((ltb largest_region (length s), 3) ∷ (ltb (length s) bound, 4) ∷ [])) (durable 0 l) e).1 in
    let n : aligned (last_end 0 l.entries) ≡ end = stopped l.stop _ q in
    let h : last_end 0 l.entries ≤ length s = list_ends mark s bound 0 0 (omega arith) in
    omega arith
