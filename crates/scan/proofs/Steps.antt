-- Along a whole listing, walk by walk: what each tells of the entries that are left, and of what was spent. Every call that goes through a region from 0
-- on stands on these laws.
-- Assumes nothing.
use Prim.Native.Nat.{ℕ, ◌+◌, ◌≤◌}
use mathlib.Core.Path.{◌≡◌, refl, sym, ap, ◌∙◌}
use mathlib.Core.List.{List}
use native.Mathlib.Omega.{arith}
use lib.ListN.{length}
use Rattle.std.specs.Prelude.{IfOk, IfSome, Option, Some, None, Result, Ok, Err}
use Rattle.answers.specs.Answers.{Said}
use Rattle.answers.specs.declared.Stopped.{Stopped}
use Rattle.answers.specs.declared.Stopped.TheVariants.{Refused, UnknownAt}
use Rattle.fields.specs.Numbers.{aligned}
use Rattle.fields.proofs.Lines.{aligned_le}
use Rattle.entry.specs.declared.Entry.{Entry}
use Rattle.scan.specs.Walk.{Step, said, walk}
use Rattle.scan.specs.Listing.{grow, list}
use Rattle.scan.specs.Efforts.{no_effort, plus, Counted, behind, said_counted, counted_walk, list_effort}
use Rattle.scan.specs.Inner.{later, goes_on, IsFound, Tells}
use Rattle.scan.specs.declared.Effort.{Effort}
use Rattle.scan.specs.declared.CountedWalk.{CountedWalk}
use Rattle.scan.proofs.Walks.{Stands, walk_none, walk_found, stands_kind, stands_namespace}
use Rattle.scan.proofs.Listings.{list_step}
use Rattle.scan.proofs.Counting.{plus_none, plus_plus, counted_answer, counted_none}
use Rattle.scan.proofs.Efforts.{list_effort_lem}

module _ (mark : ℕ → ℕ) (s : List ℕ) (bound : ℕ) where
  -- at the bound nothing is left
  none_left : list_effort mark s bound bound ≡ no_effort
  none_left =
      list_effort_lem mark s bound bound
      ∙ ap (λ (c : Counted). plus c.effort (later (walk mark s bound bound) (λ (e : Entry). list_effort mark s bound e.end))) (counted_none mark s bound bound (omega arith))
      ∙ ap (λ (y : Said Step). plus no_effort (later y (λ (e : Entry). list_effort mark s bound e.end))) (walk_none mark s bound bound (omega arith))

  -- what is left behind an answer is what is left where the listing goes on
  left_effort : (r : Result (Option Entry) Stopped) → later (said r) (λ (e : Entry). list_effort mark s bound e.end) ≡ list_effort mark s bound (goes_on bound r)
  left_effort (Ok (Some e)) = refl
  left_effort (Ok None) = sym none_left
  left_effort (Err (Refused q)) = sym none_left
  left_effort (Err (UnknownAt p)) = sym none_left

  module _ {old : ℕ} {r : Result (Option Entry) Stopped} {from : ℕ} {effort : Effort} (t : Tells mark s bound old r from effort) where
    -- an entry that is found stands at or past the offset, on a line before the bound
    pub tells_found : {e : Entry} → r ≡ Ok (Some e) → Stands mark s (aligned old) (bound + 15) e
    tells_found q = walk_found mark s bound old (t.walks ∙ ap said q)

    -- and behind it the listing goes on
    pub tells_goes : {e : Entry} → r ≡ Ok (Some e) → from ≡ e.end
    tells_goes q = t.goes ∙ ap (goes_on bound) q

    -- what is left to list is what the step tells, and what is left behind it
    pub tells_list : (x : Result (Option Entry) Stopped) → r ≡ x → grow (said x) (λ (e : Entry). list mark s bound e.end) ≡ list mark s bound old
    tells_list x q =
        ap (λ (y : Said Step). grow y (λ (e : Entry). list mark s bound e.end)) (ap said (sym q) ∙ sym t.walks) ∙ sym (list_step mark s bound old)

    -- and where there is none, all is spent
    pub tells_over : later (said r) (λ (e : Entry). list_effort mark s bound e.end) ≡ no_effort → effort ≡ list_effort mark s bound 0
    tells_over over = sym (plus_none effort) ∙ ap (plus effort) (sym over) ∙ t.spends

    -- what was spent, and what is left from where the listing goes on
    pub tells_rest : plus effort (list_effort mark s bound from) ≡ list_effort mark s bound 0
    tells_rest = ap (λ (n : ℕ). plus effort (list_effort mark s bound n)) t.goes ∙ ap (plus effort) (sym (left_effort r)) ∙ t.spends

  -- what holds of an entry that is found
  pub tells_known : {old from : ℕ} {effort : Effort} (r : Result (Option Entry) Stopped) → Tells mark s bound old r from effort → IfOk r (λ step. IfSome step (IsFound s bound old))
  tells_known {old} (Ok (Some e)) t =
      let z = tells_found t refl in
      let low = aligned_le old in
      let kind = stands_kind mark s (aligned old) (bound + 15) z in
      let ns = stands_namespace mark s (aligned old) (bound + 15) z in
      (kind, omega (arith, ns), omega (arith, low, z.low, z.high), omega (arith, low, z.low, z.long), z.fits)
  tells_known (Ok None) t = tt
  tells_known (Err stopped) t = tt

  -- a listing goes on within the region
  pub goes_within : (old : ℕ) → bound ≤ length s → (r : Result (Option Entry) Stopped) → walk mark s bound old ≡ said r → goes_on bound r ≤ length s
  goes_within old h (Ok (Some e)) w = (walk_found mark s bound old w).fits
  goes_within old h (Ok None) w = h
  goes_within old h (Err stopped) w = h

  -- the walk from there tells the next step
  pub tells : (old : ℕ) (before : Effort) (r : CountedWalk) (from : ℕ) → plus before (list_effort mark s bound old) ≡ list_effort mark s bound 0
      → said_counted r ≡ behind before (counted_walk mark s bound old) → from ≡ goes_on bound r.walked → Tells mark s bound old r.walked from r.effort
  tells old before r from rest e g =
      let walks : walk mark s bound old ≡ said r.walked =
      sym (counted_answer mark s bound old) ∙ ap (λ (x : Counted). x.answer) (sym e) in
      let left : Said Step → Effort = λ (y : Said Step). later y (λ (x : Entry). list_effort mark s bound x.end) in
      let spends : plus r.effort (left (said r.walked)) ≡ list_effort mark s bound 0 =
      ap (λ (x : Effort). plus x (left (said r.walked))) (ap (λ (x : Counted). x.effort) e)
      ∙ sym (plus_plus before (counted_walk mark s bound old).effort (left (said r.walked)))
      ∙ ap (λ (y : Said Step). plus before (plus (counted_walk mark s bound old).effort (left y))) (sym walks)
      ∙ ap (plus before) (sym (list_effort_lem mark s bound old))
      ∙ rest in
      record { walks = walks; goes = g; spends = spends }
