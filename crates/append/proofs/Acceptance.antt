-- What an accepted append has found out.
-- Assumes nothing.
use Prim.Native.Nat.{ℕ, ◌+◌, ◌%◌, ◌≤◌}
use mathlib.Core.Path.{◌≡◌}
use mathlib.Core.Bool.{Bool, true, not}
use borrow.Author.Tests.{ltb-false, eqb-true}
use lib.Dec.{ltb, eqb}
use Rattle.answers.specs.Limits.{largest_region, largest_key, largest_value, last_namespace}
use Rattle.answers.proofs.Orders.{not-false, first_passed}
use Rattle.fields.specs.Numbers.{aligned}
use Rattle.entry.specs.Layout.{length_of}
use Rattle.append.specs.Append.{append_refusal, append_tests}

pub record Accepted (n used : ℕ) (allowed : Bool) (kind ns klen vlen : ℕ) : Type 0 where
  pub small : n ≤ largest_region
  pub line : used % 16 ≡ 0
  pub taken : allowed ≡ true
  pub spaces : ns ≤ last_namespace
  pub keys : klen ≤ largest_key
  pub values : vlen ≤ largest_value
  pub room : used + aligned (length_of kind klen vlen) ≤ n

pub accepted_facts : {n used : ℕ} {allowed : Bool} {kind ns klen vlen : ℕ} → append_refusal n used allowed kind ns klen vlen ≡ 0 → Accepted n used allowed kind ns klen vlen
unfolding append_refusal append_tests
accepted_facts {n} {used} {allowed} {kind} {ns} {klen} {vlen} h =
    let a = first_passed (ltb largest_region n) 2 _ h in
    let b = first_passed (not (eqb (used % 16) 0)) 4 _ a.1 in
    let c = first_passed (not allowed) 8 _ b.1 in
    let d = first_passed (ltb last_namespace ns) 16 _ c.1 in
    let e = first_passed (ltb largest_key klen) 10 _ d.1 in
    let f = first_passed (ltb largest_value vlen) 11 _ e.1 in
    let g = first_passed (ltb n (used + aligned (length_of kind klen vlen))) 12 _ f.1 in
    record {
      small = ltb-false _ _ a.0;
      line = eqb-true _ _ (not-false _ b.0);
      taken = not-false _ c.0;
      spaces = ltb-false _ _ d.0;
      keys = ltb-false _ _ e.0;
      values = ltb-false _ _ f.0;
      room = ltb-false _ _ g.0;
    }
