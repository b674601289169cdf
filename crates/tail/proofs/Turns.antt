-- One turn of a loop that goes along a region walk by walk, as the lister does: what the walk's answer says of the entries that are left.
-- Assumes nothing.
use Prim.Native.Nat.{ℕ, ◌+◌, ◌≤◌}
use mathlib.Core.Path.{◌≡◌, sym, ap, ◌∙◌}
use mathlib.Core.List.{List}
use lib.ListN.{length}
use Rattle.std.specs.Prelude.{Option, Some, Result, Ok}
use Rattle.answers.specs.Answers.{Said}
use Rattle.answers.specs.declared.Stopped.{Stopped}
use Rattle.answers.specs.Limits.{largest_region}
use Rattle.fields.specs.Numbers.{aligned}
use Rattle.entry.specs.declared.Entry.{Entry}
use Rattle.scan.specs.Walk.{Step, said, walk, walk_of}
use Rattle.scan.specs.Listing.{grow, list}
use Rattle.scan.proofs.Walks.{Stands, walk_found, walk_of_accepted}
use Rattle.scan.proofs.Listings.{list_step}
use Rattle.tail.specs.Tail.{durable}

module _ (mark : ℕ → ℕ) (s : List ℕ) (bound : ℕ) (small : length s ≤ largest_region) (within : bound ≤ length s) (from : ℕ) (walked : Result (Option Entry) Stopped) (answer : said walked ≡ walk_of mark s bound from) where
  -- the call in the definition's words
  asked : walk mark s bound from ≡ said walked
  asked = sym (walk_of_accepted mark s bound from small within) ∙ sym answer

  -- an entry that is found stands at or past the offset, on a line before the bound
  pub turn_found : {e : Entry} → walked ≡ Ok (Some e) → Stands mark s (aligned from) (bound + 15) e
  turn_found q = walk_found mark s bound from (asked ∙ ap said q)

  -- what is left to list is what this answer tells, and what is left behind it
  pub turn_list : (x : Result (Option Entry) Stopped) → walked ≡ x → grow (said x) (λ (e : Entry). list mark s bound e.end) ≡ list mark s bound from
  turn_list x q =
      ap (λ (y : Said Step). grow y (λ (e : Entry). list mark s bound e.end)) (ap said (sym q) ∙ sym asked)
      ∙ sym (list_step mark s bound from)

  -- what the entries from here on give, they give by this answer and by those behind it
  pub turn_rest : (x : Result (Option Entry) Stopped) → walked ≡ x → durable from (grow (said x) (λ (e : Entry). list mark s bound e.end)) ≡ durable from (list mark s bound from)
  turn_rest x q = ap (durable from) (turn_list x q)
