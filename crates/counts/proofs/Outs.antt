-- What a call answers, by what it was counted from.
-- Assumes nothing.
use Prim.Native.Nat.{ℕ, ◌≤◌}
use mathlib.Core.Path.{◌≡◌, sym, ◌∙◌}
use mathlib.Core.List.{List, [], ◌∷◌}
use borrow.Author.Tests.{le-ltb}
use lib.ListN.{length}
use lib.Dec.{ltb}
use Rattle.answers.specs.Answers.{accepted, refused, first_of, said_stopped}
use Rattle.answers.specs.Limits.{largest_region}
use Rattle.answers.specs.Numbers.{number_of}
use Rattle.answers.specs.declared.Refusal.{Refusal}
use Rattle.answers.proofs.Cases.{number_not_zero}
use Rattle.scan.specs.Inner.{walk_refusal}
use Rattle.tail.proofs.Zeros.{used_told, used_within}
use Rattle.answers.proofs.Orders.{refused_first}
use Rattle.std.specs.Prelude.{Err}
use Rattle.answers.specs.declared.Stopped.{Stopped}
use Rattle.answers.specs.declared.Stopped.TheVariants.{Refused, UnknownAt}
use Rattle.entry.specs.declared.Entry.{Entry}
use Rattle.scan.specs.Walk.{ended, said}
use Rattle.scan.specs.Listing.{Listed, grow, list}
use Rattle.tail.specs.Tail.{used_bound, used_of}
use Rattle.counts.specs.Grid.{grid_of}
use Rattle.counts.specs.Counts.{counts_listed, counts_of}

-- where the used bound is refused, so are the counts
pub counts_refused : (mark : ℕ → ℕ) (s : List ℕ) {n : ℕ} {values : List ℕ} → used_of s ≡ refused n values → counts_of mark s ≡ refused n values
unfolding used_of counts_of
counts_refused mark s e = refused_first (first_of ((ltb largest_region (length s), 3) ∷ [])) (used_bound s) (counts_listed (list mark s (used_bound s) 0)) e

-- 3 doesn't refuse: the counts of the listing up to the used bound
pub counts_accepted : (mark : ℕ → ℕ) (s : List ℕ) → length s ≤ largest_region → counts_of mark s ≡ counts_listed (list mark s (used_bound s) 0)
unfolding counts_of
counts_accepted mark s small = simp (le-ltb _ _ small)

-- what stops a listing is the answer
pub told_stopped : (listed : Listed) (stopped : Stopped) (rest : Entry → Listed) → listed.stop ≡ (grow (said (Err stopped)) rest).stop → said_stopped (Err stopped) ≡ counts_listed listed
unfolding counts_listed
told_stopped listed (Refused r) rest e = rw e
told_stopped listed (UnknownAt p) rest e = rw e

-- where nothing stops it, the grid is
pub told_all : (listed : Listed) → listed.stop ≡ accepted ended → accepted (grid_of listed.entries) ≡ counts_listed listed
unfolding counts_listed
told_all listed e = rw e

-- a bound that was answered is refused with neither 3 nor 4
pub never_refused : (s : List ℕ) (bound : ℕ) (r : Refusal) → used_of s ≡ accepted bound → walk_refusal s bound ≡ number_of r → ⊥
never_refused s bound r e h =
    let small = (used_told s e).0 in
    let within = used_within s e in
    let none : walk_refusal s bound ≡ 0 = simp (le-ltb _ _ small, le-ltb _ _ within) in
    number_not_zero r (sym h ∙ none)
