-- What the parser accepts, its facts one by one.
-- Assumes nothing.
use Prim.Native.Nat.{ℕ, ◌+◌, ◌≤◌}
use mathlib.Core.Path.{◌≡◌}
use mathlib.Core.List.{List}
use mathlib.Core.Bool.{true, not}
use borrow.Author.Tests.{ltb-false, eqb-true, le-ltb, eq-eqb, not-false}
use lib.ListN.{length}
use lib.Dec.{ltb, eqb}
use Rattle.answers.specs.Answers.{first_of}
use Rattle.answers.proofs.Orders.{first_passed}
use Rattle.fields.specs.Numbers.{field}
use Rattle.entry.specs.Words.{word_mark, word_kind}
use Rattle.entry.specs.Layout.{agrees}
use Rattle.read.specs.Reading.{view_sum, parse_tests}

pub record Parses (mark : ℕ) (view : List ℕ) : Type 0 where
  pub eight : 8 ≤ length view
  pub marked : word_mark (field 4 view 0) ≡ mark
  pub room : view_sum view + 2 ≤ length view
  pub agreed : agrees view 0 (view_sum view) ≡ true
  pub typed : word_kind (field 4 view 0) ≤ 1

pub parses : (mark : ℕ) (view : List ℕ) → first_of (parse_tests mark view) ≡ 0 → Parses mark view
unfolding parse_tests
parses mark view h =
    let a = first_passed (ltb (length view) 8) 5 _ h in
    let b = first_passed (not (eqb (word_mark (field 4 view 0)) mark)) 6 _ a.1 in
    let c = first_passed (ltb (length view) (view_sum view + 2)) 5 _ b.1 in
    let d = first_passed (not (agrees view 0 (view_sum view))) 7 _ c.1 in
    let e = first_passed (ltb 1 (word_kind (field 4 view 0))) 8 _ d.1 in
    record {
      eight = ltb-false _ _ a.0;
      marked = eqb-true _ _ (not-false _ b.0);
      room = ltb-false _ _ c.0;
      agreed = not-false _ d.0;
      typed = ltb-false _ _ e.0;
    }

pub parsing : (mark : ℕ) (view : List ℕ) → Parses mark view → first_of (parse_tests mark view) ≡ 0
unfolding parse_tests
parsing mark view v = simp (le-ltb _ _ v.eight, eq-eqb _ _ v.marked, le-ltb _ _ v.room, v.agreed, le-ltb _ _ v.typed)
