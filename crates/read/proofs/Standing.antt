-- The read at a place and the walk tell the same of a line. The read answers an entry exactly where the line verifies, holds data and is looked at
-- whole, and then it is the entry that stands there, its type too (`found_verified` of scan/proofs/Trials: so it is with the walk).
-- Assumes nothing.
use Prim.Native.Nat.{ℕ, zero, suc, ◌+◌, ◌-◌, ◌%◌, ◌≤◌}
use mathlib.Core.Path.{◌≡◌, refl, sym, ap, ◌∙◌}
use mathlib.Core.List.{List}
use mathlib.Core.Bool.{not}
use native.Mathlib.Omega.{arith}
use borrow.Author.Tests.{ltb-false, eqb-true, le-ltb, eq-eqb, not-false}
use lib.ListN.{length, take, drop}
use lib.Dec.{ltb, eqb}
use Rattle.answers.specs.Answers.{accepted, first_of, unless_refused}
use Rattle.answers.specs.Limits.{largest_region}
use Rattle.answers.proofs.Orders.{first_passed, accepted_unrefused}
use Rattle.fields.specs.Numbers.{field}
use Rattle.checksum.specs.Catalogue.{crc16}
use Rattle.entry.specs.Words.{word_mark, word_kind}
use Rattle.entry.specs.Layout.{entry_at, sum_place}
use Rattle.entry.specs.declared.Entry.{Entry}
use Rattle.entry.proofs.Standing.{Verified, entry_kind, entry_sum, data_entry, data_sum, agreed, agreeing}
use Rattle.read.specs.Reading.{view_of, view_sum, parse_tests, parse_of, fields_of, at, read_of}
use Rattle.read.specs.declared.Fields.{Fields}
use Rattle.read.proofs.Parsing.{Parses, parses, parsing}
use Rattle.read.proofs.Views.{view_length, view_field, view_front}

pub record Readable (mark : ℕ → ℕ) (s : List ℕ) (p hint : ℕ) (e : Entry) : Type 0 where
  pub small : length s ≤ largest_region
  pub line : p % 16 ≡ 0
  pub stands : Verified mark s p e
  pub typed : e.kind ≤ 1
  pub seen : e.end ≤ p + hint

-- an entry is answered where the parser refuses nothing
at_unrefused : (p n : ℕ) (f : Fields) {e : Entry} → at p (unless_refused n (accepted f)) ≡ accepted e → (n ≡ 0) × (at p (accepted f) ≡ accepted e)
at_unrefused p zero f h = (refl, h)
at_unrefused p (suc n) f h = absurd (let z : ◌≡◌ {A = ℕ} 0 1 = cc in omega arith)

module _ (mark : ℕ → ℕ) (s : List ℕ) (p hint : ℕ) where
  abbrev view : List ℕ
  view = view_of s p hint

  -- the view's fields are the line's
  view_word : 8 ≤ length view → field 4 view 0 ≡ field 4 s p
  view_word h = view_field s p hint 4 0 (omega arith) ∙ ap (field 4 s) (omega arith)

  view_klen_lem : 8 ≤ length view → field 2 view 4 ≡ field 2 s (p + 4)
  view_klen_lem h = view_field s p hint 2 4 (omega arith)

  view_vlen_lem : 8 ≤ length view → field 2 view 6 ≡ field 2 s (p + 6)
  view_vlen_lem h = view_field s p hint 2 6 (omega arith)

  view_entry : 8 ≤ length view → word_kind (field 4 view 0) ≤ 1 → at p (accepted (fields_of view)) ≡ accepted (entry_at s p)
  view_entry h d = simp (view_word h, view_klen_lem h, view_vlen_lem h) (ap accepted (data_entry s p (rw (view_word h) at d)))

  -- the checksum's place in the view, from the line's own
  view_sum_lem : 8 ≤ length view → word_kind (field 4 view 0) ≤ 1 → sum_place (entry_at s p) ≡ p + view_sum view
  view_sum_lem h d = data_sum s p (rw (view_word h) at d) ∙ simp (view_klen_lem h, view_vlen_lem h)

  -- and the bytes up to it, with the two behind them, are the line's
  view_agreed : 8 ≤ length view → word_kind (field 4 view 0) ≤ 1 → view_sum view + 2 ≤ length view → (field 2 view (view_sum view) ≡ field 2 s (sum_place (entry_at s p))) × (take (view_sum view - 0) view ≡ take (sum_place (entry_at s p) - p) (drop p s))
  view_agreed h d room =
      let sum = view_sum_lem h d in
      let all : view_sum view - 0 ≡ view_sum view = omega arith in
      let from-p : view_sum view ≡ sum_place (entry_at s p) - p = omega arith in (
        view_field s p hint 2 (view_sum view) (omega arith) ∙ ap (field 2 s) (sym sum),
        ap (λ (k : ℕ). take k view) all ∙ view_front s p hint (view_sum view) (omega arith) ∙ ap (λ (k : ℕ). take k (drop p s)) from-p,
      )

  pub read_stands : {e : Entry} → read_of mark s p hint ≡ accepted e → Readable mark s p hint e
  unfolding read_of parse_of
  read_stands {e} h =
      let a = accepted_unrefused _ (at p (parse_of (mark p) view)) h in
      let small = first_passed (ltb largest_region (length s)) 2 _ a.0 in
      let line = first_passed (not (eqb (p % 16) 0)) 4 _ small.1 in
      let b = at_unrefused p (first_of (parse_tests (mark p) view)) (fields_of view) a.1 in
      let v = parses (mark p) view b.0 in
      let long = view_length s p hint in
      let word = view_word v.eight in
      let plain : word_kind (field 4 s p) ≤ 1 = rw word at v.typed in
      let same = view_agreed v.eight v.typed v.room in
      let told = view_entry v.eight v.typed in
      let is : entry_at s p ≡ e = let both : accepted (entry_at s p) ≡ accepted e = sym told ∙ b.1 in cc in
      let end = entry_sum s p in
      let sum = view_sum_lem v.eight v.typed in
      let room = v.room in
      let eight = v.eight in
      record {
        small = ltb-false _ _ small.0;
        line = eqb-true _ _ (not-false _ line.0);
        stands =
            record {
              is = is;
              room = omega arith;
              marked = ap word_mark (sym word) ∙ v.marked;
              known = omega arith;
              within = omega arith;
              agreed = sym same.0 ∙ agreed view 0 (view_sum view) v.agreed ∙ ap crc16 same.1;
            };
        typed = rw (← is, entry_kind s p) plain;
        seen = rw (← is) (omega arith);
      }

  pub stands_read : {e : Entry} → Readable mark s p hint e → read_of mark s p hint ≡ accepted e
  unfolding read_of parse_of
  stands_read {e} r =
      let v = r.stands in
      let plain : word_kind (field 4 s p) ≤ 1 = rw (← entry_kind s p, v.is) r.typed in
      let place = data_sum s p plain in
      let end = entry_sum s p in
      let within = v.within in
      let seen : (entry_at s p).end ≤ p + hint = rw v.is r.seen in
      let long = view_length s p hint in
      let eight : 8 ≤ length view = omega arith in
      let word = view_word eight in
      let kind : word_kind (field 4 view 0) ≤ 1 = rw word plain in
      let sum = view_sum_lem eight kind in
      let room : view_sum view + 2 ≤ length view = omega arith in
      let same = view_agreed eight kind room in
      let parsed : Parses (mark p) view =
      record {
        eight = eight;
        marked = ap word_mark word ∙ v.marked;
        room = room;
        agreed = agreeing view 0 (view_sum view) (same.0 ∙ v.agreed ∙ ap crc16 (sym same.1));
        typed = kind;
      } in
      simp (le-ltb _ _ r.small, eq-eqb _ _ r.line, parsing (mark p) view parsed) (view_entry eight kind ∙ ap accepted v.is)
