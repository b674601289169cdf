-- What an accepted header says of its bytes, for callers that go on behind it.
-- Assumes nothing.
use Prim.Native.Nat.{ℕ, ◌≤◌}
use mathlib.Core.Path.{◌≡◌, sym, ap, ◌∙◌}
use mathlib.Core.List.{List}
use mathlib.Core.Bool.{true, not}
use borrow.Author.Tests.{ltb-false}
use lib.ListN.{length}
use lib.Dec.{ltb, eqb}
use Rattle.answers.specs.Answers.{Said, accepted, first_of}
use Rattle.answers.specs.Versions.{is_version}
use Rattle.answers.proofs.Orders.{not-false, first_passed, accepted_unrefused}
use Rattle.fields.specs.Numbers.{field}
use Rattle.header.specs.Header.{signature, read_tests, read_of}

module _ (s : List ℕ) {version ordinal : ℕ} (e : read_of s ≡ accepted (version, ordinal)) where
  -- no test refused it
  passed : first_of (read_tests s) ≡ 0
  unfolding read_of
  passed = (accepted_unrefused (first_of (read_tests s)) _ e).0

  -- the data region begins within a file whose header was accepted
  pub accepted_long : 4096 ≤ length s
  unfolding read_tests
  accepted_long = ltb-false (length s) 4096 (first_passed (ltb (length s) 4096) 0 _ passed).0

  -- and its version is one of the two
  pub accepted_version : is_version version ≡ true
  unfolding read_of read_tests
  accepted_version =
      let a = first_passed (ltb (length s) 4096) 0 _ passed in
      let b = first_passed (not (eqb (field 8 s 0) (field 8 signature 0))) 1 _ a.1 in
      let c = first_passed (not (is_version (field 4 s 8))) 1 _ b.1 in
      let same : ◌≡◌ {A = Said (ℕ × ℕ)} (accepted (field 4 s 8, field 8 s 16)) (accepted (version, ordinal)) = (accepted_unrefused (first_of (read_tests s)) (accepted (field 4 s 8, field 8 s 16)) e).1 in
      let both : ◌≡◌ {A = ℕ × ℕ} (field 4 s 8, field 8 s 16) (version, ordinal) = cc in
      ap is_version (sym (ap (λ (x : ℕ × ℕ). x.0) both)) ∙ not-false (is_version (field 4 s 8)) c.0
