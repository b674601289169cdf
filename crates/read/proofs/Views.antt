-- What is looked at are the region's own bytes from p on, and what the parser accepts of them lies within the region.
-- Assumes nothing.
use Prim.Native.Nat.{ℕ, ◌+◌, ◌-◌, ◌≤◌, min}
use mathlib.Core.Path.{◌≡◌, ap, ◌∙◌}
use mathlib.Core.List.{List}
use native.Mathlib.Omega.{arith}
use lib.ListN.{length, take, drop, get_or, length-take, length-drop}
use lib.Seq.{take-take, get_or-take, get_or-drop}
use Rattle.answers.specs.Answers.{accepted, first_of}
use Rattle.answers.proofs.Orders.{accepted_unrefused}
use Rattle.fields.specs.Numbers.{field}
use Rattle.fields.proofs.Widths.{field_same}
use Rattle.read.specs.Reading.{view_of, parse_tests, parse_of, fields_of}
use Rattle.read.specs.declared.Fields.{Fields}
use Rattle.read.proofs.Parsing.{parses}

module _ (region : List ℕ) (p hint : ℕ) where
  pub view_length : length (view_of region p hint) ≡ min hint (length region - p)
  unfolding view_of
  view_length = simp (length-take, length-drop) (omega arith)

  pub view_field : (n k : ℕ) → k + n ≤ length (view_of region p hint) → field n (view_of region p hint) k ≡ field n region (p + k)
  unfolding view_of
  view_field n k h =
      let l = view_length in
      field_same n (view_of region p hint) region k (p + k)
      (λ i b.
      get_or-take (min hint (length region - p)) (drop p region) (k + i) 0 (omega arith)
      ∙ get_or-drop p region (k + i) 0
      ∙ ap (λ (at : ℕ). get_or region at 0) (omega arith))

  pub view_front : (n : ℕ) → n ≤ length (view_of region p hint) → take n (view_of region p hint) ≡ take n (drop p region)
  unfolding view_of
  view_front n h = let l = view_length in take-take n (min hint (length region - p)) (drop p region) (omega arith)

pub view_room : (mark : ℕ) (region : List ℕ) (p hint : ℕ) {f : Fields} → parse_of mark (view_of region p hint) ≡ accepted f → p + f.klen + f.vlen + 10 ≤ length region
unfolding parse_of
view_room mark region p hint {f} h =
    let view = view_of region p hint in
    let a = accepted_unrefused (first_of (parse_tests mark view)) (accepted (fields_of view)) h in
    let same : fields_of view ≡ f = cc in
    rw (← same) (omega (arith, view_length region p hint, (parses mark view a.0).room))
