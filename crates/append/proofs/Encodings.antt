-- How long the parts of a written entry are.
-- Assumes nothing.
use Prim.Native.Nat.{ℕ, ◌+◌}
use mathlib.Core.Path.{◌≡◌, refl, ap}
use mathlib.Core.List.{[]}
use mathlib.Core.Bool.{Bool, true, false}
use native.Mathlib.Omega.{arith}
use lib.ListN.{length, length-append, length-replicate}
use lib.Dec.{eqb}
use Rattle.answers.specs.Answers.{pick_number}
use Rattle.fields.specs.Numbers.{bytes_of, aligned}
use Rattle.fields.proofs.Lines.{aligned_le}
use Rattle.fields.proofs.Widths.{bytes_length}
use Rattle.entry.specs.Layout.{head_length, length_of}
use Rattle.append.specs.Bytes.{Item, pick_bytes, head_of, covered_of, encoded, item_length, size_of}

pub head_length_lem : (word kind klen vlen : ℕ) → length (head_of word kind klen vlen) ≡ head_length kind
unfolding head_of head_length
head_length_lem word kind klen vlen = simp (length-append, bytes_length) (go (eqb kind 2))
  where
    go : (b : Bool) → 4 + (2 + length (pick_bytes b [] (bytes_of 2 vlen))) ≡ pick_number b 6 8
    go true = refl
    go false = simp bytes_length

pub covered_length : (mark : ℕ) (i : Item) → length (covered_of mark i) ≡ head_length i.kind + length i.value + length i.key
unfolding covered_of
covered_length mark i = simp (length-append, head_length_lem) (omega arith)

pub covered_and_sum : (mark : ℕ) (i : Item) → length (covered_of mark i) + 2 ≡ item_length i
unfolding length_of
covered_and_sum mark i = let c = covered_length mark i in omega arith

pub encoded_length : (mark : ℕ) (i : Item) → length (encoded mark i) ≡ size_of i
unfolding encoded
encoded_length mark i =
    let n = covered_and_sum mark i in
    let whole : aligned (length (covered_of mark i) + 2) ≡ size_of i = ap aligned n in
    let low = aligned_le (length (covered_of mark i) + 2) in
    simp (length-append, length-replicate, bytes_length) (omega arith)
