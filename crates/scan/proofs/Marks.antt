-- Two marks are one where they don't differ.
-- Assumes nothing.
use Prim.Native.Nat.{ℕ, ◌%◌, ◌^◌}
use mathlib.Core.Path.{◌≡◌, sym, ap, ◌∙◌}
use lib.Bits.{bit_xor, xor_mod, xor_self, xor_zero_l, xor_zero_r}
use native.Mathlib.Nat.{mod-eq_of_lt}
use Rattle.checksum.proofs.Xor.{xor_assoc}
use Rattle.entry.specs.Words.{mark_from, word_mark}
use Rattle.entry.proofs.Packing.{mark_lt}

module _ (word seed p : ℕ) where
  apart : word_mark (bit_xor word (mark_from seed p)) ≡ bit_xor (word_mark word) (mark_from seed p)
  unfolding word_mark
  apart = xor_mod word (mark_from seed p) 24 ∙ ap (bit_xor (word % 2 ^ 24)) (mod-eq_of_lt (mark_lt seed p))

  pub differs_not : word_mark word ≡ mark_from seed p → word_mark (bit_xor word (mark_from seed p)) ≡ 0
  differs_not e = apart ∙ ap (λ (x : ℕ). bit_xor x (mark_from seed p)) e ∙ xor_self (mark_from seed p)

  pub differs : word_mark (bit_xor word (mark_from seed p)) ≡ 0 → word_mark word ≡ mark_from seed p
  differs e =
      let m = mark_from seed p in
      let w = word_mark word in
      sym (xor_zero_r w) ∙ ap (bit_xor w) (sym e ∙ apart) ∙ sym (xor_assoc w w m) ∙ ap (λ (x : ℕ). bit_xor x m) (xor_self w) ∙ xor_zero_l m
