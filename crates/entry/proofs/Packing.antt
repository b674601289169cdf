-- The word and the mark: what was assembled is split again, and the other way round.
-- Assumes nothing.
use Prim.Native.Nat.{ℕ, ◌^◌, ◌<◌}
use mathlib.Core.Path.{◌≡◌}
use native.Mathlib.Omega.{arith}
use Rattle.entry.specs.Words.{mark_from, word_of, word_mark, word_namespace, word_kind}

module _ (mark ns kind : ℕ) (hm : mark < 2 ^ 24) (hn : ns < 2 ^ 6) (hk : kind < 2 ^ 2) where
  pub word_lt : word_of mark ns kind < 2 ^ 32
  unfolding word_of
  word_lt = omega arith

  pub mark_of_word : word_mark (word_of mark ns kind) ≡ mark
  unfolding word_mark word_of
  mark_of_word = omega arith

  pub namespace_of_word : word_namespace (word_of mark ns kind) ≡ ns
  unfolding word_namespace word_of
  namespace_of_word = omega arith

  pub kind_of_word : word_kind (word_of mark ns kind) ≡ kind
  unfolding word_kind word_of
  kind_of_word = omega arith

pub word_of_parts : (word : ℕ) → word < 2 ^ 32 → word_of (word_mark word) (word_namespace word) (word_kind word) ≡ word
unfolding word_mark word_namespace word_kind word_of
word_of_parts word h = omega arith

pub kind_lt : (word : ℕ) → word_kind word < 2 ^ 2
unfolding word_kind
kind_lt word = omega arith

pub namespace_lt : (word : ℕ) → word_namespace word < 2 ^ 6
unfolding word_namespace
namespace_lt word = omega arith

pub mark_lt : (seed p : ℕ) → mark_from seed p < 2 ^ 24
unfolding mark_from
mark_lt seed p = omega arith
