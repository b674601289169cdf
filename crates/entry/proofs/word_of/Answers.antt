-- `entry::word_of` meets its contract: the three parts share no bit, so that to join them is to add them.
-- Assumes nothing.
use Prim.Native.Nat.{ℕ, ◌+◌, ◌*◌, ◌%◌, ◌^◌}
use mathlib.Core.Path.{◌≡◌, ap, ap₂, ◌∙◌}
use native.Mathlib.Omega.{arith}
use lib.Bits.{bit_or, or_shifted}
use Rattle.entry.specs.Words.{word_of}
use Rattle.entry.proofs.word_of.Goals as goal

pub returns : goal.returns
unfolding word_of
returns c =
    let kind = c.args.kind in
    let ns = c.args.ns in
    let mark = c.args.mark in
    let high : kind * 2 ^ 30 % 2 ^ 64 ≡ kind * 2 ^ 30 = omega arith in
    let middle : ns * 2 ^ 24 % 2 ^ 64 ≡ ns * 2 ^ 24 = omega arith in
    let upper : bit_or (kind * 2 ^ 30) (ns * 2 ^ 24) ≡ kind * 2 ^ 30 + ns * 2 ^ 24 = or_shifted kind 30 (ns * 2 ^ 24) (omega arith) in
    let lifted : kind * 2 ^ 30 + ns * 2 ^ 24 ≡ (kind * 64 + ns) * 2 ^ 24 = omega arith in
    let joined : bit_or ((kind * 64 + ns) * 2 ^ 24) mark ≡ (kind * 64 + ns) * 2 ^ 24 + mark = or_shifted (kind * 64 + ns) 24 mark (omega arith) in
    ap (λ (x : ℕ). bit_or x mark) (ap₂ bit_or high middle ∙ upper ∙ lifted) ∙ joined ∙ omega arith
