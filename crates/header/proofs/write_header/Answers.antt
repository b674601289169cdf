-- `header::write_header` meets its contract: five runs, one behind the other.
-- Assumes nothing.
use Prim.Native.Nat.{ℕ}
use mathlib.Core.Path.{◌≡◌, refl, sym, ap, ◌∙◌}
use Rattle.std.proofs.Common.{rules}
use mathlib.Core.List.{List, ◌++◌}
use native.Mathlib.Omega.{arith}
use borrow.Author.Tests.{le-ltb}
use lib.ListN.{replicate}
use Rattle.answers.specs.Answers.{Said, accepted, afterwards}
use Rattle.answers.specs.Versions.{version_refusal}
use Rattle.fields.specs.Numbers.{bytes_of}
use Rattle.fields.specs.Runs.{over}
use Rattle.fields.proofs.Laying.{over_then}
use Rattle.header.specs.Header.{signature, header_of, write_of}
use Rattle.header.proofs.write_header.Goals as goal

pub returns : goal.returns
unfolding write_of header_of signature bytes_of version_refusal
returns c =
    let s = c.args.lent.now in
    let a = bytes_of 8 0x3154_4144_4B43_4F4C in
    let b = bytes_of 4 c.args.file.version in
    let d = bytes_of 4 0 in
    let e = bytes_of 8 c.args.file.ordinal in
    let zeros : List ℕ = replicate 4072 0 in
    let p2 = over_then s 0 a b 8 c.put.ensures c.put-2.ensures refl (omega arith) in
    let p3 = over_then s 0 (a ++ b) d 12 p2 c.put-3.ensures refl (omega arith) in
    let p4 = over_then s 0 ((a ++ b) ++ d) e 16 p3 c.put-4.ensures refl (omega arith) in
    let p5 = over_then s 0 (((a ++ b) ++ d) ++ e) zeros 24 p4 c.fill.ensures refl (omega arith) in
    let long = le-ltb _ _ c.if-lent-lt-HEADER_LENGTH.false in
    let passed : write_of s c.args.file.version ≡ accepted tt = search rules in
    record { says = sym passed; leaves = p5 ∙ sym (ap (λ (x : Said (Unit {0})). afterwards x s (over s 0 (header_of c.args.file.version c.args.file.ordinal))) passed) }
