-- `append::put_entry` meets its contract: what the checksum covers, the checksum of just that, and the filling up to the next line.
-- Assumes nothing.
use Prim.Native.Nat.{ℕ, ◌%◌, ◌+◌, ◌-◌, ◌^◌, ◌<◌, ◌≤◌}
use mathlib.Core.Path.{◌≡◌, ap, ap₂, ◌∙◌}
use mathlib.Core.List.{List, ◌++◌, append_assoc}
use native.Mathlib.Omega.{arith}
use lib.ListN.{length, take, drop, replicate, length-append}
use Rattle.fields.specs.Numbers.{bytes_of, aligned}
use Rattle.fields.specs.Runs.{over}
use Rattle.fields.proofs.Lines.{aligned_le, aligned_from}
use Rattle.fields.proofs.Widths.{bytes_length}
use Rattle.fields.proofs.Laying.{over_then, over_back}
use Rattle.checksum.specs.Catalogue.{crc16}
use Rattle.entry.specs.Words.{mark_from}
use Rattle.entry.specs.Layout.{head_length, length_of}
use Rattle.entry.proofs.Packing.{mark_lt}
use Rattle.entry.proofs.Standing.{head_bounds}
use Rattle.append.specs.Bytes.{Item, item, covered_of, encoded}
use Rattle.append.proofs.Encodings.{covered_length}
use Rattle.append.proofs.put_entry.Goals as goal

-- where the checksum goes and the entry ends, and that all of it fits
pub record Room (at kind klen vlen sum n : ℕ) : Type 0 where
  pub is : sum ≡ at + head_length kind + vlen + klen
  pub full : aligned (sum + 2) ≤ n
  pub low : sum + 2 ≤ aligned (sum + 2)
  pub next : aligned (sum + 2) ≡ at + aligned (length_of kind klen vlen)
  pub long : n < 2 ^ 63

room : (at kind klen vlen sum n : ℕ) → at % 16 ≡ 0 → at + aligned (length_of kind klen vlen) ≤ n → sum ≡ at + head_length kind + vlen + klen → n < 2 ^ 63 → Room at kind klen vlen sum n
unfolding length_of
room at kind klen vlen sum n line fits is long =
    let next : aligned (sum + 2) ≡ at + aligned (length_of kind klen vlen) = ap aligned (omega arith) ∙ aligned_from at (length_of kind klen vlen) line in
    record { is = is; full = omega arith; low = aligned_le (sum + 2); next = next; long = omega arith }

pub put_covered-sum-requires : goal.put_covered-sum-requires
unfolding length_of
put_covered-sum-requires c =
    let a = c.args in
    let n = length_of a.asked.kind (length a.asked.key.now) (length a.asked.value.now) in
    omega (arith, mark_lt a.seed a.at, head_bounds a.asked.kind, aligned_le n)

pub slice_bounds-sum-end : goal.slice_bounds-sum-end
unfolding length_of
slice_bounds-sum-end c =
    let r = room _ _ _ _ _ _ c.requires.in_range.0 c.requires.in_region c.put_covered-sum.ensures.1 (omega arith) in omega arith

pub put-requires : goal.put-requires
unfolding length_of
put-requires c =
    let r = room _ _ _ _ _ _ c.requires.in_range.0 c.requires.in_region c.put_covered-sum.ensures.1 (omega arith) in omega arith

pub overflow_add-end : goal.overflow_add-end
unfolding length_of
overflow_add-end c =
    let r = room _ _ _ _ _ _ c.requires.in_range.0 c.requires.in_region c.put_covered-sum.ensures.1 (omega arith) in omega arith

pub align_up-next-requires : goal.align_up-next-requires
unfolding length_of
align_up-next-requires c =
    let r = room _ _ _ _ _ _ c.requires.in_range.0 c.requires.in_region c.put_covered-sum.ensures.1 (omega arith) in omega arith

pub overflow_sub-next : goal.overflow_sub-next
unfolding length_of
overflow_sub-next c =
    let r = room _ _ _ _ _ _ c.requires.in_range.0 c.requires.in_region c.put_covered-sum.ensures.1 (omega arith) in omega arith

pub fill-requires : goal.fill-requires
unfolding length_of
fill-requires c =
    let r = room _ _ _ _ _ _ c.requires.in_range.0 c.requires.in_region c.put_covered-sum.ensures.1 (omega arith) in omega arith

pub returns : goal.returns
unfolding encoded length_of
returns c =
    let a = c.args in
    let r = room _ _ _ _ _ _ c.requires.in_range.0 c.requires.in_region c.put_covered-sum.ensures.1 (omega arith) in
    let s = a.region.now in
    let i : Item = item a.asked.kind a.asked.ns a.asked.key.now a.asked.value.now in
    let covered = covered_of (mark_from a.seed a.at) i in
    let sum = c.put_covered-sum.result in
    let n1 : length covered ≡ head_length a.asked.kind + length a.asked.value.now + length a.asked.key.now = covered_length (mark_from a.seed a.at) i in
    let p1 : c.put_covered-sum.new.region ≡ over s a.at covered = c.put_covered-sum.ensures.0 ∙ ap (λ (m : ℕ). over s a.at (covered_of m i)) c.mark_at-mark.ensures in
    let n : sum - a.at ≡ length covered = omega arith in
    let q : c.sum-crc.result ≡ crc16 covered =
    c.sum-crc.ensures ∙ ap crc16 (ap₂ (λ (k : ℕ) (t : List ℕ). take k (drop a.at t)) n p1 ∙ over_back s a.at covered (omega arith)) in
    let p2 : c.put.new.region ≡ over s a.at (covered ++ bytes_of 2 (crc16 covered)) =
    over_then s a.at covered (bytes_of 2 (crc16 covered)) sum p1 (c.put.ensures ∙ ap (λ (v : ℕ). over c.put_covered-sum.new.region sum (bytes_of 2 v)) q) (omega arith) (omega arith) in
    let n2 : length (covered ++ bytes_of 2 (crc16 covered)) ≡ length covered + 2 = length-append covered (bytes_of 2 (crc16 covered)) ∙ ap (λ (k : ℕ). length covered + k) (bytes_length 2 (crc16 covered)) in
    let n3 : c.align_up-next.result - (sum + 2) ≡ aligned (length covered + 2) - (length covered + 2) =
    let whole : aligned (sum + 2) ≡ a.at + aligned (length covered + 2) = ap aligned (omega arith) ∙ aligned_from a.at (length covered + 2) c.requires.in_range.0 in
    omega (arith, c.align_up-next.ensures) in
    let filling : List ℕ = replicate (aligned (length covered + 2) - (length covered + 2)) 0xff in
    let p3 : c.fill.new.region ≡ over s a.at ((covered ++ bytes_of 2 (crc16 covered)) ++ filling) =
    over_then s a.at (covered ++ bytes_of 2 (crc16 covered)) filling (sum + 2) p2 (c.fill.ensures ∙ ap (λ (v : ℕ). over c.put.new.region (sum + 2) (replicate v 0xff)) n3) (omega arith) (omega arith) in
    (p3 ∙ ap (over s a.at) (append_assoc covered (bytes_of 2 (crc16 covered)) filling), c.align_up-next.ensures ∙ r.next)
