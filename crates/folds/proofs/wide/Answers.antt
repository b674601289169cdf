-- `folds::wide` meets its contract.
-- Assumes nothing.
use mathlib.Core.Path.{◌≡◌, sym, ap, ◌∙◌}
use Prim.Native.Nat.{ℕ, ◌+◌, ◌-◌, ◌*◌, ◌/◌, ◌%◌, ◌<◌, ◌≤◌}
use native.Mathlib.Omega.{arith}
use lib.ListN.{length, take, drop}
use lib.Bits.{bit_xor, xor_lt}
use Rattle.checksum.proofs.Bytes.{bytes_from_places}
use Rattle.folds.specs.Leaves.{followed}
use Rattle.folds.proofs.Congruence.{same_of, same_trans, same_shift}
use Rattle.folds.proofs.Numbers.{followed_reads, behind_length, reads_chunk, halves_joined, followed_chunk, followed_half, followed_turn}
use Rattle.folds.proofs.wide.Goals as goal

pub loop-turn-init : goal.loop-turn-init
loop-turn-init c =
    let s = c.args.s.now in
    let x = c.args.x in
    same_of
    (followed_reads s x 8 8 (omega arith) c.eight.ensures
    ∙ ap (λ (y : ℕ). followed y (drop 16 s)) (sym (halves_joined x c.eight.result c.ranges.x.fits c.eight.type_inv)))

pub loop-turn-preserved : goal.loop-turn-preserved
loop-turn-preserved c =
    let s = c.args.s.now in
    let l = c.loop-turn in
    let k = l.turn-index in
    let chunks = c.as_chunks.ensures in
    let rest = take (length s - 16) (drop 16 s) in
    let long : length rest ≡ length s - 16 = behind_length s 16 in
    let count : length c.as_chunks.result.0.now ≡ length rest / 16 = chunks.front_len in
    let here : k < length rest / 16 = omega arith in
    let inside : 16 + k * 16 + 16 ≤ length s = omega arith in
    same_trans l.invariant
    (followed_chunk s k (bit_xor l.early l.late) (bytes_from_places s (λ i. (c.type_inv.s i).fits)) inside
    (xor_lt 128 l.early l.late l.auto.early-fits.fits l.auto.late-fits.fits)
    (reads_chunk 15 s 16 k chunks.front here inside c.from_be_bytes.ensures c.from_be_bytes.type_inv)
    c.quotient-q.ensures)

pub returns-then-rest-lt8 : goal.returns-then-rest-lt8
returns-then-rest-lt8 c =
    let s = c.args.s.now in
    let l = c.loop-turn in
    let chunks = c.as_chunks.ensures in
    let half = followed_half s l.turn-index (bit_xor l.early l.late) (bytes_from_places s (λ i. (c.type_inv.s i).fits)) c.requires l.auto.turn-index-end
    c.loop-turn-test.false chunks.front_len chunks.back_len l.invariant c.fold.ensures.left in
    same_trans (same_shift 16 half) c.ended.ensures

pub returns : goal.returns
returns c =
    let s = c.args.s.now in
    let l = c.loop-turn in
    let chunks = c.as_chunks.ensures in
    let bytes = bytes_from_places s (λ i. (c.type_inv.s i).fits) in
    let half = followed_half s l.turn-index (bit_xor l.early l.late) bytes c.requires l.auto.turn-index-end c.loop-turn-test.false chunks.front_len
    chunks.back_len l.invariant c.fold.ensures.left in
    let n = length c.as_chunks.result.1.now in
    let after : n ≡ length (take (length s - 16) (drop 16 s)) % 16 = chunks.back_len in
    let all = behind_length s 16 in
    let inside : length s - n + 8 ≤ length s = omega arith in
    let turn = followed_turn s (length s - n) 8 _ bytes inside c.eight-2.ensures c.fold-2.ensures.left in
    same_trans (same_shift 16 (same_trans half turn)) c.ended-2.ensures
