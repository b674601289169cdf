-- The sum of a run, from the sums of its parts: what a loop over bytes and a caller of `update` need.
-- Assumes nothing.
use mathlib.Core.Path.{◌≡◌, refl, sym, ap, ap₂, ◌∙◌}
use mathlib.Core.List.{List, [], ◌∷◌, ◌++◌}
use Prim.Native.Nat.{ℕ, zero, suc, ◌+◌, ◌/◌, ◌%◌, ◌*◌, ◌^◌, ◌<◌, ◌≤◌}
use native.Mathlib.Nat.{mod-lt, zero-mul, suc-mul, add_comm}
use native.Mathlib.Numerals.{add-one}
use native.Mathlib.Omega.{arith}
use lib.Dec.{lit<}
use lib.Pow.{pow_pos, shr_lt, split}
use lib.Bits.{bit_xor, xor_self, xor_shifted}
use lib.ListN.{length, take, drop, get_or, take-append-drop, drop_of_length-le}
use lib.Seq.{drop-cons, drop-drop, get_or-take, get_or-drop}
use Rattle.std.specs.Simd.{first_chunks}
use Rattle.checksum.specs.Catalogue.{taken, step, steps, byte, crc_from, crc16}
use Rattle.checksum.proofs.Xor.{xor_assoc}
use Rattle.checksum.proofs.Linear.{byte_lt, two_bytes}

-- ---- a run in two parts

pub crc_from_append : (r : ℕ) (a b : List ℕ) → crc_from r (a ++ b) ≡ crc_from (crc_from r a) b
unfolding crc_from
crc_from_append r [] b = refl
crc_from_append r (x ∷ a) b = crc_from_append (byte r x) a b

pub crc16_append : (a b : List ℕ) → crc16 (a ++ b) ≡ crc_from (crc16 a) b
unfolding crc16
crc16_append a b = crc_from_append 0xffff a b

-- at any place, past the end too
pub crc16_split : (i : ℕ) (s : List ℕ) → crc16 s ≡ crc_from (crc16 (take i s)) (drop i s)
crc16_split i s = ap crc16 (sym (take-append-drop i s)) ∙ crc16_append (take i s) (drop i s)

-- ---- a run from a place on, whose sum from the register r is the whole run's: the next byte is taken, or the next two, or
-- there is none

pub crc_from_next : {whole : ℕ} (r i o : ℕ) (s : List ℕ) → crc_from r (drop i s) ≡ whole → i < length s → o ≡ byte r (get_or s i 0)
    → crc_from o (drop (i + 1) s) ≡ whole
unfolding crc_from
crc_from_next r i o s before h e = rw (e, add-one, sym before, drop-cons s i 0) refl

-- the next two, wherever they stand
pub crc_from_pair : (r i o : ℕ) (s : List ℕ) → i + 1 < length s → o ≡ byte (byte r (get_or s i 0)) (get_or s (i + 1) 0)
    → crc_from o (drop (i + 2) s) ≡ crc_from r (drop i s)
crc_from_pair r i o s h e =
    let two : i + 2 ≡ i + 1 + 1 = omega arith in
    ap (λ (k : ℕ). crc_from o (drop k s)) two
    ∙ crc_from_next (byte r (get_or s i 0)) (i + 1) o s (crc_from_next r i (byte r (get_or s i 0)) s refl (omega arith) refl) h e

-- a chunk of a run
pub chunk_at : (n k i : ℕ) (s : List ℕ) → i < k → get_or (first_chunks n k s) i [] ≡ take n (drop (i * n) s)
chunk_at n zero i s h = absurd (omega arith)
chunk_at n (suc k) zero s h = ap (λ (j : ℕ). take n (drop j s)) (sym (zero-mul n))
chunk_at n (suc k) (suc i) s h =
    chunk_at n k i (drop n s) (omega arith)
    ∙ ap (take n) (drop-drop (i * n) n s ∙ ap (λ (j : ℕ). drop j s) (add_comm n (i * n) ∙ sym (suc-mul i n)))

pub crc_from_chunk : {whole : ℕ} (r i o : ℕ) (s : List ℕ) {pairs : List (List ℕ)} → crc_from r (drop (i * 2) s) ≡ whole
    → pairs ≡ first_chunks 2 (length s / 2) s → i < length s / 2
    → o ≡ byte (byte r (get_or (get_or pairs i []) 0 0)) (get_or (get_or pairs i []) 1 0) → crc_from o (drop ((i + 1) * 2) s) ≡ whole
crc_from_chunk {whole} r i o s {pairs} before e h f =
    let n = i * 2 in
    let at : (j : ℕ) → j < 2 → get_or (get_or pairs i []) j 0 ≡ get_or s (n + j) 0 =
    λ j l.
    ap (λ (ps : List (List ℕ)). get_or (get_or ps i []) j 0) e
    ∙ ap (λ (p : List ℕ). get_or p j 0) (chunk_at 2 (length s / 2) i s h)
    ∙ get_or-take 2 (drop n s) j 0 l
    ∙ get_or-drop n s j 0 in
    let first : crc_from (byte r (get_or s (n + 0) 0)) (drop (n + 1) s) ≡ whole =
    crc_from_next r n _ s before (omega arith) (ap (λ (k : ℕ). byte r (get_or s k 0)) (omega arith)) in
    ap (λ (k : ℕ). crc_from o (drop k s)) (omega arith)
    ∙ crc_from_next _ (n + 1) o s first (omega arith) (f ∙ ap₂ (λ (a b : ℕ). byte (byte r a) b) (at 0 (lit< tt)) (at 1 (lit< tt)))

pub crc_from_end : {whole : ℕ} (r i : ℕ) (s : List ℕ) → crc_from r (drop i s) ≡ whole → length s ≤ i → r ≡ whole
unfolding crc_from
crc_from_end r i s before h = sym (ap (crc_from r) (drop_of_length-le s h)) ∙ before

-- ---- a sum is below 2 ^ 16, whatever is summed

pub crc_from_lt : (r : ℕ) (bs : List ℕ) → r < 2 ^ 16 → crc_from r bs < 2 ^ 16
unfolding crc_from
crc_from_lt r [] h = h
crc_from_lt r (b ∷ bs) h = crc_from_lt (byte r b) bs (byte_lt r b)

pub crc16_lt : (bs : List ℕ) → crc16 bs < 2 ^ 16
unfolding crc16
crc16_lt bs = crc_from_lt 0xffff bs (lit< tt)

-- ---- the last two words of the catalogue's entry

-- check=0x29b1: the sum of "123456789"
pub check_value : crc16 (0x31 ∷ 0x32 ∷ 0x33 ∷ 0x34 ∷ 0x35 ∷ 0x36 ∷ 0x37 ∷ 0x38 ∷ 0x39 ∷ []) ≡ 0x29b1
unfolding crc16 crc_from byte steps step taken
check_value = refl

-- residue=0x0000: after a run and then its own sum, upper half first, the register is 0
pub residue : (bs : List ℕ) → crc16 (bs ++ (crc16 bs / 2 ^ 8 ∷ crc16 bs % 2 ^ 8 ∷ [])) ≡ 0
unfolding crc_from steps step taken
residue bs =
    let r : ℕ = crc16 bs in
    let up : ℕ = r / 2 ^ 8 in
    let low : ℕ = r % 2 ^ 8 in
    let small : low < 2 ^ 8 = mod-lt r (pow_pos 8) in
    let gone : bit_xor (bit_xor r (up * 2 ^ 8)) low ≡ 0 =
    xor_assoc r (up * 2 ^ 8) low ∙ ap (bit_xor r) (xor_shifted up 8 low small ∙ split r 8) ∙ xor_self r in
    crc16_append bs (up ∷ low ∷ [])
    ∙ two_bytes r up low (crc16_lt bs) (shr_lt 8 8 (crc16_lt bs)) small
    ∙ ap (λ (x : ℕ). steps 8 (steps 8 x)) gone
