-- Runs of bytes as numbers: a run in two parts, and a number with a run behind it.
-- Assumes nothing.
use mathlib.Core.Path.{◌≡◌, refl, sym, ap, ap₂, subst, ◌∙◌}
use mathlib.Core.Logic.{⊎_elim}
use mathlib.Core.List.{List, [], ◌∷◌, ◌++◌}
use Prim.Native.Nat.{ℕ, zero, suc, ◌+◌, ◌-◌, ◌*◌, ◌/◌, ◌%◌, ◌^◌, ◌<◌, ◌≤◌}
use native.Mathlib.Nat.{one-mul, eq-or-lt_of_le, mod-zero, mod-eq_of_lt, pow-suc, mul_comm, mul_assoc, add-mul, add_assoc, add-zero, mod-lt}
use native.Mathlib.Omega.{arith}
use lib.Arith.{digits_lt}
use lib.ListN.{length, take, drop, get_or, take-append-drop, length-drop, drop_of_length-le}
use lib.Seq.{take-add, take_all, drop-drop, drop-cons, length-take-le}
use lib.Dec.{lit<, lit≤}
use lib.Pow.{pow_pos, pow-add, low, shr_lt, shl_lt, shl_exact}
use lib.Bits.{bit_xor, xor_lt, xor_block, xor_shifted, xor_comm, xor_zero_r}
use Rattle.std.specs.Int.{sum_through, byte_worth}
use Rattle.std.specs.Simd.{first_chunks}
use Rattle.std.proofs.lemmas.List.{take_rest}
use Rattle.checksum.specs.Catalogue.{byte, crc_from}
use Rattle.checksum.specs.Remainder.{value, dividend, AreBytes}
use Rattle.checksum.proofs.Xor.{xor_assoc, xor_swap, xor_shift}
use Rattle.checksum.proofs.Linear.{place_lt, byte_by_place, steps_lt}
use Rattle.checksum.proofs.Runs.{crc_from_lt, chunk_at}
use Rattle.checksum.proofs.Divides.{more_bits, value_lt, crc_from_apart}
use Rattle.checksum.proofs.Bytes.{bytes_from_places, bytes_drop}
use Rattle.folds.specs.Leaves.{Same, Reads, followed}
use Rattle.folds.proofs.Congruence.{same_of, same_sym, same_trans, same_xor, same_shift, same_low, same_above, same_split, same_steps}
use Rattle.folds.specs.Folded.{quotient, folded}
use Rattle.folds.proofs.Folds.{shl_parts, fold, power_8}

-- ---- a number with a run behind it

regroup : (x u a v b : ℕ) → x * (u * v) + (a * v + b) ≡ (x * u + a) * v + b
regroup x u a v b =
    sym (add_assoc (x * (u * v)) (a * v) b)
    ∙ ap (λ (y : ℕ). y + b) (ap (λ (y : ℕ). y + a * v) (sym (mul_assoc x u v)) ∙ sym (add-mul (x * u) a v))

pub followed_none : (x : ℕ) → followed x [] ≡ x
unfolding followed value
followed_none x = omega arith

followed_more : (x b : ℕ) (bs : List ℕ) → followed x (b ∷ bs) ≡ followed (x * 2 ^ 8 + b) bs
unfolding followed value
followed_more x b bs =
    ap (λ (y : ℕ). x * y + (b * 2 ^ (8 * length bs) + value bs)) (more_bits (length bs))
    ∙ regroup x (2 ^ 8) b (2 ^ (8 * length bs)) (value bs)

-- a run in two parts
followed_append : (x : ℕ) (a b : List ℕ) → followed x (a ++ b) ≡ followed (followed x a) b
followed_append x [] b = ap (λ (y : ℕ). followed y b) (sym (followed_none x))
followed_append x (c ∷ a) b =
    followed_more x c (a ++ b) ∙ followed_append (x * 2 ^ 8 + c) a b ∙ ap (λ (y : ℕ). followed y b) (sym (followed_more x c a))

-- a run by itself stands behind 0
value_followed : (bs : List ℕ) → value bs ≡ followed 0 bs
unfolding followed
value_followed bs = omega arith

-- the run from place i on, cut behind its first n bytes
followed_cut : (x i n : ℕ) (s : List ℕ) → followed x (drop i s) ≡ followed (followed x (take n (drop i s))) (drop (i + n) s)
followed_cut x i n s =
    ap (followed x) (sym (take-append-drop n (drop i s)))
    ∙ followed_append x (take n (drop i s)) (drop n (drop i s))
    ∙ ap (followed (followed x (take n (drop i s)))) (drop-drop n i s)

-- ---- what is read

part_length : (s : List ℕ) (i n : ℕ) → i + n ≤ length s → length (take n (drop i s)) ≡ n
part_length s i n h = length-take-le n (drop i s) (simp length-drop (omega arith))

-- bytes as std reads them, the first highest, make the same number

sum_front : (f : ℕ → ℕ) (n : ℕ) → sum_through f (suc n) ≡ f 0 + sum_through (λ i. f (suc i)) n
sum_front f zero = refl
sum_front f (suc n) = let e = sum_front f n in omega arith

sum_same : (f g : ℕ → ℕ) (n : ℕ) → ((i : ℕ) → i ≤ n → f i ≡ g i) → sum_through f n ≡ sum_through g n
sum_same f g zero h = h 0 (omega arith)
sum_same f g (suc n) h = ap₂ (λ (a b : ℕ). a + b) (sum_same f g n (λ i l. h i (omega arith))) (h (suc n) (omega arith))

bits_of : (k : ℕ) → 256 ^ k ≡ 2 ^ (8 * k)
bits_of zero = refl
bits_of (suc k) = pow-suc 256 k ∙ ap (λ (n : ℕ). n * 256) (bits_of k) ∙ mul_comm (2 ^ (8 * k)) 256 ∙ sym (more_bits k)

number_of : (n : ℕ) (bs : List ℕ) → length bs ≡ suc n → sum_through (λ i. byte_worth (n - i) (get_or bs i 0)) n ≡ value bs
unfolding value
number_of n [] l = absurd (omega arith)
number_of zero (b ∷ []) l = omega arith
number_of zero (b ∷ c ∷ bs) l = absurd (omega arith)
number_of (suc n) (b ∷ bs) l =
    let long : length bs ≡ suc n = omega arith in
    let first : suc n - 0 ≡ suc n = omega arith in
    let down : (i : ℕ) → suc n - suc i ≡ n - i = λ i. omega arith in
    let top : byte_worth (suc n - 0) b ≡ b * 2 ^ (8 * length bs) =
    ap (λ (k : ℕ). byte_worth k b) first ∙ ap (λ (k : ℕ). b * k) (bits_of (suc n)) ∙ ap (λ (k : ℕ). b * 2 ^ (8 * k)) (sym long) in
    sum_front (λ i. byte_worth (suc n - i) (get_or (b ∷ bs) i 0)) n
    ∙ ap₂ (λ (x y : ℕ). x + y) top
    (sum_same _ _ n (λ i h. ap (λ (k : ℕ). byte_worth k (get_or bs i 0)) (down i)) ∙ number_of n bs long)

pub reads : (n : ℕ) (s : List ℕ) (i : ℕ) {r : ℕ} {bytes : List ℕ} → r ≡ sum_through (λ k. byte_worth (n - k) (get_or bytes k 0)) n → bytes ≡ take (suc n) (drop i s)
    → i + suc n ≤ length s → r < 2 ^ (8 * suc n) → Reads s i (suc n) r
reads n s i {r} {bytes} e copied inside small =
    record { is = e ∙ number_of n bytes (ap length copied ∙ part_length s i (suc n) inside) ∙ ap value copied; small = small }

pub reads_one : (s : List ℕ) (i b : ℕ) → i < length s → b ≡ get_or s i 0 → b < 2 ^ 8 → Reads s i 1 b
unfolding value
reads_one s i b h e l =
    let f : b ≡ get_or s i 0 * 2 ^ 0 + 0 = omega arith in
    record { is = f ∙ ap (λ (d : List ℕ). value (take 1 d)) (sym (drop-cons s i 0 h)); small = l }

-- they stand in a chunk of what is behind place i

pub behind_length : (s : List ℕ) (i : ℕ) → length (take (length s - i) (drop i s)) ≡ length s - i
behind_length s i = ap length (take_rest s i) ∙ length-drop i s

pub reads_chunk : (n : ℕ) (s : List ℕ) (i k : ℕ) {r : ℕ} {chunks : List (List ℕ)} → let behind = take (length s - i) (drop i s) in
    chunks ≡ first_chunks (suc n) (length behind / suc n) behind → k < length behind / suc n → i + k * suc n + suc n ≤ length s
    → r ≡ sum_through (λ j. byte_worth (n - j) (get_or (get_or chunks k []) j 0)) n → r < 2 ^ (8 * suc n) → Reads s (i + k * suc n) (suc n) r
reads_chunk n s i k {r} {chunks} e h inside f small =
    let behind = take (length s - i) (drop i s) in
    reads n s (i + k * suc n) f
    (ap (λ (cs : List (List ℕ)). get_or cs k []) e
    ∙ chunk_at (suc n) (length behind / suc n) k behind h
    ∙ ap (λ (bs : List ℕ). take (suc n) (drop (k * suc n) bs)) (take_rest s i)
    ∙ ap (take (suc n)) (drop-drop (k * suc n) i s))
    inside
    small

-- x with the number behind it that was read
followed_read : (s : List ℕ) (x i n w : ℕ) → i + n ≤ length s → Reads s i n w → followed x (take n (drop i s)) ≡ x * 2 ^ (8 * n) + w
unfolding followed
followed_read s x i n w h r = ap₂ (λ (k v : ℕ). x * 2 ^ (8 * k) + v) (part_length s i n h) (sym r.is)

-- two numbers that stand side by side are one
pub reads_both : (s : List ℕ) (i n m : ℕ) {a b : ℕ} → i + n + m ≤ length s → Reads s i n a → Reads s (i + n) m b → Reads s i (n + m) (a * 2 ^ (8 * m) + b)
reads_both s i n m {a} {b} h p q =
    let e : 8 * (n + m) ≡ 8 * n + 8 * m = omega arith in
    let w : 2 ^ (8 * (n + m)) ≡ 2 ^ (8 * n) * 2 ^ (8 * m) = ap (λ (k : ℕ). 2 ^ k) e ∙ pow-add 2 (8 * n) (8 * m) in
    let first = take n (drop i s) in
    record {
      is =
          sym
          (ap value (take-add n m (drop i s) ∙ ap (λ (d : List ℕ). first ++ take m d) (drop-drop n i s))
          ∙ value_followed (first ++ take m (drop (i + n) s))
          ∙ followed_append 0 first (take m (drop (i + n) s))
          ∙ ap (λ (y : ℕ). followed y (take m (drop (i + n) s))) (sym (value_followed first) ∙ sym p.is)
          ∙ followed_read s a (i + n) m b h q);
      small = subst (λ (k : ℕ). a * 2 ^ (8 * m) + b < k) (sym w) (digits_lt p.small q.small);
    }

pub followed_reads : (s : List ℕ) (x i n : ℕ) {w : ℕ} → i + n ≤ length s → Reads s i n w → followed x (drop i s) ≡ followed (x * 2 ^ (8 * n) + w) (drop (i + n) s)
followed_reads s x i n {w} h r = followed_cut x i n s ∙ ap (λ (y : ℕ). followed y (drop (i + n) s)) (followed_read s x i n w h r)

-- ---- what leaves the same, with a run behind it

pub followed_same : {a b : ℕ} {bs : List ℕ} → AreBytes bs → Same a b → Same (followed a bs) (followed b bs)
unfolding followed
followed_same {a} {b} {bs} h p =
    let n = 8 * length bs in
    let e : (x : ℕ) → bit_xor (x * 2 ^ n) (value bs) ≡ x * 2 ^ n + value bs = λ x. xor_shifted x n (value bs) (value_lt h) in
    same_trans (same_of (sym (e a))) (same_trans (same_xor (same_shift n p) (same_of refl)) (same_of (e b)))

-- n bytes a turn: the number is folded, and the bytes that were read are added
pub followed_turn : (s : List ℕ) (i n x : ℕ) {f w : ℕ} → AreBytes s → i + n ≤ length s → Reads s i n w → Same (x * 2 ^ (8 * n)) f
    → Same (followed x (drop i s)) (followed (bit_xor f w) (drop (i + n) s))
followed_turn s i n x hs h r p =
    same_trans (same_of (followed_reads s x i n h r)) (followed_same (bytes_drop (i + n) hs) (same_above (8 * n) x r.small refl p))

-- ---- sixteen bytes a turn, in a register of 128 bits

-- the register's two halves
pub halves_joined : (x w : ℕ) → x < 2 ^ 64 → w < 2 ^ 64 → bit_xor (bit_xor (x * 2 ^ 64 % 2 ^ 128) w) 0 ≡ x * 2 ^ 64 + w
halves_joined x w hx hw =
    xor_zero_r (bit_xor (x * 2 ^ 64 % 2 ^ 128) w) ∙ ap (λ (y : ℕ). bit_xor y w) (shl_exact 64 64 128 hx (lit≤ tt)) ∙ xor_shifted x 64 w hw

pub upper_lt : (a b : ℕ) → a < 2 ^ 128 → b < 2 ^ 128 → bit_xor a b / 2 ^ 64 < 2 ^ 64
upper_lt a b ha hb = shr_lt 64 64 (xor_lt 128 a b ha hb)

pub added_lt : (a b : ℕ) → a < 2 ^ 64 → bit_xor a (b % 2 ^ 64) < 2 ^ 64
added_lt a b ha = xor_lt 64 a (b % 2 ^ 64) ha (mod-lt b (pow_pos 64))

-- the fold and what is added to it, as the code adds them up
as_added : (q a b n : ℕ) → bit_xor (bit_xor (bit_xor q a) b) n ≡ bit_xor (bit_xor (bit_xor n q) b) a
as_added q a b n =
    xor_comm (bit_xor (bit_xor q a) b) n
    ∙ sym (xor_assoc n (bit_xor q a) b)
    ∙ ap (λ (y : ℕ). bit_xor y b) (sym (xor_assoc n q a))
    ∙ xor_swap (bit_xor n q) a b

pub followed_chunk : (s : List ℕ) (k x : ℕ) {q n : ℕ} → AreBytes s → 16 + k * 16 + 16 ≤ length s → x < 2 ^ 128 → Reads s (16 + k * 16) 16 n → q ≡ quotient 8 x
    → Same (followed x (drop (16 + k * 16) s)) (followed (bit_xor (bit_xor (bit_xor n q) (q * 2 ^ 96 % 2 ^ 128)) (q * 2 ^ 40 % 2 ^ 128)) (drop (16 + (k + 1) * 16) s))
unfolding folded
followed_chunk s k x {q} {n} hs inside hx r e =
    let next : 16 + k * 16 + 16 ≡ 16 + (k + 1) * 16 = omega arith in
    same_trans (followed_turn s (16 + k * 16) 16 x hs inside r (fold 8 x hx power_8))
    (same_of
    (ap₂ (λ (v i : ℕ). followed (bit_xor (bit_xor (bit_xor v (v * 2 ^ 40 % 2 ^ 128)) (v * 2 ^ 96 % 2 ^ 128)) n) (drop i s)) (sym e) next
    ∙ ap (λ (y : ℕ). followed y (drop (16 + (k + 1) * 16) s)) (as_added q (q * 2 ^ 40 % 2 ^ 128) (q * 2 ^ 96 % 2 ^ 128) n)))

-- after the last turn the upper half is folded into the lower one, and what is left of the bytes follows
pub followed_half : (s : List ℕ) (k x : ℕ) {first f turns left : ℕ} → let part = length (take (length s - 16) (drop 16 s)) in
    AreBytes s → 16 ≤ length s → k ≤ turns → turns ≤ k → turns ≡ part / 16 → left ≡ part % 16
    → Same first (followed x (drop (16 + k * 16) s)) → Same (x / 2 ^ 64 * 2 ^ 64) f
    → Same first (followed (bit_xor f (x % 2 ^ 64)) (drop (length s - left) s))
followed_half s k x {first} {f} {turns} {left} hs long at-most at-least count behind before p =
    let all = behind_length s 16 in
    let e : 16 + k * 16 ≡ length s - left = omega arith in
    same_trans before
    (same_trans (followed_same (bytes_drop (16 + k * 16) hs) (same_split 64 x p))
    (same_of (ap (λ (i : ℕ). followed (bit_xor f (x % 2 ^ 64)) (drop i s)) e)))

-- ---- the end of a run: fewer than eight bytes, out of one number of eight

-- the bytes from place i on: how many bits they have
rest_lt : (s : List ℕ) (i : ℕ) → AreBytes s → value (drop i s) < 2 ^ (8 * (length s - i))
rest_lt s i h = subst (λ (k : ℕ). value (drop i s) < 2 ^ (8 * k)) (length-drop i s) (value_lt (bytes_drop i h))

followed_rest : (s : List ℕ) (x i : ℕ) → followed x (drop i s) ≡ x * 2 ^ (8 * (length s - i)) + value (drop i s)
unfolding followed
followed_rest s x i = ap (λ (k : ℕ). x * 2 ^ (8 * k) + value (drop i s)) (length-drop i s)

-- they are the lower part of the last eight
last_bytes : (s : List ℕ) (i : ℕ) {w : ℕ} → AreBytes s → 8 ≤ length s → i ≤ length s → length s ≤ i + 8 → Reads s (length s - 8) 8 w
    → w % 2 ^ (8 * (length s - i)) ≡ value (drop i s)
last_bytes s i {w} hs h8 hi h r =
    let from = length s - 8 in
    let first = 8 - (length s - i) in
    let y = followed 0 (take first (drop from s)) in
    let here : from + first ≡ i = omega arith in
    let all : take 8 (drop from s) ≡ drop from s = take_all 8 (drop from s) (simp length-drop (omega arith)) in
    let e : w ≡ y * 2 ^ (8 * (length s - i)) + value (drop i s) =
    r.is ∙ ap value all ∙ value_followed (drop from s) ∙ followed_cut 0 from first s
    ∙ ap (λ (k : ℕ). followed y (drop k s)) here ∙ followed_rest s y i in
    ap (λ (k : ℕ). k % 2 ^ (8 * (length s - i))) e ∙ low y (8 * (length s - i)) (rest_lt s i hs)

-- what stands in the t lowest bits of 64, as the code takes it; at t = 64 its divisor is 0, which takes nothing away
below_bits : (w t : ℕ) → t ≤ 64 → w < 2 ^ 64 → w % (1 * 2 ^ t % 2 ^ 64) ≡ w % 2 ^ t
below_bits w t h l =
    ⊎_elim
    (λ (e : t ≡ 64). ap (λ (k : ℕ). w % (1 * 2 ^ k % 2 ^ 64)) e ∙ mod-zero w ∙ sym (mod-eq_of_lt l) ∙ ap (λ (k : ℕ). w % 2 ^ k) (sym e))
    (λ (lt : t < 64). ap (λ (k : ℕ). w % k) (shl_exact 1 t 64 (lit< tt) (omega arith) ∙ one-mul (2 ^ t)))
    (eq-or-lt_of_le h)

-- the number moves up by as many bits as are left: what leaves 64 bits is folded, and the bytes are added
pub followed_last : (s : List ℕ) (x i : ℕ) {f w : ℕ} → AreBytes s → 8 ≤ length s → i ≤ length s → length s ≤ i + 8 → Reads s (length s - 8) 8 w
    → let t = 8 * (length s - i) in Same (x / 2 ^ (64 - t) * 2 ^ 64) f
    → Same (followed x (drop i s)) (bit_xor (bit_xor f (x * 2 ^ t % 2 ^ 64)) (w % (1 * 2 ^ t % 2 ^ 64)))
followed_last s x i {f} {w} hs h8 hi h r p =
    let t = 8 * (length s - i) in
    let v = value (drop i s) in
    let last : w % (1 * 2 ^ t % 2 ^ 64) ≡ v = below_bits w t (omega arith) r.small ∙ last_bytes s i hs h8 hi h r in
    same_trans
    (same_of (followed_rest s x i ∙ sym (xor_shifted x t v (rest_lt s i hs))))
    (same_xor (same_above 64 (x / 2 ^ (64 - t)) (mod-lt (x * 2 ^ t) (pow_pos 64)) (shl_parts x (64 - t) t 64 (omega arith)) p) (same_of (sym last)))

-- where no byte is left, nothing follows
pub followed_end : (s : List ℕ) (x i : ℕ) → length s ≤ i → Same (followed x (drop i s)) x
followed_end s x i h = same_of (ap (followed x) (drop_of_length-le s h) ∙ followed_none x)

-- ---- a register after one byte: eight bits more make sixteen of the byte and the register's upper half, and these the fold takes

pub byte_folded : (r b : ℕ) {f : ℕ} → r < 2 ^ 16 → b < 2 ^ 8 → Same (bit_xor (r / 2 ^ 8) b * 2 ^ 16) f → f < 2 ^ 16 → byte r b ≡ bit_xor (r * 2 ^ 8 % 2 ^ 16) f
byte_folded r b {f} hr hb p hf =
    let up = bit_xor (r / 2 ^ 8) b in
    let small : up * 2 ^ 8 < 2 ^ 16 = shl_lt 8 8 (place_lt r b hr hb) in
    let sixteen : up * 2 ^ 16 ≡ up * 2 ^ 8 * 2 ^ 8 = omega arith in
    byte_by_place r b hr hb
    ∙ ap (bit_xor (r * 2 ^ 8 % 2 ^ 16))
    (sym (same_low hf (steps_lt 8 (up * 2 ^ 8) small) (same_trans (same_sym p) (same_trans (same_of sixteen) (same_steps 8 (up * 2 ^ 8) small)))))

-- ---- the start of a run, and its sum

-- the state is added to the first two of eight bytes
pub dividend_followed : (state : ℕ) (s : List ℕ) {w : ℕ} → AreBytes s → state < 2 ^ 16 → 8 ≤ length s → Reads s 0 8 w
    → dividend state s ≡ followed (bit_xor w (state * 2 ^ 48 % 2 ^ 64)) (drop 8 s) * 2 ^ 16
unfolding dividend followed
dividend_followed state s {w} hs l h r =
    let n = 8 * length (drop 8 s) in
    let v = value (drop 8 s) in
    let up = state * 2 ^ 48 in
    let place : 8 * length s ≡ 48 + (n + 16) = omega (arith, length-drop 8 s) in
    let power : 2 ^ (8 * length s) ≡ 2 ^ 48 * (2 ^ n * 2 ^ 16) =
    ap (λ (k : ℕ). 2 ^ k) place ∙ pow-add 2 48 (n + 16) ∙ ap (λ (k : ℕ). 2 ^ 48 * k) (pow-add 2 n 16) in
    let start : state * 2 ^ (8 * length s) ≡ up * 2 ^ n * 2 ^ 16 =
    ap (λ (k : ℕ). state * k) power ∙ sym (mul_assoc state (2 ^ 48) (2 ^ n * 2 ^ 16)) ∙ sym (mul_assoc up (2 ^ n) (2 ^ 16)) in
    let only : 0 * 2 ^ 64 + w ≡ w = omega arith in
    let bytes : value s ≡ w * 2 ^ n + v = value_followed s ∙ followed_reads s 0 0 8 h r ∙ ap (λ (k : ℕ). followed k (drop 8 s)) only in
    let whole : up ≡ state * 2 ^ 48 % 2 ^ 64 = omega arith in
    ap₂ (λ (a b : ℕ). bit_xor a (b * 2 ^ 16)) start bytes
    ∙ sym (xor_shift 16 (up * 2 ^ n) (w * 2 ^ n + v))
    ∙ ap (λ (k : ℕ). k * 2 ^ 16)
    (ap (λ (k : ℕ). bit_xor k (w * 2 ^ n + v)) (sym (add-zero (up * 2 ^ n)))
    ∙ xor_block n up w 0 v (pow_pos n) (value_lt (bytes_drop 8 hs))
    ∙ ap (λ (k : ℕ). k * 2 ^ n + v) (xor_comm up w ∙ ap (bit_xor w) whole))

-- what the dividend leaves, in sixteen bits, is the catalogue's sum
pub leaves_sum : (state r : ℕ) {s : List ℕ} → AreBytes s → state < 2 ^ 16 → r < 2 ^ 16 → Same (dividend state s) r → r ≡ crc_from state s
leaves_sum state r {s} hs l h p =
    same_low h (crc_from_lt state s l) (same_trans (same_sym p) (record { apart = crc_from_apart state l hs }))

pub followed_sum : (state r : ℕ) (s : List ℕ) {w : ℕ} → ((i : ℕ) → get_or s i 0 < 2 ^ 8) → state < 2 ^ 16 → 8 ≤ length s → Reads s 0 8 w → r < 2 ^ 16
    → Same (followed (bit_xor w (state * 2 ^ 48 % 2 ^ 64)) (drop 8 s) * 2 ^ 16) r → r ≡ crc_from state s
followed_sum state r s small l long read h p =
    let bytes = bytes_from_places s small in
    leaves_sum state r bytes l h (same_trans (same_of (dividend_followed state s bytes l long read)) p)
