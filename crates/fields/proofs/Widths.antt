-- Little-endian fields, each law once for every width.
-- Assumes nothing.
use Prim.Native.Nat.{ℕ, zero, suc, ◌+◌, ◌-◌, ◌*◌, ◌/◌, ◌%◌, ◌^◌, ◌<◌, ◌≤◌}
use mathlib.Core.Path.{◌≡◌, refl, sym, ap, ap₂, subst, ◌∙◌}
use mathlib.Core.List.{List, ◌∷◌, ◌++◌}
use native.Mathlib.Nat.{pow-suc, pow-succ', mul_assoc, div-div-eq-div-mul, div-lt_iff_lt-mul, div-one, mul-one, zero-add, add-zero, add_comm}
use native.Mathlib.Numerals.{add-one}
use native.Mathlib.Omega.{arith}
use lib.ListN.{length, take, drop, get_or, replicate, length-drop}
use lib.Seq.{length-take-le, get_or-take}
use Rattle.std.proofs.lemmas.List.{get_or_append_left, get_or-append-add, get_or-drop, get_or-replicate}
use Rattle.std.specs.Int.{w64, from_le_bytes, to_le_bytes, bytes_low_first, byte_at}
use Rattle.fields.specs.Numbers.{field, bytes_of}

-- a field is its bytes: two places with the same n bytes hold the same number
pub field_same : (n : ℕ) (s t : List ℕ) (p q : ℕ) → ((i : ℕ) → i < n → get_or s (p + i) 0 ≡ get_or t (q + i) 0) → field n s p ≡ field n t q
unfolding field
field_same zero s t p q h = refl
field_same (suc n) s t p q h =
    let first : get_or s p 0 ≡ get_or t q 0 = ap (λ (k : ℕ). get_or s k 0) (sym (add-zero p)) ∙ h 0 (omega arith) ∙ ap (λ (k : ℕ). get_or t k 0) (add-zero q) in
    let shift : (k i : ℕ) → k + 1 + i ≡ k + suc i = λ k i. omega arith in
    ap₂ (λ (a b : ℕ). a + b * 256) first
    (field_same n s t (p + 1) (q + 1)
    (λ i l. ap (λ (k : ℕ). get_or s k 0) (shift p i) ∙ h (suc i) (omega arith) ∙ ap (λ (k : ℕ). get_or t k 0) (sym (shift q i))))

-- a wider field is a narrower one and, above it, the field behind that one
pub field_join : (m n : ℕ) (s : List ℕ) (p : ℕ) → field (m + n) s p ≡ field m s p + field n s (p + m) * 256 ^ m
unfolding field
field_join zero n s p =
    ap (λ (k : ℕ). field k s p) (zero-add n) ∙ ap (field n s) (sym (add-zero p)) ∙ sym (zero-add _ ∙ mul-one (field n s (p + 0)))
field_join (suc m) n s p =
    let there : p + 1 + m ≡ p + suc m = omega arith in
    let up : field n s (p + 1 + m) * 256 ^ m * 256 ≡ field n s (p + suc m) * 256 ^ suc m =
    mul_assoc (field n s (p + 1 + m)) (256 ^ m) 256 ∙ ap₂ (λ (k x : ℕ). field n s k * x) there (sym (pow-suc 256 m)) in
    let rest = field_join m n s (p + 1) in
    let e : suc m + n ≡ suc (m + n) = omega arith in
    ap (λ (k : ℕ). field k s p) e ∙ omega arith

-- bytes below 256 make a number below 256 ^ n
pub field_lt : (n : ℕ) (s : List ℕ) (p : ℕ) → ((i : ℕ) → get_or s i 0 < 256) → field n s p < 256 ^ n
unfolding field
field_lt zero s p h = omega arith
field_lt (suc n) s p h =
    let first = h p in
    let rest = field_lt n s (p + 1) h in
    let e : 256 ^ suc n ≡ 256 ^ n * 256 = pow-suc 256 n in
    omega arith

-- and a number is one run of bytes: two places with the same field hold the same n bytes
pub field_once : (n : ℕ) (s t : List ℕ) (p q : ℕ) → ((i : ℕ) → get_or s i 0 < 256) → ((i : ℕ) → get_or t i 0 < 256) → field n s p ≡ field n t q → (i : ℕ) → i < n → get_or s (p + i) 0 ≡ get_or t (q + i) 0
unfolding field
field_once zero s t p q hs ht e i h = absurd (omega arith)
field_once (suc n) s t p q hs ht e zero h =
    let a = hs p in
    let b = ht q in
    let first : get_or s p 0 ≡ get_or t q 0 = omega arith in
    ap (λ (k : ℕ). get_or s k 0) (add-zero p) ∙ first ∙ ap (λ (k : ℕ). get_or t k 0) (sym (add-zero q))
field_once (suc n) s t p q hs ht e (suc i) h =
    let a = hs p in
    let b = ht q in
    let shift : (k : ℕ) → k + suc i ≡ k + 1 + i = λ k. omega arith in
    ap (λ (k : ℕ). get_or s k 0) (shift p)
    ∙ field_once n s t (p + 1) (q + 1) hs ht (omega arith) i (omega arith)
    ∙ ap (λ (k : ℕ). get_or t k 0) (sym (shift q))

pub bytes_length : (n v : ℕ) → length (bytes_of n v) ≡ n
unfolding bytes_of
bytes_length zero v = refl
bytes_length (suc n) v = ap suc (bytes_length n (v / 256))

-- what was written is read back
pub field_bytes : (n v : ℕ) (rest : List ℕ) → v < 256 ^ n → field n (bytes_of n v ++ rest) 0 ≡ v
unfolding field bytes_of
field_bytes zero v rest h = omega arith
field_bytes (suc n) v rest h =
    let e : 256 ^ suc n ≡ 256 ^ n * 256 = pow-suc 256 n in
    let less : v / 256 < 256 ^ n = (div-lt_iff_lt-mul {k = 256} (omega arith)).1 (omega arith) in
    let back : field n (v % 256 ∷ (bytes_of n (v / 256) ++ rest)) 1 ≡ v / 256 =
    field_same n (v % 256 ∷ (bytes_of n (v / 256) ++ rest)) (bytes_of n (v / 256) ++ rest) 1 0 (λ i l. simp (add_comm 1 i, add-one i, zero-add i)) ∙ field_bytes n (v / 256) rest less in
    omega arith

-- the bytes of a wider number are those of its lower part, then those of its upper
pub bytes_join : (m n v : ℕ) → bytes_of (m + n) v ≡ bytes_of m v ++ bytes_of n (v / 256 ^ m)
unfolding bytes_of
bytes_join zero n v = ap (λ (k : ℕ). bytes_of k v) (zero-add n) ∙ ap (bytes_of n) (sym (div-one v))
bytes_join (suc m) n v =
    let e : suc m + n ≡ suc (m + n) = omega arith in
    ap (λ (k : ℕ). bytes_of k v) e
    ∙ ap (λ (bs : List ℕ). v % 256 ∷ bs)
    (bytes_join m n (v / 256) ∙ ap (λ (k : ℕ). bytes_of m (v / 256) ++ bytes_of n k) (div-div-eq-div-mul v 256 (256 ^ m) ∙ ap (λ (k : ℕ). v / k) (sym (pow-succ' 256 m))))

-- ---- as std reads and writes eight bytes

field_eight : (bytes : List ℕ) → from_le_bytes w64 bytes ≡ field 8 bytes 0
unfolding field
field_eight bytes = omega arith

field_zeros : (n : ℕ) (s : List ℕ) (p : ℕ) → ((i : ℕ) → i < n → get_or s (p + i) 0 ≡ 0) → field n s p ≡ 0
unfolding field
field_zeros zero s p h = refl
field_zeros (suc n) s p h =
    let first : get_or s p 0 ≡ 0 = ap (λ (k : ℕ). get_or s k 0) (sym (add-zero p)) ∙ h 0 (omega arith) in
    let shift : (i : ℕ) → p + 1 + i ≡ p + suc i = λ i. omega arith in
    let rest : field n s (p + 1) ≡ 0 = field_zeros n s (p + 1) (λ i l. ap (λ (k : ℕ). get_or s k 0) (shift i) ∙ h (suc i) (omega arith)) in
    omega arith

-- a field of t is a narrower one of s where all above that is zeros
field_padded : (n m : ℕ) (s t : List ℕ) (p : ℕ) → ((i : ℕ) → i < n → get_or t i 0 ≡ get_or s (p + i) 0) → ((i : ℕ) → i < m → get_or t (n + i) 0 ≡ 0) → field (n + m) t 0 ≡ field n s p
field_padded n m s t p same zeros =
    field_join n m t 0
    ∙ ap₂ (λ (a b : ℕ). a + b * 256 ^ n)
    (field_same n t s 0 p (λ i h. ap (λ (k : ℕ). get_or t k 0) (zero-add i) ∙ same i h))
    (field_zeros m t (0 + n) (λ i h. ap (λ (k : ℕ). get_or t (k + i) 0) (zero-add n) ∙ zeros i h))
    ∙ omega arith

zeros_behind : (n m i z : ℕ) → n + i < m → get_or (drop n (replicate m z)) i z ≡ z
zeros_behind n m i z h = get_or-drop n (replicate m z) i z ∙ get_or-replicate m (n + i) z z h

-- so eight bytes that were zeros, with n others over the first of them, hold what these hold
pub field_read : (n : ℕ) (s : List ℕ) (p r : ℕ) {bytes : List ℕ} → r ≡ from_le_bytes w64 (bytes ++ drop n (replicate 8 0)) → bytes ≡ take (p + n - p) (drop p s) → p + n ≤ length s → n ≤ 8 → ((i : ℕ) → get_or s i 0 < 256) → (r ≡ field n s p) × (r < 256 ^ n)
field_read n s p r {bytes} e copied inside width small =
    let t = bytes ++ drop n (replicate 8 0) in
    let part : p + n - p ≡ n = omega arith in
    let long : length bytes ≡ n = ap length copied ∙ length-take-le (p + n - p) (drop p s) (simp length-drop (omega arith)) ∙ part in
    let same : (i : ℕ) → i < n → get_or t i 0 ≡ get_or s (p + i) 0 =
    λ i h.
    get_or_append_left bytes _ 0 i (omega arith)
    ∙ ap (λ (bs : List ℕ). get_or bs i 0) copied
    ∙ get_or-take (p + n - p) (drop p s) i 0 (omega arith)
    ∙ get_or-drop p s i 0 in
    let zeros : (i : ℕ) → i < 8 - n → get_or t (n + i) 0 ≡ 0 =
    λ i h. ap (λ (k : ℕ). get_or t (k + i) 0) (sym long) ∙ get_or-append-add bytes _ i 0 ∙ zeros_behind n 8 i 0 (omega arith) in
    let is : r ≡ field n s p =
    e ∙ field_eight t ∙ ap (λ (k : ℕ). field k t 0) (omega arith) ∙ field_padded n (8 - n) s t p same zeros in
    (is, subst (λ (x : ℕ). x < 256 ^ n) (sym is) (field_lt n s p small))

-- and their number is as low
pub field_behind : (n : ℕ) (s : List ℕ) (p : ℕ) {bytes : List ℕ} → bytes ≡ take (p + n - p) (drop p s) → p + n ≤ length s → n ≤ 8 → ((i : ℕ) → get_or s i 0 < 256)
    → (field 8 (bytes ++ drop n (replicate 8 0)) 0 ≡ field n s p) × (field n s p < 256 ^ n)
field_behind n s p {bytes} copied inside width small =
    let t = bytes ++ drop n (replicate 8 0) in
    (sym (field_eight t) ∙ (field_read n s p (from_le_bytes w64 t) refl copied inside width small).0, field_lt n s p small)

byte_at_is : (i v : ℕ) → byte_at i v ≡ v / 256 ^ i % 256
byte_at_is zero v = ap (λ (k : ℕ). k % 256) (sym (div-one v))
byte_at_is (suc i) v = refl

-- the first n of the bytes that std makes of a number
bytes_taken : (n k i v : ℕ) → n ≤ k → take n (bytes_low_first i k v) ≡ bytes_of n (v / 256 ^ i)
unfolding bytes_of
bytes_taken zero k i v h = refl
bytes_taken (suc n) zero i v h = absurd (omega arith)
bytes_taken (suc n) (suc k) i v h =
    ap₂ (λ (b : ℕ) (bs : List ℕ). b ∷ bs) (byte_at_is i v)
    (bytes_taken n k (suc i) v (omega arith) ∙ ap (bytes_of n) (ap (λ (x : ℕ). v / x) (pow-suc 256 i) ∙ sym (div-div-eq-div-mul v (256 ^ i) 256)))

pub bytes_eight : (n v : ℕ) → n ≤ 8 → take n (to_le_bytes w64 v) ≡ bytes_of n v
bytes_eight n v h = bytes_taken n 8 0 v h ∙ ap (bytes_of n) (div-one v)
