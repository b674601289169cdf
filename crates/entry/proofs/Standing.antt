-- What stands at a line: an entry from its fields, and the five facts of a line that verifies.
-- Assumes nothing.
use Prim.Native.Nat.{ℕ, ◌+◌, ◌-◌, ◌^◌, ◌<◌, ◌≤◌}
use mathlib.Core.Path.{◌≡◌, refl, sym, ap, ap₂, ◌∙◌}
use mathlib.Core.List.{List}
use mathlib.Core.Bool.{Bool, true, false, ◌&&◌}
use native.Mathlib.Omega.{arith}
use borrow.Author.Tests.{leb-true, ltb-true, ltb-false, eqb-true, le-leb, lt-leb, lt-ltb, eq-eqb, ne_eqb}
use lib.ListN.{length, take, drop, get_or}
use lib.Dec.{ltb, eqb}
use Rattle.answers.specs.Answers.{pick_number}
use Rattle.fields.specs.Numbers.{field}
use Rattle.fields.proofs.Widths.{field_lt}
use Rattle.checksum.specs.Catalogue.{crc16}
use Rattle.entry.specs.Words.{word_mark, word_namespace, word_kind}
use Rattle.entry.specs.Layout.{head_length, length_of, placed, sum_place, entry_at, agrees, intact, verifies}
use Rattle.entry.specs.declared.Entry.{Entry}
use Rattle.entry.proofs.Packing.{kind_lt}

-- an entry is known by its fields
pub entry_from_fields : (s : List ℕ) (p : ℕ) {kind ns klen vlen : ℕ} → kind ≡ word_kind (field 4 s p) → ns ≡ word_namespace (field 4 s p) → klen ≡ field 2 s (p + 4) → vlen ≡ pick_number (eqb kind 2) 0 (field 2 s (p + 6)) → placed p kind ns klen vlen ≡ entry_at s p
unfolding entry_at
entry_from_fields s p a b c d = cc

pub entry_kind : (s : List ℕ) (p : ℕ) → (entry_at s p).kind ≡ word_kind (field 4 s p)
unfolding entry_at placed
entry_kind s p = refl

pub entry_namespace : (s : List ℕ) (p : ℕ) → (entry_at s p).ns ≡ word_namespace (field 4 s p)
unfolding entry_at placed
entry_namespace s p = refl

pub entry_offset : (s : List ℕ) (p : ℕ) → (entry_at s p).offset ≡ p
unfolding entry_at placed
entry_offset s p = refl

-- the end, from the checksum's place and from the entry's length
pub placed_sum : (p kind ns klen vlen : ℕ) → (placed p kind ns klen vlen).end ≡ sum_place (placed p kind ns klen vlen) + 2
unfolding placed
placed_sum p kind ns klen vlen = refl

pub placed_end : (p kind ns klen vlen : ℕ) → (placed p kind ns klen vlen).end ≡ p + length_of kind klen vlen
unfolding placed length_of
placed_end p kind ns klen vlen = omega arith

pub head_bounds : (kind : ℕ) → (6 ≤ head_length kind) × (head_length kind ≤ 8)
unfolding head_length
head_bounds kind = go (eqb kind 2)
  where
    go : (b : Bool) → (6 ≤ pick_number b 6 8) × (pick_number b 6 8 ≤ 8)
    go true = (omega arith, omega arith)
    go false = (omega arith, omega arith)

pub entry_sum : (s : List ℕ) (p : ℕ) → (entry_at s p).end ≡ sum_place (entry_at s p) + 2
unfolding entry_at
entry_sum s p = placed_sum p _ _ _ _

-- an entry is eight bytes long at least
pub entry_long : (s : List ℕ) (p : ℕ) → p + 8 ≤ (entry_at s p).end
unfolding entry_at placed
entry_long s p = let h = head_bounds (word_kind (field 4 s p)) in omega arith

-- an entry is eight bytes long at the least, whatever its fields
pub length_least : (kind klen vlen : ℕ) → 8 ≤ length_of kind klen vlen
unfolding length_of
length_least kind klen vlen = let h = head_bounds kind in omega arith

-- from its first byte to its end it has the length that its fields say
pub entry_length : (s : List ℕ) (p : ℕ) → (entry_at s p).end ≡ (entry_at s p).offset + length_of (entry_at s p).kind (entry_at s p).klen (entry_at s p).vlen
unfolding entry_at placed
entry_length s p = placed_end p _ (word_namespace (field 4 s p)) _ _

-- and of bytes no entry is longer than 131,080: two lengths of two bytes, and ten more
pub entry_longest : (s : List ℕ) (p : ℕ) → ((i : ℕ) → get_or s i 0 < 256) → length_of (entry_at s p).kind (entry_at s p).klen (entry_at s p).vlen ≤ 131080
unfolding entry_at placed length_of
entry_longest s p small =
    let h = head_bounds (word_kind (field 4 s p)) in
    let k = field_lt 2 s (p + 4) small in
    let v = vlen_lt (eqb (word_kind (field 4 s p)) 2) (field_lt 2 s (p + 6) small) in
    omega arith
  where
    vlen_lt : (b : Bool) {v : ℕ} → v < 256 ^ 2 → pick_number b 0 v < 256 ^ 2
    vlen_lt true h = omega arith
    vlen_lt false h = h

-- a data entry has all its fields in the data layout, and behind them its value, its key and its checksum
pub data_entry : (s : List ℕ) (p : ℕ) → word_kind (field 4 s p) ≤ 1 → placed p (word_kind (field 4 s p)) (word_namespace (field 4 s p)) (field 2 s (p + 4)) (field 2 s (p + 6)) ≡ entry_at s p
unfolding entry_at
data_entry s p h = simp (ne_eqb (word_kind (field 4 s p)) 2 (λ e. omega arith))

pub data_sum : (s : List ℕ) (p : ℕ) → word_kind (field 4 s p) ≤ 1 → sum_place (entry_at s p) ≡ p + (8 + field 2 s (p + 6) + field 2 s (p + 4))
unfolding entry_at placed head_length
data_sum s p h = simp (ne_eqb (word_kind (field 4 s p)) 2 (λ e. omega arith)) (omega arith)

-- what it means that a checksum agrees
pub agreed : (s : List ℕ) (from sum : ℕ) → agrees s from sum ≡ true → field 2 s sum ≡ crc16 (take (sum - from) (drop from s))
unfolding agrees
agreed s from sum h = eqb-true _ _ h

pub agreeing : (s : List ℕ) (from sum : ℕ) → field 2 s sum ≡ crc16 (take (sum - from) (drop from s)) → agrees s from sum ≡ true
unfolding agrees
agreeing s from sum h = eq-eqb _ _ h

-- "verifies", its facts one by one, and which entry it is
pub record Verified (mark : ℕ → ℕ) (s : List ℕ) (p : ℕ) (e : Entry) : Type 0 where
  pub is : entry_at s p ≡ e
  pub room : p + 8 ≤ length s
  pub marked : word_mark (field 4 s p) ≡ mark p
  pub known : word_kind (field 4 s p) < 3
  pub within : (entry_at s p).end ≤ length s
  pub agreed : field 2 s (sum_place (entry_at s p)) ≡ crc16 (take (sum_place (entry_at s p) - p) (drop p s))

both : (a b : Bool) → a && b ≡ true → (a ≡ true) × (b ≡ true)
both true b h = (refl, h)
both false b h = absurd (let z : ◌≡◌ {A = ℕ} 0 1 = cc in omega arith)

pub verified : (mark : ℕ → ℕ) (s : List ℕ) (p : ℕ) → verifies mark s p ≡ true → Verified mark s p (entry_at s p)
unfolding verifies intact agrees entry_at placed
verified mark s p h =
    let a = both _ _ h in
    let b = both _ _ a.1 in
    let c = both _ _ b.1 in
    let d = both _ _ c.1 in
    record { is = refl; room = leb-true _ _ a.0; marked = eqb-true _ _ b.0; known = ltb-true _ _ c.0; within = leb-true _ _ d.0; agreed = eqb-true _ _ d.1 }

pub verifying : (mark : ℕ → ℕ) (s : List ℕ) (p : ℕ) {e : Entry} → Verified mark s p e → verifies mark s p ≡ true
unfolding verifies intact agrees entry_at placed
verifying mark s p v =
    simp (le-leb _ _ v.room, eq-eqb _ _ v.marked, lt-ltb _ _ v.known, le-leb _ _ v.within, eq-eqb _ _ v.agreed)

below : (kind : ℕ) → kind < 4 → (kind ≡ 3 → ⊥) → kind < 3
below kind h n = go (ltb kind 3) refl
  where
    go : (b : Bool) → ltb kind 3 ≡ b → kind < 3
    go true e = ltb-true kind 3 e
    go false e = absurd (n (omega (arith, ltb-false kind 3 e)))

-- a type that isn't 3 is 0, 1 or 2
pub kind_known : (word : ℕ) → (word_kind word ≡ 3 → ⊥) → word_kind word < 3
kind_known word k = let four = kind_lt word in below (word_kind word) four k

-- an entry that runs past the end isn't intact
pub intact_past : (s : List ℕ) (e : Entry) → length s < e.end → intact s e ≡ false
unfolding intact
intact_past s e h = simp (lt-leb _ _ h)

-- past the tests of mark and type, a line verifies where its entry is intact
pub verifies_intact : (mark : ℕ → ℕ) (s : List ℕ) (p : ℕ) → p + 8 ≤ length s → word_mark (field 4 s p) ≡ mark p → (word_kind (field 4 s p) ≡ 3 → ⊥) → verifies mark s p ≡ intact s (entry_at s p)
unfolding verifies
verifies_intact mark s p room m k =
    let four = kind_lt (field 4 s p) in
    let three : word_kind (field 4 s p) < 3 = below (word_kind (field 4 s p)) four k in
    simp (le-leb _ _ room, eq-eqb _ _ m, lt-ltb _ _ three)

-- one that lies within the region is intact where its sum, however it was made, is the one that it holds
pub intact_by_sum : (s : List ℕ) (e : Entry) (sum given made : ℕ) → e.end ≤ length s → sum ≡ sum_place e → given ≡ field 2 s sum → made ≡ crc16 (take (sum - e.offset) (drop e.offset s)) → eqb given made ≡ intact s e
unfolding intact agrees
intact_by_sum s e sum given made within at g m =
    ap₂ eqb g m ∙ ap (λ (k : ℕ). eqb (field 2 s k) (crc16 (take (k - e.offset) (drop e.offset s)))) at ∙ sym (simp (le-leb _ _ within))
