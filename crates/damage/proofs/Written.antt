-- What was written verifies where it was written, with the fields that were asked for.
-- Assumes nothing.
use Prim.Native.Nat.{ℕ, ◌+◌, ◌-◌, ◌^◌, ◌<◌, ◌≤◌}
use mathlib.Core.Path.{◌≡◌, refl, sym, ap, ◌∙◌}
use mathlib.Core.List.{List, [], ◌++◌, append_assoc}
use mathlib.Core.Bool.{Bool, true, false}
use native.Mathlib.Omega.{arith}
use native.Mathlib.Nat.{add-zero}
use borrow.Author.Tests.{eqb-true}
use lib.Dec.{eqb}
use lib.ListN.{length, take, drop, get_or, replicate, length-append}
use lib.Seq.{get_or-append-add, take_at, drop_at}
use Rattle.answers.specs.Answers.{pick_number}
use Rattle.fields.specs.Numbers.{field, bytes_of, aligned}
use Rattle.fields.specs.Runs.{over}
use Rattle.fields.proofs.Widths.{field_same, field_bytes, bytes_length}
use Rattle.fields.proofs.Lines.{aligned_le}
use Rattle.fields.proofs.Laying.{over_length, over_in, over_from}
use Rattle.checksum.specs.Catalogue.{crc16}
use Rattle.checksum.proofs.Runs.{crc16_lt}
use Rattle.entry.specs.Words.{word_of, word_mark, word_kind, word_namespace}
use Rattle.entry.specs.Layout.{head_length, placed, entry_at, sum_place}
use Rattle.entry.specs.declared.Entry.{Entry}
use Rattle.entry.proofs.Packing.{word_lt, mark_of_word, namespace_of_word, kind_of_word}
use Rattle.entry.proofs.Standing.{Verified, entry_from_fields, placed_end, head_bounds}
use Rattle.append.specs.Bytes.{Item, pick_bytes, head_of, covered_of, encoded, item_length, size_of}
use Rattle.append.proofs.Encodings.{head_length_lem, covered_length, encoded_length}
use Rattle.damage.specs.Log.{entry_of}

-- what an accepted append has seen of its item
pub record Writable (i : Item) : Type 0 where
  pub kinds : i.kind < 3
  pub spaces : i.ns < 2 ^ 6
  pub keys : length i.key < 256 ^ 2
  pub values : length i.value < 256 ^ 2
  pub bare : i.kind ≡ 2 → length i.value ≡ 0

-- an item stands at p, whole: its line verifies as the entry that it should be, and its bytes are there
pub record Whole (mark : ℕ → ℕ) (s : List ℕ) (p : ℕ) (i : Item) : Type 0 where
  pub asked : Writable i
  pub verified : Verified mark s p (entry_of p i)
  pub key : take (length i.key) (drop (entry_of p i).kplace s) ≡ i.key
  pub value : take (length i.value) (drop (entry_of p i).vplace s) ≡ i.value

-- a part of a run that was put over a region, and a number in it
module _ (region run : List ℕ) (p : ℕ) (fits : p + length run ≤ length region) (front : List ℕ) (k : ℕ) (here : length front ≡ k) (rest : List ℕ) where
  part_back : (part : List ℕ) → run ≡ front ++ (part ++ rest) → take (length part) (drop (p + k) (over region p run)) ≡ part
  part_back part e =
      let z = drop (p + length run) region in
      ap (take (length part))
      (over_from region p run k (omega arith)
      ∙ ap (drop k) (ap (λ (x : List ℕ). x ++ z) e ∙ simp append_assoc)
      ∙ drop_at front (part ++ (rest ++ z)) k here)
      ∙ take_at part (rest ++ z) (length part) refl

  number_back : (n v : ℕ) → run ≡ front ++ (bytes_of n v ++ rest) → v < 256 ^ n → field n (over region p run) (p + k) ≡ v
  number_back n v e small =
      let long : length run ≡ k + (n + length rest) = ap length e ∙ simp (length-append, bytes_length, here) in
      field_same n (over region p run) run (p + k) k
      (λ i l.
      let shift : p + k + i ≡ p + (k + i) = omega arith in
      ap (λ (m : ℕ). get_or (over region p run) m 0) shift ∙ over_in region p run (k + i) (omega arith) (omega arith))
      ∙ ap (λ (x : List ℕ). field n x k) e
      ∙ field_same n (front ++ (bytes_of n v ++ rest)) (bytes_of n v ++ rest) k 0
      (λ i l.
      ap (λ (m : ℕ). get_or (front ++ (bytes_of n v ++ rest)) (m + i) 0) (sym here)
      ∙ get_or-append-add front (bytes_of n v ++ rest) i 0
      ∙ ap (λ (m : ℕ). get_or (bytes_of n v ++ rest) m 0) (omega arith))
      ∙ field_bytes n v rest small

module _ (m : ℕ) (i : Item) where
  abbrev covered : List ℕ
  covered = covered_of m i

  abbrev word : ℕ
  word = word_of m i.ns i.kind

  abbrev head : List ℕ
  head = head_of word i.kind (length i.key) (length i.value)

  abbrev filled : List ℕ
  filled = replicate (aligned (length covered + 2) - (length covered + 2)) 0xff

  abbrev pub behind : List ℕ
  behind = bytes_of 2 (crc16 covered) ++ filled

  pub whole_parts : encoded m i ≡ covered ++ behind
  unfolding encoded
  whole_parts = refl

  body_parts : encoded m i ≡ head ++ (i.value ++ (i.key ++ behind))
  unfolding encoded covered_of
  body_parts = simp append_assoc

  pub head_parts : (b : Bool) → eqb i.kind 2 ≡ b → encoded m i ≡ bytes_of 4 word ++ (bytes_of 2 (length i.key) ++ (pick_bytes b [] (bytes_of 2 (length i.value)) ++ (i.value ++ (i.key ++ behind))))
  unfolding head_of
  head_parts b e = body_parts ∙ rw (← e) (simp append_assoc)

  module _ (f : Writable i) (hm : m < 2 ^ 24) (region : List ℕ) (p : ℕ) (hp : p + size_of i ≤ length region) where
    abbrev there : List ℕ
    there = over region p (encoded m i)

    kind_lt : i.kind < 2 ^ 2
    kind_lt = let k = f.kinds in omega arith

    fits : p + length (encoded m i) ≤ length region
    fits = rw (encoded_length m i) hp

    got_word : field 4 there p ≡ word
    got_word =
        ap (field 4 there) (sym (add-zero p))
        ∙ number_back region (encoded m i) p fits [] 0 refl _ 4 word (head_parts (eqb i.kind 2) refl) (word_lt m i.ns i.kind hm f.spaces kind_lt)

    got_klen : field 2 there (p + 4) ≡ length i.key
    got_klen = number_back region (encoded m i) p fits (bytes_of 4 word) 4 (bytes_length 4 word) _ 2 (length i.key) (head_parts (eqb i.kind 2) refl) f.keys

    got_vlen : (b : Bool) → eqb i.kind 2 ≡ b → length i.value ≡ pick_number b 0 (field 2 there (p + 6))
    got_vlen true e = f.bare (eqb-true _ _ e)
    got_vlen false e =
        sym
        (number_back region (encoded m i) p fits (bytes_of 4 word ++ bytes_of 2 (length i.key)) 6 (simp (length-append, bytes_length)) (i.value ++ (i.key ++ behind)) 2 (length i.value)
        (head_parts false e ∙ sym (append_assoc (bytes_of 4 word) (bytes_of 2 (length i.key)) _))
        f.values)

    got_kind : word_kind (field 4 there p) ≡ i.kind
    got_kind = ap word_kind got_word ∙ kind_of_word m i.ns i.kind hm f.spaces kind_lt

    got_entry : entry_at there p ≡ entry_of p i
    got_entry =
        sym
        (entry_from_fields there p
        (sym got_kind)
        (sym (ap word_namespace got_word ∙ namespace_of_word m i.ns i.kind hm f.spaces kind_lt))
        (sym got_klen)
        (got_vlen (eqb i.kind 2) refl))

    sum_place_lem : sum_place (entry_of p i) ≡ p + length covered
    unfolding placed
    sum_place_lem = let c = covered_length m i in omega arith

    pub got_sum : field 2 there (p + length covered) ≡ crc16 covered
    got_sum = number_back region (encoded m i) p fits covered (length covered) refl filled 2 (crc16 covered) whole_parts (crc16_lt covered)

    pub got_covered : take (length covered) (drop p there) ≡ covered
    got_covered =
        ap (λ (k : ℕ). take (length covered) (drop k there)) (sym (add-zero p))
        ∙ part_back region (encoded m i) p fits [] 0 refl behind covered whole_parts

    got_value : take (length i.value) (drop (entry_of p i).vplace there) ≡ i.value
    unfolding placed
    got_value =
        part_back region (encoded m i) p fits head (head_length i.kind) (head_length_lem word i.kind (length i.key) (length i.value)) (i.key ++ behind) i.value body_parts

    got_key : take (length i.key) (drop (entry_of p i).kplace there) ≡ i.key
    unfolding placed
    got_key =
        let h = head_length i.kind in
        let v = length i.value in
        let e : p + h + v ≡ p + (h + v) = omega arith in
        ap (λ (k : ℕ). take (length i.key) (drop k there)) e
        ∙ part_back region (encoded m i) p fits (head ++ i.value) (h + v) (simp (length-append, head_length_lem)) behind i.key
        (body_parts ∙ sym (append_assoc head i.value (i.key ++ behind)))

pub item_end : (p : ℕ) (i : Item) → (entry_of p i).end ≤ p + size_of i
item_end p i = let e = placed_end p i.kind i.ns (length i.key) (length i.value) in let a = aligned_le (item_length i) in omega arith

pub item_long : (p : ℕ) (i : Item) → p + 8 ≤ (entry_of p i).end
unfolding placed
item_long p i = let h = head_bounds i.kind in omega arith

pub written : (mark : ℕ → ℕ) (i : Item) (region : List ℕ) (p : ℕ) → Writable i → mark p < 2 ^ 24 → p + size_of i ≤ length region → Whole mark (over region p (encoded (mark p) i)) p i
written mark i region p f hm hp =
    let m = mark p in
    let t = there m i f hm region p hp in
    let n : length t ≡ length region = over_length region p (encoded m i) (fits m i f hm region p hp) in
    let e : entry_at t p ≡ entry_of p i = got_entry m i f hm region p hp in
    let u : sum_place (entry_at t p) ≡ p + length (covered m i) = ap (λ (x : Entry). sum_place x) e ∙ sum_place_lem m i f hm region p hp in
    let q : sum_place (entry_at t p) - p ≡ length (covered m i) = omega arith in
    let k : word_kind (field 4 t p) ≡ i.kind = got_kind m i f hm region p hp in
    let long = item_long p i in
    let end = item_end p i in
    let same : (entry_at t p).end ≡ (entry_of p i).end = ap (λ (x : Entry). x.end) e in
    record {
      asked = f;
      verified = record {
        is = e;
        room = omega arith;
        marked = ap word_mark (got_word m i f hm region p hp) ∙ mark_of_word m i.ns i.kind hm f.spaces (kind_lt m i f hm region p hp);
        known = omega arith;
        within = omega arith;
        agreed =
            ap (field 2 t) u ∙ got_sum m i f hm region p hp
            ∙ sym (ap crc16 (ap (λ (j : ℕ). take j (drop p t)) q ∙ got_covered m i f hm region p hp));
      };
      key = got_key m i f hm region p hp;
      value = got_value m i f hm region p hp;
    }
