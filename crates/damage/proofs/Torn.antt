-- The power cut: what is left of an entry that was being written. No hypothesis is left on the lines that no byte came to, and on the entry's own
-- line it is that the checksum of the bytes that came is not 0.
-- Assumes nothing.
use Prim.Native.Nat.{ℕ, zero, suc, ◌+◌, ◌-◌, ◌/◌, ◌%◌, ◌^◌, ◌<◌, ◌≤◌}
use mathlib.Core.Path.{◌≡◌, refl, sym, ap, ap₂, subst, ◌∙◌}
use mathlib.Core.Bool.{Bool, true, false}
use mathlib.Core.List.{List, [], ◌∷◌, ◌++◌}
use mathlib.Core.Logic.{⊎_elim}
use native.Mathlib.Omega.{arith}
use native.Mathlib.Nat.{add-zero, zero-add}
use lib.Dec.{eqb}
use lib.ListN.{length, take, drop, get_or, replicate, length-append, length-take, length-drop, length-replicate, get_or-append}
use lib.Seq.{ext_get_or, get_or-take, get_or-drop, get_or-append-add, length-take-le}
use Rattle.answers.specs.Answers.{pick_number}
use Rattle.fields.specs.Numbers.{field, bytes_of}
use Rattle.fields.specs.Runs.{over}
use Rattle.fields.proofs.Widths.{bytes_length}
use Rattle.fields.proofs.Lines.{aligned_le}
use Rattle.fields.proofs.Laying.{over_length, over_in, over_before, over_behind}
use Rattle.checksum.specs.Catalogue.{crc16}
use Rattle.checksum.proofs.Runs.{crc16_append, crc16_lt}
use Rattle.checksum.proofs.Damage.{zeros_zero}
use Rattle.entry.specs.Words.{word_kind}
use Rattle.entry.specs.Layout.{head_length, placed, entry_at, sum_place, verifies}
use Rattle.entry.specs.declared.Entry.{Entry}
use Rattle.entry.proofs.Standing.{Verified, verified, placed_end, entry_sum, entry_long}
use Rattle.append.specs.Bytes.{Item, covered_of, encoded, item_length, size_of}
use Rattle.append.proofs.Encodings.{covered_length, covered_and_sum, encoded_length}
use Rattle.tail.proofs.Zeros.{below_or}
use Rattle.damage.specs.Log.{Logged, sizes}
use Rattle.damage.specs.Damage.{Quiet, Survives}
use Rattle.damage.specs.Torn.{cut}
use Rattle.damage.proofs.Local.{Same, same_field, same_part}
use Rattle.damage.proofs.Written.{Whole, written, behind, whole_parts, head_parts, got_covered}
use Rattle.damage.proofs.Bounds.{zeros_get, zeros_unverified}
use Rattle.damage.proofs.Logs.{none, more, sizes_append, whole_same, stand_same, stand_append, stand_split, stored}
use Rattle.damage.proofs.Theorem.{stand_survives, damage_theorem}
use Rattle.damage.proofs.OneEntry.{stands_there}

-- zeros from a line on: the line is quiet
zeros_quiet : (mark : ℕ → ℕ) (s : List ℕ) (q : ℕ) → ((k : ℕ) → q ≤ k → get_or s k 0 ≡ 0) → Quiet mark s q
unfolding field word_kind
zeros_quiet mark s q z =
    let z0 = z q (omega arith) in
    let z1 = z (q + 1) (omega arith) in
    let z2 = z (q + 1 + 1) (omega arith) in
    let z3 = z (q + 1 + 1 + 1) (omega arith) in
    record { unverified = λ h. zeros_unverified mark s q z (verified mark s q h); known = λ room marked kind. absurd (omega arith) }

-- where the checksum is looked for, from the fields
sum_at : (s : List ℕ) (p : ℕ) (b : Bool) → eqb (word_kind (field 4 s p)) 2 ≡ b → sum_place (entry_at s p) ≡ p + pick_number b 6 8 + pick_number b 0 (field 2 s (p + 6)) + field 2 s (p + 4)
unfolding entry_at placed head_length
sum_at s p b e = ap (λ (x : Bool). p + pick_number x 6 8 + pick_number x 0 (field 2 s (p + 6)) + field 2 s (p + 4)) e

bytes_small : (n v k : ℕ) → get_or (bytes_of n v) k 0 < 256
unfolding bytes_of
bytes_small zero v k = omega arith
bytes_small (suc n) v zero = omega arith
bytes_small (suc n) v (suc k) = bytes_small n (v / 256) k

module _ (mark : ℕ → ℕ) (marks : (p : ℕ) → mark p < 2 ^ 24) {region : List ℕ} {used : ℕ} (items : List Item) (i : Item) (log : Logged mark region used (items ++ (i ∷ []))) where
  abbrev start : ℕ
  start = sizes items

  abbrev code : List ℕ
  code = encoded (mark start) i

  code_length : length code ≡ size_of i
  code_length = encoded_length (mark start) i

  abbrev summed : ℕ
  summed = length (covered_of (mark start) i)

  summed_size : summed + 2 ≤ size_of i
  summed_size = let a = covered_and_sum (mark start) i in let b = aligned_le (item_length i) in omega arith

  module _ (n : ℕ) (some : n ≤ size_of i) where
    abbrev torn : List ℕ
    torn = over region start (cut (mark start) i n)

    taken_length : length (take n code) ≡ n
    taken_length = length-take-le n code (let b = code_length in omega arith)

    cut_length : length (cut (mark start) i n) ≡ size_of i
    cut_length = let b = taken_length in simp (length-append, length-replicate) (omega arith)

    place : used ≡ start + size_of i
    unfolding sizes
    place = (stored mark marks log).place ∙ sizes_append items (i ∷ []) ∙ omega arith

    room : start + size_of i ≤ length region
    room = let a = (stored mark marks log).fits in let b = place in omega arith

    came : (k : ℕ) → k < n → get_or torn (start + k) 0 ≡ get_or code k 0
    came k h =
        let a = room in
        let b = cut_length in
        let d = taken_length in
        over_in region start (cut (mark start) i n) k (omega arith) (omega arith)
        ∙ get_or-append (take n code) (replicate (size_of i - n) 0) 0 k (omega arith)
        ∙ get_or-take n code k 0 h

    blank : (k : ℕ) → start + n ≤ k → get_or torn k 0 ≡ 0
    blank k h =
        let a = room in
        let b = cut_length in
        let c = taken_length in
        ⊎_elim
        (λ l.
        let j = k - (start + n) in
        let e : k ≡ start + (n + j) = omega arith in
        let f : n + j ≡ length (take n code) + j = omega arith in
        ap (λ (m : ℕ). get_or torn m 0) e
        ∙ over_in region start (cut (mark start) i n) (n + j) (omega arith) (omega arith)
        ∙ ap (λ (m : ℕ). get_or (cut (mark start) i n) m 0) f
        ∙ get_or-append-add (take n code) (replicate (size_of i - n) 0) j 0
        ∙ zeros_get (size_of i - n) j)
        (λ l.
        let u = place in
        over_behind region start (cut (mark start) i n) k (omega arith) (omega arith) ∙ (stored mark marks log).blank k (omega arith))
        (below_or k (start + size_of i))

    -- the entry written whole, to compare with
    abbrev whole : List ℕ
    whole = over region start code

    torn_length : length torn ≡ length region
    torn_length = let a = room in let b = cut_length in over_length region start (cut (mark start) i n) (omega arith)

    whole_length : length whole ≡ length region
    whole_length = let a = room in let b = code_length in over_length region start code (omega arith)

    stands : Whole mark whole start i
    stands = written mark i region start (stands_there mark marks items [] i log).asked (marks start) room

    alike : Same whole torn start (start + n)
    alike k a b =
        let c = room in
        let d = code_length in
        let j : k ≡ start + (k - start) = omega arith in
        ap (λ (m : ℕ). get_or whole m 0) j
        ∙ over_in region start code (k - start) (omega arith) (omega arith)
        ∙ sym (ap (λ (m : ℕ). get_or torn m 0) j ∙ came (k - start) (omega arith))

    kept : (w k : ℕ) → start ≤ k → k + w ≤ start + n → field w whole k ≡ field w torn k
    kept = same_field whole torn start (start + n) alike

    whole_sum : sum_place (entry_at whole start) ≡ start + summed
    unfolding placed
    whole_sum = ap (λ (e : Entry). sum_place e) stands.verified.is ∙ (let c = covered_length (mark start) i in omega arith)

    -- and its type is one that was written, or 0
    own_known : word_kind (field 4 torn start) ≡ 3 → ⊥
    unfolding field word_kind
    own_known h =
        ⊎_elim
        (λ l. few l)
        (λ l. let k = stands.verified.known in let w = ap word_kind (same_field whole torn start (start + n) alike 4 start (omega arith) (omega arith)) in omega arith)
        (below_or n 4)
      where
        first : (k j : ℕ) → j ≡ start + k → k < 4 → get_or torn j 0 < 256
        first k j e b =
            let parts = head_parts (mark start) i (eqb i.kind 2) refl in
            ⊎_elim
            (λ l. rw (ap (λ (m : ℕ). get_or torn m 0) e ∙ came k l ∙ ap (λ (x : List ℕ). get_or x k 0) parts ∙ get_or-append (bytes_of 4 _) _ 0 k (rw (bytes_length 4 _) b)) (bytes_small 4 _ k))
            (λ l. let z = blank j (omega arith) in omega arith)
            (below_or k n)

        few : n < 4 → ⊥
        few l =
            let b0 = first 0 start (omega arith) (omega arith) in
            let b1 = first 1 (start + 1) refl (omega arith) in
            let b2 = first 2 (start + 1 + 1) (omega arith) (omega arith) in
            let b3 = blank (start + 1 + 1 + 1) (omega arith) in
            omega arith

    -- what the torn entry says of itself reaches past what came
    far : n ≤ summed → start + n ≤ sum_place (entry_at torn start)
    far short = ⊎_elim (λ l. let a = entry_long torn start in let b = entry_sum torn start in omega arith) (λ l. go l (eqb (word_kind (field 4 whole start)) 2) refl) (below_or n 7)
      where
        go : 7 ≤ n → (b : Bool) → eqb (word_kind (field 4 whole start)) 2 ≡ b → start + n ≤ sum_place (entry_at torn start)
        go l b e = kinds b (sum_at torn start b (ap (λ (w : ℕ). eqb (word_kind w) 2) (sym (kept 4 start (omega arith) (omega arith))) ∙ e)) (sym (sum_at whole start b e) ∙ whole_sum)
          where
            kinds : (b : Bool) → sum_place (entry_at torn start) ≡ start + pick_number b 6 8 + pick_number b 0 (field 2 torn (start + 6)) + field 2 torn (start + 4) → start + pick_number b 6 8 + pick_number b 0 (field 2 whole (start + 6)) + field 2 whole (start + 4) ≡ start + summed → start + n ≤ sum_place (entry_at torn start)
            kinds true x y = let klen = kept 2 (start + 4) (omega arith) (omega arith) in omega arith
            kinds false x y = let klen = kept 2 (start + 4) (omega arith) (omega arith) in ⊎_elim (λ m. let vlen = kept 2 (start + 6) (omega arith) (omega arith) in omega arith) (λ m. omega arith) (below_or 8 n)

    -- so its checksum would be 0, and what came would have that checksum already
    own_unverified : n ≤ summed → (crc16 (take n code) ≡ 0 → ⊥) → Verified mark torn start (entry_at torn start) → ⊥
    unfolding field
    own_unverified short other v =
        let sum = sum_place (entry_at torn start) in
        let reach = far short in
        let e = entry_sum torn start in
        let within = v.within in
        let taken = taken_length in
        let nothing : field 2 torn sum ≡ 0 = let a = blank sum (omega arith) in let b = blank (sum + 1) (omega arith) in omega arith in
        let zeros : take (sum - start) (drop start torn) ≡ take n code ++ replicate (sum - start - n) 0 =
        ext_get_or 0 (take (sum - start) (drop start torn)) (take n code ++ replicate (sum - start - n) 0)
        (omega (arith, length-take (sum - start) (drop start torn), length-drop start torn, length-append (take n code) (replicate (sum - start - n) 0), length-replicate {A = ℕ} (sum - start - n) 0))
        (λ k l.
        let m = length-take (sum - start) (drop start torn) in
        get_or-take (sum - start) (drop start torn) k 0 (omega arith) ∙ get_or-drop start torn k 0
        ∙ ⊎_elim
        (λ x. came k x ∙ sym (get_or-append (take n code) (replicate (sum - start - n) 0) 0 k (omega arith) ∙ get_or-take n code k 0 x))
        (λ x.
        let j : k ≡ length (take n code) + (k - n) = omega arith in
        blank (start + k) (omega arith)
        ∙ sym (ap (λ (q : ℕ). get_or (take n code ++ replicate (sum - start - n) 0) q 0) j ∙ get_or-append-add (take n code) (replicate (sum - start - n) 0) (k - n) 0 ∙ zeros_get (sum - start - n) (k - n)))
        (below_or k n)) in
        other
        (zeros_zero (sum - start - n) (crc16 (take n code)) (crc16_lt (take n code))
        (sym (crc16_append (take n code) (replicate (sum - start - n) 0)) ∙ ap crc16 (sym zeros) ∙ sym v.agreed ∙ nothing))

    torn_quiet : (verifies mark torn start ≡ true → ⊥) → ((q : ℕ) → q % 16 ≡ 0 → start < q → q < start + n → Quiet mark torn q) → Survives mark torn items (i ∷ []) []
    unfolding sizes
    torn_quiet own inner =
        damage_theorem mark marks items (i ∷ []) [] log
        (record {
          run = cut (mark start) i n;
          filling = cut_length ∙ omega arith;
          overwritten = refl;
          quiet = λ q a b c.
              ⊎_elim
              (λ l. ⊎_elim (λ m. inner q a m l) (λ m. let e : start ≡ q = omega arith in subst (λ (k : ℕ). Quiet mark torn k) e (record { unverified = own; known = λ r m2. own_known })) (below_or start q))
              (λ l. zeros_quiet mark torn q (λ k m. blank k (omega arith)))
              (below_or q (start + n));
        })

    -- the cut came before the checksum: the entry is lost and no other is, unless the checksum of the bytes that came is 0, or a line among them,
    -- other than the entry's own, verifies or is of type 3
    pub torn_tail : n ≤ summed
        → (crc16 (take n code) ≡ 0 → ⊥)
        → ((q : ℕ) → q % 16 ≡ 0 → start < q → q < start + n → Quiet mark torn q)
        → Survives mark torn items (i ∷ []) []
    torn_tail short other = torn_quiet (λ h. own_unverified short other (verified mark torn start h))

    -- where what is covered came whole, the checksum is looked for where it was to stand
    sum_kept : summed ≤ n → sum_place (entry_at torn start) ≡ start + summed
    sum_kept long = go (eqb (word_kind (field 4 whole start)) 2) refl
      where
        go : (b : Bool) → eqb (word_kind (field 4 whole start)) 2 ≡ b → sum_place (entry_at torn start) ≡ start + summed
        go b e = kinds b (sym (sum_at whole start b e) ∙ whole_sum) (λ h. sum_at torn start b (ap (λ (w : ℕ). eqb (word_kind w) 2) (sym (kept 4 start (omega arith) (omega arith))) ∙ e))
          where
            kinds : (b : Bool) → start + pick_number b 6 8 + pick_number b 0 (field 2 whole (start + 6)) + field 2 whole (start + 4) ≡ start + summed → (6 ≤ n → sum_place (entry_at torn start) ≡ start + pick_number b 6 8 + pick_number b 0 (field 2 torn (start + 6)) + field 2 torn (start + 4)) → sum_place (entry_at torn start) ≡ start + summed
            kinds true y x = let klen = kept 2 (start + 4) (omega arith) (omega arith) in x (omega arith) ∙ omega arith
            kinds false y x = let klen = kept 2 (start + 4) (omega arith) (omega arith) in let vlen = kept 2 (start + 6) (omega arith) (omega arith) in x (omega arith) ∙ omega arith

    -- the cut came in the middle of the checksum: the entry is lost and no other is, unless the byte that is missing is 0 and so stands there already
    pub torn_sum : n ≡ summed + 1
        → 256 ≤ crc16 (covered_of (mark start) i)
        → ((q : ℕ) → q % 16 ≡ 0 → start < q → q < start + n → Quiet mark torn q)
        → Survives mark torn items (i ∷ []) []
    unfolding field
    torn_sum half high =
        let f = (stands_there mark marks items [] i log).asked in
        let size = summed_size in
        let in-region = room in
        let long = whole_length in
        let upper : get_or torn (start + summed + 1) 0 ≡ 0 = blank (start + summed + 1) (omega arith) in
        let total = crc16 (covered_of (mark start) i) in
        let first : get_or torn (start + summed) 0 ≡ get_or (bytes_of 2 total) 0 0 =
        came summed (omega arith)
        ∙ ap₂ (λ (x : List ℕ) (k : ℕ). get_or x k 0) (whole_parts (mark start) i) (sym (add-zero summed))
        ∙ get_or-append-add (covered_of (mark start) i) (behind (mark start) i) 0 0
        ∙ get_or-append (bytes_of 2 total) _ 0 0 (let l = bytes_length 2 total in omega arith) in
        let lower = bytes_small 2 total 0 in
        let covered : take summed (drop start torn) ≡ covered_of (mark start) i =
        sym (same_part whole torn start (start + n) alike start summed (omega arith) (omega arith) (omega arith) (whole_length ∙ sym torn_length)) ∙ got_covered (mark start) i f (marks start) region start room in
        torn_quiet
        (λ h.
        let v = verified mark torn start h in
        let at = sum_kept (omega arith) in
        let less : sum_place (entry_at torn start) - start ≡ summed = omega arith in
        let sum : field 2 torn (start + summed) ≡ crc16 (covered_of (mark start) i) =
        ap (field 2 torn) (sym at) ∙ v.agreed ∙ ap (λ (k : ℕ). crc16 (take k (drop start torn))) less ∙ ap crc16 covered in
        omega arith)

    -- the cut came behind the checksum, in the filling: the entry stands
    pub torn_kept : item_length i ≤ n → Survives mark torn (items ++ (i ∷ [])) [] []
    unfolding sizes
    torn_kept long =
        let s = stored mark marks log in
        let in-region = room in
        let u = place in
        let b = s.place in
        let split = stand_split mark region items (i ∷ []) s.stands in
        let end = placed_end start i.kind i.ns (length i.key) (length i.value) in
        let there : Whole mark torn start i = whole_same mark whole torn (whole_length ∙ sym torn_length) start i (λ k a b. alike k a (omega arith)) stands in
        stand_survives mark torn (items ++ (i ∷ [])) [] []
        (let l = torn_length in let c = s.small in omega arith)
        (stand_append mark torn
        (stand_same mark region torn (sym torn_length) (λ k x y. sym (over_before region start (cut (mark start) i n) k (omega arith) (omega arith))) split.0)
        (more (subst (λ (k : ℕ). Whole mark torn k i) (sym (zero-add start)) there) none))
        none
        (let l = torn_length in omega arith)
        (λ k x. blank k (omega arith))
        (λ q x y z. absurd (omega arith))

-- the torn region is the log as it stood before, with the first n bytes of the entry put over it
pub torn_is : (mark : ℕ → ℕ) → ((p : ℕ) → mark p < 2 ^ 24)
    → {region : List ℕ} {used : ℕ} {items : List Item}
    → Logged mark region used items
    → (i : Item) → used + size_of i ≤ length region
    → (n : ℕ) → n ≤ size_of i
    → over region used (take n (encoded (mark used) i)) ≡ over (over region used (encoded (mark used) i)) used (cut (mark used) i n)
torn_is mark marks {region} {used} log i room n some =
    let code = encoded (mark used) i in
    let part = take n code in
    let run = cut (mark used) i n in
    let whole = over region used code in
    let blank = (stored mark marks log).blank in
    let lc : length code ≡ size_of i = encoded_length (mark used) i in
    let lp : length part ≡ n = length-take-le n code (omega arith) in
    let lr : length run ≡ size_of i = simp (length-append, length-replicate) (omega arith) in
    let lw : length whole ≡ length region = over_length region used code (omega arith) in
    let la : length (over region used part) ≡ length region = over_length region used part (omega arith) in
    let lb : length (over whole used run) ≡ length whole = over_length whole used run (omega arith) in
    ext_get_or 0 (over region used part) (over whole used run) (omega arith)
    (λ k l.
    ⊎_elim
    (λ x. over_before region used part k (omega arith) x ∙ sym (over_before whole used run k (omega arith) x ∙ over_before region used code k (omega arith) x))
    (λ x.
    let j = k - used in
    let e : k ≡ used + j = omega arith in
    ⊎_elim
    (λ y.
    ap (λ (m : ℕ). get_or (over region used part) m 0) e
    ∙ over_in region used part j (omega arith) (omega arith)
    ∙ sym (ap (λ (m : ℕ). get_or (over whole used run) m 0) e ∙ over_in whole used run j (omega arith) (omega arith) ∙ get_or-append part (replicate (size_of i - n) 0) 0 j (omega arith)))
    (λ y.
    over_behind region used part k (omega arith) (omega arith)
    ∙ blank k (omega arith)
    ∙ sym
    (⊎_elim
    (λ z.
    let f : j ≡ length part + (j - n) = omega arith in
    ap (λ (m : ℕ). get_or (over whole used run) m 0) e
    ∙ over_in whole used run j (omega arith) (omega arith)
    ∙ ap (λ (m : ℕ). get_or run m 0) f
    ∙ get_or-append-add part (replicate (size_of i - n) 0) (j - n) 0
    ∙ zeros_get (size_of i - n) (j - n))
    (λ z. over_behind whole used run k (omega arith) (omega arith) ∙ over_behind region used code k (omega arith) (omega arith) ∙ blank k (omega arith))
    (below_or k (used + size_of i))))
    (below_or k (used + n)))
    (below_or k used))
