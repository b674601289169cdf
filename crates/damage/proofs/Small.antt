-- Small damage never leaves the entry's own line standing, as long as the length of the entry is read as before.
-- Assumes nothing.
use Prim.Native.Nat.{ℕ, suc, ◌+◌, ◌-◌, ◌^◌, ◌<◌, ◌≤◌}
use mathlib.Core.Path.{◌≡◌, refl, sym, ap, ap₂, ◌∙◌}
use mathlib.Core.Bool.{Bool, true, false}
use mathlib.Core.List.{List, ◌∷◌, ◌++◌}
use mathlib.Core.Logic.{⊎_elim, inl}
use native.Mathlib.Omega.{arith}
use lib.Dec.{eqb}
use lib.ListN.{length, take, drop, get_or, length-take, length-drop}
use lib.Seq.{ext_get_or, get_or-take, get_or-drop, split_at, drop-cons}
use Rattle.answers.specs.Answers.{pick_number}
use Rattle.fields.specs.Numbers.{field}
use Rattle.checksum.specs.Catalogue.{crc16}
use Rattle.checksum.proofs.Bytes.{bytes_from_places, bytes_take, bytes_drop}
use Rattle.checksum.proofs.Damage.{two_changed}
use Rattle.entry.specs.Words.{word_mark, word_kind}
use Rattle.entry.specs.Layout.{placed, entry_at, sum_place, head_length}
use Rattle.entry.specs.declared.Entry.{Entry}
use Rattle.entry.proofs.Standing.{Verified, verified, entry_offset, entry_sum, entry_long, head_bounds}
use Rattle.damage.specs.Damage.{Quiet}
use Rattle.damage.specs.Small.{Changed, OnOneSide, HeadKept}
use Rattle.damage.proofs.Local.{same_field, same_part}

-- a run is its front, two bytes, and the rest
two_of : (s : List ℕ) (m : ℕ) → m + 2 ≤ length s → s ≡ take m s ++ (get_or s m 0 ∷ get_or s (m + 1) 0 ∷ drop (m + 2) s)
two_of s m h =
    split_at s m 0 (omega arith)
    ∙ ap (λ (r : List ℕ). take m s ++ (get_or s m 0 ∷ r))
    (let one : suc m ≡ m + 1 = omega arith in
    let two : suc (suc m) ≡ m + 2 = omega arith in
    drop-cons s (suc m) 0 (omega arith) ∙ ap₂ (λ (i j : ℕ). get_or s i 0 ∷ drop j s) one two)

-- two bytes make one number
field_apart : (s t : List ℕ) (k : ℕ) → ((i : ℕ) → get_or s i 0 < 2 ^ 8) → ((i : ℕ) → get_or t i 0 < 2 ^ 8) → field 2 s k ≡ field 2 t k → (get_or s k 0 ≡ get_or t k 0) × (get_or s (k + 1) 0 ≡ get_or t (k + 1) 0)
unfolding field
field_apart s t k old new e =
    let s0 = old k in
    let s1 = old (k + 1) in
    let t0 = new k in
    let t1 = new (k + 1) in
    (omega arith, omega arith)

-- three bytes make the mark
mark_apart : (s t : List ℕ) (p : ℕ) → ((i : ℕ) → get_or s i 0 < 2 ^ 8) → ((i : ℕ) → get_or t i 0 < 2 ^ 8) → word_mark (field 4 s p) ≡ word_mark (field 4 t p) → (get_or s p 0 ≡ get_or t p 0) × (get_or s (p + 1) 0 ≡ get_or t (p + 1) 0) × (get_or s (p + 1 + 1) 0 ≡ get_or t (p + 1 + 1) 0)
unfolding field word_mark
mark_apart s t p old new e =
    let s0 = old p in
    let s1 = old (p + 1) in
    let s2 = old (p + 1 + 1) in
    let t0 = new p in
    let t1 = new (p + 1) in
    let t2 = new (p + 1 + 1) in
    (omega arith, omega arith, omega arith)

module _ (mark : ℕ → ℕ) (s t : List ℕ) (p x : ℕ) (e : Entry) (v : Verified mark s p e) (c : Changed s t p e.end x) where
  abbrev sum : ℕ
  sum = sum_place e

  abbrev covered : List ℕ → List ℕ
  covered r = take (sum - p) (drop p r)

  sum_old : sum_place (entry_at s p) ≡ sum
  sum_old = ap (λ (y : Entry). sum_place y) v.is

  -- the sum stands at the entry's end
  sum_end : e.end ≡ sum + 2
  sum_end = ap (λ (y : Entry). y.end) (sym v.is) ∙ entry_sum s p ∙ ap (λ (k : ℕ). k + 2) sum_old

  sum_far : p + 6 ≤ sum
  sum_far = let a = entry_sum s p in let b = entry_long s p in let o = sum_old in omega arith

  sum_within : sum + 2 ≤ length s
  sum_within = let a = entry_sum s p in let b = v.within in let o = sum_old in omega arith

  covered_length : (r : List ℕ) → length s ≡ length r → length (covered r) ≡ sum - p
  covered_length r l = let a = sum_within in let b = sum_far in simp (length-take, length-drop) (omega arith)

  covered_get : (r : List ℕ) (i : ℕ) → i < sum - p → get_or (covered r) i 0 ≡ get_or r (p + i) 0
  covered_get r i h = get_or-take (sum - p) (drop p r) i 0 h ∙ get_or-drop p r i 0

  module _ (w : Verified mark t p (entry_at t p)) (ends : (entry_at t p).end ≡ e.end) where
    sum_new : sum_place (entry_at t p) ≡ sum
    sum_new = let a = sum_end in let b = entry_sum t p in omega arith

    agreed_old : field 2 s sum ≡ crc16 (covered s)
    agreed_old = ap (field 2 s) (sym sum_old) ∙ v.agreed ∙ ap (λ (q : ℕ). crc16 (take (q - p) (drop p s))) sum_old

    agreed_new : field 2 t sum ≡ crc16 (covered t)
    agreed_new = ap (field 2 t) (sym sum_new) ∙ w.agreed ∙ ap (λ (q : ℕ). crc16 (take (q - p) (drop p t))) sum_new

    -- where the two bytes are the checksum, what it covers is the same, and so is the sum
    in_sum : x ≡ sum → ⊥
    in_sum here =
        let a = sum_end in
        let b = sum_far in
        let l = sum_within in
        let same : covered s ≡ covered t =
        same_part s t p sum (λ k i j. c.only k i (omega arith) (λ q. absurd (omega arith)) (λ q. absurd (omega arith))) p (sum - p) (omega arith) (omega arith) (omega arith) c.long in
        let both = field_apart s t sum c.old c.new (agreed_old ∙ ap crc16 same ∙ sym agreed_new) in
        c.indeed (rw here both.0) (rw here both.1)

    -- where both are covered, the sum is the same, so what is covered would be the same
    in_covered : p ≤ x → x + 2 ≤ sum → ⊥
    in_covered low high =
        let a = sum_end in
        let m = x - p in
        let n : p + m ≡ x = omega arith in
        let n1 : p + (m + 1) ≡ x + 1 = omega arith in
        let ls = covered_length s refl in
        let lt = covered_length t c.long in
        let front : take m (covered s) ≡ take m (covered t) =
        ext_get_or 0 (take m (covered s)) (take m (covered t)) (omega (arith, length-take m (covered s), length-take m (covered t)))
        (λ i l.
        let il = length-take m (covered s) in
        get_or-take m (covered s) i 0 (omega arith) ∙ covered_get s i (omega arith)
        ∙ c.only (p + i) (omega arith) (omega arith) (λ q. absurd (omega arith)) (λ q. absurd (omega arith))
        ∙ sym (get_or-take m (covered t) i 0 (omega arith) ∙ covered_get t i (omega arith))) in
        let back : drop (m + 2) (covered s) ≡ drop (m + 2) (covered t) =
        ext_get_or 0 (drop (m + 2) (covered s)) (drop (m + 2) (covered t)) (omega (arith, length-drop (m + 2) (covered s), length-drop (m + 2) (covered t)))
        (λ i l.
        let il = length-drop (m + 2) (covered s) in
        get_or-drop (m + 2) (covered s) i 0 ∙ covered_get s (m + 2 + i) (omega arith)
        ∙ c.only (p + (m + 2 + i)) (omega arith) (omega arith) (λ q. absurd (omega arith)) (λ q. absurd (omega arith))
        ∙ sym (get_or-drop (m + 2) (covered t) i 0 ∙ covered_get t (m + 2 + i) (omega arith))) in
        let sums : field 2 s sum ≡ field 2 t sum =
        same_field s t sum (sum + 2) (λ k i j. c.only k (omega arith) (omega arith) (λ q. absurd (omega arith)) (λ q. absurd (omega arith))) 2 sum (omega arith) (omega arith) in
        let s0 : get_or (covered s) m 0 ≡ get_or s x 0 = covered_get s m (omega arith) ∙ ap (λ (k : ℕ). get_or s k 0) n in
        let s1 : get_or (covered s) (m + 1) 0 ≡ get_or s (x + 1) 0 = covered_get s (m + 1) (omega arith) ∙ ap (λ (k : ℕ). get_or s k 0) n1 in
        let t0 : get_or (covered t) m 0 ≡ get_or t x 0 = covered_get t m (omega arith) ∙ ap (λ (k : ℕ). get_or t k 0) n in
        let t1 : get_or (covered t) (m + 1) 0 ≡ get_or t (x + 1) 0 = covered_get t (m + 1) (omega arith) ∙ ap (λ (k : ℕ). get_or t k 0) n1 in
        let bs0 = c.old x in
        let bs1 = c.old (x + 1) in
        let bt0 = c.new x in
        let bt1 = c.new (x + 1) in
        let parted : crc16 (take m (covered s) ++ (get_or (covered s) m 0 ∷ get_or (covered s) (m + 1) 0 ∷ drop (m + 2) (covered s))) ≡ crc16 (take m (covered s) ++ (get_or (covered t) m 0 ∷ get_or (covered t) (m + 1) 0 ∷ drop (m + 2) (covered s))) =
        ap crc16 (sym (two_of (covered s) m (omega arith)))
        ∙ sym agreed_old ∙ sums ∙ agreed_new
        ∙ ap crc16
        (two_of (covered t) m (omega arith)
        ∙ ap₂ (λ (f b : List ℕ). f ++ (get_or (covered t) m 0 ∷ get_or (covered t) (m + 1) 0 ∷ b)) (sym front) (sym back)) in
        let both = two_changed (take m (covered s)) _ _ _ _ (bytes_drop (m + 2) (bytes_take (sum - p) (bytes_drop p (bytes_from_places s c.old)))) (omega arith) (omega arith) (omega arith) (omega arith) parted in
        c.indeed (sym s0 ∙ both.0 ∙ t0) (sym s1 ∙ both.1 ∙ t1)

  -- so the line can't verify as an entry of the same length, and it is quiet if its type is known
  pub same_end_quiet : OnOneSide e x → (entry_at t p).end ≡ e.end → (word_kind (field 4 t p) ≡ 3 → ⊥) → Quiet mark t p
  same_end_quiet side ends known =
      let o : e.offset ≡ p = ap (λ (y : Entry). y.offset) (sym v.is) ∙ entry_offset s p in
      record {
        unverified = λ h. let w = verified mark t p h in ⊎_elim (λ l. in_covered w ends (let a = l.0 in omega arith) l.1) (in_sum w ends) side;
        known = λ room marked. known;
      }

  abbrev tombstone : List ℕ → Bool
  tombstone r = eqb (word_kind (field 4 r p)) 2

  -- the length is read as before where the length fields are as before, and a data entry is still one, or a tombstone still one
  same_end : tombstone t ≡ tombstone s → field 2 s (p + 4) ≡ field 2 t (p + 4) → (tombstone s ≡ false → field 2 s (p + 6) ≡ field 2 t (p + 6)) → (entry_at t p).end ≡ e.end
  unfolding entry_at placed head_length
  same_end kinds klens vlens = ap₂ ends kinds (sym klens) ∙ go (tombstone s) refl ∙ ap (λ (y : Entry). y.end) v.is
    where
      ends : Bool → ℕ → ℕ
      ends b klen = p + pick_number b 6 8 + pick_number b 0 (field 2 t (p + 6)) + klen + 2

      go : (b : Bool) → tombstone s ≡ b → p + pick_number b 6 8 + pick_number b 0 (field 2 t (p + 6)) + field 2 s (p + 4) + 2 ≡ p + pick_number b 6 8 + pick_number b 0 (field 2 s (p + 6)) + field 2 s (p + 4) + 2
      go true q = refl
      go false q = ap (λ (n : ℕ). p + 8 + n + field 2 s (p + 4) + 2) (sym (vlens q))

  old_known : word_kind (field 4 s p) ≡ 3 → ⊥
  old_known h = let k = v.known in omega arith

  -- damage in the value, in the key, or in the checksum
  pub body_quiet : OnOneSide e x → HeadKept s t e → Quiet mark t p
  unfolding head_length placed entry_at
  body_quiet side head =
      let offset : e.offset ≡ p = ap (λ (y : Entry). y.offset) (sym v.is) in
      let kind : e.kind ≡ word_kind (field 4 s p) = ap (λ (y : Entry). y.kind) (sym v.is) in
      let value : e.vplace ≡ p + head_length e.kind = ap (λ (y : Entry). y.vplace) (sym v.is) ∙ ap (λ (k : ℕ). p + head_length k) (sym kind) in
      let bounds = head_bounds e.kind in
      let kept : (n k : ℕ) → p ≤ k → k + n ≤ e.vplace → field n s k ≡ field n t k = λ n k a b. same_field s t p e.vplace (λ j i l. head j (omega arith) l) n k a b in
      let word : field 4 s p ≡ field 4 t p = kept 4 p (omega arith) (omega arith) in
      same_end_quiet side
      (same_end (ap (λ (w : ℕ). eqb (word_kind w) 2) (sym word)) (kept 2 (p + 4) (omega arith) (omega arith))
      (λ q.
      let eight : head_length e.kind ≡ 8 = ap (λ (k : ℕ). head_length k) kind ∙ ap (λ (b : Bool). pick_number b 6 8) q in
      kept 2 (p + 6) (omega arith) (omega arith)))
      (λ h. old_known (ap word_kind word ∙ h))

  -- damage in the word, where a data entry is still one, or a tombstone still one: in the namespace, or from one type of data entry to the other
  pub word_quiet : p ≤ x → x + 2 ≤ p + 4
      → tombstone t ≡ tombstone s
      → (word_kind (field 4 t p) ≡ 3 → ⊥)
      → Quiet mark t p
  word_quiet low high kinds known =
      let far = sum_far in
      let end = sum_end in
      let o : e.offset ≡ p = ap (λ (y : Entry). y.offset) (sym v.is) ∙ entry_offset s p in
      let kept : (k : ℕ) → p + 4 ≤ k → k + 2 ≤ e.end → field 2 s k ≡ field 2 t k = λ k a d. same_field s t k (k + 2) (λ j i l. c.only j (omega arith) (omega arith) (λ q. absurd (omega arith)) (λ q. absurd (omega arith))) 2 k (omega arith) (omega arith) in
      same_end_quiet (inl (omega arith, omega arith)) (same_end kinds (kept (p + 4) (omega arith) (omega arith)) (λ q. kept (p + 6) (omega arith) (omega arith))) known

  -- damage in the mark, whatever it does beside
  pub mark_quiet : (get_or s p 0 ≡ get_or t p 0 → get_or s (p + 1) 0 ≡ get_or t (p + 1) 0 → get_or s (p + 1 + 1) 0 ≡ get_or t (p + 1 + 1) 0 → ⊥)
      → Quiet mark t p
  mark_quiet differs =
      let wrong : word_mark (field 4 t p) ≡ mark p → ⊥ = λ h. let a = mark_apart s t p c.old c.new (v.marked ∙ sym h) in differs a.0 a.1 a.2 in
      record { unverified = λ h. wrong (verified mark t p h).marked; known = λ room h k. wrong h }
