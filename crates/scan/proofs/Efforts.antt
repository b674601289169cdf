-- Document 02, request 8: how much a walk and a listing can take.
-- Assumes nothing.
use Prim.Native.Nat.{ℕ, zero, suc, ◌+◌, ◌-◌, ◌*◌, ◌/◌, ◌<◌, ◌≤◌}
use mathlib.Core.Path.{◌≡◌, refl, sym, ap, ◌∙◌}
use mathlib.Core.List.{List, [], ◌∷◌}
use mathlib.Core.Bool.{Bool, true, false, ◌&&◌}
use native.Mathlib.Nat.{add-zero, mul-add}
use native.Mathlib.Omega.{arith}
use borrow.Author.Tests.{leb-true, leb-false}
use lib.ListN.{length, get_or}
use lib.Dec.{leb, ltb, eqb}
use Rattle.answers.specs.Answers.{Said, accepted, refused, pick_number}
use Rattle.answers.specs.Limits.{largest_region}
use Rattle.fields.specs.Numbers.{field, aligned}
use Rattle.entry.specs.Words.{word_mark, word_kind}
use Rattle.entry.specs.Layout.{length_of, entry_at}
use Rattle.entry.specs.declared.Entry.{Entry}
use Rattle.entry.proofs.Standing.{entry_offset, entry_length, entry_longest}
use Rattle.scan.specs.Walk.{Step, found, ended, Trial, done, next, or_else, trial, walk_lines, walk}
use Rattle.scan.specs.Listing.{Listed, grow, list}
use Rattle.scan.specs.Efforts.{no_effort, plus, Counted, behind, or_later, summed, most_per_line, lines_at, bytes_at, counted_lines, counted_from, counted_walk, walks_effort, list_effort}
use Rattle.scan.specs.Inner.{later}
use Rattle.scan.specs.declared.Effort.{Effort}
use Rattle.scan.proofs.Trials.{found_verified}
use Rattle.scan.proofs.Walks.{walk_over, walk_found}
use Rattle.scan.proofs.Listings.{falls, list_step}
use Rattle.scan.proofs.Counting.{plus_none, none_plus, summed_whole, summed_past, lines_answer, counted_answer, counted_aligned}

-- an entry adds no more than the region has
pub summed_most : (s : List ℕ) (e : Entry) → e.end ≡ e.offset + length_of e.kind e.klen e.vlen → summed s e ≤ length s
summed_most s e h = go (leb e.end (length s)) refl
  where
    go : (b : Bool) → leb e.end (length s) ≡ b → summed s e ≤ length s
    go true q = let l = leb-true e.end (length s) q in omega (arith, summed_whole s e l)
    go false q = omega (arith, summed_past s e (leb-false e.end (length s) q))

-- an entry that starts at o, behind w lines that were tried from offset on, ends on a later line: the l lines behind it come on top
past : (bound offset end o w l : ℕ) → aligned offset + 16 * w ≤ o + 16 → aligned offset ≤ o → o + 8 ≤ end → w ≤ (bound + 15 - aligned offset) / 16 → l ≤ (bound + 15 - aligned end) / 16 → w + l ≤ (bound + 15 - aligned offset) / 16
unfolding aligned
past bound offset end o w l a b c d e = omega arith

-- of so many lines, each of which adds less than the largest region, no part comes near the largest number, whatever of this kind was spent before
part_fits : (part rest before whole : Effort) → plus part rest ≡ plus before whole → whole.lines ≤ 16777216 → whole.bytes ≤ 268435456 * whole.lines → (part.lines ≤ before.lines + 16777216) × (part.bytes ≤ before.bytes + 4503599627370496)
part_fits part rest before whole e lines bytes =
    let l : part.lines + rest.lines ≡ before.lines + whole.lines = ap (λ (x : Effort). x.lines) e in
    let b : part.bytes + rest.bytes ≡ before.bytes + whole.bytes = ap (λ (x : Effort). x.bytes) e in
    (omega arith, omega arith)

module _ (mark : ℕ → ℕ) (s : List ℕ) where
  -- the listing's effort is its first walk's, and that of the listing from the end of what it found

  pub list_effort_lem : (bound offset : ℕ) → list_effort mark s bound offset ≡ plus (counted_walk mark s bound offset).effort (later (walk mark s bound offset) (λ e. list_effort mark s bound e.end))
  unfolding list_effort walks_effort
  list_effort_lem bound offset = ap (λ (l : Listed). walks_effort mark s bound offset l.entries) (list_step mark s bound offset) ∙ go (walk mark s bound offset)
    where
      go : (x : Said Step) → walks_effort mark s bound offset (grow x (λ (e : Entry). list mark s bound e.end)).entries ≡ plus (counted_walk mark s bound offset).effort (later x (λ (e : Entry). list_effort mark s bound e.end))
      go (accepted (found e)) = refl
      go (accepted ended) = sym (plus_none (counted_walk mark s bound offset).effort)
      go (refused n values) = sym (plus_none (counted_walk mark s bound offset).effort)

  -- how many lines a walk tries

  line_once : (p : ℕ) → lines_at mark s p ≤ 1
  unfolding lines_at
  line_once p = go (leb (p + 8) (length s))
    where
      go : (b : Bool) → pick_number b 1 0 ≤ 1
      go true = omega arith
      go false = omega arith

  lines_most : (n p : ℕ) → (counted_lines mark s n p).effort.lines ≤ n
  unfolding counted_lines
  lines_most zero p = omega arith
  lines_most (suc n) p = go (trial mark s p) (lines_most n (p + 16))
    where
      go : (t : Trial) → (counted_lines mark s n (p + 16)).effort.lines ≤ n → lines_at mark s p + (or_later t (counted_lines mark s n (p + 16))).effort.lines ≤ suc n
      go (done answer) ih = omega (arith, line_once p)
      go next ih = omega (arith, line_once p)

  -- a walk that finds an entry tries no line behind the entry's first
  lines_found : (n p : ℕ) {e : Entry} → walk_lines mark s n p ≡ accepted (found e) → p + 16 * (counted_lines mark s n p).effort.lines ≤ e.offset + 16
  unfolding walk_lines counted_lines
  lines_found zero p h = absurd (let z : ◌≡◌ {A = ℕ} 0 1 = cc in omega arith)
  lines_found (suc n) p {e} h = go (trial mark s p) refl h (lines_found n (p + 16))
    where
      go : (t : Trial) → trial mark s p ≡ t → or_else t (walk_lines mark s n (p + 16)) ≡ accepted (found e) → (walk_lines mark s n (p + 16) ≡ accepted (found e) → p + 16 + 16 * (counted_lines mark s n (p + 16)).effort.lines ≤ e.offset + 16) → p + 16 * (lines_at mark s p + (or_later t (counted_lines mark s n (p + 16))).effort.lines) ≤ e.offset + 16
      go (done answer) t q ih =
          let v = found_verified mark s p (t ∙ ap done q) in
          let o : e.offset ≡ p = ap (λ (x : Entry). x.offset) (sym v.is) ∙ entry_offset s p in
          omega (arith, line_once p)
      go next t q ih =
          let i = ih q in
          omega (arith, line_once p)

  from_lines : (bound p : ℕ) → (counted_from mark s bound p).effort.lines ≤ (bound + 15 - p) / 16
  unfolding counted_from
  from_lines bound p = lines_most ((bound + 15 - p) / 16) p

  walk_lines_lem : (bound offset : ℕ) → (counted_walk mark s bound offset).effort.lines ≤ (bound + 15 - aligned offset) / 16
  walk_lines_lem bound offset = rw (counted_aligned mark s bound offset) (from_lines bound (aligned offset))

  walk_found_lines : (bound offset : ℕ) {e : Entry} → walk mark s bound offset ≡ accepted (found e) → aligned offset + 16 * (counted_walk mark s bound offset).effort.lines ≤ e.offset + 16
  unfolding counted_from
  walk_found_lines bound offset h =
      let n = (bound + 15 - aligned offset) / 16 in
      let c = counted_aligned mark s bound offset in
      let q = sym (lines_answer mark s n (aligned offset)) ∙ ap (λ (x : Counted). x.answer) (sym c) ∙ counted_answer mark s bound offset ∙ h in
      rw c (lines_found n (aligned offset) q)

  -- how many bytes are summed up: at most `most` for each line, if no line adds more

  line_bytes : (most p : ℕ) → ((entry_at s p).end ≤ length s → length_of (entry_at s p).kind (entry_at s p).klen (entry_at s p).vlen ≤ most + 2) → bytes_at mark s p ≤ most * lines_at mark s p
  unfolding bytes_at lines_at summed
  line_bytes most p h = go (leb (p + 8) (length s)) (eqb (word_mark (field 4 s p)) (mark p) && ltb (word_kind (field 4 s p)) 3) (leb (entry_at s p).end (length s)) refl
    where
      n : ℕ
      n = length_of (entry_at s p).kind (entry_at s p).klen (entry_at s p).vlen

      go : (a b c : Bool) → leb (entry_at s p).end (length s) ≡ c → pick_number (a && b) (pick_number c (n - 2) 0) 0 ≤ most * pick_number a 1 0
      go false b c e = omega arith
      go true false c e = omega arith
      go true true false e = omega arith
      go true true true e = let l = h (leb-true _ _ e) in omega arith

  module _ (most : ℕ) (each : (p : ℕ) → bytes_at mark s p ≤ most * lines_at mark s p) where
    lines_bytes : (n p : ℕ) → (counted_lines mark s n p).effort.bytes ≤ most * (counted_lines mark s n p).effort.lines
    unfolding counted_lines
    lines_bytes zero p = omega arith
    lines_bytes (suc n) p = go (trial mark s p) (lines_bytes n (p + 16))
      where
        go : (t : Trial) → (counted_lines mark s n (p + 16)).effort.bytes ≤ most * (counted_lines mark s n (p + 16)).effort.lines → bytes_at mark s p + (or_later t (counted_lines mark s n (p + 16))).effort.bytes ≤ most * (lines_at mark s p + (or_later t (counted_lines mark s n (p + 16))).effort.lines)
        go (done answer) ih = rw (add-zero, add-zero) (each p)
        go next ih = rw (mul-add most (lines_at mark s p) (counted_lines mark s n (p + 16)).effort.lines) (omega (arith, each p))

    from_bytes : (bound p : ℕ) → (counted_from mark s bound p).effort.bytes ≤ most * (counted_from mark s bound p).effort.lines
    unfolding counted_from
    from_bytes bound p = lines_bytes ((bound + 15 - p) / 16) p

    walk_bytes : (bound offset : ℕ) → (counted_walk mark s bound offset).effort.bytes ≤ most * (counted_walk mark s bound offset).effort.lines
    walk_bytes bound offset = rw (counted_aligned mark s bound offset) (from_bytes bound (aligned offset))

    walks_bytes : (bound offset : ℕ) (es : List Entry) → (walks_effort mark s bound offset es).bytes ≤ most * (walks_effort mark s bound offset es).lines
    unfolding walks_effort
    walks_bytes bound offset [] = walk_bytes bound offset
    walks_bytes bound offset (e ∷ es) =
        let later = walks_bytes bound e.end es in
        rw (mul-add most (counted_walk mark s bound offset).effort.lines (walks_effort mark s bound e.end es).lines) (omega (arith, walk_bytes bound offset))

    pub list_bytes : (bound offset : ℕ) → (list_effort mark s bound offset).bytes ≤ most * (list_effort mark s bound offset).lines
    unfolding list_effort
    list_bytes bound offset = walks_bytes bound offset (list mark s bound offset).entries

  -- "bytes are at most 131,078 for each line tried"
  pub bytes_each : ((i : ℕ) → get_or s i 0 < 256) → (p : ℕ) → bytes_at mark s p ≤ most_per_line * lines_at mark s p
  bytes_each small p = line_bytes most_per_line p (λ h. omega (arith, entry_longest s p small))

  -- how many lines a listing tries

  list_lines_most : (n bound offset : ℕ) → (bound + 15 - aligned offset) / 16 ≤ n → (list_effort mark s bound offset).lines ≤ (bound + 15 - aligned offset) / 16
  list_lines_most zero bound offset h =
      rw (list_effort_lem bound offset) (rw (walk_over mark s bound offset (omega arith)) (omega (arith, walk_lines_lem bound offset)))
  list_lines_most (suc n) bound offset h = rw (list_effort_lem bound offset) (go (walk mark s bound offset) refl (λ e. list_lines_most n bound e.end))
    where
      go : (x : Said Step) → walk mark s bound offset ≡ x → ((e : Entry) → (bound + 15 - aligned e.end) / 16 ≤ n → (list_effort mark s bound e.end).lines ≤ (bound + 15 - aligned e.end) / 16) → (counted_walk mark s bound offset).effort.lines + (later x (λ (e : Entry). list_effort mark s bound e.end)).lines ≤ (bound + 15 - aligned offset) / 16
      go (accepted (found e)) q ih =
          let z = walk_found mark s bound offset q in
          let i = ih e (falls mark s bound offset n z h) in
          past bound offset e.end e.offset (counted_walk mark s bound offset).effort.lines (list_effort mark s bound e.end).lines (walk_found_lines bound offset q) z.low z.long (walk_lines_lem bound offset) i
      go (accepted ended) q ih = omega (arith, walk_lines_lem bound offset)
      go (refused k values) q ih = omega (arith, walk_lines_lem bound offset)

  -- "Lines tried are at most the bound divided by 16, rounded up": here of the bytes between offset and bound
  pub list_lines : (bound offset : ℕ) → (list_effort mark s bound offset).lines ≤ (bound + 15 - aligned offset) / 16
  list_lines bound offset = list_lines_most ((bound + 15 - aligned offset) / 16) bound offset (omega arith)

  -- no count comes near the largest number, nor does any part of one
  module _ (small : length s ≤ largest_region) (bound : ℕ) (within : bound ≤ length s) where
    each_fits : (p : ℕ) → bytes_at mark s p ≤ 268435456 * lines_at mark s p
    each_fits p = line_bytes 268435456 p (λ h. omega (arith, entry_length s p, entry_offset s p))

    pub counted_fits : (p q : ℕ) (part before : Effort) → behind part (counted_from mark s bound p) ≡ behind before (counted_from mark s bound q) → (part.lines ≤ before.lines + 16777216) × (part.bytes ≤ before.bytes + 4503599627370496)
    counted_fits p q part before e =
        part_fits part (counted_from mark s bound p).effort before (counted_from mark s bound q).effort (ap (λ (c : Counted). c.effort) e)
        (omega (arith, from_lines bound q)) (from_bytes 268435456 each_fits bound q)

    pub list_fits : (part rest : Effort) → plus part rest ≡ list_effort mark s bound 0 → (part.lines ≤ 16777216) × (part.bytes ≤ 4503599627370496)
    unfolding aligned
    list_fits part rest e =
        let f = part_fits part rest no_effort (list_effort mark s bound 0) (e ∙ sym (none_plus _)) (omega (arith, list_lines bound 0)) (list_bytes 268435456 each_fits bound 0) in
        (omega arith, omega arith)
