-- Any number of stretches: each damaged entry costs itself and no other.
-- Assumes nothing.
use Prim.Native.Nat.{ℕ, ◌+◌, ◌%◌, ◌^◌, ◌<◌, ◌≤◌}
use mathlib.Core.Path.{◌≡◌, refl, sym, ap, ap₂, ◌∙◌}
use mathlib.Core.List.{List, [], ◌∷◌, append-nil, map}
use native.Mathlib.Omega.{arith}
use native.Mathlib.Nat.{add-zero, add_assoc}
use lib.ListN.{length, get_or}
use Rattle.answers.specs.Answers.{accepted}
use Rattle.fields.proofs.Lines.{aligned_line}
use Rattle.entry.specs.declared.Entry.{Entry}
use Rattle.append.specs.Bytes.{Item, item_length, size_of}
use Rattle.scan.specs.Walk.{ended}
use Rattle.scan.specs.Listing.{Listed, list}
use Rattle.tail.specs.Tail.{used_bound}
use Rattle.tail.proofs.Zeros.{used_least}
use Rattle.damage.specs.Log.{Logged, sizes, entry_of}
use Rattle.damage.specs.Damage.{item_at}
use Rattle.damage.specs.Stretches.{Fates, over, kept, lost}
use Rattle.damage.proofs.Written.{Whole, item_end}
use Rattle.damage.proofs.Listings.{onto, list_over, list_skip}
use Rattle.damage.proofs.Logs.{Stand, none, more, sizes_line, whole_same, whole_listed, item_read, stored}
use Rattle.damage.proofs.Theorem.{quiet_passed}

module _ (mark : ℕ → ℕ) (region damaged : List ℕ) (long : length region ≡ length damaged) where
  abbrev listing : ℕ → Listed
  listing p = list mark damaged (used_bound damaged) p

  fates_listed : {p : ℕ} {items stay : List Item} {es : List Entry} → p % 16 ≡ 0 → p + sizes items ≤ length region → Stand mark region p items → Fates mark region damaged p items es stay → (listing p ≡ onto es (listing (p + sizes items))) × (map (item_at damaged) es ≡ stay)
  unfolding sizes
  fates_listed {p} h fits none over = (ap listing (sym (add-zero p)), refl)
  fates_listed h fits (more {p} {i} {is} w r) (kept {es = es} same rest) =
      let line = aligned_line (item_length i) in
      let end = item_end p i in
      let here : Whole mark damaged p i = whole_same mark region damaged long p i (λ k a b. same k a (omega arith)) w in
      let ih = fates_listed (omega arith) (omega arith) r rest in (
        whole_listed mark damaged p i h here
            ∙ ap (onto (entry_of p i ∷ [])) ih.0
            ∙ ap (λ (k : ℕ). onto (entry_of p i ∷ es) (listing k)) (add_assoc p (size_of i) (sizes is)),
        ap₂ (λ (j : Item) (js : List Item). j ∷ js) (item_read mark damaged p i here) ih.1,
      )
  fates_listed h fits (more {p} {i} {is} w r) (lost {es = es} quiet rest) =
      let line = aligned_line (item_length i) in
      let ih = fates_listed (omega arith) (omega arith) r rest in (
        list_skip mark damaged (used_bound damaged) p (p + size_of i) h (omega arith) (omega arith) (λ q a b c. quiet_passed mark damaged q (omega arith) (quiet q a b c))
            ∙ ih.0
            ∙ ap (λ (k : ℕ). onto es (listing k)) (add_assoc p (size_of i) (sizes is)),
        ih.1,
      )

-- the listing is exactly the entries that are kept, and what is read back from them is what was appended
pub any_stretches : (mark : ℕ → ℕ) → ((p : ℕ) → mark p < 2 ^ 24)
    → {region damaged : List ℕ} {used : ℕ} {items stay : List Item} {es : List Entry}
    → Logged mark region used items
    → length region ≡ length damaged
    → ((k : ℕ) → used ≤ k → get_or damaged k 0 ≡ 0)
    → Fates mark region damaged 0 items es stay
    → (list mark damaged (used_bound damaged) 0 ≡ record { entries = es; stop = accepted ended }) × (map (item_at damaged) es ≡ stay)
any_stretches mark marks {region} {damaged} {used} {items} {es = es} log long blank fates =
    let whole = stored mark marks log in
    let place = whole.place in
    let fits = whole.fits in
    let line = sizes_line items in
    let all = fates_listed mark region damaged long refl (omega arith) whole.stands fates in (
      all.0
          ∙ ap (onto es) (list_over mark damaged (used_bound damaged) (0 + sizes items) (used_least damaged (0 + sizes items) (omega arith) (λ k h. blank k (omega arith))))
          ∙ ap (λ (x : List Entry). record { entries = x; stop = accepted ended }) (append-nil es),
      all.1,
    )
