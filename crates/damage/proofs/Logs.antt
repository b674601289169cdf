-- What stands in a log: its items one behind the other, each whole, and zeros behind the last.
-- Assumes nothing.
use Prim.Native.Nat.{ℕ, ◌+◌, ◌%◌, ◌^◌, ◌<◌, ◌≤◌}
use mathlib.Core.Path.{◌≡◌, refl, sym, ap, ap₂, subst, ◌∙◌}
use mathlib.Core.List.{List, [], ◌∷◌, ◌++◌, map}
use mathlib.Core.Bool.{Bool}
use native.Mathlib.Omega.{arith}
use native.Mathlib.Nat.{add-zero, add_assoc}
use borrow.Author.Tests.{ltb-true}
use lib.ListN.{length, get_or, length-replicate}
use Rattle.answers.specs.Limits.{largest_region}
use Rattle.fields.specs.Numbers.{aligned}
use Rattle.fields.proofs.Lines.{aligned_line, aligned_from}
use Rattle.fields.proofs.Laying.{over_length, over_before, over_behind}
use Rattle.entry.specs.Layout.{placed}
use Rattle.entry.specs.declared.Entry.{Entry}
use Rattle.entry.proofs.Standing.{placed_end}
use Rattle.append.specs.Bytes.{Item, item, encoded, item_length, size_of}
use Rattle.append.proofs.Encodings.{encoded_length}
use Rattle.append.proofs.Writes.{Wrote, wrote}
use Rattle.scan.specs.Listing.{list}
use Rattle.scan.proofs.Trials.{verified_found}
use Rattle.scan.proofs.Walks.{walk_done}
use Rattle.scan.proofs.Within.{part_within}
use Rattle.tail.specs.Tail.{used_bound}
use Rattle.damage.specs.Log.{Logged, zeroed, data-appended, tombstone_appended, sizes, entry_of, entries_from}
use Rattle.damage.specs.Damage.{item_at}
use Rattle.damage.proofs.Local.{Same, same_part, still_verified}
use Rattle.damage.proofs.Written.{Writable, Whole, written, item_end}
use Rattle.damage.proofs.Bounds.{zeros_get, verified_below}
use Rattle.damage.proofs.Listings.{onto, list_found}

-- items one behind the other from p on, each whole
pub data Stand (mark : ℕ → ℕ) (s : List ℕ) : ℕ → List Item → Type 0 where
  none : {p : ℕ} → Stand mark s p []
  more : {p : ℕ} {i : Item} {is : List Item} → Whole mark s p i → Stand mark s (p + size_of i) is → Stand mark s p (i ∷ is)

pub sizes_line : (is : List Item) → sizes is % 16 ≡ 0
unfolding sizes
sizes_line [] = refl
sizes_line (i ∷ is) = let a = sizes_line is in let b = aligned_line (item_length i) in omega arith

pub sizes_append : (is js : List Item) → sizes (is ++ js) ≡ sizes is + sizes js
unfolding sizes
sizes_append [] js = omega arith
sizes_append (i ∷ is) js = let a = sizes_append is js in omega arith

-- where an item's aligned end is
item_next : (p : ℕ) (i : Item) → p % 16 ≡ 0 → aligned (entry_of p i).end ≡ p + size_of i
item_next p i h = ap aligned (placed_end p i.kind i.ns (length i.key) (length i.value)) ∙ aligned_from p (item_length i) h

-- an item's parts lie within it
item_parts : (p : ℕ) (i : Item) → (p ≤ (entry_of p i).vplace) × ((entry_of p i).vplace + length i.value ≤ (entry_of p i).kplace) × ((entry_of p i).kplace + length i.key ≤ (entry_of p i).end)
unfolding placed
item_parts p i = (omega arith, omega arith, omega arith)

module _ (mark : ℕ → ℕ) where
  module _ (s t : List ℕ) (long : length s ≡ length t) where
    pub whole_same : (p : ℕ) (i : Item) → Same s t p (entry_of p i).end → Whole mark s p i → Whole mark t p i
    whole_same p i near w =
        let parts = item_parts p i in
        let within = ap (λ (x : Entry). x.end) w.verified.is in
        let room = w.verified.within in
        record {
          asked = w.asked;
          verified = still_verified mark s t p long near w.verified;
          key = sym (same_part s t p (entry_of p i).end near (entry_of p i).kplace (length i.key) (omega arith) (omega arith) (omega arith) long) ∙ w.key;
          value = sym (same_part s t p (entry_of p i).end near (entry_of p i).vplace (length i.value) (omega arith) (omega arith) (omega arith) long) ∙ w.value;
        }

    pub stand_same : {p : ℕ} {is : List Item} → Same s t p (p + sizes is) → Stand mark s p is → Stand mark t p is
    unfolding sizes
    stand_same h none = none
    stand_same h (more {p} {i} {is} w r) =
        more (whole_same p i (λ k a b. let end = item_end p i in h k a (omega arith)) w) (stand_same (λ k a b. h k (omega arith) (omega arith)) r)

  module _ (s : List ℕ) where
    pub stand_append : {p : ℕ} {is js : List Item} → Stand mark s p is → Stand mark s (p + sizes is) js → Stand mark s p (is ++ js)
    unfolding sizes
    stand_append {p} {js = js} none r = subst (λ (k : ℕ). Stand mark s k js) (add-zero p) r
    stand_append {js = js} (more {p} {i} {is} w l) r =
        more w (stand_append l (subst (λ (k : ℕ). Stand mark s k js) (sym (add_assoc p (size_of i) (sizes is))) r))

    pub stand_split : {p : ℕ} (is js : List Item) → Stand mark s p (is ++ js) → Stand mark s p is × Stand mark s (p + sizes is) js
    unfolding sizes
    stand_split {p} [] js r = (none, subst (λ (k : ℕ). Stand mark s k js) (sym (add-zero p)) r)
    stand_split {p} (i ∷ is) js (more w r) =
        let both = stand_split {p = p + size_of i} is js r in
        (more w both.0, subst (λ (k : ℕ). Stand mark s k js) (add_assoc p (size_of i) (sizes is)) both.1)

    -- the listing has an item that stands
    pub whole_listed : (p : ℕ) (i : Item) → p % 16 ≡ 0 → Whole mark s p i → list mark s (used_bound s) p ≡ onto (entry_of p i ∷ []) (list mark s (used_bound s) (p + size_of i))
    whole_listed p i h w =
        list_found mark s (used_bound s) p h (walk_done mark s (used_bound s) p (verified_below mark s p w.verified) (verified_found mark s p w.verified))
        ∙ ap (λ (k : ℕ). onto (entry_of p i ∷ []) (list mark s (used_bound s) k)) (item_next p i h)

    -- and items one after the other
    pub stand_listed : {p : ℕ} {is : List Item} → p % 16 ≡ 0 → Stand mark s p is → list mark s (used_bound s) p ≡ onto (entries_from p is) (list mark s (used_bound s) (p + sizes is))
    unfolding sizes entries_from
    stand_listed {p} h none = ap (list mark s (used_bound s)) (sym (add-zero p))
    stand_listed h (more {p} {i} {is} w r) =
        let line = aligned_line (item_length i) in
        whole_listed p i h w
        ∙ ap (onto (entry_of p i ∷ [])) (stand_listed (omega arith) r)
        ∙ ap (λ (k : ℕ). onto (entry_of p i ∷ entries_from (p + size_of i) is) (list mark s (used_bound s) k)) (add_assoc p (size_of i) (sizes is))

    pub item_read : (p : ℕ) (i : Item) → Whole mark s p i → item_at s (entry_of p i) ≡ i
    unfolding placed
    item_read p i w =
        let parts = item_parts p i in
        let within = ap (λ (x : Entry). x.end) w.verified.is in
        let room = w.verified.within in
        let key = part_within s (entry_of p i).kplace (length i.key) (omega arith) ∙ w.key in
        let value = part_within s (entry_of p i).vplace (length i.value) (omega arith) ∙ w.value in
        ap₂ (λ (k v : List ℕ). item i.kind i.ns k v) key value

    -- and what is read back from them is what was written
    pub stand_read : {p : ℕ} {is : List Item} → Stand mark s p is → map (item_at s) (entries_from p is) ≡ is
    unfolding entries_from
    stand_read none = refl
    stand_read (more {p} {i} w r) = ap₂ (λ (j : Item) (js : List Item). j ∷ js) (item_read p i w) (stand_read r)

pub record Stored (mark : ℕ → ℕ) (region : List ℕ) (used : ℕ) (items : List Item) : Type 0 where
  pub small : length region ≤ largest_region
  pub place : used ≡ sizes items
  pub fits : used ≤ length region
  pub stands : Stand mark region 0 items
  pub blank : (k : ℕ) → used ≤ k → get_or region k 0 ≡ 0

module _ (mark : ℕ → ℕ) (marks : (p : ℕ) → mark p < 2 ^ 24) where
  stored_more : {region after : List ℕ} {used next : ℕ} {items : List Item} {allowed : Bool} (i : Item) → Stored mark region used items → Writable i → Wrote mark region used allowed i next after → Stored mark after next (items ++ i ∷ [])
  unfolding sizes
  stored_more {region} {after} {used} {next} {items} i s f w =
      let run = encoded (mark used) i in
      let n : length run ≡ size_of i = encoded_length (mark used) i in
      let room : used + size_of i ≤ length region = w.facts.room in
      let place = s.place in
      let grown = w.grown in
      let long : length after ≡ length region = ap length w.bytes ∙ over_length region used run (omega arith) in
      let old : Same region after 0 (0 + sizes items) = λ k a b. sym (ap (λ (x : List ℕ). get_or x k 0) w.bytes ∙ over_before region used run k (omega arith) (omega arith)) in
      let here : Whole mark after used i = subst (λ (x : List ℕ). Whole mark x used i) (sym w.bytes) (written mark i region used f (marks used) room) in
      let at : used ≡ 0 + sizes items = omega arith in
      record {
        small = let b = s.small in omega arith;
        place = let e = sizes_append items (i ∷ []) in omega arith;
        fits = omega arith;
        stands = stand_append mark after (stand_same mark region after (sym long) old s.stands) (more (subst (λ (k : ℕ). Whole mark after k i) at here) none);
        blank = λ k a. ap (λ (x : List ℕ). get_or x k 0) w.bytes ∙ over_behind region used run k (omega arith) (omega arith) ∙ s.blank k (omega arith);
      }

  pub stored : {region : List ℕ} {used : ℕ} {items : List Item} → Logged mark region used items → Stored mark region used items
  unfolding sizes
  stored (zeroed n h) =
      let l = length-replicate {A = ℕ} n 0 in
      record { small = omega arith; place = refl; fits = omega arith; stands = none; blank = λ k a. zeros_get n k }
  stored (data-appended {region} {key = key} {value = value} {used = used} {kind = kind} {ns = ns} l a e) =
      let i = item kind ns key value in
      let w = wrote mark region used _ i a e in
      let known : kind < 2 = ltb-true kind 2 w.facts.taken in
      let spaces = w.facts.spaces in
      let keys = w.facts.keys in
      let values = w.facts.values in
      stored_more i (stored l) (record { kinds = omega arith; spaces = omega arith; keys = omega arith; values = omega arith; bare = λ k. absurd (omega arith) }) w
  stored (tombstone_appended {region} {key = key} {used = used} {ns = ns} l a e) =
      let i = item 2 ns key [] in
      let w = wrote mark region used _ i a e in
      let spaces = w.facts.spaces in
      let keys = w.facts.keys in
      stored_more i (stored l) (record { kinds = omega arith; spaces = omega arith; keys = omega arith; values = omega arith; bare = λ k. refl }) w
