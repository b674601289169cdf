-- Demand 3: damage costs the entries of the stretch and no other.
-- Assumes nothing.
use Prim.Native.Nat.{ℕ, ◌+◌, ◌%◌, ◌^◌, ◌<◌, ◌≤◌}
use mathlib.Core.Path.{◌≡◌, refl, sym, ap, ap₂, subst, ◌∙◌}
use mathlib.Core.Bool.{true}
use mathlib.Core.List.{List, ◌++◌, append-nil, map-append}
use native.Mathlib.Omega.{arith}
use native.Mathlib.Nat.{zero-add}
use lib.ListN.{length, get_or}
use Rattle.answers.specs.Answers.{accepted}
use Rattle.answers.specs.Limits.{largest_region}
use Rattle.answers.specs.Versions.{is_version}
use Rattle.answers.proofs.Versions.{right_version}
use Rattle.fields.proofs.Laying.{over_length, over_before, over_behind}
use Rattle.entry.specs.Words.{seed_of, mark_of}
use Rattle.entry.specs.declared.Entry.{Entry}
use Rattle.entry.proofs.Packing.{mark_lt}
use Rattle.append.specs.Bytes.{Item}
use Rattle.scan.specs.Walk.{ended, next, trial}
use Rattle.scan.specs.Listing.{list}
use Rattle.scan.proofs.Trials.{trial_passed}
use Rattle.scan.proofs.Walks.{walk_of_accepted}
use Rattle.tail.specs.Tail.{used_bound, durable}
use Rattle.tail.proofs.Zeros.{used_length, used_least, used_accepted, durable_accepted}
use Rattle.damage.specs.Log.{Logged, sizes, entries_from}
use Rattle.damage.specs.Damage.{Quiet, Damaged, Survives, SurvivesIn, outside, item_at}
use Rattle.damage.proofs.Local.{Same}
use Rattle.damage.proofs.Listings.{onto, list_over, list_skip}
use Rattle.damage.proofs.Logs.{Stand, stand_split, stand_same, stand_listed, stand_read, sizes_line, sizes_append, stored}

pub quiet_passed : (mark : ℕ → ℕ) (s : List ℕ) (q : ℕ) → q + 8 ≤ length s → Quiet mark s q → trial mark s q ≡ next
quiet_passed mark s q room h = trial_passed mark s q room h.unverified (h.known room)

-- items that stand whole, with quiet lines between them and zeros behind them: the listing has them all
pub stand_survives : (mark : ℕ → ℕ) (t : List ℕ) (before lost after : List Item)
    → length t ≤ largest_region
    → Stand mark t 0 before
    → Stand mark t (sizes before + sizes lost) after
    → sizes before + sizes lost + sizes after ≤ length t
    → ((k : ℕ) → sizes before + sizes lost + sizes after ≤ k → get_or t k 0 ≡ 0)
    → ((q : ℕ) → q % 16 ≡ 0 → sizes before ≤ q → q < sizes before + sizes lost → Quiet mark t q)
    → Survives mark t before lost after
unfolding durable
stand_survives mark t before lost after small first last fits blank quiet =
    let a = sizes before in
    let b = sizes before + sizes lost in
    let end = b + sizes after in
    let bound = used_bound t in
    let a16 : a % 16 ≡ 0 = sizes_line before in
    let b16 : b % 16 ≡ 0 = let l = sizes_line lost in omega arith in
    let e16 : end % 16 ≡ 0 = let l = sizes_line after in omega arith in
    let all : list mark t bound 0 ≡ record { entries = outside before lost after; stop = accepted ended } =
    stand_listed mark t refl first
    ∙ ap (onto (entries_from 0 before))
    (ap (list mark t bound) (zero-add a)
    ∙ list_skip mark t bound a b a16 b16 (omega arith) (λ q x y z. quiet_passed mark t q (omega arith) (quiet q x y z))
    ∙ stand_listed mark t b16 last
    ∙ ap (onto (entries_from b after)) (list_over mark t bound end (used_least t end e16 blank)))
    ∙ ap (λ (es : List Entry). record { entries = entries_from 0 before ++ es; stop = accepted ended }) (append-nil (entries_from b after)) in
    record {
      bounded = used_accepted t small;
      walked = λ offset. walk_of_accepted mark t bound offset small (used_length t);
      listed = all;
      kept = map-append (item_at t) (entries_from 0 before) (entries_from b after) ∙ ap₂ (λ (x y : List Item). x ++ y) (stand_read mark t first) (stand_read mark t last);
      durably = durable_accepted t small mark bound (used_length t) ∙ ap (durable 0) all;
    }

pub damage_theorem : (mark : ℕ → ℕ) → ((p : ℕ) → mark p < 2 ^ 24)
    → {region damaged : List ℕ} {used : ℕ} (before lost after : List Item)
    → Logged mark region used (before ++ (lost ++ after))
    → Damaged mark region before lost damaged
    → Survives mark damaged before lost after
damage_theorem mark marks {region} {damaged} {used} before lost after log d =
    let run = d.run in
    let a = sizes before in
    let b = sizes before + sizes lost in
    let whole = stored mark marks log in
    let place : used ≡ a + (sizes lost + sizes after) = whole.place ∙ sizes_append before (lost ++ after) ∙ ap (λ (k : ℕ). a + k) (sizes_append lost after) in
    let fits = whole.fits in
    let filling = d.filling in
    let within : a + length run ≤ length region = omega arith in
    let long : length region ≡ length damaged = sym (ap length d.overwritten ∙ over_length region a run within) in
    let front : Same region damaged 0 (0 + a) = λ k x y. sym (ap (λ (s : List ℕ). get_or s k 0) d.overwritten ∙ over_before region a run k (omega arith) (omega arith)) in
    let back : (k : ℕ) → b ≤ k → get_or region k 0 ≡ get_or damaged k 0 = λ k x. sym (ap (λ (s : List ℕ). get_or s k 0) d.overwritten ∙ over_behind region a run k within (omega arith)) in
    let split = stand_split mark region before (lost ++ after) whole.stands in
    let rest : Stand mark region a (lost ++ after) = subst (λ (k : ℕ). Stand mark region k (lost ++ after)) (zero-add a) split.1 in
    stand_survives mark damaged before lost after
    (let s = whole.small in omega arith)
    (stand_same mark region damaged long front split.0)
    (stand_same mark region damaged long (λ k x y. back k (omega arith)) (stand_split mark region lost after rest).1)
    (omega arith)
    (λ k x. sym (back k (omega arith)) ∙ whole.blank k (omega arith))
    d.quiet

-- the same for a file of version 1 or 2, within its version and its ordinal, for the calls that take both
pub damage_theorem_in : (version ordinal : ℕ) → is_version version ≡ true
    → {region damaged : List ℕ} {used : ℕ} (before lost after : List Item)
    → Logged (mark_of version ordinal) region used (before ++ (lost ++ after))
    → Damaged (mark_of version ordinal) region before lost damaged
    → SurvivesIn version ordinal damaged before lost after
damage_theorem_in version ordinal known before lost after log d =
    let s = damage_theorem (mark_of version ordinal) (mark_lt (seed_of version ordinal)) before lost after log d in
    record { survives = s; walked = λ offset. right_version version _ known ∙ s.walked offset; durably = right_version version _ known ∙ s.durably }
