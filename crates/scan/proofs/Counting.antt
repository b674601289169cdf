-- Document 02, request 8: the counted walk answers what the walk answers, and its steps, line by line.
-- Assumes nothing.
use Prim.Native.Nat.{ℕ, zero, suc, min, ◌+◌, ◌-◌, ◌/◌, ◌%◌, ◌<◌, ◌≤◌}
use mathlib.Core.Path.{◌≡◌, refl, sym, ap, ap₂, ◌∙◌}
use mathlib.Core.List.{List, [], ◌∷◌}
use mathlib.Core.Bool.{Bool, true, false}
use native.Mathlib.Nat.{add-zero, zero-add, add_assoc}
use native.Mathlib.Omega.{arith}
use borrow.Author.Tests.{leb-true, ltb-true, ltb-false, le-leb, lt-leb, lt-ltb, eq-eqb, ne_eqb}
use lib.ListN.{length}
use Rattle.std.specs.Prelude.{None}
use lib.Dec.{leb, ltb}
use Rattle.answers.specs.Answers.{Said, accepted, refused}
use Rattle.fields.specs.Numbers.{field, aligned}
use Rattle.fields.proofs.Lines.{aligned_le}
use Rattle.entry.specs.Words.{word_mark, word_kind}
use Rattle.entry.specs.Layout.{length_of, entry_at, intact}
use Rattle.entry.specs.declared.Entry.{Entry}
use Rattle.entry.proofs.Standing.{kind_known, verifies_intact}
use Rattle.scan.specs.Walk.{Step, found, ended, Trial, done, next, or_else, pick_step, pick_trial, trial, walk_lines, walk_from, walk}
use Rattle.scan.specs.Efforts.{no_effort, plus, Counted, behind, at_once, or_later, pick_counted, summed, lines_at, bytes_at, effort_at, counted_lines, counted_from, counted_walk}
use Rattle.scan.specs.Inner.{Marked, NextMarked}
use Rattle.scan.specs.declared.Effort.{Effort}
use Rattle.scan.proofs.Walks.{walk_done, walk_next}
use Rattle.scan.proofs.Trials.{trial_short, trial_unmarked, trial_unknown, trial_known}

-- so many lines and so many bytes
abbrev pub taking : ℕ → ℕ → Effort
taking lines bytes = record { lines = lines; bytes = bytes }

-- efforts add up
pub plus_none : (a : Effort) → plus a no_effort ≡ a
plus_none a = ap₂ taking (add-zero a.lines) (add-zero a.bytes)

pub none_plus : (a : Effort) → plus no_effort a ≡ a
none_plus a = ap₂ taking (zero-add a.lines) (zero-add a.bytes)

pub plus_plus : (a b c : Effort) → plus a (plus b c) ≡ plus (plus a b) c
plus_plus a b c = ap₂ taking (sym (add_assoc a.lines b.lines c.lines)) (sym (add_assoc a.bytes b.bytes c.bytes))

-- the same answer with another effort
abbrev with_effort : Said Step → Effort → Counted
with_effort answer effort = record { answer = answer; effort = effort }

-- one line more
pub one_more : (first p : ℕ) → first ≤ p → (p + 16 - first) / 16 ≡ (p - first) / 16 + 1
one_more first p h = omega arith

-- a walk that nothing was spent before
pub from_none : (c : Counted) → behind no_effort c ≡ c
from_none c = ap (with_effort c.answer) (none_plus c.effort)

-- an answer at once costs what was spent before
pub behind_at_once : (spent : Effort) (answer : Said Step) → behind spent (at_once answer) ≡ with_effort answer spent
behind_at_once spent answer = ap (with_effort answer) (plus_none spent)

-- what an entry adds: its length less 2 where it lies within the region, else nothing
module _ (s : List ℕ) (e : Entry) where
  pub summed_whole : e.end ≤ length s → summed s e ≡ length_of e.kind e.klen e.vlen - 2
  unfolding summed
  summed_whole h = simp (le-leb _ _ h)

  pub summed_past : length s < e.end → summed s e ≡ 0
  unfolding summed
  summed_past h = simp (lt-leb _ _ h)

module _ (mark : ℕ → ℕ) (s : List ℕ) where
  -- the answer is the uncounted walk's

  pub lines_answer : (n p : ℕ) → (counted_lines mark s n p).answer ≡ walk_lines mark s n p
  unfolding counted_lines walk_lines
  lines_answer zero p = refl
  lines_answer (suc n) p = go (trial mark s p) (lines_answer n (p + 16))
    where
      go : (t : Trial) → (counted_lines mark s n (p + 16)).answer ≡ walk_lines mark s n (p + 16) → (or_later t (counted_lines mark s n (p + 16))).answer ≡ or_else t (walk_lines mark s n (p + 16))
      go (done answer) ih = refl
      go next ih = ih

  pub counted_answer : (bound offset : ℕ) → (counted_walk mark s bound offset).answer ≡ walk mark s bound offset
  unfolding counted_walk walk counted_from walk_from
  counted_answer bound offset = go (leb bound offset)
    where
      go : (b : Bool) → (pick_counted b (at_once (accepted ended)) (counted_from mark s bound (aligned offset))).answer ≡ pick_step b (accepted ended) (walk_from mark s bound (aligned offset))
      go true = refl
      go false = lines_answer ((bound + 15 - aligned offset) / 16) (aligned offset)

  -- its steps, line by line

  pub counted_end : (bound p : ℕ) → bound ≤ p → counted_from mark s bound p ≡ at_once (accepted ended)
  unfolding counted_from counted_lines
  counted_end bound p h =
      let none : (bound + 15 - p) / 16 ≡ 0 = omega arith in
      rw none

  counted_step : (bound p : ℕ) → p < bound → counted_from mark s bound p ≡ behind (effort_at mark s p) (or_later (trial mark s p) (counted_from mark s bound (p + 16)))
  unfolding counted_from counted_lines
  counted_step bound p h =
      let more : (bound + 15 - p) / 16 ≡ suc ((bound + 15 - (p + 16)) / 16) = omega arith in
      rw more

  pub counted_aligned : (bound offset : ℕ) → counted_walk mark s bound offset ≡ counted_from mark s bound (aligned offset)
  unfolding counted_walk
  counted_aligned bound offset = go (leb bound offset) refl
    where
      go : (b : Bool) → leb bound offset ≡ b → pick_counted b (at_once (accepted ended)) (counted_from mark s bound (aligned offset)) ≡ counted_from mark s bound (aligned offset)
      go true e = sym (counted_end bound (aligned offset) (omega (arith, aligned_le offset, leb-true bound offset e)))
      go false e = refl

  pub counted_none : (bound offset : ℕ) → bound ≤ offset → counted_walk mark s bound offset ≡ at_once (accepted ended)
  counted_none bound offset h = counted_aligned bound offset ∙ counted_end bound (aligned offset) (omega (arith, aligned_le offset))

  -- behind what was spent before the line p: the walk goes on at the next line, or is over
  module _ (bound p lines bytes : ℕ) where
    module _ (inside : p < bound) {x y : ℕ} (takes : effort_at mark s p ≡ taking x y) where
      pub counted_on : trial mark s p ≡ next → behind (taking lines bytes) (counted_from mark s bound p) ≡ behind (taking (lines + x) (bytes + y)) (counted_from mark s bound (p + 16))
      counted_on t =
          let rest = counted_from mark s bound (p + 16) in
          ap (behind (taking lines bytes)) (counted_step bound p inside ∙ ap (λ (u : Trial). behind (effort_at mark s p) (or_later u rest)) t ∙ ap (λ (e : Effort). behind e rest) takes)
          ∙ ap (with_effort rest.answer) (plus_plus (taking lines bytes) (taking x y) rest.effort)

      pub counted_out : {answer : Said Step} → trial mark s p ≡ done answer → behind (taking lines bytes) (counted_from mark s bound p) ≡ with_effort answer (taking (lines + x) (bytes + y))
      counted_out {answer} t =
          let rest = counted_from mark s bound (p + 16) in
          ap (behind (taking lines bytes)) (counted_step bound p inside ∙ ap (λ (u : Trial). behind (effort_at mark s p) (or_later u rest)) t ∙ ap (λ (e : Effort). behind e (at_once answer)) takes)
          ∙ ap (λ (e : Effort). with_effort answer (plus (taking lines bytes) e)) (plus_none (taking x y))

    pub counted_over : counted_from mark s bound p ≡ at_once (accepted ended) → behind (taking lines bytes) (counted_from mark s bound p) ≡ with_effort (accepted ended) (taking lines bytes)
    counted_over h = ap (behind (taking lines bytes)) h ∙ ap (with_effort (accepted ended)) (plus_none (taking lines bytes))

  -- what a line takes, case by case

  module _ (p : ℕ) where
    pub effort_short : length s < p + 8 → effort_at mark s p ≡ taking 0 0
    unfolding lines_at bytes_at
    effort_short h = simp (lt-leb _ _ h)

    module _ (room : p + 8 ≤ length s) where
      pub effort_unmarked : (word_mark (field 4 s p) ≡ mark p → ⊥) → effort_at mark s p ≡ taking 1 0
      unfolding lines_at bytes_at
      effort_unmarked m = simp (le-leb _ _ room, ne_eqb _ _ m)

      pub effort_unknown : word_mark (field 4 s p) ≡ mark p → word_kind (field 4 s p) ≡ 3 → effort_at mark s p ≡ taking 1 0
      unfolding lines_at bytes_at
      effort_unknown m k = simp (le-leb _ _ room, eq-eqb _ _ m, k)

      pub effort_known : word_mark (field 4 s p) ≡ mark p → (word_kind (field 4 s p) ≡ 3 → ⊥) → effort_at mark s p ≡ taking 1 (summed s (entry_at s p))
      unfolding lines_at bytes_at
      effort_known m k = simp (le-leb _ _ room, eq-eqb _ _ m, lt-ltb _ _ (kind_known (field 4 s p) k))

  -- with fewer than eight bytes left the walk is over
  pub counted_short : (bound p : ℕ) → p < bound → length s < p + 8 → counted_from mark s bound p ≡ at_once (accepted ended)
  counted_short bound p inside h =
      sym (from_none (counted_from mark s bound p)) ∙ counted_out bound p 0 0 inside (effort_short p h) (trial_short mark s p h)

  -- a line with the right mark and type 3 is the last one
  pub counted_unknown : (bound p word : ℕ) → p < bound → p + 8 ≤ length s → word ≡ field 4 s p → word_mark word ≡ mark p → word_kind word ≡ 3
      → counted_from mark s bound p ≡ record { answer = refused 10 (p ∷ []); effort = taking 1 0 }
  counted_unknown bound p word inside room is m k =
      let right = sym (ap word_mark is) ∙ m in
      let other = sym (ap word_kind is) ∙ k in
      sym (from_none (counted_from mark s bound p)) ∙ counted_out bound p 0 0 inside (effort_unknown p room right other) (trial_unknown mark s p room right other)

  -- the same steps by what the code has tested

  module _ (bound p lines bytes : ℕ) (inside : p < bound) where
    module _ (room : p + 8 ≤ length s) where
      pub unmarked_on : (word_mark (field 4 s p) ≡ mark p → ⊥) → behind (taking lines bytes) (counted_from mark s bound p) ≡ behind (taking (lines + 1) bytes) (counted_from mark s bound (p + 16))
      unmarked_on m =
          counted_on bound p lines bytes inside (effort_unmarked p room m) (trial_unmarked mark s p room m)
          ∙ ap (λ (n : ℕ). behind (taking (lines + 1) n) (counted_from mark s bound (p + 16))) (add-zero bytes)

      pub unknown_out : word_mark (field 4 s p) ≡ mark p → word_kind (field 4 s p) ≡ 3 → behind (taking lines bytes) (counted_from mark s bound p) ≡ with_effort (refused 10 (p ∷ [])) (taking (lines + 1) bytes)
      unknown_out m k =
          counted_out bound p lines bytes inside (effort_unknown p room m k) (trial_unknown mark s p room m k)
          ∙ ap (λ (n : ℕ). with_effort (refused 10 (p ∷ [])) (taking (lines + 1) n)) (add-zero bytes)

      module _ (m : word_mark (field 4 s p) ≡ mark p) (k : word_kind (field 4 s p) ≡ 3 → ⊥) where
        pub known_on : trial mark s p ≡ next → behind (taking lines bytes) (counted_from mark s bound p) ≡ behind (taking (lines + 1) (bytes + summed s (entry_at s p))) (counted_from mark s bound (p + 16))
        known_on = counted_on bound p lines bytes inside (effort_known p room m k)

        pub known_out : {answer : Said Step} → trial mark s p ≡ done answer → behind (taking lines bytes) (counted_from mark s bound p) ≡ with_effort answer (taking (lines + 1) (bytes + summed s (entry_at s p)))
        known_out = counted_out bound p lines bytes inside (effort_known p room m k)

  -- the lines that are passed are counted by their places
  pub skipped : (bound p q lines bytes : ℕ) → Marked mark s bound p q → behind (taking lines bytes) (counted_from mark s bound p) ≡ behind (taking (lines + (q - p) / 16) bytes) (counted_from mark s bound q)
  skipped bound p q lines bytes h =
      let k = (q - p) / 16 in
      let rest = counted_from mark s bound q in
      ap (behind (taking lines bytes)) (sym h.same)
      ∙ ap (with_effort rest.answer) (plus_plus (taking lines bytes) (taking k 0) rest.effort)
      ∙ ap (λ (b : ℕ). behind (taking (lines + k) b) rest) (add-zero bytes)

  -- past the last line that begins before the bound and has eight bytes the walk is over
  pub counted_past : (bound p : ℕ) → min bound (length s - 7) ≤ p → counted_from mark s bound p ≡ at_once (accepted ended)
  counted_past bound p h = go (ltb p bound) refl
    where
      go : (b : Bool) → ltb p bound ≡ b → counted_from mark s bound p ≡ at_once (accepted ended)
      go true e = counted_short bound p (ltb-true p bound e) (let l = ltb-true p bound e in omega arith)
      go false e = counted_end bound p (ltb-false p bound e)

  -- the counted walk's answer from a line on
  pub from_answer : (bound p : ℕ) → (counted_from mark s bound p).answer ≡ walk_from mark s bound p
  unfolding counted_from walk_from
  from_answer bound p = lines_answer ((bound + 15 - p) / 16) p

  -- the walk goes on at a line to which it comes
  pub marked_walk : (bound p q : ℕ) → Marked mark s bound p q → walk_from mark s bound p ≡ walk_from mark s bound q
  marked_walk bound p q h = sym (from_answer bound p) ∙ ap (λ (c : Counted). c.answer) (sym h.same) ∙ from_answer bound q

  -- so of the walk that doesn't count: what it answers at such a line, or where it goes on behind it
  module _ (bound p q : ℕ) (m : Marked mark s bound p q) where
    pub unknown_walk : word_kind (field 4 s q) ≡ 3 → walk_from mark s bound p ≡ refused 10 (q ∷ [])
    unknown_walk k = marked_walk bound p q m ∙ walk_done mark s bound q m.inside (trial_unknown mark s q m.room m.marked k)

    module _ (known : word_kind (field 4 s q) ≡ 3 → ⊥) where
      pub marked_trial : (b : Bool) → b ≡ intact s (entry_at s q) → trial mark s q ≡ pick_trial b (done (accepted (found (entry_at s q)))) next
      marked_trial b e =
          trial_known mark s q m.room m.marked known
          (ap (λ (x : Bool). pick_trial x (done (accepted (found (entry_at s q)))) next) (verifies_intact mark s q m.room m.marked known ∙ sym e))

      pub found_walk : true ≡ intact s (entry_at s q) → walk_from mark s bound p ≡ accepted (found (entry_at s q))
      found_walk e = marked_walk bound p q m ∙ walk_done mark s bound q m.inside (marked_trial true e)

      pub next_walk : false ≡ intact s (entry_at s q) → walk_from mark s bound p ≡ walk_from mark s bound (q + 16)
      next_walk e = marked_walk bound p q m ∙ walk_next mark s bound q m.inside (marked_trial false e)

  pub none_walk : (bound p : ℕ) → NextMarked mark s bound p None → walk_from mark s bound p ≡ accepted ended
  none_walk bound p none = sym (from_answer bound p) ∙ ap (λ (c : Counted). c.answer) (sym none)

-- whoever walks from the line start on has come to the line p, and has summed up so many bytes: what was spent so far, and what is left to walk, are the
-- whole walk, and so are the lines that lie behind and those that are left
pub record Come (mark : ℕ → ℕ) (s : List ℕ) (bound start : ℕ) (spent : Effort) (p bytes : ℕ) : Type 0 where
  pub more : start ≤ p
  pub whole : (p - start) % 16 ≡ 0
  pub left : (p - start) / 16 + (min bound (length s - 7) - p + 15) / 16 ≡ (min bound (length s - 7) - start + 15) / 16
  pub same : behind (taking (spent.lines + (p - start) / 16) bytes) (counted_from mark s bound p) ≡ behind spent (counted_from mark s bound start)

module _ (mark : ℕ → ℕ) (s : List ℕ) (bound start : ℕ) (spent : Effort) where
  pub come_none : Come mark s bound start spent start spent.bytes
  come_none =
      let none : spent.lines + (start - start) / 16 ≡ spent.lines = omega arith in
      record { more = omega arith; whole = omega arith; left = omega arith; same = ap (λ (n : ℕ). behind (taking n spent.bytes) (counted_from mark s bound start)) none }

  -- at the next line with the right mark
  pub come_to : (p bytes q : ℕ) → Come mark s bound start spent p bytes → Marked mark s bound p q → Come mark s bound start spent q bytes
  come_to p bytes q c m =
      let lines : spent.lines + (p - start) / 16 + (q - p) / 16 ≡ spent.lines + (q - start) / 16 = omega (arith, c.more, c.whole, m.more, m.whole) in
      record {
        more = omega (arith, c.more, m.more);
        whole = omega (arith, c.more, c.whole, m.more, m.whole);
        left = omega (arith, c.more, c.whole, c.left, m.more, m.whole, m.inside, m.room);
        same = ap (λ (n : ℕ). behind (taking n bytes) (counted_from mark s bound q)) (sym lines) ∙ sym (skipped mark s bound p q (spent.lines + (p - start) / 16) bytes m) ∙ c.same;
      }

  module _ (p bytes q : ℕ) (c : Come mark s bound start spent p bytes) (m : Marked mark s bound p q) where
    -- its type is unknown
    pub come_unknown : word_kind (field 4 s q) ≡ 3 → with_effort (refused 10 (q ∷ [])) (taking (spent.lines + (q - start) / 16 + 1) bytes) ≡ behind spent (counted_from mark s bound start)
    come_unknown k =
        let t = come_to p bytes q c m in
        sym (unknown_out mark s bound q (spent.lines + (q - start) / 16) bytes m.inside m.room m.marked k) ∙ t.same

    -- its type is known, and its entry is intact or not
    module _ (known : word_kind (field 4 s q) ≡ 3 → ⊥) where
      pub come_found : true ≡ intact s (entry_at s q) → with_effort (accepted (found (entry_at s q))) (taking (spent.lines + (q - start) / 16 + 1) (bytes + summed s (entry_at s q))) ≡ behind spent (counted_from mark s bound start)
      come_found e =
          let t = come_to p bytes q c m in
          sym (known_out mark s bound q (spent.lines + (q - start) / 16) bytes m.inside m.room m.marked known (marked_trial mark s bound p q m known true e)) ∙ t.same

      pub come_on : false ≡ intact s (entry_at s q) → Come mark s bound start spent (q + 16) (bytes + summed s (entry_at s q))
      come_on e =
          let t = come_to p bytes q c m in
          let lines : spent.lines + (q - start) / 16 + 1 ≡ spent.lines + (q + 16 - start) / 16 = omega (arith, t.more) in
          record {
            more = omega (arith, t.more);
            whole = omega (arith, t.more, t.whole);
            left = omega (arith, t.more, t.whole, t.left, m.inside, m.room);
            same = ap (λ (n : ℕ). behind (taking n (bytes + summed s (entry_at s q))) (counted_from mark s bound (q + 16))) (sym lines)
                ∙ sym (known_on mark s bound q (spent.lines + (q - start) / 16) bytes m.inside m.room m.marked known (marked_trial mark s bound p q m known false e))
                ∙ t.same;
          }

  -- all lines that are left have wrong marks
  pub come_over : (p bytes : ℕ) → Come mark s bound start spent p bytes → NextMarked mark s bound p None
      → with_effort (accepted ended) (taking (spent.lines + (min bound (length s - 7) - start + 15) / 16) bytes) ≡ behind spent (counted_from mark s bound start)
  come_over p bytes c none =
      let here = (p - start) / 16 in
      let left = (min bound (length s - 7) - p + 15) / 16 in
      let lines : spent.lines + (min bound (length s - 7) - start + 15) / 16 ≡ spent.lines + here + (left + 0) = omega (arith, c.left) in
      let sums : bytes ≡ bytes + (0 + 0) = omega arith in
      ap₂ (λ (n b : ℕ). with_effort (accepted ended) (taking n b)) lines sums
      ∙ ap (behind (taking (spent.lines + here) bytes)) none
      ∙ c.same

  -- a line with a wrong mark is passed
  pub come_passed : (p bytes : ℕ) → Come mark s bound start spent p bytes → p < min bound (length s - 7) → (word_mark (field 4 s p) ≡ mark p → ⊥) → Come mark s bound start spent (p + 16) bytes
  come_passed p bytes c inside wrong =
      let lines : spent.lines + (p - start) / 16 + 1 ≡ spent.lines + (p + 16 - start) / 16 = omega (arith, c.more) in
      record {
        more = omega (arith, c.more);
        whole = omega (arith, c.more, c.whole);
        left = omega (arith, c.more, c.whole, c.left);
        same = ap (λ (n : ℕ). behind (taking n bytes) (counted_from mark s bound (p + 16))) (sym lines)
            ∙ sym (unmarked_on mark s bound p (spent.lines + (p - start) / 16) bytes (omega arith) (omega arith) wrong)
            ∙ c.same;
      }

-- what was passed from the line p on
module _ (mark : ℕ → ℕ) (s : List ℕ) (bound p q : ℕ) (c : Come mark s bound p no_effort q 0) where
  passed : behind (taking ((q - p) / 16) 0) (counted_from mark s bound q) ≡ counted_from mark s bound p
  passed = ap (λ (n : ℕ). behind (taking n 0) (counted_from mark s bound q)) (sym (zero-add ((q - p) / 16))) ∙ c.same ∙ from_none (counted_from mark s bound p)

  pub is_marked : q < min bound (length s - 7) → word_mark (field 4 s q) ≡ mark q → Marked mark s bound p q
  is_marked inside m =
      record { more = c.more; whole = c.whole; inside = omega arith; room = omega arith; marked = m; same = passed }

  pub none_marked : min bound (length s - 7) ≤ q → NextMarked mark s bound p None
  none_marked over =
      let lines : (min bound (length s - 7) - p + 15) / 16 ≡ (q - p) / 16 = omega (arith, c.left) in
      ap (λ (n : ℕ). behind (taking n 0) (at_once (accepted ended))) lines
      ∙ ap (behind (taking ((q - p) / 16) 0)) (sym (counted_past mark s bound q over))
      ∙ passed

-- the walk from the offset's line on is the whole walk
pub come_whole : (mark : ℕ → ℕ) (s : List ℕ) (bound offset : ℕ) (spent : Effort) {start : ℕ} → start ≡ aligned offset → behind spent (counted_from mark s bound start) ≡ behind spent (counted_walk mark s bound offset)
come_whole mark s bound offset spent e =
    ap (λ (p : ℕ). behind spent (counted_from mark s bound p)) e ∙ ap (behind spent) (sym (counted_aligned mark s bound offset))
