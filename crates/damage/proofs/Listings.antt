-- The listing goes from entry to entry, and past quiet lines.
-- Assumes nothing.
use Prim.Native.Nat.{ℕ, zero, suc, ◌+◌, ◌-◌, ◌*◌, ◌/◌, ◌%◌, ◌<◌, ◌≤◌}
use mathlib.Core.Path.{◌≡◌, sym, ap, ◌∙◌}
use mathlib.Core.List.{List, [], ◌∷◌, ◌++◌}
use mathlib.Core.Logic.{⊎_elim}
use native.Mathlib.Omega.{arith}
use Rattle.answers.specs.Answers.{Said, accepted}
use Rattle.fields.specs.Numbers.{aligned}
use Rattle.fields.proofs.Lines.{aligned_le, aligned_line, aligned_self}
use Rattle.entry.specs.declared.Entry.{Entry}
use Rattle.scan.specs.Walk.{Step, found, ended, next, trial, walk_from, walk}
use Rattle.scan.specs.Listing.{Listed, grow, list}
use Rattle.scan.proofs.Walks.{walk_end, walk_next, walk_aligned, walk_over}
use Rattle.scan.proofs.Listings.{list_step}
use Rattle.tail.proofs.Zeros.{below_or}

-- these entries in front of a listing
abbrev pub onto : List Entry → Listed → Listed
onto es l = record { entries = es ++ l.entries; stop = l.stop }

module _ (mark : ℕ → ℕ) (s : List ℕ) (bound : ℕ) where
  -- a listing is known by its first walk
  list_walk : (p : ℕ) {answer : Said Step} → walk mark s bound p ≡ answer → list mark s bound p ≡ grow answer (λ e. list mark s bound e.end)
  list_walk p h = list_step mark s bound p ∙ ap (λ (x : Said Step). grow x (λ e. list mark s bound e.end)) h

  walk_line : (p : ℕ) → p % 16 ≡ 0 → walk mark s bound p ≡ walk_from mark s bound p
  walk_line p h = walk_aligned mark s bound p ∙ ap (walk_from mark s bound) (aligned_self p h)

  list_same : (p q : ℕ) → walk mark s bound p ≡ walk mark s bound q → list mark s bound p ≡ list mark s bound q
  list_same p q e = list_walk p e ∙ sym (list_step mark s bound q)

  pub list_found : (p : ℕ) {e : Entry} → p % 16 ≡ 0 → walk_from mark s bound p ≡ accepted (found e) → list mark s bound p ≡ onto (e ∷ []) (list mark s bound (aligned e.end))
  list_found p {e} a h =
      list_walk p (walk_line p a ∙ h)
      ∙ ap (onto (e ∷ [])) (list_same e.end (aligned e.end) (walk_aligned mark s bound e.end ∙ sym (walk_line (aligned e.end) (aligned_line e.end))))

  pub list_over : (p : ℕ) → bound ≤ p → list mark s bound p ≡ record { entries = []; stop = accepted ended }
  list_over p h = list_walk p (walk_over mark s bound p (let u = aligned_le p in omega arith))

  skip_lines : (n p : ℕ) → p % 16 ≡ 0 → ((q : ℕ) → q % 16 ≡ 0 → p ≤ q → q < p + 16 * n → q < bound → trial mark s q ≡ next) → walk_from mark s bound p ≡ walk_from mark s bound (p + 16 * n)
  skip_lines zero p a h = ap (walk_from mark s bound) (omega arith)
  skip_lines (suc n) p a h =
      ⊎_elim
      (λ l.
      walk_next mark s bound p l (h p a (omega arith) (omega arith) l)
      ∙ skip_lines n (p + 16) (omega arith) (λ q b c d. h q b (omega arith) (omega arith))
      ∙ ap (walk_from mark s bound) (omega arith))
      (λ l. walk_end mark s bound p l ∙ sym (walk_end mark s bound (p + 16 * suc n) (omega arith)))
      (below_or p bound)

  pub list_skip : (a b : ℕ) → a % 16 ≡ 0 → b % 16 ≡ 0 → a ≤ b → ((q : ℕ) → q % 16 ≡ 0 → a ≤ q → q < b → trial mark s q ≡ next) → list mark s bound a ≡ list mark s bound b
  list_skip a b x y le h =
      let n = (b - a) / 16 in
      let e : a + 16 * n ≡ b = omega arith in
      list_same a b
      (walk_line a x
      ∙ skip_lines n a x (λ q i j k l. h q i j (omega arith))
      ∙ ap (walk_from mark s bound) e
      ∙ sym (walk_line b y))
