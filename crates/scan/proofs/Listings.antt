-- The listing is one walk and the listing from the end of what it found; its entries end within the region, and there are no more of them than lines.
-- Assumes nothing.
use Prim.Native.Nat.{ℕ, zero, suc, ◌+◌, ◌-◌, ◌/◌, ◌≤◌}
use mathlib.Core.Path.{◌≡◌, refl, sym, ap, ◌∙◌}
use mathlib.Core.List.{List, ◌∷◌}
use native.Mathlib.Omega.{arith}
use lib.ListN.{length}
use Rattle.answers.specs.Answers.{Said, accepted, refused}
use Rattle.fields.specs.Numbers.{aligned}
use Rattle.entry.specs.declared.Entry.{Entry}
use Rattle.scan.specs.Walk.{Step, found, ended, walk}
use Rattle.scan.specs.Listing.{Listed, grow, list_most, list, last_end}
use Rattle.scan.proofs.Walks.{Stands, walk_over, walk_found}

module _ (mark : ℕ → ℕ) (s : List ℕ) where
  -- the lines that are left before the bound
  abbrev lines : ℕ → ℕ → ℕ
  lines bound offset = (bound + 15 - aligned offset) / 16

  -- each entry takes a line at least
  pub falls : (bound offset n : ℕ) {e : Entry} → Stands mark s (aligned offset) (bound + 15) e → lines bound offset ≤ suc n → lines bound e.end ≤ n
  unfolding aligned
  falls bound offset n z h = omega arith

  -- so as many walks as lines are enough, and more add nothing
  enough : (bound n m offset : ℕ) → lines bound offset ≤ n → lines bound offset ≤ m → list_most mark s n bound offset ≡ list_most mark s m bound offset
  unfolding list_most
  enough bound zero zero offset a b = refl
  enough bound zero (suc m) offset a b = ap (λ (x : Said Step). grow x (λ (e : Entry). list_most mark s m bound e.end)) (sym (walk_over mark s bound offset (omega arith)))
  enough bound (suc n) zero offset a b = ap (λ (x : Said Step). grow x (λ (e : Entry). list_most mark s n bound e.end)) (walk_over mark s bound offset (omega arith))
  enough bound (suc n) (suc m) offset a b = go (walk mark s bound offset) refl (λ e. enough bound n m e.end)
    where
      go : (x : Said Step) → walk mark s bound offset ≡ x → ((e : Entry) → lines bound e.end ≤ n → lines bound e.end ≤ m → list_most mark s n bound e.end ≡ list_most mark s m bound e.end) → grow x (λ (e : Entry). list_most mark s n bound e.end) ≡ grow x (λ (e : Entry). list_most mark s m bound e.end)
      go (accepted (found e)) q ih =
          let z = walk_found mark s bound offset q in
          ap (λ (l : Listed). record { entries = e ∷ l.entries; stop = l.stop }) (ih e (falls bound offset n z a) (falls bound offset m z b))
      go (accepted ended) q ih = refl
      go (refused k v) q ih = refl

  pub list_step : (bound offset : ℕ) → list mark s bound offset ≡ grow (walk mark s bound offset) (λ e. list mark s bound e.end)
  unfolding list list_most
  list_step bound offset =
      let n = lines bound offset in
      enough bound n (suc n) offset (omega arith) (omega arith) ∙ go (walk mark s bound offset) refl
    where
      go : (x : Said Step) → walk mark s bound offset ≡ x → grow x (λ (e : Entry). list_most mark s (lines bound offset) bound e.end) ≡ grow x (λ (e : Entry). list mark s bound e.end)
      go (accepted (found e)) q =
          let z = walk_found mark s bound offset q in
          ap (λ (l : Listed). record { entries = e ∷ l.entries; stop = l.stop })
          (enough bound (lines bound offset) (lines bound e.end) e.end (falls bound offset (lines bound offset) z (omega arith)) (omega arith))
      go (accepted ended) q = refl
      go (refused k v) q = refl

  -- every entry that is listed ends within the region
  most_ends : (bound n offset none : ℕ) → none ≤ length s → last_end none (list_most mark s n bound offset).entries ≤ length s
  unfolding list_most
  most_ends bound zero offset none h = h
  most_ends bound (suc n) offset none h = go (walk mark s bound offset) refl (λ e. most_ends bound n e.end e.end)
    where
      go : (x : Said Step) → walk mark s bound offset ≡ x → ((e : Entry) → e.end ≤ length s → last_end e.end (list_most mark s n bound e.end).entries ≤ length s) → last_end none (grow x (λ (e : Entry). list_most mark s n bound e.end)).entries ≤ length s
      go (accepted (found e)) q ih = ih e (walk_found mark s bound offset q).fits
      go (accepted ended) q ih = h
      go (refused k v) q ih = h

  pub list_ends : (bound offset none : ℕ) → none ≤ length s → last_end none (list mark s bound offset).entries ≤ length s
  unfolding list
  list_ends bound offset = most_ends bound _ offset

  -- there are no more entries than walks
  most_few : (bound n offset : ℕ) → length (list_most mark s n bound offset).entries ≤ n
  unfolding list_most
  most_few bound zero offset = omega arith
  most_few bound (suc n) offset = go (walk mark s bound offset) (λ e. most_few bound n e.end)
    where
      go : (x : Said Step) → ((e : Entry) → length (list_most mark s n bound e.end).entries ≤ n) → length (grow x (λ (e : Entry). list_most mark s n bound e.end)).entries ≤ suc n
      go (accepted (found e)) ih = omega (arith, ih e)
      go (accepted ended) ih = omega arith
      go (refused k v) ih = omega arith

  pub list_few : (bound offset : ℕ) → length (list mark s bound offset).entries ≤ (bound + 15 - aligned offset) / 16
  unfolding list
  list_few bound offset = most_few bound _ offset
