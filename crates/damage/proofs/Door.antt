-- What the damage theorem means at the door: no older entry is taken while a newer one stands outside the stretch.
-- Assumes nothing.
use Prim.Native.Nat.{ℕ}
use mathlib.Core.Path.{◌≡◌, refl, sym, ap, ◌∙◌}
use mathlib.Core.Bool.{Bool, true, false}
use mathlib.Core.List.{List, [], ◌∷◌, ◌++◌, map}
use native.Mathlib.Omega.{arith}
use Rattle.append.specs.Bytes.{Item}
use Rattle.scan.specs.Listing.{Listed}
use Rattle.tail.specs.Tail.{used_bound}
use Rattle.damage.specs.Damage.{Survives, item_at}
use Rattle.damage.specs.Newest.{Newest, absent, present, pick_newest, bears, newest_after, newest, newest_listed}

module _ (ns : ℕ) (key : List ℕ) where
  after_append : (last : Newest) (is js : List Item) → newest_after ns key last (is ++ js) ≡ newest_after ns key (newest_after ns key last is) js
  unfolding newest_after
  after_append last [] js = refl
  after_append last (i ∷ is) js = after_append (pick_newest (bears ns key i) (present i) last) is js

  -- what came before an item for the key is of no account
  newer_hides : (last other : Newest) (i : Item) (js : List Item) → bears ns key i ≡ true → newest_after ns key last (i ∷ js) ≡ newest_after ns key other (i ∷ js)
  unfolding newest_after
  newer_hides last other i js h = rw h

  never_absent : (i : Item) (is : List Item) → newest_after ns key (present i) is ≡ absent → ⊥
  unfolding newest_after
  never_absent i [] h = let z : ◌≡◌ {A = ℕ} 0 1 = cc in omega arith
  never_absent i (j ∷ is) h = go (bears ns key j) h (λ k. never_absent k is)
    where
      go : (b : Bool) → newest_after ns key (pick_newest b (present j) (present i)) is ≡ absent → ((k : Item) → newest_after ns key (present k) is ≡ absent → ⊥) → ⊥
      go true e ih = ih j e
      go false e ih = ih i e

  -- where there is none for the key, what was the last stays
  none_hides : (last : Newest) (is : List Item) → newest ns key is ≡ absent → newest_after ns key last is ≡ last
  unfolding newest_after
  none_hides last [] h = refl
  none_hides last (i ∷ is) h = go (bears ns key i) h (none_hides last is)
    where
      go : (b : Bool) → newest_after ns key (pick_newest b (present i) absent) is ≡ absent → (newest ns key is ≡ absent → newest_after ns key last is ≡ last) → newest_after ns key (pick_newest b (present i) last) is ≡ last
      go true e ih = absurd (never_absent i is e)
      go false e ih = ih e

  module _ {mark : ℕ → ℕ} {damaged : List ℕ} (before lost after : List Item) (s : Survives mark damaged before lost after) where
    -- the last entry that the damaged region lists for a namespace and key is the last one outside the stretch
    pub newest_stands : newest_listed ns key mark damaged (used_bound damaged) ≡ newest ns key (before ++ after)
    newest_stands = ap (λ (l : Listed). newest ns key (map (item_at damaged) l.entries)) s.listed ∙ ap (newest ns key) s.kept

    -- so no older one is taken while a newer one stands: behind an item for the key, what was appended before it is of no account
    pub never_older : (older newer : List Item) (i : Item)
        → before ++ after ≡ older ++ (i ∷ newer)
        → bears ns key i ≡ true
        → newest_listed ns key mark damaged (used_bound damaged) ≡ newest ns key (i ∷ newer)
    never_older older newer i e h =
        newest_stands ∙ ap (newest ns key) e ∙ after_append absent older (i ∷ newer) ∙ newer_hides (newest ns key older) absent i newer h

    -- and where nothing for the key was lost, it is the last one that was ever appended for it
    pub newest_unharmed : newest ns key lost ≡ absent → newest_listed ns key mark damaged (used_bound damaged) ≡ newest ns key (before ++ (lost ++ after))
    newest_unharmed h =
        newest_stands
        ∙ after_append absent before after
        ∙ ap (λ (last : Newest). newest_after ns key last after) (sym (none_hides (newest ns key before) lost h))
        ∙ sym (after_append absent before (lost ++ after) ∙ after_append (newest ns key before) lost after)
