-- Small damage to the value, the key or the checksum of one entry costs that entry and no other. On the entry's own line no hypothesis is left, and
-- where it takes one line, none at all.
-- Assumes nothing.
use Prim.Native.Nat.{ℕ, ◌+◌, ◌%◌, ◌^◌, ◌<◌}
use mathlib.Core.Path.{◌≡◌, refl, subst, ◌∙◌}
use mathlib.Core.List.{List, [], ◌∷◌, ◌++◌}
use mathlib.Core.Logic.{⊎_elim}
use native.Mathlib.Omega.{arith}
use native.Mathlib.Nat.{zero-add}
use lib.ListN.{length}
use Rattle.fields.specs.Runs.{over}
use Rattle.append.specs.Bytes.{Item, size_of}
use Rattle.tail.proofs.Zeros.{below_or}
use Rattle.damage.specs.Log.{Logged, sizes, entry_of}
use Rattle.damage.specs.Damage.{Quiet, Survives}
use Rattle.damage.specs.Small.{Changed, OnOneSide, HeadKept}
use Rattle.damage.proofs.Written.{Whole}
use Rattle.damage.proofs.Logs.{Stand, more, stand_split, sizes_line, stored}
use Rattle.damage.proofs.Theorem.{damage_theorem}
use Rattle.damage.proofs.Small.{body_quiet}

module _ (mark : ℕ → ℕ) (marks : (p : ℕ) → mark p < 2 ^ 24) {region : List ℕ} {used : ℕ} (before after : List Item) (i : Item) (log : Logged mark region used (before ++ (i ∷ after))) where
  abbrev start : ℕ
  start = sizes before

  -- the item stands where it was written
  pub stands_there : Whole mark region start i
  stands_there = go (stand_split mark region before (i ∷ after) (stored mark marks log).stands).1
    where
      go : Stand mark region (0 + start) (i ∷ after) → Whole mark region start i
      go (more w r) = subst (λ (k : ℕ). Whole mark region k i) (zero-add start) w

  module _ (run : List ℕ) (fills : length run ≡ size_of i) where
    abbrev damaged : List ℕ
    damaged = over region start run

    -- the lines of the entry that are not its own
    abbrev InnerQuiet : Type 0
    InnerQuiet = (q : ℕ) → q % 16 ≡ 0 → start < q → q < start + size_of i → Quiet mark damaged q

    own_and_inner : Quiet mark damaged start → InnerQuiet → Survives mark damaged before (i ∷ []) after
    unfolding sizes
    own_and_inner own inner =
        damage_theorem mark marks before (i ∷ []) after log
        (record {
          run = run;
          filling = fills ∙ omega arith;
          overwritten = refl;
          quiet = λ q a b c.
              ⊎_elim
              (λ l. inner q a l (omega arith))
              (λ l. let e : start ≡ q = omega arith in subst (λ (k : ℕ). Quiet mark damaged k) e own)
              (below_or start q);
        })

    pub small_damage : (x : ℕ)
        → Changed region damaged start (entry_of start i).end x
        → OnOneSide (entry_of start i) x
        → HeadKept region damaged (entry_of start i)
        → InnerQuiet
        → Survives mark damaged before (i ∷ []) after
    small_damage x c side head = own_and_inner (body_quiet mark region damaged start x (entry_of start i) stands_there.verified c side head)

    pub small_damage_in_a_line : size_of i ≡ 16 → (x : ℕ)
        → Changed region damaged start (entry_of start i).end x
        → OnOneSide (entry_of start i) x
        → HeadKept region damaged (entry_of start i)
        → Survives mark damaged before (i ∷ []) after
    small_damage_in_a_line line x c side head = small_damage x c side head (λ q a l h. let s = sizes_line before in absurd (omega arith))
