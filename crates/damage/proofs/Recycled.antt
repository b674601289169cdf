-- Document 02, request 10, what it is for: "An old entry on a recycled card can verify at its old place." Under another ordinal it doesn't, unless
-- the two agree modulo 2^24; nor under version 1, unless its ordinal is 0 modulo 2^24.
-- Assumes nothing.
use Prim.Native.Nat.{ℕ, ◌%◌, ◌^◌}
use mathlib.Core.Path.{◌≡◌, sym, ◌∙◌}
use mathlib.Core.Bool.{false}
use mathlib.Core.List.{List, ◌∷◌, ◌++◌}
use lib.ListN.{length}
use Rattle.entry.specs.Words.{seed_of, mark_of}
use Rattle.entry.specs.Layout.{verifies}
use Rattle.entry.proofs.Packing.{mark_lt}
use Rattle.entry.proofs.Standing.{Verified}
use Rattle.entry.proofs.Versions.{same_seed, agreeing_seeds, as_version_1, other_unverified}
use Rattle.append.specs.Bytes.{Item}
use Rattle.scan.specs.Walk.{next, trial}
use Rattle.scan.proofs.Trials.{trial_unmarked}
use Rattle.damage.specs.Log.{Logged, sizes, entry_of}
use Rattle.damage.proofs.Local.{Same}
use Rattle.damage.proofs.Logs.{whole_same}
use Rattle.damage.proofs.OneEntry.{stands_there}

-- an entry i, written by accepted appends in a file of a version and an ordinal
module _ (version ordinal : ℕ) {region : List ℕ} {used : ℕ} (before after : List Item) (i : Item) (log : Logged (mark_of version ordinal) region used (before ++ (i ∷ after))) where
  abbrev place : ℕ
  place = sizes before

  -- and left at its old place: of the card as it is now, its bytes are the same
  module _ (card : List ℕ) (long : length region ≡ length card) (left : Same region card place (entry_of place i).end) where
    there : Verified (mark_of version ordinal) card place (entry_of place i)
    there =
        (whole_same (mark_of version ordinal) region card long place i left
        (stands_there (mark_of version ordinal) (mark_lt (seed_of version ordinal)) before after i log)).verified

    -- in a file whose marks are others
    module _ (version2 ordinal2 : ℕ) (others : seed_of version ordinal ≡ seed_of version2 ordinal2 → ⊥) where
      differ : mark_of version ordinal place ≡ mark_of version2 ordinal2 place → ⊥
      differ e = others (same_seed version ordinal version2 ordinal2 place e)

      -- it doesn't verify
      pub old_unverified : verifies (mark_of version2 ordinal2) card place ≡ false
      old_unverified = other_unverified (mark_of version ordinal) (mark_of version2 ordinal2) card place there.marked differ

      -- and the walk goes on to the next line: it doesn't stop there with 10 either
      pub old_skipped : trial (mark_of version2 ordinal2) card place ≡ next
      old_skipped = trial_unmarked (mark_of version2 ordinal2) card place there.room (λ e. differ (sym there.marked ∙ e))

-- the same in the request's words: in version 2, of an entry of one ordinal under another
module _ (ordinal : ℕ) {region : List ℕ} {used : ℕ} (before after : List Item) (i : Item) (log : Logged (mark_of 2 ordinal) region used (before ++ (i ∷ after)))
    (card : List ℕ) (long : length region ≡ length card) (left : Same region card (sizes before) (entry_of (sizes before) i).end) (other : ℕ) where
  pub recycled : (ordinal % 2 ^ 24 ≡ other % 2 ^ 24 → ⊥) → verifies (mark_of 2 other) card (sizes before) ≡ false
  recycled apart = old_unverified 2 ordinal before after i log card long left 2 other (λ e. apart (agreeing_seeds ordinal other e))

  -- and under version 1, whatever that file's ordinal
  pub recycled_as_1 : (ordinal % 2 ^ 24 ≡ 0 → ⊥) → verifies (mark_of 1 other) card (sizes before) ≡ false
  recycled_as_1 apart = old_unverified 2 ordinal before after i log card long left 1 other (λ e. apart (as_version_1 ordinal other e))
