-- The damage theorem at the worked example.
-- Assumes nothing.
use Prim.Native.Nat.{ℕ}
use mathlib.Core.Path.{◌≡◌, refl, subst}
use mathlib.Core.List.{[], ◌∷◌}
use native.Mathlib.Omega.{arith}
use Rattle.answers.specs.Versions.{is_version}
use Rattle.fields.specs.Numbers.{field, aligned}
use Rattle.fields.specs.Runs.{over}
use Rattle.checksum.specs.Catalogue.{taken, step, steps, byte, crc_from, crc16}
use Rattle.entry.specs.Words.{mark_from, version1, seed_of, word_mark, word_namespace, word_kind}
use Rattle.entry.specs.Layout.{head_length, length_of, placed, entry_at, agrees, intact, verifies}
use Rattle.damage.specs.Log.{sizes}
use Rattle.damage.specs.Damage.{Quiet, SurvivesIn}
use Rattle.damage.specs.Examples.{nine, ten, gone, around, changed_value}
use Rattle.damage.proofs.Examples.{appended_three}
use Rattle.damage.proofs.Theorem.{damage_theorem_in}

-- the damage theorem at this log, with one byte of the second entry's value changed: its hypotheses can be met
pub second_lost : SurvivesIn 1 0 (around changed_value) (nine ∷ []) (ten ∷ []) (gone ∷ [])
unfolding field aligned over crc16 crc_from byte steps step taken mark_from word_mark word_namespace word_kind head_length length_of placed entry_at agrees intact verifies sizes is_version seed_of
second_lost =
    damage_theorem_in 1 0 refl (nine ∷ []) (ten ∷ []) (gone ∷ []) appended_three
    (record {
      run = changed_value;
      filling = refl;
      overwritten = refl;
      quiet = λ q a b c.
          let line : 16 ≡ q = omega arith in
          subst (λ (k : ℕ). Quiet version1 (around changed_value) k) line (record { unverified = λ h. absurd (let z : ◌≡◌ {A = ℕ} 0 1 = cc in omega arith); known = λ r m k. absurd (omega arith) });
    })
