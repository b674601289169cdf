-- No second answer fits the contracts of the replay limits and of the start file.
-- Assumes nothing.
use Prim.Native.Nat.{ℕ}
use mathlib.Core.Path.{◌≡◌, refl, sym, ap, ◌∙◌}
use native.Mathlib.Omega.{arith}
use Rattle.answers.specs.OneAnswer.{OneAnswer}
use Rattle.answers.proofs.Cases.{same_number, verdict_by_number}
use Rattle.std.specs.Prelude.{Option, Some, None, Result, Ok, Err}
use Rattle.answers.specs.declared.Refusal.{Refusal}
use Rattle.replay.specs.Start.{said_start}
use Rattle.replay.proofs.check_data.Kinds as check-data-kinds
use Rattle.replay.proofs.check_data.Reads as check-data
use Rattle.replay.proofs.check_tombstone.Kinds as check-tombstone-kinds
use Rattle.replay.proofs.check_tombstone.Reads as check-tombstone
use Rattle.replay.proofs.start_file.Kinds as start-file-kinds
use Rattle.replay.proofs.start_file.Reads as start-file

-- the paper's words tell the answers apart
pub start_says : (x y : Result (Option ℕ) Refusal) → said_start x ≡ said_start y → x ≡ y
start_says (Ok (Some p)) (Ok (Some p')) e = cc
start_says (Ok (Some p)) (Ok None) e = let z : ◌≡◌ {A = ℕ} 0 1 = cc in absurd (omega arith)
start_says (Ok (Some p)) (Err r) e = let z : ◌≡◌ {A = ℕ} 0 1 = cc in absurd (omega arith)
start_says (Ok None) (Ok (Some p)) e = let z : ◌≡◌ {A = ℕ} 0 1 = cc in absurd (omega arith)
start_says (Ok None) (Ok None) e = refl
start_says (Ok None) (Err r) e = let z : ◌≡◌ {A = ℕ} 0 1 = cc in absurd (omega arith)
start_says (Err r) (Ok (Some p)) e = let z : ◌≡◌ {A = ℕ} 0 1 = cc in absurd (omega arith)
start_says (Err r) (Ok None) e = let z : ◌≡◌ {A = ℕ} 0 1 = cc in absurd (omega arith)
start_says (Err r) (Err r') e = ap Err (same_number r r' (cc))

pub check_data_only : OneAnswer 0 check-data-kinds.ps check-data-kinds.r check-data.Post
check_data_only κs args r s x y hr hs = verdict_by_number r s (hr ∙ sym hs)

pub check_tombstone_only : OneAnswer 0 check-tombstone-kinds.ps check-tombstone-kinds.r check-tombstone.Post
check_tombstone_only κs args r s x y hr hs = verdict_by_number r s (hr ∙ sym hs)

pub start_file_only : OneAnswer 1 start-file-kinds.ps start-file-kinds.r start-file.Post
start_file_only κs args r s x y hr hs = start_says r s (hr ∙ sym hs)
