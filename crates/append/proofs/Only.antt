-- No second answer fits the appends' contracts, and no other bytes.
-- Assumes nothing.
use mathlib.Core.Path.{sym, ◌∙◌}
use Rattle.answers.specs.OneAnswer.{OneOutcome}
use Rattle.answers.proofs.Cases.{said_once}
use Rattle.append.proofs.append_data.Kinds as data-kinds
use Rattle.append.proofs.append_data.Reads as data-reads
use Rattle.append.proofs.append_tombstone.Kinds as tombstone-kinds
use Rattle.append.proofs.append_tombstone.Reads as tombstone-reads

pub append_data_only : OneOutcome 2 data-kinds.ps data-kinds.r data-reads.Post (λ κs x. x.0.now)
append_data_only κs args r s x y hr hs = (said_once r s (hr.says ∙ sym hs.says), hr.leaves ∙ sym hs.leaves)

pub append_tombstone_only : OneOutcome 2 tombstone-kinds.ps tombstone-kinds.r tombstone-reads.Post (λ κs x. x.0.now)
append_tombstone_only κs args r s x y hr hs = (said_once r s (hr.says ∙ sym hs.says), hr.leaves ∙ sym hs.leaves)
