-- No second answer fits the contract of the counts.
-- Assumes nothing.
use Rattle.std.proofs.Common.{sym, ◌∙◌}
use Rattle.answers.specs.OneAnswer.{OneAnswer}
use Rattle.answers.proofs.Cases.{stopped_once}
use Rattle.counts.proofs.count_entries.Kinds as count-entries-kinds
use Rattle.counts.proofs.count_entries.Reads as count_entries

pub count_entries_only : OneAnswer 1 count-entries-kinds.ps count-entries-kinds.r count_entries.Post
count_entries_only κs args r s x y hr hs = stopped_once r s (hr ∙ sym hs)
