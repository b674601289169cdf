-- No second answer fits the contract of the read at a place.
-- Assumes nothing.
use mathlib.Core.Path.{sym, ◌∙◌}
use Rattle.answers.specs.OneAnswer.{OneAnswer}
use Rattle.answers.proofs.Cases.{said_once}
use Rattle.read.proofs.read_at.Kinds as read-at-kinds
use Rattle.read.proofs.read_at.Reads as read_at

pub read_at_only : OneAnswer 1 read-at-kinds.ps read-at-kinds.r read_at.Post
read_at_only κs args r s x y hr hs = said_once r s (hr ∙ sym hs)
