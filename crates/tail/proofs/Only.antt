-- No second answer fits the contracts of the used bound and of the durable end.
-- Assumes nothing.
use Prim.Native.Nat.{ℕ}
use mathlib.Core.Path.{◌≡◌, sym, ap₂, ◌∙◌}
use Rattle.std.specs.Prelude.{Result}
use Rattle.answers.specs.Answers.{said_stopped}
use Rattle.answers.specs.declared.Stopped.{Stopped}
use Rattle.answers.specs.OneAnswer.{OneAnswer}
use Rattle.answers.proofs.Cases.{said_once, stopped_once}
use Rattle.scan.specs.declared.Effort.{Effort}
use Rattle.tail.specs.declared.CountedEnd.{CountedEnd}
use Rattle.tail.proofs.used_bound.Kinds as used-bound-kinds
use Rattle.tail.proofs.used_bound.Reads as used-bound
use Rattle.tail.proofs.durable_end.Kinds as durable-end-kinds
use Rattle.tail.proofs.durable_end.Reads as durable-end

-- the paper's words tell the ends apart, and the effort stands beside them
abbrev counted : Result ℕ Stopped → Effort → CountedEnd
counted end effort = record { end = end; effort = effort }

pub counted_once : (a b : CountedEnd) → said_stopped a.end ≡ said_stopped b.end → a.effort ≡ b.effort → a ≡ b
counted_once a b e f = ap₂ counted (stopped_once a.end b.end e) f

pub used_bound_only : OneAnswer 1 used-bound-kinds.ps used-bound-kinds.r used-bound.Post
used_bound_only κs args r s x y hr hs = said_once r s (hr ∙ sym hs)

pub durable_end_only : OneAnswer 1 durable-end-kinds.ps durable-end-kinds.r durable-end.Post
durable_end_only κs args r s x y hr hs = counted_once r s (hr.0 ∙ sym hs.0) (hr.1.0 ∙ sym hs.1.0)
