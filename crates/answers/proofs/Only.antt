-- No second answer fits the contracts of `number` and `verdict_number`.
-- Assumes nothing.
use Rattle.answers.specs.OneAnswer.{OneAnswer}
use Rattle.answers.proofs.Refusal.number.Kinds as number-kinds
use Rattle.answers.proofs.Refusal.number.Reads as number-reads
use Rattle.answers.proofs.verdict_number.Kinds as verdict-number-kinds
use Rattle.answers.proofs.verdict_number.Reads as verdict-number-reads

pub number_only : OneAnswer 0 number-kinds.ps number-kinds.r number-reads.Post
number_only κs args r s x y hr hs = cc

pub verdict_number_only : OneAnswer 0 verdict-number-kinds.ps verdict-number-kinds.r verdict-number-reads.Post
verdict_number_only κs args r s x y hr hs = cc
