-- A check's number, from its answer in the paper's words.
-- Assumes nothing.
use mathlib.Core.Path.{◌≡◌, refl}
use Rattle.std.specs.Prelude.{Result, Ok, Err}
use Rattle.answers.specs.Numbers.{number_of_verdict}
use Rattle.answers.specs.Answers.{said_verdict, number_said}
use Rattle.answers.specs.declared.Refusal.{Refusal}

pub verdict_number : (v : Result (Unit {0}) Refusal) → number_of_verdict v ≡ number_said (said_verdict v)
verdict_number (Ok done) = refl
verdict_number (Err r) = refl
