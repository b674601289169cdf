-- `append::append` meets its contract: the check decides, and the writer does what is accepted.
-- Assumes nothing.
use Rattle.std.proofs.Common.{rules}
use mathlib.Core.Path.{sym, ap, ◌∙◌}
use native.Mathlib.Omega.{arith}
use Rattle.answers.specs.Numbers.{number_of_verdict}
use Rattle.append.proofs.Acceptance.{accepted_facts}
use Rattle.append.proofs.Answering.{refused_append, accepted_append}
use Rattle.append.proofs.append.Goals as goal

pub returns-in_err-check : goal.returns-in_err-check
returns-in_err-check c = refused_append _ _ _ _ _ c.check.ensures c.in_err-check.was (search rules)

pub put_entry-requires-clause-in_region : goal.put_entry-requires-clause-in_region
put_entry-requires-clause-in_region c = (accepted_facts (sym c.check.ensures ∙ ap number_of_verdict c.in_ok-check.was)).room

pub put_entry-requires-clause-in_range : goal.put_entry-requires-clause-in_range
put_entry-requires-clause-in_range c =
    let f = accepted_facts (sym c.check.ensures ∙ ap number_of_verdict c.in_ok-check.was) in
    (f.line, omega (arith, f.spaces), c.requires f.taken)

pub returns : goal.returns
returns c = accepted_append _ _ _ _ _ (sym (ap number_of_verdict c.in_ok-check.was) ∙ c.check.ensures) c.put_entry.ensures.1 c.put_entry.ensures.0
