-- `tracker::queue_ascends`: the library's test of an order, which asks of each number and the one behind it.
-- Assumes nothing.
use Rattle.std.proofs.Common.{leb, arith, rules}
use lib.Seq.{take_all}
use borrow.Author.Tests.{tests}
use Rattle.std.proofs.lemmas.List.Sorted.{answers_always}
use Rattle.tracker.proofs.Ascents.{sorted_by_tells}
use Rattle.tracker.proofs.queue_ascends.Goals as goal

pub returns : goal.returns
returns c =
    sorted_by_tells c.args.numbers.now _ _ (c.is_sorted_by.ensures.cases leb (answers_always _ _ _ (λ f a r g called. search (rules, tests)))) (grind (arith, take_all))
