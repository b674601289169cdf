-- `tracker::place_of`: the first larger number, or the end.
-- Assumes nothing.
use Rattle.std.proofs.Common.{ℕ, length, ltb, Option, ap, ◌∙◌, rules}
use borrow.Author.Tests.{tests}
use Rattle.std.specs.Option.{unwrap_or}
use Rattle.std.proofs.lemmas.Iterator.{YieldsList-from_slice}
use Rattle.std.proofs.lemmas.Iterator.Search.{position_from_yields_List}
use Rattle.tracker.proofs.place_of.Goals as goal

pub returns : goal.returns
returns c =
    c.unwrap_or.ensures
    ∙ ap (λ (o : Option ℕ). unwrap_or o (length c.args.numbers.now))
    (position_from_yields_List (λ (x : ℕ). ltb c.args.number x) _ _ _ c.position.ensures.ran (YieldsList-from_slice c.args.numbers.now (cc)) (λ x b q k. search (rules, tests)))
