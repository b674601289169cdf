-- `replay::starts_before` meets its contract: each return is one case of the cursor's place among the two.
-- Assumes nothing.
use Rattle.replay.proofs.Choices.{below_shows, above_shows}
use Rattle.replay.proofs.starts_before.Goals as goal

pub returns-then-second-cursor : goal.returns-then-second-cursor
returns-then-second-cursor c = below_shows _ _ _ c.if-second-cursor.true

pub returns : goal.returns
returns c = above_shows _ _ _ c.if-second-cursor.false c.if-first-cursor.false
