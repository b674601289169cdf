-- `card::room` has as many bytes as its contract says. That is by a law over any number of zeros, so that nothing counts these out.
-- Assumes nothing.
use Rattle.std.proofs.Common.{◌≡◌, ℕ, length, sym}
use lib.ListN.{replicate, length-replicate}
use Rattle.card.proofs.room.Goals as goal

zeros : (n : ℕ) → n ≡ length {A = ℕ} (replicate n 0)
zeros n = sym (length-replicate {0} {A = ℕ} n 0)

pub returns : goal.returns
returns c = zeros 1052672
