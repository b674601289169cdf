-- `window::Window::fill_powers` meets its contract. The invariant: the powers up to the place are there.
-- Assumes nothing.
use Rattle.std.proofs.Common.{◌≡◌}
use Rattle.window.specs.Windows.{PowersLeft}
use Rattle.window.proofs.Window.fill_powers.Given as goal

abbrev pub invariant-loop-place : goal.invariant-loop-place
invariant-loop-place l =
    PowersLeft l.self.powers l.place × (l.self.count ≡ 0) × (l.self.region.now ≡ l.initial.self.region.now)
