-- `window::Window::widen` meets its contract. The invariant: the registers up to the place are there.
-- Assumes nothing.
use Rattle.std.proofs.Common.{◌≡◌, ◌<◌}
use Rattle.window.proofs.Window.widen.Given as goal

abbrev pub invariant-loop-place : goal.invariant-loop-place
invariant-loop-place l =
    (l.self.count ≡ l.place) × (0 < l.place) × (l.self.base ≡ l.initial.self.base) × (l.self.region.now ≡ l.initial.self.region.now)
