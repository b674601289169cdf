-- `window::Window::join` meets its contract: from two registers and a power comes what the bytes between them leave.
-- Assumes nothing.
use Rattle.std.proofs.Common.{arith, ◌∙◌}
use Rattle.checksum.proofs.Bytes.{bytes_from_places}
use Rattle.window.proofs.Places.{power_at}
use Rattle.window.proofs.Stretches.{joined}
use Rattle.window.proofs.Window.join.Goals as goal

pub returns : goal.returns
returns c =
    let w = c.args.self.now in
    let p = c.requires in
    c.sum_on.ensures
    ∙ joined w.registers w.powers w.region.now w.room w.taken p.0 (power_at w.powers (w.known (omega arith))) (bytes_from_places w.region.now w.bytes) p.1 p.2 p.3
    c.sum-before.result c.mul.result c.sum-before.ensures c.mul.ensures
