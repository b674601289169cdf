-- `fields::padded` meets its contract: the bytes with zeros above them are the same number.
-- Assumes nothing.
use Rattle.fields.proofs.Widths.{field_behind}
use Rattle.fields.proofs.padded.Goals as goal

pub returns : goal.returns
returns g c =
    field_behind g.row.N c.args.s.now c.args.p c.copy_from_slice.ensures.after c.requires.inside c.requires.width (λ i. (c.type_inv.s i).fits)
