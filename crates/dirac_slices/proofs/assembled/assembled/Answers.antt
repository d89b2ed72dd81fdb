use Rattle.std.proofs.Common.{ap}
use Rattle.dirac_common.specs.declared.picture.Picture.{Picture}
use Rattle.dirac_common.specs.Table.{Table}
use Rattle.dirac_slices.proofs.assembled.assembled.Goals as goal

pub returns : goal.returns
returns c = λ f are.
    ap (λ (x : Table × Table × Table). let p : Picture = record { number = c.args.number; y = x.0; u = x.1; v = x.2 } in p) (c.three_of-y.ensures f are)
