use Rattle.std.proofs.Common.{arith, ap, ◌∙◌, pos}
use Rattle.std.specs.Int.{w128, int_div_euclid}
use Rattle.std.proofs.lemmas.Int.{ints, to_z-of_z}
use Rattle.dirac_bands.proofs.dc.mean.Goals as goal

pub returns : goal.returns
returns c =
    to_z-of_z w128 _ (record { sfits = c.div_euclid.type_inv }) ∙ c.div_euclid.ensures
    ∙ ap (λ z. int_div_euclid z (pos 3)) (omega (arith, ints))
