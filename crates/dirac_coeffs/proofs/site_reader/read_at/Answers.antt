use Rattle.std.proofs.Common.{rules}
use Rattle.dirac_common.specs.Limits.{IsIndex}
use Rattle.dirac_coeffs.specs.Lent.{numbers_in}
use Rattle.dirac_coeffs.proofs.Read.{block_coded}
use Rattle.dirac_coeffs.proofs.site_reader.read_at.Goals as goal

pub returns-in-Ok-clause-lawful : goal.returns-in-Ok-clause-lawful
returns-in-Ok-clause-lawful c =
    let few : IsIndex c.index-index.result = search rules in
    block_coded c.args.layout c.at.result (numbers_in c.numbers_of.result) c.index-index.result c.block.result.now c.in-Ok.read c.requires.layout few c.in-Ok.ensures

pub read_zeros-requires : goal.read_zeros-requires
read_zeros-requires c = c.requires.layout

pub read_below-requires-clause-layout : goal.read_below-requires-clause-layout
read_below-requires-clause-layout c = c.requires.layout

pub returns-in-Err-clause-lawful : goal.returns-in-Err-clause-lawful
returns-in-Err-clause-lawful c = tt
