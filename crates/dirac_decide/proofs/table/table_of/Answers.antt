use Rattle.std.proofs.Common.{subst, sym}
use Rattle.std.specs.List.{All}
use Rattle.dirac_block_table.specs.Tables.{BlockTable}
use Rattle.dirac_decide.specs.Given.{deciding_of}
use Rattle.dirac_decide.specs.Modes.{HasDcSamples}
use Rattle.dirac_decide.proofs.DcValues.{blocks_have}
use Rattle.dirac_decide.proofs.Tables.{decided_is}
use Rattle.dirac_decide.proofs.table.table_of.Goals as goal

pub returns-clause-table : goal.returns-clause-table
returns-clause-table c = decided_is (deciding_of c.args.inputs.now) c.put_rows.new.table c.requires.across.0 c.put_rows.ensures.table c.across-lawful.ensures.lawful

pub returns-clause-samples : goal.returns-clause-samples
returns-clause-samples c =
    subst (λ (t : BlockTable). All HasDcSamples t.blocks)
    (sym (decided_is (deciding_of c.args.inputs.now) c.put_rows.new.table c.requires.across.0 c.put_rows.ensures.table c.across-lawful.ensures.lawful))
    (blocks_have (deciding_of c.args.inputs.now) c.requires.inputs)
