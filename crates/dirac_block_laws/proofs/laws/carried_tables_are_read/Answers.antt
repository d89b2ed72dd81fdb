use Rattle.dirac_block_laws.specs.Laws.{CarriedTableIsRead}
use Rattle.dirac_block_laws.proofs.WholeRead.{one_is_carried, whole_is_read}
use Rattle.dirac_block_laws.proofs.laws.carried_tables_are_read.Goals as goal

pub returns : goal.returns
returns c =
    let law : CarriedTableIsRead = whole_is_read c.carried_lists_are_read.ensures.units c.carried_lists_are_read.ensures.splits in
    record { read = law; one_is_carried = one_is_carried law }
