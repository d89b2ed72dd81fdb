use Rattle.std.proofs.Common.{◌∷◌, []}
use Rattle.dirac_bits.proofs.Fronts.{on_err, none_stand, first_stand}
use Rattle.dirac_header.specs.Written.{partition_flag}
use Rattle.dirac_header.proofs.write.write_codeblocks.Goals as goal

pub returns-in_err-bit-clause-front : goal.returns-in_err-bit-clause-front
returns-in_err-bit-clause-front c = on_err _ (first_stand _ _ (none_stand (partition_flag c.args.counts.now c.args.mode ∷ []) c.in_err-bit.ensures.err))
