use Rattle.dirac_coeffs.proofs.OffsetsRead.{flag_read, no_flag}
use Rattle.dirac_coeffs.proofs.codeblocks.read_flag.Goals as goal

pub returns-then-not-has_flags-clause-value : goal.returns-then-not-has_flags-clause-value
returns-then-not-has_flags-clause-value c = no_flag c.args.layout c.has_flags.result c.args.decoder.now c.has_flags.ensures c.if-not-has_flags.true

pub returns-clause-value : goal.returns-clause-value
returns-clause-value c =
    flag_read c.args.layout c.has_flags.result c.decision.result c.args.decoder.now c.decision.new.self c.has_flags.ensures c.if-not-has_flags.false c.decision.ensures.read

pub returns-clause-few_doublings : goal.returns-clause-few_doublings
returns-clause-few_doublings c = c.decision.ensures.few_doublings
