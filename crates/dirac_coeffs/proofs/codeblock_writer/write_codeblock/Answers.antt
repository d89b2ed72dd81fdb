use Rattle.std.proofs.Common.{sym, ◌∙◌}
use Rattle.dirac_coeffs.proofs.codeblock_writer.write_codeblock.Goals as goal

pub returns-then-not-has_flags : goal.returns-then-not-has_flags
returns-then-not-has_flags c = rw (sym c.has_flags.ensures ∙ c.if-not-has_flags.true) c.write_unskipped.ensures

pub returns-then-has_zeros_alone : goal.returns-then-has_zeros_alone
returns-then-has_zeros_alone c = rw (sym c.has_flags.ensures ∙ c.if-not-has_flags.false, sym c.has_zeros_alone.ensures ∙ c.if-has_zeros_alone.true) c.decision.ensures.taken

pub write_unskipped-requires : goal.write_unskipped-requires
write_unskipped-requires c = c.requires

pub write_unskipped-requires-in-Ok : goal.write_unskipped-requires-in-Ok
write_unskipped-requires-in-Ok c = c.requires

pub has_zeros_alone-requires : goal.has_zeros_alone-requires
has_zeros_alone-requires c = c.requires
