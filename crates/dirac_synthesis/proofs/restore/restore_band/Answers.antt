use Rattle.std.proofs.Common.{sym, ◌∙◌}
use Rattle.dirac_synthesis.proofs.ByCodeblock.{band_small}
use Rattle.dirac_synthesis.proofs.Maps.{ok_weaker}
use Rattle.dirac_synthesis.proofs.restore.restore_band.Goals as goal

pub returns-then-has_one_index-clause-bound : goal.returns-then-has_one_index-clause-bound
returns-then-has_one_index-clause-bound c =
    ok_weaker c.restore_by_one.result
    (λ t e. band_small c.args.kind c.args.counts c.args.band.now t (e ∙ sym (c.has_one_index.ensures c.if-has_one_index.true c.args.kind)) c.requires.indices c.requires.magnitudes_below_2_39)
    c.restore_by_one.ensures

pub returns-else-has_one_index-clause-bound : goal.returns-else-has_one_index-clause-bound
returns-else-has_one_index-clause-bound c =
    ok_weaker c.restore_codeblocks.result
    (λ t e. band_small c.args.kind c.args.counts c.args.band.now t e c.requires.indices c.requires.magnitudes_below_2_39)
    c.restore_codeblocks.ensures
