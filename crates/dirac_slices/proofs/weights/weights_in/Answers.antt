use Rattle.std.proofs.Common.{ap, ◌∙◌}
use Rattle.dirac_obmc.specs.Directions.{columns_of}
use Rattle.dirac_synthesis.proofs.Maps.{ok_weaker}
use Rattle.dirac_slices.proofs.weights.weights_in.Goals as goal

pub column_weights-requires : goal.column_weights-requires
column_weights-requires c = record { motion = c.motion_at-motion.ensures.fits }

pub returns : goal.returns
returns c =
    ok_weaker c.column_weights.result (λ w e. e ∙ ap columns_of c.motion_at-motion.ensures.value) c.column_weights.ensures
