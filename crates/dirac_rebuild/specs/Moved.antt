-- The motion of an inter picture.
use Rattle.dirac_sequence_header.specs.Lawful.{IsSequence}
use Rattle.dirac_picture.specs.Fits.{IsMotion}
use Rattle.dirac_rebuild.specs.declared.compensate.Moved.{Moved}

-- motion of this sequence that fits its parse code
pub record IsMoved (m : Moved) : Type 0 where
  pub sequence : IsSequence m.sequence.now
  pub motion : IsMotion m.code m.sequence.now m.motion.now
