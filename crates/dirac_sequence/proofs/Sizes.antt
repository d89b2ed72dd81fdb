-- The sequence of settings that a header can have, and the size of its pictures.
use Rattle.std.proofs.Common.{◌≡◌, refl, eqb-true}
use Rattle.dirac_types.specs.Sizes.{picture_height}
use Rattle.dirac_types.specs.declared.settings.Settings.{Settings}
use Rattle.dirac_sequence_header.specs.Lawful.{IsSequence, IsSize}
use Rattle.dirac_sequence_header.specs.Sizes as of_sequence
use Rattle.dirac_sequence.specs.Written.{IsWritable, sequence_of}
use Rattle.dirac_sequence_header.proofs.Heights.{picture_size}

pub sequence_lawful : (t : Settings) → IsWritable t → IsSequence (sequence_of t)
unfolding sequence_of
sequence_lawful t is = record {
  frames = record { size = is.size; whole_across = is.whole_across; whole_down = is.whole_down };
  whole_fields = λ e. is.whole_fields (eqb-true t.fields 1 e);
}

-- the rows of a picture, by the settings and by their sequence
pub same_height : (t : Settings) → of_sequence.picture_height (sequence_of t) ≡ picture_height t
unfolding sequence_of
same_height t = refl

-- a picture has a size within the limits
pub size_of_pictures : (t : Settings) → IsWritable t → IsSize t.width (picture_height t)
unfolding sequence_of
size_of_pictures t is = picture_size (sequence_of t) (sequence_lawful t is)
