use Rattle.dirac_edit_laws.proofs.EncodedPoints.{points_are_groups}
use Rattle.dirac_edit_laws.proofs.laws.encoded_streams_have_a_point_a_group.Goals as goal

pub returns : goal.returns
returns c = points_are_groups
