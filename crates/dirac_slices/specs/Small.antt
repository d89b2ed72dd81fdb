-- How many workers a picture is worth.
use Rattle.std.specs.Prelude.{ℕ, ◌*◌, Bool, if◌then◌else◌, min, nat_lt}
use Rattle.dirac_sequence_header.specs.declared.sequence.Sequence.{Sequence}
use Rattle.dirac_sequence_header.specs.Sizes.{picture_height}
use Rattle.dirac_slices.specs.declared.small.TheConstants.{SMALL}

-- whether a picture of the sequence has so few luma samples that threads started for it cost more than they give
abbrev pub is_small_picture : Sequence → Bool
is_small_picture s = nat_lt (s.width * picture_height s) SMALL

-- how many of so many workers share the work on a picture
abbrev pub shared_by : Sequence → ℕ → ℕ
shared_by s workers = if is_small_picture s then min workers 2 else workers
