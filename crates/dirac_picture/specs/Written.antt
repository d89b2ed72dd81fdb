-- The payload of a coded picture: its fields, as they are written.
use Rattle.std.specs.Prelude.{ℕ, Bool, true, false, if◌then◌else◌, List, [], ◌∷◌, ◌++◌, length, Option, None, Some}
use Rattle.dirac_sequence_header.specs.Sizes.{picture_height}
use Rattle.dirac_common.specs.Bytes.{bytes_of}
use Rattle.dirac_sequence_header.specs.declared.sequence.Sequence.{Sequence}
use Rattle.dirac_parameters.specs.declared.transform.Transform.{Transform}
use Rattle.dirac_header.specs.Written.{header_bits, prediction_bits, prediction_of, transform_bits}
use Rattle.dirac_blocks.specs.Decisions.{block_decisions, least_numbers}
use Rattle.dirac_blocks.specs.Grammar.{blocks}
use Rattle.dirac_block_table.specs.Tables.{BlockTable}
use Rattle.dirac_blocks.specs.Written.{with_lists}
use Rattle.dirac_coeffs.specs.declared.layout.CodedBand.{CodedBand}
use Rattle.dirac_coeffs.specs.Written.{SpelledBehind, up_to_byte, with_band}
use Rattle.dirac_picture.specs.declared.coded.CodedMotion.{CodedMotion}
use Rattle.dirac_picture.specs.declared.coded.CodedPicture.{CodedPicture}
use Rattle.dirac_picture.specs.declared.coded.CodedResidual.{CodedResidual}
use Rattle.dirac_picture.specs.Bands.{parent_values, layout_of}
use Rattle.dirac_picture.specs.Grammar.{chroma_width, chroma_height, is_intra}

-- the bits with bands of a plane of this size behind them: first come the bands `before`, which are written already
abbrev pub with_bands : Transform → ℕ → ℕ → List CodedBand → List CodedBand → List Bool → List Bool
with_bands t width height before [] bits = bits
with_bands t width height before (b ∷ bands) bits =
    with_bands t width height (before ++ b ∷ []) bands
    (with_band (layout_of t width height (length before)) (parent_values before) b bits)

-- with all bands of a plane behind them
abbrev pub with_plane : Transform → ℕ → ℕ → List CodedBand → List Bool → List Bool
with_plane t width height bands bits = with_bands t width height [] bands bits

-- with the bands of Y, U and V behind them
abbrev pub with_planes : Sequence → CodedResidual → List Bool → List Bool
with_planes s r bits =
    with_plane r.transform (chroma_width s) (chroma_height s) r.v
    (with_plane r.transform (chroma_width s) (chroma_height s) r.u
    (with_plane r.transform s.width (picture_height s) r.y bits))

-- with the transform parameters and the bands behind them
abbrev pub with_residual : Sequence → CodedResidual → List Bool → List Bool
with_residual s r bits = with_planes s r (bits ++ transform_bits r.transform)

-- an inter picture's motion by a block table, with this block index and precision, without global motion, with default
-- weights
abbrev pub motion_by : ℕ → ℕ → BlockTable → CodedMotion
motion_by index precision b = record { prediction = prediction_of index precision; blocks = b }

-- with a block index, a precision and a block table behind them
abbrev pub with_table : ℕ → ℕ → BlockTable → List Bool → List Bool
with_table index precision table bits =
    with_lists (block_decisions table (least_numbers table))
    (up_to_byte (bits ++ prediction_bits bits index precision))

-- the block table of a picture's motion is spelt behind these bits, so that it can be read again
abbrev pub HasSpelledTable : ℕ → ℕ → Option CodedMotion → List Bool → Type 0
HasSpelledTable index precision None bits = Unit {0}
HasSpelledTable index precision (Some m) bits =
    SpelledBehind (blocks m.blocks.across m.blocks.down m.blocks.refs) m.blocks
    (up_to_byte (bits ++ prediction_bits bits index precision)) (with_table index precision m.blocks bits)

-- these bits with those of a picture's motion behind them, if it has any
abbrev pub with_motion_by : ℕ → ℕ → Option CodedMotion → List Bool → List Bool
with_motion_by index precision None bits = bits
with_motion_by index precision (Some m) bits = with_table index precision m.blocks bits

-- with the flag that says that all of the residual is zero; just inter pictures have it
abbrev pub with_flag : ℕ → Bool → List Bool → List Bool
with_flag code none bits = if is_intra code then bits else bits ++ none ∷ []

-- with that flag and the residual behind them, where there is one
abbrev pub with_coefficients : Sequence → ℕ → Option CodedResidual → List Bool → List Bool
with_coefficients s code None bits = with_flag code true bits
with_coefficients s code (Some r) bits = with_residual s r (with_flag code false bits)

-- with a coded picture of this sequence behind them: its header, its motion, bits 0 up to the next byte, and its
-- coefficients
abbrev pub with_coded : Sequence → ℕ → ℕ → CodedPicture → List Bool → List Bool
with_coded s index precision c bits =
    with_coefficients s c.code c.residual
    (up_to_byte (with_motion_by index precision c.motion (bits ++ header_bits bits c.code c.header)))

-- the payload of a coded picture of this sequence, with this block index and precision
unfoldable pub payload_by : Sequence → ℕ → ℕ → CodedPicture → List ℕ
payload_by s index precision c = bytes_of (up_to_byte (with_coded s index precision c []))
