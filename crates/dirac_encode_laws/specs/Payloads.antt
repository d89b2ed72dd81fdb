-- The payload of a coded picture as settings write it: the fields of dirac_picture with their sequence, block index and
-- precision.
use Rattle.std.specs.Prelude.{ℕ, Bool, List, Option}
use Rattle.dirac_types.specs.declared.settings.Settings.{Settings}
use Rattle.dirac_sequence.specs.Written.{sequence_of}
use Rattle.dirac_block_table.specs.Tables.{BlockTable}
use Rattle.dirac_picture.specs.declared.coded.CodedMotion.{CodedMotion}
use Rattle.dirac_picture.specs.declared.coded.CodedPicture.{CodedPicture}
use Rattle.dirac_picture.specs.Written.{HasSpelledTable, motion_by, payload_by, with_coded, with_motion_by, with_table}

-- an inter picture's motion by a block table, without global motion, with default weights
abbrev pub motion_with : Settings → BlockTable → CodedMotion
motion_with t b = motion_by t.blocks t.precision b

-- bits with a block table behind them
abbrev pub with_blocks : Settings → BlockTable → List Bool → List Bool
with_blocks t table bits = with_table t.blocks t.precision table bits

-- bits with a picture's motion behind them, if the picture has any
abbrev pub with_motion : Settings → Option CodedMotion → List Bool → List Bool
with_motion t m bits = with_motion_by t.blocks t.precision m bits

-- the block table of a picture's motion is spelt behind these bits, so that it can be read again
abbrev pub HasSpelledBlocks : Settings → Option CodedMotion → List Bool → Type 0
HasSpelledBlocks t m bits = HasSpelledTable t.blocks t.precision m bits

-- bits with a coded picture behind them
abbrev pub with_coded_picture : Settings → CodedPicture → List Bool → List Bool
with_coded_picture t c bits = with_coded (sequence_of t) t.blocks t.precision c bits

-- the payload of a coded picture
abbrev pub payload_of : Settings → CodedPicture → List ℕ
payload_of t c = payload_by (sequence_of t) t.blocks t.precision c
