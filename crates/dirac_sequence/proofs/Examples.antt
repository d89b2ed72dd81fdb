-- Headers of settings, computed.
use Rattle.std.proofs.Common.{◌≡◌, [], ◌∷◌, refl}
use Rattle.dirac_base_formats.specs.BaseFormats.{base_format}
use Rattle.dirac_common.specs.Bytes.{bytes_in}
use Rattle.dirac_common.specs.Numbers.{digits_of, digits_within}
use Rattle.dirac_types.specs.Settings.{of_base, format_of}
use Rattle.dirac_sequence_header.specs.Tables.{preset, rate_of, range_of, aspect_of}
use Rattle.dirac_sequence.specs.Written.{sequence_payload}

-- the first base with 8 by 8 samples
small : sequence_payload (record (of_base 0) { width = 8; height = 8 }) ≡ 0x6F ∷ 0xC1 ∷ 0x83 ∷ 0x08 ∷ 0x30 ∷ 0x79 ∷ []
unfolding sequence_payload bytes_in digits_of digits_within preset rate_of range_of aspect_of base_format format_of
small = refl

-- base 8 as it is, but for its signal range
eighth : sequence_payload (of_base 8) ≡ 0x6F ∷ 0x06 ∷ 0x05 ∷ 0xA0 ∷ []
unfolding sequence_payload bytes_in digits_of digits_within preset rate_of range_of aspect_of base_format format_of
eighth = refl
