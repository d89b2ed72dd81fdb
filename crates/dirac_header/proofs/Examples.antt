-- Transform parameters, computed.
use Rattle.std.proofs.Common.{◌≡◌, true, false, [], ◌∷◌, refl, Ok, Err}
use Rattle.dirac_common.specs.Bits.{bits_of}
use Rattle.dirac_common.specs.Numbers.{digits_of, digits_within}
use Rattle.dirac_common.specs.declared.faults.Cause.TheVariants.{CodeblockMode}
use Rattle.dirac_bits.specs.Cursor.{start, bit_next, bits_left}
use Rattle.dirac_bits.specs.Fields.{flag_at, uint_at, number_on}
use Rattle.dirac_bits.specs.Syntax.{read}
use Rattle.dirac_parameters.specs.declared.transform.Transform.{Transform}
use Rattle.dirac_header.specs.Transform.{level_counts, counts_behind, partition, codeblocks, transform}
use Rattle.dirac_header.specs.Written.{transform_bits}

-- the Haar wavelet at depth 1, one codeblock a band
abbrev haar : Transform
haar = record { wavelet = 3; depth = 1; counts = (1, 1) ∷ (1, 1) ∷ []; mode = 0 }

-- the same in codeblock mode 1
abbrev moded : Transform
moded = record { wavelet = 3; depth = 1; counts = (1, 1) ∷ (1, 1) ∷ []; mode = 1 }

-- in mode 0 no partition flag is set
haar_bits : transform_bits haar ≡ false ∷ false ∷ false ∷ false ∷ true ∷ false ∷ false ∷ true ∷ false ∷ []
unfolding digits_of digits_within
haar_bits = refl

-- in mode 1 it is, and counts of 1 and the mode stand behind it
moded_bits : transform_bits moded ≡ bits_of (0x09 ∷ 0x92 ∷ 0x49 ∷ [])
unfolding digits_of digits_within
moded_bits = refl

-- they are read back in a picture of 2 by 2
moded_read : read (transform 2 2) (start (0x09 ∷ 0x92 ∷ 0x49 ∷ [])) ≡ Ok (moded, record { bytes = 0x09 ∷ 0x92 ∷ 0x49 ∷ []; at = 24 })
unfolding transform codeblocks partition counts_behind level_counts flag_at uint_at number_on bit_next bits_left
moded_read = refl

-- mode 2 is refused at the byte in which its field begins
mode_2_refused : read (transform 2 2) (start (0x09 ∷ 0x92 ∷ 0x4B ∷ [])) ≡ Err (record { at = 2; cause = CodeblockMode })
unfolding transform codeblocks partition counts_behind level_counts flag_at uint_at number_on bit_next bits_left
mode_2_refused = refl
