-- Worked values of the definitions.
use Rattle.std.proofs.Common.{◌≡◌, pos, negsuc, true, false, [], ◌∷◌, replicate, Ok, Err, refl}
use Rattle.dirac_common.specs.declared.faults.Cause.TheVariants.{CodeWord, NumberTooLong, QuantIndex}
use Rattle.dirac_common.specs.Numbers.{digits_of, digits_within}
use Rattle.dirac_common.specs.declared.formats.Band.TheVariants as bands
use Rattle.dirac_arith.specs.Coded.{repeated}
use Rattle.dirac_arith.specs.Deciding.{decision_read, number_read, number_from_digit, sign_read, signed_read}
use Rattle.dirac_arith.specs.Front.{front, first_bits}
use Rattle.dirac_arith.specs.Interval.{Decision, doublings_for}
use Rattle.dirac_arith.specs.Spelling.{spelling, signed_spelling}
use Rattle.dirac_arith.specs.StepTable.{probability_step, step_table}
use Rattle.dirac_arith.specs.Written.{number_in_bytes, flushed_interval}
use Rattle.dirac_coeffs.specs.declared.layout.BandLayout.{BandLayout}
use Rattle.dirac_coeffs.specs.BandRead.{value_step, offset_step, block_step, band_content, band_read}
use Rattle.dirac_coeffs.specs.Decisions.{row_part, rows_part, blocks_part, bands_part, band_decisions}
use Rattle.dirac_coeffs.specs.Written.{all_below, marks_of, block_of}

-- an LL band of one value
abbrev one_value : BandLayout
one_value = record { band = bands.LL; width = 1; height = 1; across = 1; down = 1; mode = 0 }

-- its value 1 is spelt by four decisions: a digit 0 behind a false follow decision, a true one, and the sign
one_decisions : band_decisions one_value [] (pos 1 ∷ []) (marks_of one_value 0 (pos 1 ∷ []) (0 ∷ [])) ≡ (let a : Decision = (0, false) in let b : Decision = (14, false) in let c : Decision = (4, true) in let d : Decision = (15, false) in a ∷ b ∷ c ∷ d ∷ [])
unfolding row_part rows_part blocks_part bands_part spelling signed_spelling digits_of digits_within
one_decisions = refl

-- and coded by the block 2E
one_block : block_of one_value [] 0 (pos 1 ∷ []) (0 ∷ []) ≡ 0x2E ∷ []
unfolding row_part rows_part blocks_part bands_part spelling signed_spelling digits_of digits_within doublings_for probability_step step_table number_in_bytes flushed_interval
one_block = refl

-- which reads to it
one_read : band_read one_value [] 0 (0x2E ∷ []) ≡ Ok (band_content (pos 1 ∷ []) (0 ∷ []))
unfolding band_read repeated value_step offset_step block_step decision_read number_read number_from_digit sign_read signed_read doublings_for probability_step step_table front first_bits
one_read = refl

-- two bytes of ones are refused, and so is an empty block, whose bits are all ones
ones_refused : band_read one_value [] 0 (0xFF ∷ 0xFF ∷ []) ≡ Err CodeWord
unfolding band_read front first_bits
ones_refused = refl

empty_refused : band_read one_value [] 0 [] ≡ Err CodeWord
unfolding band_read front first_bits
empty_refused = refl

-- twelve bytes of zeros hold 39 false follow decisions
long_refused : band_read one_value [] 0 (replicate 12 0) ≡ Err NumberTooLong
unfolding band_read repeated value_step offset_step block_step decision_read number_read number_from_digit sign_read signed_read doublings_for probability_step step_table front first_bits
long_refused = refl

-- an HL band of two columns of one value, of which the first is zero and skipped; the second goes by the value above, which isn't there
abbrev two_codeblocks : BandLayout
two_codeblocks = record { band = bands.HL; width = 2; height = 1; across = 2; down = 1; mode = 0 }

two_decisions : band_decisions two_codeblocks [] (pos 0 ∷ negsuc 0 ∷ []) (marks_of two_codeblocks 0 (pos 0 ∷ negsuc 0 ∷ []) (0 ∷ 0 ∷ []))
    ≡ (let s : Decision = (18, true) in let p : Decision = (18, false) in let a : Decision = (0, false) in let b : Decision = (14, false) in let c : Decision = (4, true) in let d : Decision = (15, true) in s ∷ p ∷ a ∷ b ∷ c ∷ d ∷ [])
unfolding row_part rows_part blocks_part bands_part spelling signed_spelling digits_of digits_within all_below
two_decisions = refl

-- the block of these decisions reads to the two values
two_read : band_read two_codeblocks [] 0 (block_of two_codeblocks [] 0 (pos 0 ∷ negsuc 0 ∷ []) (0 ∷ 0 ∷ [])) ≡ Ok (band_content (pos 0 ∷ negsuc 0 ∷ []) (0 ∷ 0 ∷ []))
unfolding band_read repeated value_step offset_step block_step decision_read number_read number_from_digit sign_read signed_read row_part rows_part blocks_part bands_part spelling signed_spelling digits_of digits_within all_below doublings_for probability_step step_table number_in_bytes flushed_interval front first_bits
two_read = refl

-- in mode 1 the codeblock of one value begins with its offset, here 0: a true follow decision
abbrev moded_value : BandLayout
moded_value = record { band = bands.LL; width = 1; height = 1; across = 1; down = 1; mode = 1 }

moded_decisions : band_decisions moded_value [] (pos 1 ∷ []) (marks_of moded_value 0 (pos 1 ∷ []) (0 ∷ [])) ≡ (let o : Decision = (19, true) in let a : Decision = (0, false) in let b : Decision = (14, false) in let c : Decision = (4, true) in let d : Decision = (15, false) in o ∷ a ∷ b ∷ c ∷ d ∷ [])
unfolding row_part rows_part blocks_part bands_part spelling signed_spelling digits_of digits_within all_below
moded_decisions = refl

-- its block is 96
moded_block : block_of moded_value [] 0 (pos 1 ∷ []) (0 ∷ []) ≡ 0x96 ∷ []
unfolding row_part rows_part blocks_part bands_part spelling signed_spelling digits_of digits_within all_below doublings_for probability_step step_table number_in_bytes flushed_interval
moded_block = refl

moded_read : band_read moded_value [] 0 (0x96 ∷ []) ≡ Ok (band_content (pos 1 ∷ []) (0 ∷ []))
unfolding band_read repeated value_step offset_step block_step decision_read number_read number_from_digit sign_read signed_read doublings_for probability_step step_table front first_bits
moded_read = refl

-- 3E begins with the offset -1, which takes index 0 below 0, and index 1 to 0
out_refused : band_read moded_value [] 0 (0x3E ∷ []) ≡ Err QuantIndex
unfolding band_read repeated value_step offset_step block_step decision_read number_read number_from_digit sign_read signed_read doublings_for probability_step step_table front first_bits
out_refused = refl

-- in a band of index 1 the block 3E takes its codeblock to index 0, where the value is 0
down_to_0 : band_read moded_value [] 1 (0x3E ∷ []) ≡ Ok (band_content (pos 0 ∷ []) (0 ∷ []))
unfolding band_read repeated value_step offset_step block_step decision_read number_read number_from_digit sign_read signed_read doublings_for probability_step step_table front first_bits
down_to_0 = refl

-- two codeblocks of mode 1: the first is skipped and keeps the band's index 5, the second goes on from there to 2
abbrev moded_codeblocks : BandLayout
moded_codeblocks = record { band = bands.HL; width = 2; height = 1; across = 2; down = 1; mode = 1 }

moded_two : band_read moded_codeblocks [] 5 (block_of moded_codeblocks [] 5 (pos 0 ∷ negsuc 0 ∷ []) (5 ∷ 2 ∷ [])) ≡ Ok (band_content (pos 0 ∷ negsuc 0 ∷ []) (5 ∷ 2 ∷ []))
unfolding band_read repeated value_step offset_step block_step decision_read number_read number_from_digit sign_read signed_read row_part rows_part blocks_part bands_part spelling signed_spelling digits_of digits_within all_below doublings_for probability_step step_table number_in_bytes flushed_interval front first_bits
moded_two = refl
