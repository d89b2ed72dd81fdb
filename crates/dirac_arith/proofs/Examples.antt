-- The definitions, computed on small cases.
use Rattle.std.proofs.Common.{◌≡◌, ◌+◌, ℕ, true, false, [], ◌∷◌, pos, replicate, refl, Err, inr, lit<}
use Rattle.std.specs.Prelude.{if◌then◌else◌}
use Rattle.dirac_common.specs.Numbers.{digits_of, digits_within}
use Rattle.dirac_common.specs.declared.faults.Cause.TheVariants as cause
use Rattle.dirac_arith.specs.Coded.{Coded, done, decide, number, refuse, read_coded, DecisionsSpell, Breaks}
use Rattle.dirac_arith.specs.Deciding.{begin, decision_read}
use Rattle.dirac_arith.specs.StepTable.{step_table, probability_step}
use Rattle.dirac_arith.specs.Front.{first_bits, front}
use Rattle.dirac_arith.specs.Interval.{Decision, doublings_for, interval_of}
use Rattle.dirac_arith.specs.Spelling.{spelling, signed_spelling}
use Rattle.dirac_arith.specs.Written.{number_in_bytes, flushed_interval, flush}

-- bits past the end of a block are ones
front_of_a_byte : front (0x2E ∷ []) 16 ≡ 0x2EFF
unfolding front first_bits
front_of_a_byte = refl

front_of_nothing : front [] 16 ≡ 0xFFFF
unfolding front first_bits
front_of_nothing = refl

-- one true decision keeps the upper half, and needs no doubling
interval_of_true : (let d : Decision = (0, true) in interval_of (d ∷ [])) ≡ record { low = 32767; range = 32768; doublings = 0; contexts = 30833 ∷ replicate 37 0x8000 }
unfolding doublings_for probability_step step_table
interval_of_true = refl

-- a false one after it in the same context
interval_of_true_false : (let t : Decision = (0, true) in let f : Decision = (0, false) in interval_of (t ∷ f ∷ []))
    ≡ record { low = 65534; range = 30832; doublings = 1; contexts = 32813 ∷ replicate 37 0x8000 }
unfolding doublings_for probability_step step_table
interval_of_true_false = refl

-- five is a one and a zero behind the leading one of six
spelling_of_five : spelling (0 ∷ 4 ∷ []) 14 5 ≡ (0, false) ∷ (14, true) ∷ (4, false) ∷ (14, false) ∷ (4, true) ∷ []
unfolding spelling digits_of digits_within
spelling_of_five = refl

-- the blocks of few decisions
block_of_true : (let d : Decision = (0, true) in flush (d ∷ [])) ≡ 0xFE ∷ []
unfolding flushed_interval number_in_bytes doublings_for probability_step step_table
block_of_true = refl

block_of_false : (let d : Decision = (0, false) in flush (d ∷ [])) ≡ 0x7E ∷ []
unfolding flushed_interval number_in_bytes doublings_for probability_step step_table
block_of_false = refl

block_of_true_false : (let t : Decision = (0, true) in let f : Decision = (0, false) in flush (t ∷ f ∷ [])) ≡ 0xBB ∷ []
unfolding flushed_interval number_in_bytes doublings_for probability_step step_table
block_of_true_false = refl

-- a coefficient of 1
block_of_one : flush (signed_spelling (0 ∷ 4 ∷ 5 ∷ 6 ∷ 7 ∷ 8 ∷ []) 14 15 (pos 1)) ≡ 0x2E ∷ []
unfolding signed_spelling spelling digits_of digits_within flushed_interval number_in_bytes doublings_for probability_step step_table
block_of_one = refl

-- a decision, and behind it a number where it is true, else a refusal
maybe_number : Coded ℕ
maybe_number = decide 3 (λ b. if b then number (0 ∷ 4 ∷ []) 14 (λ n. done (n + 1)) else refuse cause.QuantIndex)

-- it is 1 behind a true decision and the number 0, which one more true decision spells
spells_one : DecisionsSpell maybe_number 1 ((3, true) ∷ (0, true) ∷ [])
unfolding maybe_number spelling digits_of digits_within
spells_one = (true, (0, true) ∷ [], tt, refl, (0, [], lit< tt, refl, (refl, refl)))

-- and breaks off behind a false one
breaks_off : Breaks maybe_number cause.QuantIndex ((3, false) ∷ [])
unfolding maybe_number
breaks_off = inr (false, [], tt, refl, (refl, refl))

-- a block of ones holds neither
ones_are_shut : read_coded maybe_number (begin (0xFF ∷ 0xFF ∷ [])) ≡ Err cause.CodeWord
unfolding maybe_number decision_read front first_bits
ones_are_shut = refl
