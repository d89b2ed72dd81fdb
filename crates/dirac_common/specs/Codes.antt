-- What the parse code of a picture says: parse info, Dirac specification, section 9.6.
use Rattle.std.specs.Prelude.{ℕ, ◌==◌, ◌||◌, if◌then◌else◌, Bool}
use Rattle.dirac_common.specs.declared.codes.TheConstants.{INTER_NON_REFERENCE_1, INTER_NON_REFERENCE_2}
use Rattle.dirac_common.specs.declared.codes.TheConstants.{INTER_REFERENCE_1, INTER_REFERENCE_2}
use Rattle.dirac_common.specs.declared.codes.TheConstants.{INTRA_NON_REFERENCE, INTRA_REFERENCE}

-- it is intra coded
abbrev pub is_intra : ℕ → Bool
is_intra code = code == INTRA_NON_REFERENCE || code == INTRA_REFERENCE

-- others may be predicted from it
abbrev pub is_reference : ℕ → Bool
is_reference code = code == INTRA_REFERENCE || code == INTER_REFERENCE_1 || code == INTER_REFERENCE_2

-- how many pictures it is predicted from
abbrev pub references_of : ℕ → ℕ
references_of code =
    if code == INTER_REFERENCE_1 || code == INTER_NON_REFERENCE_1 then 1
    else if code == INTER_REFERENCE_2 || code == INTER_NON_REFERENCE_2 then 2
    else 0
