-- Parse info, the header of each unit: parse info, Dirac specification, section 9.6.
use Rattle.std.specs.Prelude.{◌≡◌, ℕ, ◌+◌, ◌==◌, nat_eq, nat_le, Bool, ◌&&◌, ◌||◌, if◌then◌else◌, List, [], ◌∷◌}
use Rattle.std.specs.Prelude.{slice_index, max, Option, None, Some, Result, Ok, Err}
use Rattle.std.specs.List.{starts_with}
use Rattle.std.specs.Int.{from_be_bytes, w32}
use Rattle.dirac_common.specs.declared.faults.Cause.{Cause}
use Rattle.dirac_common.specs.declared.faults.Cause.TheVariants as cause
use Rattle.dirac_common.specs.declared.faults.Refusal.{Refusal}
use Rattle.dirac_common.specs.declared.codes.TheConstants.{AUXILIARY_DATA, END_OF_SEQUENCE, PADDING, SEQUENCE_HEADER}
use Rattle.dirac_common.specs.declared.codes.TheConstants.{INTER_NON_REFERENCE_1, INTER_NON_REFERENCE_2}
use Rattle.dirac_common.specs.declared.codes.TheConstants.{INTER_REFERENCE_1, INTER_REFERENCE_2}
use Rattle.dirac_common.specs.declared.codes.TheConstants.{INTRA_NON_REFERENCE, INTRA_REFERENCE}
use Rattle.dirac_units.specs.declared.info.ParseInfo.{ParseInfo}
use Rattle.dirac_units.specs.declared.info.UnitKind.{UnitKind}
use Rattle.dirac_units.specs.declared.info.UnitKind.TheVariants as kind

-- the codes of auxiliary data
abbrev pub is_auxiliary : ℕ → Bool
is_auxiliary code = nat_le AUXILIARY_DATA code && nat_le code 0x27

-- the codes of pictures with arithmetic coding: intra, inter with one reference, inter with two
abbrev pub is_picture : ℕ → Bool
is_picture code =
    (code == INTRA_NON_REFERENCE || code == INTRA_REFERENCE)
    || (code == INTER_NON_REFERENCE_1 || code == INTER_REFERENCE_1)
    || (code == INTER_NON_REFERENCE_2 || code == INTER_REFERENCE_2)

-- the kind of a unit, or why its code is refused
abbrev pub unit_kind : ℕ → Result UnitKind Cause
unit_kind code =
    if code == SEQUENCE_HEADER then Ok kind.Sequence
    else if code == END_OF_SEQUENCE then Ok kind.End
    else if code == PADDING then Ok kind.Padding
    else if is_auxiliary code then Ok kind.Auxiliary
    else if is_picture code then Ok kind.Picture
    else if code == 0x48 || code == 0x4C then Err cause.Vlc
    else if code == 0xC8 || code == 0xCC then Err cause.LowDelay
    else Err cause.UnknownCode

-- the units whose payload is read
abbrev pub fields_are_read : ℕ → Bool
fields_are_read code = code == SEQUENCE_HEADER || is_picture code

-- the next offsets that a unit may have: an end unit is its header alone, others hold theirs
abbrev pub offset_is_lawful : UnitKind → ℕ → Bool
offset_is_lawful kind.End next = next == 0 || next == 13
offset_is_lawful _ next = nat_le 13 next

-- the refusal of a code, else that of an offset
abbrev pub refused_by : Result UnitKind Cause → ℕ → Option Refusal
refused_by (Err cause) next = Some (record { at = 4; cause = cause })
refused_by (Ok kind) next =
    if offset_is_lawful kind next then None else Some (record { at = 5; cause = cause.OffsetMissing })

-- why a parse info is refused, its prefix aside
abbrev pub refusal_of : ParseInfo → Option Refusal
refusal_of info = refused_by (unit_kind info.code) info.next

-- a parse info that isn't refused
abbrev pub IsLawful : ParseInfo → Type 0
IsLawful info = refusal_of info ≡ None

-- `BBCD`
abbrev pub prefix : List ℕ
prefix = 0x42 ∷ 0x42 ∷ 0x43 ∷ 0x44 ∷ []

-- a number of four bytes, the most significant first
abbrev pub number_at : List ℕ → ℕ → ℕ
number_at bytes i =
    from_be_bytes w32 (slice_index bytes i ∷ slice_index bytes (i + 1) ∷ slice_index bytes (i + 2)
    ∷ slice_index bytes (i + 3) ∷ [])

-- the fields behind the prefix
abbrev pub info_of : List ℕ → ParseInfo
info_of bytes = record { code = slice_index bytes 4; next = number_at bytes 5; previous = number_at bytes 9 }

-- a parse info, or its refusal
abbrev pub unless_refused : ParseInfo → Option Refusal → Result ParseInfo Refusal
unless_refused info None = Ok info
unless_refused info (Some refusal) = Err refusal

-- what 13 bytes say: the prefix is looked at first, then the code, then the next offset
abbrev pub info_read : List ℕ → Result ParseInfo Refusal
info_read bytes =
    if starts_with nat_eq bytes prefix then unless_refused (info_of bytes) (refusal_of (info_of bytes))
    else Err (record { at = 0; cause = cause.BadPrefix })

-- how many bytes a unit takes: up to its next offset; an end unit, whose offset may be 0, is its header alone
abbrev pub span_of : ParseInfo → ℕ
span_of info = max 13 info.next
