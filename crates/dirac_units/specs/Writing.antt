-- Units, written.
use Rattle.std.specs.Prelude.{◌≡◌, ℕ, ◌+◌, ◌<◌, ◌^◌, List, ◌∷◌, ◌++◌, length, Ok}
use Rattle.std.specs.Int.{to_be_bytes, w32}
use Rattle.dirac_common.specs.declared.codes.TheConstants.{END_OF_SEQUENCE}
use Rattle.dirac_units.specs.declared.info.ParseInfo.{ParseInfo}
use Rattle.dirac_units.specs.Info.{IsLawful, info_read, prefix}

-- the 13 bytes of a parse info: the prefix, the code and the two offsets
abbrev pub info_bytes : ParseInfo → List ℕ
info_bytes info = prefix ++ (info.code ∷ (to_be_bytes w32 info.next ++ to_be_bytes w32 info.previous))

-- a unit's parse info: its next offset is the unit's length
abbrev pub info_for : ℕ → ℕ → List ℕ → ParseInfo
info_for code previous payload = record { code = code; next = 13 + length payload; previous = previous }

-- a unit
abbrev pub unit : ℕ → ℕ → List ℕ → List ℕ
unit code previous payload = info_bytes (info_for code previous payload) ++ payload

-- the end unit, with next offset 0
abbrev pub end_info : ℕ → ParseInfo
end_info previous = record { code = END_OF_SEQUENCE; next = 0; previous = previous }

-- its bytes
abbrev pub end_unit : ℕ → List ℕ
end_unit previous = info_bytes (end_info previous)

-- what is written is read again, where it isn't refused
abbrev pub IsReadAsWritten : Type 0
IsReadAsWritten =
    (info : ParseInfo) → info.next < 2 ^ 32 → info.previous < 2 ^ 32 → IsLawful info → info_read (info_bytes info)
    ≡ Ok info
