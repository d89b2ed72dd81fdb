-- Examples of cuts and joins, whatever the payloads; then of a stream of two pictures, byte for byte.
use Rattle.std.specs.Prelude.{◌≡◌, ℕ, ◌+◌, List, [], ◌∷◌, ◌++◌, length}
use Rattle.dirac_units.specs.Cut.{UnitText}
use Rattle.dirac_encode_laws.specs.Stream.{end_unit, unit}
use Rattle.dirac_edit_laws.specs.Texts.{points_of}
use Rattle.dirac_edit_laws.specs.Units.{end_for, text_for}
use Rattle.dirac_edit_laws.specs.Cut.{cut_bytes}
use Rattle.dirac_edit_laws.specs.Joined.{joined_bytes}

-- a unit of this code and payload
abbrev pub text : ℕ → List ℕ → UnitText
text code payload = text_for code 0 payload

-- a header, an intra picture and one that refers to it, the header again, another intra picture, and an end unit
abbrev pub two_points : List ℕ → List ℕ → List ℕ → List ℕ → List UnitText
two_points h p q r = text 0x00 h ∷ text 0x0C p ∷ text 0x09 q ∷ text 0x00 h ∷ text 0x0C r ∷ end_for 0 ∷ []

abbrev pub TwoPointsStand : Type 0
TwoPointsStand = (h p q r : List ℕ) → points_of (two_points h p q r) ≡ 2

abbrev pub TheFirstPointIsCut : Type 0
TheFirstPointIsCut =
    (h p q r : List ℕ)
    → cut_bytes (two_points h p q r) 0 1
    ≡ (unit 0x00 0 h ++ (unit 0x0C (13 + length h) p ++ (unit 0x09 (13 + length p) q
    ++ end_unit (13 + length q)))) ++ []

abbrev pub TheLastPointIsCut : Type 0
TheLastPointIsCut =
    (h p q r : List ℕ)
    → cut_bytes (two_points h p q r) 1 2
    ≡ (unit 0x00 0 h ++ (unit 0x0C (13 + length h) r ++ end_unit (13 + length r))) ++ []

-- an end unit alone, and sequences without pictures
abbrev pub AnEndIsJoined : Type 0
AnEndIsJoined = joined_bytes (end_for 0 ∷ []) ≡ end_unit 0

abbrev pub AHeaderIsJoined : Type 0
AHeaderIsJoined =
    (h : List ℕ)
    → joined_bytes (text 0x00 h ∷ end_for 0 ∷ text 0x00 h ∷ end_for 0 ∷ []) ≡ unit 0x00 0 h ++ end_unit (13 + length h)

-- a header, an intra picture of this number and an end unit
abbrev pub one_picture : ℕ → List ℕ → List UnitText
one_picture number p = text 0x00 (7 ∷ []) ∷ text 0x0C (0 ∷ 0 ∷ 0 ∷ number ∷ p) ∷ end_for 0 ∷ []

-- two sequences of the same header, each of one picture of number 0: the second picture gets number 1
abbrev pub TheSecondIsRenumbered : Type 0
TheSecondIsRenumbered =
    (p q : List ℕ)
    → joined_bytes (one_picture 0 p ++ one_picture 0 q)
    ≡ (unit 0x00 0 (7 ∷ []) ++ (unit 0x0C 14 (0 ∷ 0 ∷ 0 ∷ 0 ∷ p)
    ++ (unit 0x0C (13 + length (0 ∷ 0 ∷ 0 ∷ 0 ∷ p)) (0 ∷ 0 ∷ 0 ∷ 1 ∷ q)
    ++ end_unit (13 + length (0 ∷ 0 ∷ 0 ∷ 1 ∷ q))))) ++ []

-- the payloads of two grey pictures of 8 by 8 samples
abbrev pub header_payload : List ℕ
header_payload = 0x6F ∷ 0xC1 ∷ 0x83 ∷ 0x08 ∷ 0x30 ∷ 0x79 ∷ []

abbrev pub intra : ℕ → List ℕ
intra number =
    0 ∷ 0 ∷ 0 ∷ number ∷ 0x80 ∷ 0x90 ∷ 0x80 ∷ 0x80 ∷ 0x80 ∷ 0x80 ∷ 0x80 ∷ 0x80 ∷ 0x80 ∷ 0x80 ∷ 0x80 ∷ 0x80 ∷ 0x80
    ∷ 0x80 ∷ []

abbrev pub inter : ℕ → List ℕ
inter number =
    0 ∷ 0 ∷ 0 ∷ number ∷ 0x38 ∷ 0x6D ∷ 0x00 ∷ 0x20 ∷ 0xFE ∷ 0x20 ∷ 0xFE ∷ 0x20 ∷ 0xFE ∷ 0x20 ∷ 0xFE ∷ 0x80 ∷ 0x80
    ∷ 0x80 ∷ 0x80 ∷ []

-- an intra picture and one that refers to it
abbrev pub grey_stream : List UnitText
grey_stream = text 0x00 header_payload ∷ text 0x0C (intra 0) ∷ text 0x0D (inter 1) ∷ end_for 0 ∷ []

-- the front of each unit, its code, length and the length before it
abbrev pub front_as_bytes : ℕ → ℕ → ℕ → List ℕ
front_as_bytes code next previous = 0x42 ∷ 0x42 ∷ 0x43 ∷ 0x44 ∷ code ∷ 0 ∷ 0 ∷ 0 ∷ next ∷ 0 ∷ 0 ∷ 0 ∷ previous ∷ []

-- the first 82 bytes of that stream
abbrev pub grey_pictures : List ℕ
grey_pictures =
    front_as_bytes 0x00 19 0 ++ header_payload ++ front_as_bytes 0x0C 31 19 ++ intra 0 ++ front_as_bytes 0x0D 32 31
    ++ inter 1

-- cut from its only point on it is itself; joined with itself, its second half has numbers 2 and 3
abbrev pub GreyIsCut : Type 0
GreyIsCut = cut_bytes grey_stream 0 1 ≡ grey_pictures ++ front_as_bytes 0x10 0 32

abbrev pub GreyIsJoined : Type 0
GreyIsJoined =
    joined_bytes (grey_stream ++ grey_stream)
    ≡ grey_pictures ++ front_as_bytes 0x0C 31 32 ++ intra 2 ++ front_as_bytes 0x0D 32 31 ++ inter 3
    ++ front_as_bytes 0x10 0 32
