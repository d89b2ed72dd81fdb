-- The headers of planned pictures.
use Rattle.std.specs.Prelude.{◌≡◌, ℕ, ◌==◌, nat_le, true, false, Ok}
use Rattle.dirac_common.specs.declared.codes.TheConstants.{SEQUENCE_HEADER}
use Rattle.dirac_units.specs.declared.info.UnitKind.TheVariants as kind
use Rattle.dirac_common.specs.Codes.{is_intra, is_reference, references_of}
use Rattle.dirac_units.specs.Info.{fields_are_read, unit_kind}
use Rattle.dirac_header.specs.declared.header.PictureHeader.{PictureHeader}
use Rattle.dirac_header.specs.Written.{HasReferences, NumbersHave32Bits, MayRetire}
use Rattle.dirac_plan.specs.declared.planned.Planned.{Planned}

-- the header of a planned picture
abbrev pub header_of : Planned → PictureHeader
header_of p = record { number = p.number; ref1 = p.ref1; ref2 = p.ref2; retire = p.retire }

-- a unit of this code is a picture, and its payload is read
pub record IsPictureCode (code : ℕ) : Type 0 where
  pub read : fields_are_read code ≡ true
  pub other : (code == SEQUENCE_HEADER) ≡ false
  pub kind : unit_kind code ≡ Ok kind.Picture

-- a planned picture can be coded: its header can be written for its code, and an inter picture has a reference
pub record IsPlanned (p : Planned) : Type 0 where
  pub code : IsPictureCode p.code
  pub range : NumbersHave32Bits (header_of p)
  pub references : HasReferences p.code (header_of p)
  pub retires : MayRetire (is_reference p.code) p.number p.retire
  pub predicted : is_intra p.code ≡ false → nat_le 1 (references_of p.code) ≡ true
