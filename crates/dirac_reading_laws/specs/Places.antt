-- Where faults lie: in the bytes, and in one of their units or right behind the last.
use Rattle.std.specs.Prelude.{◌≡◌, ℕ, suc, ◌<◌, ◌≤◌, List, [], ◌∷◌, length, take, Option, Some, Err}
use Rattle.dirac_common.specs.declared.faults.Fault.{Fault}
use Rattle.dirac_common.specs.declared.faults.Refusal.{Refusal}
use Rattle.dirac_common.specs.declared.picture.Picture.{Picture}
use Rattle.dirac_units.specs.declared.unit_place.UnitPlace.{UnitPlace}
use Rattle.dirac_units.specs.Cut.{UnitText, IsCut, after, first_unit_place}
use Rattle.dirac_sequence_header.specs.declared.sequence.Sequence.{Sequence}
use Rattle.dirac_sequence_header.specs.Grammar.{sequence_read}
use Rattle.dirac_picture.specs.Grammar.{picture_read}
use Rattle.dirac_content.specs.Shown.{IsShown, Outcome}

-- where the unit behind these would begin
unfoldable pub place_behind : UnitPlace → List UnitText → UnitPlace
place_behind unit_place [] = unit_place
place_behind unit_place (unit ∷ units) = place_behind (after unit_place unit.info) units

-- a fault lies in these bytes, at their end at the latest. It is of one of their units, and then at a byte of it or
-- right behind its last; or of what stands behind the last unit, and then not before it
pub record LiesIn (bytes : List ℕ) (fault : Fault) : Type 0 where
  pub at : fault.at ≤ length bytes
  pub units : List UnitText
  pub end : Option Fault
  pub cut : IsCut first_unit_place bytes units end
  pub unit : fault.unit ≤ length units
  pub begins : (place_behind first_unit_place (take fault.unit units)).at ≤ fault.at
  pub inside : fault.unit < length units → fault.at ≤ (place_behind first_unit_place (take (suc fault.unit) units)).at

-- the fault that ends what bytes show lies in them
abbrev pub FaultsLieInTheirBytes : Type 0
FaultsLieInTheirBytes =
    (bytes : List ℕ) (o : Outcome) (fault : Fault) → IsShown bytes o → o.end ≡ Some fault → LiesIn bytes fault

-- so does the fault that ends their cut
abbrev pub CutsFaultInTheirBytes : Type 0
CutsFaultInTheirBytes =
    (bytes : List ℕ) (units : List UnitText) (fault : Fault) → IsCut first_unit_place bytes units (Some fault)
    → LiesIn bytes fault

-- a sequence header is refused at a byte of its payload, or right behind the last
abbrev pub HeadersAreRefusedInside : Type 0
HeadersAreRefusedInside = (payload : List ℕ) (r : Refusal) → sequence_read payload ≡ Err r → r.at ≤ length payload

-- so is a picture
abbrev pub PicturesAreRefusedInside : Type 0
PicturesAreRefusedInside =
    (code : ℕ) (s : Sequence) (refs : List Picture) (payload : List ℕ) (r : Refusal)
    → picture_read code s refs payload ≡ Err r → r.at ≤ length payload
