-- A source cut into parts of whole groups, each encoded apart; the streams, one behind the other, and joined.
use Rattle.std.specs.Prelude.{◌≡◌, ℕ, ◌*◌, ◌<◌, ◌^◌, List, [], ◌∷◌, ◌++◌, length, map}
use Rattle.std.specs.List.{AllByRecursion, flat_map}
use Rattle.dirac_common.specs.declared.picture.Picture.{Picture}
use Rattle.dirac_types.specs.declared.settings.Settings.{Settings}
use Rattle.dirac_types.specs.Settings.{IsAccepted}
use Rattle.dirac_units.specs.Cut.{UnitText}
use Rattle.dirac_plan.specs.Planning.{group_pictures}
use Rattle.dirac_encode_laws.specs.Coding.{reconstructions}
use Rattle.dirac_encode_laws.specs.Laws.{AreNumbered, AreSources}
use Rattle.dirac_encode_laws.specs.Stream.{stream_of, stream_units}
use Rattle.dirac_edit_laws.specs.Cut.{cut_bytes}
use Rattle.dirac_edit_laws.specs.Joined.{joined_bytes}
use Rattle.dirac_edit_laws.specs.Laws.{IsFaultless, ShowsJust}
use Rattle.dirac_edit_laws.specs.Texts.{points_of}
use Rattle.dirac_parts_laws.specs.Behind.{picture_behind}

-- the source that is cut into these parts, each of which is numbered from 0 on
abbrev pub whole_of : List (List Picture) → List Picture
whole_of [] = []
whole_of (p ∷ parts) = p ++ map (picture_behind (length p)) (whole_of parts)

-- a part's sources, numbered from 0 on, one at least
pub record IsPart (t : Settings) (p : List Picture) : Type 0 where
  pub sources : AreSources t p
  pub numbered : AreNumbered 0 p
  pub some : 0 < length p

-- parts of whole groups, of which the last may be shorter
abbrev pub AreParts : Settings → List (List Picture) → Type 0
AreParts t [] = Unit {0}
AreParts t (p ∷ []) = Unit {0}
AreParts t (p ∷ q ∷ parts) = ((m : ℕ) × (length p ≡ m * group_pictures t)) × AreParts t (q ∷ parts)

-- the units of the parts' streams, one stream behind the other
abbrev pub units_of_parts : Settings → List (List Picture) → List UnitText
units_of_parts t parts = flat_map (stream_units t) parts

-- the parts' streams, joined, are the cut of the whole source's stream from point 0 to its end, with alike 0
abbrev pub PartsJoinToTheWhole : Type 0
PartsJoinToTheWhole =
    (t : Settings) (parts : List (List Picture)) → IsAccepted t → t.alike ≡ 0 → 0 < length parts
    → AllByRecursion (IsPart t) parts → AreParts t parts → length (whole_of parts) < 2 ^ 31
    → joined_bytes (units_of_parts t parts)
    ≡ cut_bytes (stream_units t (whole_of parts)) 0 (points_of (stream_units t (whole_of parts)))

-- with alike 0, the parts' streams, one behind the other, are a stream without a fault, of just these units; joined
-- they have no fault and show the whole source's reconstructions
abbrev pub JoinedPartsShowTheWhole : Type 0
JoinedPartsShowTheWhole =
    (t : Settings) (parts : List (List Picture)) → IsAccepted t → t.alike ≡ 0 → 0 < length parts
    → AllByRecursion (IsPart t) parts → AreParts t parts → length (whole_of parts) < 2 ^ 31
    → IsFaultless (flat_map (stream_of t) parts) (units_of_parts t parts)
    × ShowsJust (joined_bytes (units_of_parts t parts)) (reconstructions t (whole_of parts))
