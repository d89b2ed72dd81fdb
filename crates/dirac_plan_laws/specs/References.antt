-- The references of planned pictures, and the list of reference pictures that coded ones leave behind.
use Rattle.std.specs.Prelude.{◌≡◌, ℕ, ◌≤◌, true, List, [], ◌∷◌, ◌++◌, map, length, Option, ⊤}
use Rattle.dirac_common.specs.declared.picture.Picture.{Picture}
use Rattle.dirac_types.specs.declared.settings.Settings.{Settings}
use Rattle.dirac_types.specs.Settings.{IsAccepted}
use Rattle.dirac_refs.specs.References.{Commit, as_reference, committed, refs_of}
use Rattle.dirac_picture.specs.Grammar.{are_listed}
use Rattle.dirac_plan.specs.declared.planned.Planned.{Planned}
pub use Rattle.dirac_plan.specs.Frames.{planned_number}
use Rattle.dirac_plan.specs.Plan.{plan}
use Rattle.dirac_plan.specs.Waiting.{number_of}
use Rattle.dirac_plan_laws.specs.Headers.{header_of}

-- these pictures have the numbers of the planned ones, one for one: they are what the planned ones become
abbrev pub ArePlanned : List Planned → List Picture → Type 0
ArePlanned planned pictures = map number_of pictures ≡ map planned_number planned

-- what a planned picture becomes, if others may refer to it
abbrev pub reference_of : Planned → Picture → Option Picture
reference_of p coded = as_reference p.code coded

-- the list of references once a planned picture is coded as this one
abbrev pub list_with : List Picture → Planned → Picture → List Picture
list_with list p coded = committed list p.retire (reference_of p coded)

-- all that a planned picture refers to is listed
abbrev pub AreListed : List Picture → Planned → Type 0
AreListed list p = are_listed list (header_of p) ≡ true

-- each planned picture finds what it refers to in the list, where the planned ones before it become these pictures
abbrev pub ReferencesAreFound : List Picture → List Planned → List Picture → Type 0
ReferencesAreFound list [] pictures = ⊤
ReferencesAreFound list (p ∷ planned) [] = ⊤
ReferencesAreFound list (p ∷ planned) (coded ∷ pictures) =
    AreListed list p × ReferencesAreFound (list_with list p coded) planned pictures

-- each planned picture finds what it refers to in the list, whatever pictures of their numbers the planned ones before
-- it become
abbrev pub AreServed : List Picture → List Planned → Type 0
AreServed list [] = ⊤
AreServed list (p ∷ planned) =
    AreListed list p × ((coded : Picture) → coded.number ≡ p.number → AreServed (list_with list p coded) planned)

-- in every plan each planned picture finds what it refers to, from an empty list on
abbrev pub ReferencesAreListed : Type 0
ReferencesAreListed = (s : Settings) (n : ℕ) → AreServed [] (plan n s)

-- what planned pictures do to the list of references, where they become these pictures
abbrev pub commits : List Planned → List Picture → List Commit
commits [] pictures = []
commits (p ∷ planned) [] = []
commits (p ∷ planned) (coded ∷ pictures) =
    record { retired = p.retire; reference = reference_of p coded } ∷ commits planned pictures

-- what a planned picture refers to is in the list of the pictures coded before it
abbrev pub ReferencesAreKept : Type 0
ReferencesAreKept =
    (s : Settings) (n : ℕ) (before after : List Planned) (p : Planned) (pictures : List Picture)
    → plan n s ≡ before ++ p ∷ after → ArePlanned before pictures → AreListed (refs_of (commits before pictures)) p

-- of frames of a stream that is to be shown alike no more than three are listed at any time
abbrev pub ThreeAreListed : Type 0
ThreeAreListed =
    (s : Settings) (n : ℕ) (before after : List Planned) (pictures : List Picture)
    → IsAccepted s → s.alike ≡ 1 → s.fields ≡ 0 → plan n s ≡ before ++ after → ArePlanned before pictures
    → length (refs_of (commits before pictures)) ≤ 3

-- of fields of a stream that is to be shown alike no more than six are listed at any time
abbrev pub SixAreListed : Type 0
SixAreListed =
    (s : Settings) (n : ℕ) (before after : List Planned) (pictures : List Picture)
    → IsAccepted s → s.alike ≡ 1 → s.fields ≡ 1 → plan n s ≡ before ++ after → ArePlanned before pictures
    → length (refs_of (commits before pictures)) ≤ 6
