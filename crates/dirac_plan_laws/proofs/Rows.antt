-- Worked values of the definitions.
use Rattle.std.proofs.Common.{◌≡◌, ℕ, [], ◌∷◌, map, refl}
use Rattle.dirac_common.specs.declared.picture.Picture.{Picture}
use Rattle.dirac_common.specs.Table.{Table}
use Rattle.dirac_types.specs.declared.settings.Settings.{Settings}
use Rattle.dirac_types.specs.Settings.{of_base}
use Rattle.dirac_refs.specs.Delivery.{deliver, in_delivery_order, least_among}
use Rattle.dirac_refs.specs.References.{refs_of}
use Rattle.dirac_plan.specs.Plan.{frames_plan, plan, retired_of_former}
use Rattle.dirac_plan.specs.Waiting.{number_of}
use Rattle.dirac_plan_laws.specs.Lasting.{step_place}
use Rattle.dirac_plan_laws.specs.Order.{as_waiting, by_number}
use Rattle.dirac_plan_laws.specs.References.{commits}

settings : ℕ → ℕ → ℕ → Settings
settings gop between references = record (of_base 0) { gop = gop; between = between; references = references }

picture : Table → ℕ → Picture
picture plane number = record { number = number; y = plane; u = plane; v = plane }

-- the list behind a group of 14 with anchors 0, 4, 8, 12, 13, of which 4 and 8 are retired
kept : (plane : Table) → map number_of (refs_of (commits (plan 14 (settings 14 3 2)) (map (λ p. picture plane p.number) (plan 14 (settings 14 3 2))))) ≡ 0 ∷ 12 ∷ 13 ∷ []
unfolding plan frames_plan retired_of_former settings picture
kept plane = refl

-- six pictures in coding order leave by rising number, the first two of them before the end
by_rising_number : (plane : Table) → map number_of (in_delivery_order (map as_waiting (map (picture plane) (0 ∷ 4 ∷ 1 ∷ 2 ∷ 3 ∷ 5 ∷ [])))) ≡ 0 ∷ 1 ∷ 2 ∷ 3 ∷ 4 ∷ 5 ∷ []
unfolding picture least_among
by_rising_number plane = refl

before_the_end : (plane : Table) → map number_of (deliver (map as_waiting (map (picture plane) (0 ∷ 4 ∷ 1 ∷ 2 ∷ 3 ∷ 5 ∷ [])))) ≡ 0 ∷ 1 ∷ []
unfolding picture least_among
before_the_end plane = refl

numbered : (plane : Table) → map number_of (by_number 3 (map (picture plane) (0 ∷ 2 ∷ 1 ∷ []))) ≡ 0 ∷ 1 ∷ 2 ∷ []
unfolding picture
numbered plane = refl

-- places 5 to 8 are one step, place 14 opens the second group
steps : map (step_place (settings 14 3 2)) (5 ∷ 6 ∷ 7 ∷ 8 ∷ 14 ∷ []) ≡ 5 ∷ 5 ∷ 5 ∷ 5 ∷ 14 ∷ []
unfolding settings
steps = refl

-- with fields, places 10 to 17 are one step, place 29 is the second field of the second group's first frame
field_steps : map (step_place (record (settings 14 3 2) { fields = 1 })) (0 ∷ 1 ∷ 10 ∷ 13 ∷ 17 ∷ 18 ∷ 29 ∷ []) ≡ 0 ∷ 1 ∷ 10 ∷ 10 ∷ 10 ∷ 18 ∷ 29 ∷ []
unfolding settings
field_steps = refl

-- the list behind the fields of a group of 14 frames, the last of one field
kept_fields : (plane : Table) → map number_of (refs_of (commits (plan 27 (record (settings 14 3 2) { fields = 1 })) (map (λ p. picture plane p.number) (plan 27 (record (settings 14 3 2) { fields = 1 }))))) ≡ 0 ∷ 1 ∷ 17 ∷ 24 ∷ 25 ∷ 26 ∷ []
unfolding plan frames_plan retired_of_former settings picture
kept_fields plane = refl

-- where streams are to be shown alike, the second group of 14 has retired what the first one left
alike_settings : ℕ → Settings
alike_settings n = record (settings 14 3 2) { fields = n; alike = 1 }

kept_alike : (plane : Table) → map number_of (refs_of (commits (plan 24 (alike_settings 0)) (map (λ p. picture plane p.number) (plan 24 (alike_settings 0))))) ≡ 14 ∷ 22 ∷ 23 ∷ []
unfolding plan frames_plan retired_of_former settings picture alike_settings
kept_alike plane = refl

kept_alike_fields : (plane : Table) → map number_of (refs_of (commits (plan 30 (alike_settings 1)) (map (λ p. picture plane p.number) (plan 30 (alike_settings 1))))) ≡ 24 ∷ 25 ∷ 26 ∷ 27 ∷ 28 ∷ 29 ∷ []
unfolding plan frames_plan retired_of_former settings picture alike_settings
kept_alike_fields plane = refl
