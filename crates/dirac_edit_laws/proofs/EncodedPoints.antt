-- The points of the encoder's stream are its groups.
use Rattle.std.proofs.Common.{◌≡◌, ℕ, suc, ◌+◌, if◌then◌else◌, Bool, true, false, List, [], ◌∷◌, ◌++◌, length, refl, sym, ◌∙◌, ap, arith}
use Rattle.dirac_types.specs.declared.settings.Settings.{Settings}
use Rattle.dirac_common.specs.Codes.{is_intra}
use Rattle.dirac_units.specs.Cut.{UnitText}
use Rattle.dirac_plan.specs.Plan.{plan}
use Rattle.dirac_encode_laws.specs.Coding.{Made, coding}
use Rattle.dirac_encode_laws.specs.Stream.{end_text, header_text, picture_length, picture_text, units_from, units_in}
use Rattle.dirac_edit_laws.specs.Encoded.{EncodedStreamsHaveAPointAGroup, groups_in}
use Rattle.dirac_edit_laws.specs.Texts.{points_of}
use Rattle.dirac_edit_laws.proofs.EncodedMade.{made_points, points_behind}
use Rattle.dirac_edit_laws.proofs.Grouping.{planned_points}
use Rattle.dirac_edit_laws.proofs.PlannedParts.{part_points, plan_is}

-- a sequence header before a picture is no point
unit_points : (t : Settings) (m : Made) (previous : ℕ) (rest : List UnitText) (b : Bool)
    → points_of ((if b then header_text t previous ∷ [] else []) ++ picture_text t m previous ∷ rest) ≡ (if is_intra m.coded.code then suc (points_of rest) else points_of rest)
unfolding points_of header_text picture_text
unit_points t m previous rest true = refl
unit_points t m previous rest false = refl

one_more : (b : Bool) (points more : ℕ) → points + (if b then suc more else more) ≡ (if b then suc points else points) + more
one_more true points more = omega arith
one_more false points more = refl

none_more : (points : ℕ) → points + 0 ≡ points
none_more points = omega arith

made_count : (ms : List Made) (t : Settings) (previous points : ℕ) → points + points_of (units_from t previous ms) ≡ points_behind points ms
unfolding units_from end_text points_of
made_count [] t previous points = none_more points
made_count (m ∷ ms) t previous points =
    let rest = units_from t (picture_length m) ms in
    ap (λ n. points + n) (unit_points t m previous rest (is_intra m.coded.code)) ∙ one_more (is_intra m.coded.code) points (points_of rest)
    ∙ made_count ms t (picture_length m) (if is_intra m.coded.code then suc points else points)

from_none : (n : ℕ) → n ≡ 0 + n
from_none n = omega arith

units_count : (t : Settings) (ms : List Made) → points_of (units_in t ms) ≡ points_behind 0 ms
unfolding header_text end_text points_of
units_count t [] = refl
units_count t (m ∷ ms) = from_none (points_of (units_from t 0 (m ∷ ms))) ∙ made_count (m ∷ ms) t 0 0

pub points_are_groups : EncodedStreamsHaveAPointAGroup
points_are_groups t pictures =
    let n = length pictures in
    units_count t (coding t pictures) ∙ made_points t pictures [] (plan n t) 0 ∙ ap (planned_points 0) (plan_is t n)
    ∙ part_points t n (groups_in t n) 0 0 ∙ sym (from_none (groups_in t n))
