-- What is chosen for the inter pictures of a stream costs least.
use Rattle.std.proofs.Common.{◌≡◌, ℕ, ◌≤◌, ◌^◌, Bool, true, false, if◌then◌else◌, min, List, [], ◌∷◌, length, map, Option, None, Some, arith, refl, ap, ◌∙◌}
use Rattle.std.specs.List.{AllByRecursion}
use Rattle.std.proofs.lemmas.Bool.{and_parts}
use Rattle.dirac_common.specs.declared.picture.Picture.{Picture}
use Rattle.dirac_types.specs.declared.settings.Settings.{Settings}
use Rattle.dirac_types.specs.Settings.{IsAccepted}
use Rattle.dirac_block_table.specs.Tables.{BlockTable}
use Rattle.dirac_picture.specs.Grammar.{are_listed, is_intra, is_listed}
use Rattle.dirac_picture.specs.declared.coded.CodedMotion.{CodedMotion}
use Rattle.dirac_content.specs.Content.{named}
use Rattle.dirac_plan.specs.Plan.{plan}
use Rattle.dirac_plan.specs.declared.planned.Planned.{Planned}
use Rattle.dirac_plan_laws.specs.Headers.{IsPlanned, header_of}
use Rattle.dirac_plan_laws.specs.Plans.{PlansCanBeCoded}
use Rattle.dirac_plan_laws.specs.References.{ReferencesAreFound}
use Rattle.dirac_motion.specs.Chosen.{at_index, blocks_among, blocks_from, chosen, searched_in}
use Rattle.dirac_motion.proofs.Indices.{chosen_same}
use Rattle.dirac_sources.specs.Sources.{sources, whole_pictures}
use Rattle.dirac_encode_laws.specs.Coded.{motion_with}
use Rattle.dirac_encode_laws.specs.Coding.{IndexRule, Job, Made, coded_under, coding_under, job_of, made_under, refs_after, shown_of}
use Rattle.dirac_encode_laws.proofs.Accepted.{most_pictures}
use Rattle.dirac_encode_laws.proofs.Lefts.{found_is}
use Rattle.dirac_encode_laws.proofs.Sources.{length-pictures_in}
use Rattle.dirac_encode_laws.proofs.Sourcing.{are_planned}
use Rattle.dirac_search_laws.proofs.Fields.{fields_cost_least}
use Rattle.dirac_decide_laws.proofs.Tables.{tables_least}
use Rattle.dirac_choice_laws.specs.Pictures.{AreLeastInters, CostsLeast, InterPicturesCostLeast, IsLeastInter, decided_among}

-- the first reference of an inter picture is listed
first_found : (refs : List Picture) (q : Planned) → IsPlanned q → are_listed refs (header_of q) ≡ true → is_intra q.code ≡ false → named refs q.ref1 ≡ None → ⊥
first_found refs q is found inter =
    found_is refs q.ref1 (is.references.first ∙ is.predicted inter) (and_parts (is_listed refs q.ref1) (is_listed refs q.ref2) found).0

-- the table that is chosen with these references costs least
from_least : (t : Settings) (p first : Picture) (second : Option Picture) → CostsLeast t p first second (blocks_from t p first second)
from_least t p first second = record {
  decided = tables_least (decided_among t p first second);
  first_field = fields_cost_least (searched_in t p first) t;
  second_field = λ r e. fields_cost_least (searched_in t p r) t;
}

-- an inter picture's table costs least with the first reference as it is found
among_least : (t : Settings) (refs : List Picture) (j : Job) (m : Made) (o : Option Picture) → named refs j.planned.ref1 ≡ o → (named refs j.planned.ref1 ≡ None → ⊥)
    → m.coded.motion ≡ Some (motion_with t (blocks_among t j.source o (named refs j.planned.ref2))) → IsLeastInter t refs j m
among_least t refs j m None e some is = absurd (some e)
among_least t refs j m (Some first) e some is = record {
  first = first;
  is_named = e;
  table = blocks_from t j.source first (named refs j.planned.ref2);
  is_coded = is;
  least = from_least t j.source first (named refs j.planned.ref2);
}

-- the motion of an inter picture
motion_is : (t : Settings) (refs : List Picture) (q : Planned) (p : Picture) (index : ℕ) (b : Bool) → b ≡ false
    → (if b then None else Some (motion_with t (chosen (at_index t index) refs q p))) ≡ Some (motion_with t (blocks_among t p (named refs q.ref1) (named refs q.ref2)))
unfolding chosen
motion_is t refs q p index true e = absurd cc
motion_is t refs q p index false e = ap (λ (b : BlockTable). some_motion b) (chosen_same t index refs q p) where
  some_motion : BlockTable → Option CodedMotion
  some_motion b = Some (motion_with t b)

inter_least : (f : IndexRule) (t : Settings) (refs : List Picture) (j : Job) → IsPlanned j.planned → are_listed refs (header_of j.planned) ≡ true → is_intra j.planned.code ≡ false
    → IsLeastInter t refs j (made_under f t refs j)
inter_least f t refs j planned found inter =
    among_least t refs j (made_under f t refs j) (named refs j.planned.ref1) refl (first_found refs j.planned planned found inter)
    (motion_is t refs j.planned j.source (f t refs j) (is_intra j.planned.code) inter)

-- the tables of inter pictures that are coded one after another cost least
all_least : (f : IndexRule) (t : Settings) (pictures refs : List Picture) (qs : List Planned) → AllByRecursion IsPlanned qs → ReferencesAreFound refs qs (map shown_of (coded_under f t refs (map (job_of pictures) qs)))
    → AreLeastInters f t refs (map (job_of pictures) qs)
unfolding coded_under
all_least f t pictures refs [] codes found = tt
all_least f t pictures refs (q ∷ qs) codes found =
    let j = job_of pictures q in
    (inter_least f t refs j codes.0 found.0, all_least f t pictures (refs_after refs (made_under f t refs j)) qs codes.1 found.1)

pub few : (t : Settings) (bytes : List ℕ) → IsAccepted t → length (sources t bytes) ≤ 2 ^ 31
few t bytes accepted = omega (arith, length-pictures_in t (min (whole_pictures t bytes) t.pictures) 0 bytes, most_pictures t accepted)

pub inters_least : PlansCanBeCoded → InterPicturesCostLeast
inters_least plans f t bytes accepted =
    let pictures = sources t bytes in
    let is_plan = plans t (length pictures) accepted (few t bytes accepted) in
    all_least f t pictures [] (plan (length pictures) t) is_plan.each
    (is_plan.found (map shown_of (coding_under f t pictures)) (are_planned f t pictures [] (plan (length pictures) t)))
