-- What is answered where the raw pictures have ended.
use Rattle.std.proofs.Common.{◌≡◌, ◌≤◌, ◌∙◌, List, ℕ, Option, sym, subst, inl, inr}
use Rattle.std.specs.Prelude.{IfSome}
use Rattle.dirac_types.specs.declared.settings.Settings.{Settings}
use Rattle.dirac_types.specs.Settings.{IsAccepted}
use Rattle.dirac_plan.specs.Planning.{Planning}
use Rattle.dirac_plan_laws.specs.Plans.{PlansCanBeCoded}
use Rattle.dirac_encode_laws.specs.declared.answers.Encoded.{Encoded}
use Rattle.dirac_encode_laws.specs.declared.answers.Encoded.TheVariants as encoded
use Rattle.dirac_encode_laws.specs.Coding.{IndexRule}
use Rattle.dirac_encode_laws.specs.Encoding.{AnswersEncodedStream, EncodesToTheEnd, IsRecoveredUnder, answer_behind, encoding_under}
use Rattle.dirac_encode_laws.specs.Laws.{GivesIndices, StreamsShowTheirPictures}
use Rattle.dirac_encode_laws.specs.Steps.{Progress, StopsCoding}
use Rattle.dirac_encode_laws.specs.Stream.{StreamsAreCut}
use Rattle.dirac_encode_laws.specs.Tables.{TablesAreChosen}
use Rattle.dirac_encode_progress.proofs.Reading.{Ends, end_early, end_stops, ends_recovered, fault_stops_coding, many_ended, part_ended, stopped_before_the_end}
use Rattle.dirac_encode_progress.specs.Rest.{EndsRest}

-- behind whole pictures
pub part_answers : PlansCanBeCoded → (f : IndexRule) (t : Settings) (first : Option (List ℕ)) (p : Planning) (c : Progress) (k : ℕ) (behind answer : Encoded) (out0 out out' side0 side side' : Option (List ℕ)) → IsAccepted t → behind ≡ answer_behind k → Ends f t first p c (answer_behind k) out0 out side0 side
    → EndsRest f t p c behind answer out out' side side' → IfSome first (λ bytes. AnswersEncodedStream answer (encoding_under f t bytes) out0 out' side0 side')
part_answers plans f t first p c k behind answer out0 out out' side0 side side' accepted is ends (inl stops) =
    end_stops plans f t first p c (answer_behind k) answer out0 out out' side0 side side' accepted ends stops.1
part_answers plans f t first p c k behind answer out0 out out' side0 side side' accepted is ends (inr (r, inl early)) =
    end_early plans f t first p r.planner c r.coding (answer_behind k) answer out0 out r.out_then out' side0 side r.side_then side' accepted ends r.led r.given r.accepted early.0 early.1
part_answers plans f t first p c k behind answer out0 out out' side0 side side' accepted is ends (inr (r, inr ended)) =
    subst (λ (a : Encoded). IfSome first (λ bytes. AnswersEncodedStream a (encoding_under f t bytes) out0 out' side0 side')) (sym (ended.0 ∙ is))
    (part_ended plans f t first p r.planner c r.coding k out0 out r.out_then out' side0 side r.side_then side' accepted ends r.led r.given r.accepted ended.1)

-- where one picture more is read than the settings allow
pub many_answer : PlansCanBeCoded → (f : IndexRule) (t : Settings) (first : Option (List ℕ)) (p : Planning) (c : Progress) (answer : Encoded) (out0 out out' side0 side side' : Option (List ℕ)) → IsAccepted t → Ends f t first p c encoded.TooManyPictures out0 out side0 side
    → EndsRest f t p c encoded.TooManyPictures answer out out' side side' → IfSome first (λ bytes. AnswersEncodedStream answer (encoding_under f t bytes) out0 out' side0 side')
many_answer plans f t first p c answer out0 out out' side0 side side' accepted ends (inl stops) =
    end_stops plans f t first p c encoded.TooManyPictures answer out0 out out' side0 side side' accepted ends stops.1
many_answer plans f t first p c answer out0 out out' side0 side side' accepted ends (inr (r, inl early)) =
    end_early plans f t first p r.planner c r.coding encoded.TooManyPictures answer out0 out r.out_then out' side0 side r.side_then side' accepted ends r.led r.given r.accepted early.0 early.1
many_answer plans f t first p c answer out0 out out' side0 side side' accepted ends (inr (r, inr ended)) =
    subst (λ (a : Encoded). IfSome first (λ bytes. AnswersEncodedStream a (encoding_under f t bytes) out0 out' side0 side')) (sym ended.0)
    (many_ended plans f t first p r.planner c r.coding out0 out r.out_then out' side0 side r.side_then side' accepted ends r.led r.given r.accepted ended.1)

-- a whole stream is decoded to the pictures
pub rest_recovered : StreamsShowTheirPictures → StreamsAreCut → PlansCanBeCoded → TablesAreChosen → (f : IndexRule) → GivesIndices f → (t : Settings) (first : Option (List ℕ)) (p : Planning) (c : Progress) (last behind answer : Encoded) (out0 out out' side0 side side' : Option (List ℕ)) → IsAccepted t → p.accepted ≤ t.pictures
    → Ends f t first p c last out0 out side0 side → EndsRest f t p c behind answer out out' side side' → IfSome first (λ bytes. EncodesToTheEnd answer → IsRecoveredUnder f t bytes)
rest_recovered law cuts plans tables f gives t first p c last behind answer out0 out out' side0 side side' accepted few ends (inl stops) =
    stopped_before_the_end f t first answer stops.0
rest_recovered law cuts plans tables f gives t first p c last behind answer out0 out out' side0 side side' accepted few ends (inr (r, inl early)) =
    stopped_before_the_end f t first answer (fault_stops_coding answer early.0)
rest_recovered law cuts plans tables f gives t first p c last behind answer out0 out out' side0 side side' accepted few ends (inr (r, inr ended)) =
    ends_recovered law cuts plans tables f gives t first p r.planner c r.coding last answer out0 out r.out_then side0 side r.side_then accepted few ends r.led r.given r.accepted

-- an answer that stops no coding is the one behind all pictures
pub rest_behind : (f : IndexRule) (t : Settings) (p : Planning) (c : Progress) (behind answer x : Encoded) (out out' side side' : Option (List ℕ)) → (StopsCoding x → ⊥) → EndsRest f t p c behind answer out out' side side' → answer ≡ x → behind ≡ x
rest_behind f t p c behind answer x out out' side side' none (inl stops) is = absurd (none (subst StopsCoding is stops.0))
rest_behind f t p c behind answer x out out' side side' none (inr (r, inl early)) is = absurd (none (subst StopsCoding is (fault_stops_coding answer early.0)))
rest_behind f t p c behind answer x out out' side side' none (inr (r, inr ended)) is = sym ended.0 ∙ is
