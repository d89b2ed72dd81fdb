-- One planned picture more, or none.
use Rattle.std.proofs.Common.{◌≡◌, ℕ, Bool, List, [], ◌∷◌, ◌++◌, length, sym, ap, ap₂, ◌∙◌, subst, arith, Option, Some, inl, inr}
use Rattle.std.specs.Prelude.{slice_get}
use Rattle.std.specs.List.{AllByRecursion}
use Rattle.std.proofs.lemmas.Bool.{cases_Bool}
use Rattle.dirac_common.specs.declared.picture.Picture.{Picture}
use Rattle.dirac_types.specs.declared.settings.Settings.{Settings}
use Rattle.dirac_sources.specs.Sources.{sources}
use Rattle.dirac_plan.specs.declared.planned.Planned.{Planned}
use Rattle.dirac_encode_laws.specs.declared.answers.Encoded.{Encoded}
use Rattle.dirac_encode_laws.specs.declared.answers.Encoded.TheVariants as encoded
use Rattle.dirac_encode_laws.specs.Coding.{IndexRule, made_under}
use Rattle.dirac_encode_laws.specs.Standing.{AreAmong, jobs_in}
use Rattle.dirac_encode_laws.specs.Steps.{IsCoded, Progress}
use Rattle.dirac_encode_laws.proofs.Streams.{breaks_off, job_is, stands_more, too_long}
use Rattle.dirac_encode_laws.specs.Steps.{StopsPicture}
use Rattle.dirac_plan.specs.Planning.{Planning, Takes, with_end}
use Rattle.dirac_plan.specs.Plan.{plan}
use Rattle.dirac_encode_progress.specs.Going.{CodingGoesOn, LeadsOn, Stops}

-- a picture among those that wait, and the others
pub taken : {X : Type 0} (P : X → Type 0) (before after : List X) (x : X) → AllByRecursion P (before ++ x ∷ after) → P x × AllByRecursion P (before ++ after)
taken P [] after x all = (all.0, all.1)
taken P (y ∷ before) after x all = let rest = taken P before after x all.1 in (rest.0, (all.0, rest.1))

-- the given picture is the next of the whole plan
next_is : (f : IndexRule) (t : Settings) (bytes : List ℕ) (ended : Bool) (p p' : Planning) (c : Progress) (q : Planned) (s : Picture) (out0 out side0 side : Option (List ℕ)) → p.settings ≡ t → Takes ended p p' q s → CodingGoesOn f t bytes ended p c out0 out side0 side
    → slice_get (plan (length (sources t bytes)) t) c.count ≡ Some q
next_is f t bytes ended p p' c q s out0 out side0 side same takes g = elim (cases_Bool ended) [
  | inl is ↦
      ap₂ (λ (x : Settings) (n : ℕ). slice_get (plan n x) c.count) (sym same) (sym (g.all is)) ∙ ap (slice_get (plan p.accepted p.settings)) (sym g.given) ∙ takes.next
  | inr not ↦
      ap (λ (x : Settings). slice_get (plan (length (sources t bytes)) x) c.count) (sym same) ∙ ap (slice_get (plan (length (sources t bytes)) p.settings)) (sym g.given) ∙ takes.lasting not (length (sources t bytes)) g.within
]

there : (f : IndexRule) (t : Settings) (bytes : List ℕ) (ended : Bool) (p p' : Planning) (c : Progress) (q : Planned) (s : Picture) (out0 out side0 side : Option (List ℕ)) → p.settings ≡ t → Takes ended p p' q s → CodingGoesOn f t bytes ended p c out0 out side0 side
    → (slice_get (jobs_in t bytes) c.count ≡ Some (record { planned = q; source = s })) × AreAmong (sources t bytes) p'.waiting
there f t bytes ended p p' c q s out0 out side0 side same takes g =
    let parts = taken (λ (x : Picture). slice_get (sources t bytes) x.number ≡ Some x) takes.before takes.after s (subst (AreAmong (sources t bytes)) takes.waited g.among) in
    (job_is t bytes c.count q s p.waiting (next_is f t bytes ended p p' c q s out0 out side0 side same takes g) takes.same parts.0, subst (AreAmong (sources t bytes)) (sym takes.waiting) parts.1)

pub goes_more : (f : IndexRule) (t : Settings) (ended : Bool) (p p' : Planning) (c c' : Progress) (q : Planned) (s : Picture) (out out' side side' : Option (List ℕ)) → p.settings ≡ t → Takes ended p p' q s
    → IsCoded t (made_under f t c.refs (record { planned = q; source = s })) c c' out out' side side' → LeadsOn f t ended p p' c c' out out' side side'
goes_more f t ended p p' c c' q s out out' side side' same takes coded bytes out0 side0 g =
    let next = there f t bytes ended p p' c q s out0 out side0 side same takes g in
    record {
      stands = stands_more f t bytes c c' (record { planned = q; source = s }) out0 out out' side0 side side' g.stands next.0 coded;
      among = next.1;
      given = omega (arith, takes.given, g.given, coded.count);
      within = omega (arith, takes.accepted, g.within);
      all = λ e. takes.accepted ∙ g.all e;
    }

pub stops_more : (f : IndexRule) (t : Settings) (ended : Bool) (p p' : Planning) (c : Progress) (q : Planned) (s : Picture) (answer : Encoded) (out out' side side' : Option (List ℕ)) → p.settings ≡ t → Takes ended p p' q s
    → StopsPicture t (made_under f t c.refs (record { planned = q; source = s })) c answer out out' side side' → Stops f t ended p c answer out out' side side'
stops_more f t ended p p' c q s (encoded.UnitTooLong number) out out' side side' same takes is bytes out0 side0 leave g =
    too_long f t bytes c (record { planned = q; source = s }) number out0 out out' side0 side side' g.stands (there f t bytes ended p p' c q s out0 out side0 side same takes g).0 is
stops_more f t ended p p' c q s encoded.WriteFault out out' side side' same takes is bytes out0 side0 leave g =
    breaks_off f t bytes c (record { planned = q; source = s }) out0 out out' side0 side side' leave g.stands (there f t bytes ended p p' c q s out0 out side0 side same takes g).0 is
stops_more f t ended p p' c q s encoded.SideFault out out' side side' same takes is bytes out0 side0 leave g =
    breaks_off f t bytes c (record { planned = q; source = s }) out0 out out' side0 side side' leave g.stands (there f t bytes ended p p' c q s out0 out side0 side same takes g).0 is
stops_more f t ended p p' c q s encoded.NoMemory out out' side side' same takes is bytes out0 side0 leave g =
    breaks_off f t bytes c (record { planned = q; source = s }) out0 out out' side0 side side' leave g.stands (there f t bytes ended p p' c q s out0 out side0 side same takes g).0 is
stops_more f t ended p p' c q s encoded.Done out out' side side' same takes is bytes out0 side0 leave g = absurd is
stops_more f t ended p p' c q s (encoded.PartialPicture n) out out' side side' same takes is bytes out0 side0 leave g = absurd is
stops_more f t ended p p' c q s encoded.TooManyPictures out out' side side' same takes is bytes out0 side0 leave g = absurd is
stops_more f t ended p p' c q s encoded.ReadFault out out' side side' same takes is bytes out0 side0 leave g = absurd is

-- a planner that is told whether the pictures have ended
pub goes_told : (f : IndexRule) (t : Settings) (bytes : List ℕ) (ended told : Bool) (p p' : Planning) (c : Progress) (out0 out side0 side : Option (List ℕ)) → p' ≡ with_end p told → CodingGoesOn f t bytes ended p c out0 out side0 side → CodingGoesOn f t bytes ended p' c out0 out side0 side
goes_told f t bytes ended told p p' c out0 out side0 side is g =
    subst (λ (q : Planning). CodingGoesOn f t bytes ended q c out0 out side0 side) (sym is) (record { stands = g.stands; among = g.among; given = g.given; within = g.within; all = g.all })
