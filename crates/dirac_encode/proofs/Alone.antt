-- An intra picture is coded alike, whatever pictures are listed.
use Rattle.std.proofs.Common.{◌≡◌, ℕ, Bool, true, false, if◌then◌else◌, List, [], Option, None, Some, Result, Ok, Err, IfOk, refl, sym, ap, ◌∙◌, subst}
use Rattle.dirac_common.specs.declared.picture.Picture.{Picture}
use Rattle.dirac_types.specs.declared.settings.Settings.{Settings}
use Rattle.dirac_picture.specs.Grammar.{is_intra}
use Rattle.dirac_picture.specs.declared.coded.CodedMotion.{CodedMotion}
use Rattle.dirac_plan.specs.declared.planned.Planned.{Planned}
use Rattle.dirac_motion.specs.Chosen.{chosen}
use Rattle.dirac_encode_laws.specs.Coded.{coded_with, motion_with}
use Rattle.dirac_encode_laws.specs.declared.coded.Coded.{Coded}
use Rattle.dirac_encode_laws.specs.Coding.{IndexRule, Job, Made, made, made_from, made_under}
use Rattle.dirac_encode_laws.specs.Fit.{rule_of}
use Rattle.dirac_encode_progress.specs.PictureCoding.{IsCodedUnder}
use Rattle.dirac_encode.specs.Ahead.{IsCodedAlone}

none_if : (b : Bool) (m : CodedMotion) → b ≡ true → (if b then None else Some m) ≡ None
none_if true m e = refl
none_if false m e = absurd cc

-- what an intra picture becomes
made_intra : Settings → List Picture → Job → Made
made_intra t refs j = made_from t refs (coded_with t refs j.planned j.source None)

made_is : (t : Settings) (refs : List Picture) (j : Job) → is_intra j.planned.code ≡ true → made t refs j ≡ made_intra t refs j
unfolding made_intra
made_is t refs j intra =
    ap (λ (m : Option CodedMotion). made_from t refs (coded_with t refs j.planned j.source m))
    (none_if (is_intra j.planned.code) (motion_with t (chosen t refs j.planned j.source)) intra)

intra_same : (t : Settings) (refs others : List Picture) (j : Job) → made_intra t refs j ≡ made_intra t others j
unfolding made_intra
intra_same t refs others j = refl

pub made_alone : (t : Settings) (refs others : List Picture) (j : Job) → is_intra j.planned.code ≡ true → made t refs j ≡ made t others j
made_alone t refs others j intra = made_is t refs j intra ∙ intra_same t refs others j ∙ sym (made_is t others j intra)

-- what was coded alone is what the rule gives where there is no budget, whatever pictures are listed
pub coded_alone : (budget : Option ℕ) (t : Settings) (refs : List Picture) (p : Planned) (x : Picture) (c : Coded) → budget ≡ None → IsCodedAlone t p x c → IsCodedUnder (rule_of budget) t refs p x c
coded_alone budget t refs p x c none is =
    let same = made_alone t [] refs (record { planned = p; source = x }) is.intra in
    subst (λ (o : Option ℕ). IsCodedUnder (rule_of o) t refs p x c) (sym none)
    (record { payload = is.payload ∙ ap (λ (m : Made). m.payload) same; shown = is.shown ∙ ap (λ (m : Made). m.shown) same })

-- an answer whose payload and picture are those under a rule
pub coded_under : {E : Type 0} (f : IndexRule) (t : Settings) (refs : List Picture) (p : Planned) (x : Picture) (r : Result Coded E) → IfOk r (λ c. c.payload.items ≡ (made_under f t refs (record { planned = p; source = x })).payload)
    → IfOk r (λ c. c.shown ≡ (made_under f t refs (record { planned = p; source = x })).shown) → IfOk r (IsCodedUnder f t refs p x)
coded_under f t refs p x (Ok c) payload shown = record { payload = payload; shown = shown }
coded_under f t refs p x (Err e) payload shown = tt
