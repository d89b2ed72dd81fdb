-- A way to code pictures, as the encoding of a stream is handed one.
use Rattle.std.specs.Prelude.{◌≡◌, List, Result, IfOk, true}
use Rattle.std.specs.List.{AllByRecursion}
use Rattle.std.specs.Borrow.{Bor}
use Rattle.dirac_common.specs.declared.picture.Picture.{Picture}
use Rattle.dirac_types.specs.declared.settings.Settings.{Settings}
use Rattle.dirac_types.specs.Settings.{IsAccepted}
use Rattle.dirac_plan.specs.declared.planned.Planned.{Planned}
use Rattle.dirac_plan.specs.Planning.{Planning}
use Rattle.dirac_picture.specs.Grammar.{are_listed}
use Rattle.dirac_plan_laws.specs.Headers.{IsPlanned, header_of}
use Rattle.dirac_encode_laws.specs.declared.coded.Coded.{Coded}
use Rattle.dirac_encode_laws.specs.Coded.{IsSource}
use Rattle.dirac_encode_laws.specs.Coding.{IndexRule, made_under}

-- a planned picture of a stream with these settings, all of whose references are among these
pub record IsReadyToCode (t : Settings) (refs : List Picture) (p : Planned) (x : Picture) : Type 0 where
  pub accepted : IsAccepted t
  pub listed : AllByRecursion (IsSource t) refs
  pub source : IsSource t x
  pub planned : IsPlanned p
  pub found : are_listed refs (header_of p) ≡ true

-- the payload of a planned source, and what decoders show for it, at the index that a rule gives it
pub record IsCodedUnder (f : IndexRule) (t : Settings) (refs : List Picture) (p : Planned) (x : Picture) (coded : Coded)
    : Type 0 where
  pub payload : coded.payload.items ≡ (made_under f t refs (record { planned = p; source = x })).payload
  pub shown : coded.shown ≡ (made_under f t refs (record { planned = p; source = x })).shown

-- the pictures that wait behind a planned picture can be coded too
abbrev pub AreReadyBehind : Settings → Planning → Type 0
AreReadyBehind t behind = AllByRecursion (IsSource t) behind.waiting

-- a call that may be made on each picture that is ready, with the planner that gave it, and codes it under the rule
abbrev pub CodesUnder : {E : Type 0} → IndexRule → Settings
    → (Bor Planned → Bor Picture → Bor (List Picture) → Bor Planning → Type 0)
    → (Bor Planned → Bor Picture → Bor (List Picture) → Bor Planning → Result Coded E → Type 0) → Type 0
CodesUnder {E} f t pre post =
    ((p : Bor Planned) (x : Bor Picture) (refs : Bor (List Picture)) (behind : Bor Planning)
    → IsReadyToCode t refs.now p.now x.now → AreReadyBehind t behind.now → pre p x refs behind)
    × ((p : Bor Planned) (x : Bor Picture) (refs : Bor (List Picture)) (behind : Bor Planning) (result : Result Coded E)
    → IsReadyToCode t refs.now p.now x.now → AreReadyBehind t behind.now → post p x refs behind result
    → IfOk result (IsCodedUnder f t refs.now p.now x.now))
