-- What a stream has that is to be shown alike by decoders which differ from the standard.
use Rattle.std.specs.Prelude.{◌≡◌, ⊤, true, false, List, [], ◌∷◌, is_some}
use Rattle.dirac_common.specs.declared.picture.Picture.{Picture}
use Rattle.dirac_types.specs.declared.settings.Settings.{Settings}
use Rattle.dirac_picture.specs.Grammar.{is_intra}
use Rattle.dirac_encode_laws.specs.Coding.{IndexRule, Job, Made, made_under, refs_after}

-- a coded picture adds nothing that an earlier one left: an inter picture has a residual
pub record IsShownAlike (m : Made) : Type 0 where
  pub residual : is_intra m.coded.code ≡ false → is_some m.coded.residual ≡ true

-- each inter picture that planned sources become under a rule, with what is listed by then, has a residual
abbrev pub AreShownAlike : IndexRule → Settings → List Picture → List Job → Type 0
AreShownAlike f t refs [] = ⊤
AreShownAlike f t refs (j ∷ jobs) =
    IsShownAlike (made_under f t refs j) × AreShownAlike f t (refs_after refs (made_under f t refs j)) jobs

-- where the settings ask for streams that are shown alike, each inter picture that planned sources become has a
-- residual, under every rule
abbrev pub PicturesAreShownAlike : Type 0
PicturesAreShownAlike =
    (f : IndexRule) (t : Settings) (refs : List Picture) (jobs : List Job) → t.alike ≡ 1 → AreShownAlike f t refs jobs
