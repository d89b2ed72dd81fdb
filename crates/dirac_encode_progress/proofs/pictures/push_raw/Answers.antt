use Rattle.std.proofs.Common.{◌≡◌, ◌∙◌, ap, subst, arith}
use Rattle.dirac_sources.specs.Sources.{picture_from}
use Rattle.dirac_plan.specs.Planning.{with_picture}
use Rattle.dirac_encode_laws.specs.Coded.{IsSource}
use Rattle.dirac_encode_laws.proofs.Accepted.{most_pictures}
use Rattle.dirac_encode_progress.proofs.pictures.push_raw.Goals as goal

pub push-requires-clause-in_range : goal.push-requires-clause-in_range
push-requires-clause-in_range g c = omega (arith, c.requires.in_range, most_pictures c.args.coder.now.settings.now c.requires.accepted)

pub returns-clause-pushed : goal.returns-clause-pushed
returns-clause-pushed g c =
    let t = c.args.coder.now.settings.now in
    let is : c.in_ok-picture.picture ≡ picture_from t c.args.planner.now.accepted c.args.bytes.now = c.in_ok-picture.ensures.value ∙ ap (λ n. picture_from t n c.args.bytes.now) c.accepted-number.ensures.value in
    c.in-Ok.ensures.accepted ∙ ap (with_picture c.args.planner.now) is

pub returns-clause-source : goal.returns-clause-source
returns-clause-source g c =
    let t = c.args.coder.now.settings.now in
    let is : c.in_ok-picture.picture ≡ picture_from t c.args.planner.now.accepted c.args.bytes.now = c.in_ok-picture.ensures.value ∙ ap (λ n. picture_from t n c.args.bytes.now) c.accepted-number.ensures.value in
    subst (IsSource t) is c.in_ok-picture.ensures.fits
