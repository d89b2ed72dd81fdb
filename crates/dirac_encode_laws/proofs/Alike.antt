-- Where a stream is to be shown alike, its inter pictures have a residual.
use Rattle.std.proofs.Common.{◌≡◌, ◌==◌, ◌&&◌, ℕ, true, if◌then◌else◌, List, [], ◌∷◌, Option, Some, None, is_some, refl, ap}
use Rattle.dirac_types.specs.declared.settings.Settings.{Settings}
use Rattle.dirac_picture.specs.declared.coded.CodedMotion.{CodedMotion}
use Rattle.dirac_picture.specs.declared.coded.CodedResidual.{CodedResidual}
use Rattle.dirac_motion.specs.Chosen.{at_index}
use Rattle.dirac_encode_laws.specs.Alike.{PicturesAreShownAlike}
use Rattle.dirac_encode_laws.specs.Coded.{header_of, is_zero_residual, motion_of, residual_of, residual_unless_left_out}
use Rattle.dirac_encode_laws.specs.Coding.{made_under, refs_after}

has_residual : (t : Settings) (m : Option CodedMotion) (r : CodedResidual) → t.alike ≡ 1 → is_some (residual_unless_left_out t m r) ≡ true
has_residual t None r alike = refl
has_residual t (Some m) r alike = ap (λ (a : ℕ). is_some (if a == 0 && is_zero_residual r then None else Some r)) alike

pub pictures_shown_alike : PicturesAreShownAlike
pictures_shown_alike f t refs [] alike = tt
pictures_shown_alike f t refs (j ∷ jobs) alike =
    let u = at_index t (f t refs j) in
    let m = motion_of u refs j.planned j.source in (
      record { residual = λ inter. has_residual u m (residual_of u refs (header_of j.planned) m j.source) alike },
      pictures_shown_alike f t (refs_after refs (made_under f t refs j)) jobs alike,
    )
