-- Rebuilt pictures are pictures of their sequence.
use Rattle.std.proofs.Common.{◌≡◌, ◌∙◌, ap, ap₂, sym, ℤ, pos, negsuc, List, map, get_or, Option, None, Some, arith, refl}
use Rattle.std.specs.Prelude.{Result, Ok, Err, IfOk}
use Rattle.std.specs.List.{All}
use Rattle.std.specs.Int.{int_min}
use Rattle.std.proofs.lemmas.Int.{ints, int_max_is, int_min_is}
use Rattle.std.proofs.lemmas.List.Elements.{All-map}
use Rattle.dirac_common.specs.declared.picture.Picture.{Picture}
use Rattle.dirac_common.specs.Samples.{clip}
use Rattle.dirac_sequence_header.specs.declared.sequence.Sequence.{Sequence}
use Rattle.dirac_header.specs.declared.header.PictureHeader.{PictureHeader}
use Rattle.dirac_upconvert.specs.HalfSamples.{IsSample}
use Rattle.dirac_common.specs.declared.formats.Component.{Component}
use Rattle.dirac_common.specs.declared.formats.Component.TheVariants as component
use Rattle.dirac_picture.specs.declared.coded.CodedMotion.{CodedMotion}
use Rattle.dirac_picture.specs.declared.coded.CodedPicture.{CodedPicture}
use Rattle.dirac_picture.specs.declared.coded.CodedResidual.{CodedResidual}
use Rattle.dirac_content.specs.Content.{IsPicture, IsPlane, width_of, height_of, named, samples_from, plane_samples, rebuilt}
use Rattle.dirac_content.specs.Predicting.{inter_picture}

-- a clipped value is a sample
clip_is_sample : (v : ℤ) → IsSample (clip v)
clip_is_sample v = record {
  least = omega (arith, ints, int_max_is (negsuc 127) (int_min v (pos 127)), int_min_is v (pos 127));
  most = omega (arith, ints, int_max_is (negsuc 127) (int_min v (pos 127)), int_min_is v (pos 127));
}

all_clipped : (vs : List ℤ) → All IsSample (map clip vs)
all_clipped vs = All-map IsSample clip vs (λ k d h. clip_is_sample (get_or vs k d))

-- the samples of a plane
samples_fit : (s : Sequence) (refs : List Picture) (head : PictureHeader) (m : Option CodedMotion) (coded : Option CodedResidual) (component : Component)
    → IsPlane (width_of s component) (height_of s component) (samples_from s refs head m coded component)
samples_fit s refs head None None component = record { across = refl; down = refl; samples = all_clipped _ }
samples_fit s refs head None (Some r) component = record { across = refl; down = refl; samples = all_clipped _ }
samples_fit s refs head (Some m) None component = record { across = refl; down = refl; samples = all_clipped _ }
samples_fit s refs head (Some m) (Some r) component = record { across = refl; down = refl; samples = all_clipped _ }

pub plane_fits : (s : Sequence) (refs : List Picture) (coded : CodedPicture) (component : Component) → IsPlane (width_of s component) (height_of s component) (plane_samples s refs coded component)
plane_fits s refs coded component = samples_fit s refs coded.header coded.motion coded.residual component

pub picture_fits : (s : Sequence) (refs : List Picture) (coded : CodedPicture) → IsPicture s (rebuilt s refs coded)
picture_fits s refs coded = record {
  y = plane_fits s refs coded component.Y;
  u = plane_fits s refs coded component.U;
  v = plane_fits s refs coded component.V;
}

-- an inter picture is the one that its references stand for, once these are looked up
pub inter_found : {E : Type 0} (s : Sequence) (refs : List Picture) (coded : CodedPicture) (m : CodedMotion) (first : Picture) (second : Option Picture) (r : Result Picture E)
    → coded.motion ≡ Some m → named refs coded.header.ref1 ≡ Some first → second ≡ named refs coded.header.ref2
    → IfOk r (λ p. p ≡ inter_picture s (Some first) second coded.header m coded.residual) → IfOk r (λ p. p ≡ rebuilt s refs coded)
inter_found s refs coded m first second (Ok p) moves e f is =
    let of : Option CodedMotion → Picture = λ x. record {
      number = coded.header.number;
      y = samples_from s refs coded.header x coded.residual component.Y;
      u = samples_from s refs coded.header x coded.residual component.U;
      v = samples_from s refs coded.header x coded.residual component.V;
    } in
    is ∙ ap₂ (λ (a b : Option Picture). inter_picture s a b coded.header m coded.residual) (sym e) f ∙ ap of (sym moves)
inter_found s refs coded m first second (Err stop) moves e f is = tt
