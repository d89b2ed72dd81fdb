-- Samples from their bytes.
use Rattle.std.proofs.Common.{◌≡◌, ℕ, ℤ, pos, ◌<◌, ◌≤◌, List, length, map, get_or, arith, ap, sym, ◌∙◌, Result, Ok, Err}
use Rattle.std.specs.Prelude.{IfOk}
use Rattle.dirac_types.specs.Sizes.{picture_height}
use Rattle.dirac_common.specs.declared.picture.Picture.{Picture}
use Rattle.dirac_types.specs.declared.settings.Settings.{Settings}
use Rattle.dirac_sequence_header.specs.declared.sequence.Sequence.{Sequence}
use Rattle.dirac_sequence.specs.Written.{IsWritable, sequence_of}
use Rattle.dirac_picture.specs.Fits.{IsPlaneSize}
use Rattle.dirac_picture.specs.Grammar.{chroma_height, chroma_width}
use Rattle.dirac_picture.proofs.Chroma.{chroma_size}
use Rattle.dirac_synthesis.specs.Residual.{AreSamples}
use Rattle.dirac_sources.specs.Sources.{IsSource, picture_from, sample_of}
use Rattle.dirac_sequence.proofs.Sizes.{sequence_lawful, size_of_pictures}
use Rattle.std.proofs.lemmas.List.{length-map, get_or-map, ext_get_or}

pub samples_all : (xs : List ℕ) (ys : List ℤ) (n : ℕ) → length ys ≡ length xs → ((k : ℕ) → k < n → get_or ys k (pos 0) ≡ sample_of (get_or xs k 0)) → length xs ≤ n → ys ≡ map sample_of xs
samples_all xs ys n len each all =
    ext_get_or (pos 0) ys (map sample_of xs) (len ∙ sym (length-map xs sample_of)) (λ k l.
    each k (omega (arith, l, len, all)) ∙ sym (get_or-map sample_of xs k 0 (pos 0) (omega (arith, l, len))))

pub raw_sizes : (t : Settings) (s : Sequence) → IsWritable t → s ≡ sequence_of t → IsPlaneSize t.width (picture_height t) × IsPlaneSize (chroma_width s) (chroma_height s)
raw_sizes t s writable is =
    let size = size_of_pictures t writable in
    let luma : IsPlaneSize t.width (picture_height t) = record { across = (size.0, size.1); down = (size.2, omega (arith, size.3)) } in
    (luma, rw is (chroma_size (sequence_of t) (sequence_lawful t writable)))

pub raw_source : (t : Settings) (number : ℕ) (bytes : List ℕ) (p : Picture) → p ≡ picture_from t number bytes → AreSamples p.y.values → AreSamples p.u.values → AreSamples p.v.values → IsSource t p
raw_source t number bytes p is y u v = record {
  y = record { across = ap (λ (q : Picture). q.y.width) is; down = ap (λ (q : Picture). q.y.height) is; samples = y };
  u = record { across = ap (λ (q : Picture). q.u.width) is; down = ap (λ (q : Picture). q.u.height) is; samples = u };
  v = record { across = ap (λ (q : Picture). q.v.width) is; down = ap (λ (q : Picture). q.v.height) is; samples = v };
}

-- three facts of what came of a call, where another follows from them
pub ok_four : {T E : Type 0} {P Q R S U : T → Type 0} (r : Result T E) → ((x : T) → P x → Q x → R x → S x → U x) → IfOk r P → IfOk r Q → IfOk r R → IfOk r S → IfOk r U
ok_four (Ok x) f p q r s = f x p q r s
ok_four (Err e) f p q r s = tt
