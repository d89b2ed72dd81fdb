-- The bands of a plane fit its transform parameters; and accepted settings can code.
use Rattle.std.proofs.Common.{◌≡◌, ℕ, zero, suc, ◌+◌, ◌-◌, ◌*◌, ◌/◌, ◌^◌, ◌<◌, ◌≤◌, ◌==◌, if◌then◌else◌, ℤ, pos, List, [], ◌∷◌, length, get_or, map, refl, sym, ap, ap₂, ◌∙◌, subst, arith, Bool, false, inl, inr, ne_eqb}
use Rattle.std.proofs.lemmas.Bool.{cases_eq}
use Rattle.std.proofs.lemmas.Option.{slice_get_within}
use Rattle.dirac_types.specs.declared.settings.Settings.{Settings}
use Rattle.dirac_types.specs.Settings.{IsAccepted}
use Rattle.dirac_types.specs.Sizes.{picture_height}
use Rattle.dirac_types.proofs.Accepted.{in_range}
use Rattle.dirac_common.specs.Table.{Table}
use Rattle.dirac_header.specs.Transform.{band_length}
use Rattle.dirac_coeffs.specs.declared.layout.CodedBand.{CodedBand}
use Rattle.dirac_header.specs.Counts.{counts_at}
use Rattle.dirac_bands.specs.Geometry.{level_of}
use Rattle.dirac_picture.specs.Bands.{layout_of}
use Rattle.dirac_picture.specs.Fits.{AreBandsOf}
use Rattle.dirac_synthesis.specs.Residual.{clip, clipped}
use Rattle.dirac_synthesis.proofs.Sizes.{lowest_length, level_length}
use Rattle.dirac_analysis.specs.Fits.{AreLevelBands, AreSamples, IsLaidOut, lowest_size}
use Rattle.dirac_analysis.proofs.FinerBands.{level_band_is_coded}
use Rattle.dirac_sequence.proofs.Accepted.{writable}
use Rattle.dirac_parameters.specs.declared.transform.Transform.{Transform}
use Rattle.dirac_sequence.specs.Written.{sequence_of}
use Rattle.dirac_picture.specs.declared.coded.CodedResidual.{CodedResidual}
use Rattle.dirac_picture.specs.Grammar.{chroma_height, chroma_width}
use Rattle.dirac_picture.specs.Writable.{AreWritable, IsWritten}
use Rattle.dirac_encode_laws.specs.Coded.{transform_of}
use Rattle.dirac_encode_laws.specs.Codable.{HaveSmall, IsCodable}
use Rattle.dirac_encode_laws.proofs.Counting.{counts_fit, transform_lawful, transform_written}

-- the sizes of bands
band_sizes : (size depth n : ℕ) → 1 ≤ depth → n ≤ 3 * depth → band_length size depth ((n + 2) / 3) ≡ lowest_size size depth * 2 ^ ((n - 1) / 3)
band_sizes size depth zero some few = lowest_length size depth ∙ omega arith
band_sizes size depth (suc n) some few = level_length size depth ((suc n - 1) / 3) (suc n) (omega arith) (omega arith) (omega arith)

-- in codeblock mode 0 no codeblock is quantised finer
none_finer : (finer mode : ℕ) → mode ≡ (if finer == 0 then 0 else 1) → mode ≡ 0 → finer ≡ 0
none_finer finer mode same e = elim (cases_eq finer 0) [
  | inl none ↦ none
  | inr some ↦ let one : mode ≡ (if false then 0 else 1) = same ∙ ap (λ (b : Bool). if b then 0 else 1) (ne_eqb finer 0 some) in absurd (omega (arith, one, e))
]

-- the sizes and codeblocks of a band
laid_out : (t : Settings) (width height n : ℕ) → 1 ≤ t.depth → n ≤ 3 * t.depth
    → IsLaidOut (counts_at (transform_of t).counts (level_of n)) (lowest_size width t.depth * 2 ^ ((n - 1) / 3)) (lowest_size height t.depth * 2 ^ ((n - 1) / 3)) (layout_of (transform_of t) width height n)
unfolding layout_of
laid_out t width height n some few = record {
  width = band_sizes width t.depth n some few;
  height = band_sizes height t.depth n some few;
  across = refl;
  down = refl;
}

mode_zero : (t : Settings) (width height n : ℕ) → (layout_of (transform_of t) width height n).mode ≡ 0 → t.finer ≡ 0
unfolding layout_of
mode_zero t width height n e = none_finer t.finer (layout_of (transform_of t) width height n).mode refl e

pub bands_fit : (t : Settings) (width height : ℕ) (bands : List CodedBand) → 1 ≤ t.depth → AreLevelBands (transform_of t).counts t.finer (lowest_size width t.depth) (lowest_size height t.depth) t.depth bands → AreBandsOf (transform_of t) width height bands
bands_fit t width height bands some fits = record {
  count = fits.count;
  each = λ n b there.
      let within : n < length bands = slice_get_within bands n b there in
      let few : n ≤ 3 * t.depth = omega (arith, within, fits.count) in
      level_band_is_coded _ t.finer _ _ (layout_of (transform_of t) width height n) b (laid_out t width height n some few) (mode_zero t width height n) (fits.each n b there);
}

-- and they can be written
pub bands_writable : (t : Settings) (width height : ℕ) (bands : List CodedBand) → 1 ≤ t.depth → AreLevelBands (transform_of t).counts t.finer (lowest_size width t.depth) (lowest_size height t.depth) t.depth bands → AreWritable (transform_of t) width height bands
unfolding layout_of
bands_writable t width height bands some fits n b there =
    let within : n < length bands = slice_get_within bands n b there in
    let few : n ≤ 3 * t.depth = omega (arith, within, fits.count) in
    let one = fits.each n b there in
    record {
      indices = one.indices (layout_of (transform_of t) width height n) (laid_out t width height n some few) (mode_zero t width height n);
      zero = one.zeros;
      zeros = one.zero_indices;
    }

pub bands_small : (counts : List (ℕ × ℕ)) (finer across down depth : ℕ) (bands : List CodedBand) → AreLevelBands counts finer across down depth bands → HaveSmall bands
bands_small counts finer across down depth bands fits n b there = (fits.each n b there).small

-- samples aren't clipped
clipped_list : (xs : List ℤ) → ((k : ℕ) → k < length xs → clip (get_or xs k (pos 0)) ≡ get_or xs k (pos 0)) → map clip xs ≡ xs
clipped_list [] each = refl
clipped_list (x ∷ xs) each = ap₂ (λ (y : ℤ) (ys : List ℤ). y ∷ ys) (each 0 (omega arith)) (clipped_list xs (λ k l. each (suc k) (omega arith)))

pub clipped_again : (t : Table) → AreSamples t.values → clipped t ≡ t
clipped_again t all = ap (λ xs. record { width = t.width; height = t.height; values = xs }) (clipped_list t.values (λ k l. all k (pos 0) l))

pub codable : (t : Settings) → IsAccepted t → IsCodable t
codable t is = let range = in_range t is in record {
  sequence = writable t is;
  wavelet = range.wavelet;
  depth = range.depth;
  index = range.index;
  codeblocks = range.codeblocks.0;
  finer = range.finer;
}

pub is_written : (t : Settings) (r : CodedResidual) → IsCodable t → r.transform ≡ transform_of t
    → AreBandsOf (transform_of t) t.width (picture_height t) r.y → AreBandsOf (transform_of t) (chroma_width (sequence_of t)) (chroma_height (sequence_of t)) r.u → AreBandsOf (transform_of t) (chroma_width (sequence_of t)) (chroma_height (sequence_of t)) r.v
    → AreWritable (transform_of t) t.width (picture_height t) r.y → AreWritable (transform_of t) (chroma_width (sequence_of t)) (chroma_height (sequence_of t)) r.u
    → AreWritable (transform_of t) (chroma_width (sequence_of t)) (chroma_height (sequence_of t)) r.v → IsWritten (sequence_of t) r
unfolding sequence_of
is_written t r codable same y u v ny nu nv =
    let s = sequence_of t in
    let made : Transform → CodedResidual = λ tr. record { transform = tr; y = r.y; u = r.u; v = r.v } in
    let all : IsWritten s (made (transform_of t)) = record {
      lawful = record { transform = transform_lawful t codable; y = y; u = u; v = v };
      transform = transform_written t codable;
      fits = counts_fit t codable;
      y = ny;
      u = nu;
      v = nv;
    } in
    subst (λ (tr : Transform). IsWritten s (made tr)) (sym same) all
