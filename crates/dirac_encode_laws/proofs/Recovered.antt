-- Raw pictures are recovered from their stream, by the definitions alone.
use Rattle.std.proofs.Common.{◌≡◌, ℕ, zero, suc, pos, ◌+◌, ◌*◌, ◌<◌, ◌≤◌, ◌^◌, Bool, true, false, if◌then◌else◌, List, [], ◌∷◌, ◌++◌, length, map, take, drop, get_or, refl, sym, ap, ap₂, ◌∙◌, subst, arith, length-drop, None, Some}
use Rattle.std.specs.Prelude.{min}
use Rattle.std.specs.List.{AllByRecursion}
use Rattle.std.proofs.Math.Nat.{div-mul-le_self}
use Rattle.std.proofs.Math.Seq.{take-add}
use Rattle.std.proofs.lemmas.Nat.{mul-le}
use Rattle.std.proofs.lemmas.List.{length-map, get_or-map, get_or_default, length-take-le}
use Rattle.dirac_common.specs.declared.picture.Picture.{Picture}
use Rattle.dirac_types.specs.declared.settings.Settings.{Settings}
use Rattle.dirac_types.specs.Settings.{IsAccepted}
use Rattle.dirac_types.specs.Sizes.{picture_height}
use Rattle.dirac_common.specs.Samples.{clip}
use Rattle.dirac_units.specs.Cut.{IsCut, first_unit_place}
use Rattle.dirac_sequence.specs.Written.{sequence_of}
use Rattle.dirac_picture.specs.Grammar.{chroma_height, chroma_width}
use Rattle.dirac_content.specs.Raw.{raws}
use Rattle.dirac_sources.specs.Sources.{chroma_bytes, luma_bytes, picture_from, pictures_in, raw_length, sample_of, sources, whole_pictures}
use Rattle.dirac_content.specs.Shown.{Outcome, IsShown}
use Rattle.dirac_analysis.specs.Fits.{AreSamples}
use Rattle.dirac_encode_laws.specs.Coded.{IsSource}
use Rattle.dirac_encode_laws.specs.Encoding.{IsRecovered, IsRecoveredUnder, first_long, is_short}
use Rattle.dirac_encode_laws.specs.Coding.{AreAtIndexZero, IndexRule, Made, coding_under, jobs_of, own_index, reconstructions_under}
use Rattle.dirac_encode_laws.specs.Laws.{AreSourcesUnder, GivesIndices, IsWholePicture, RawPicturesAreRecovered, RawPicturesAreRecoveredUnder, StreamsShowTheirPictures}
use Rattle.dirac_encode_laws.specs.Tables.{TablesAreChosen}
use Rattle.dirac_encode_laws.specs.Stream.{StreamsAreCut, picture_length, stream_under, units_under}
use Rattle.dirac_encode_laws.proofs.Accepted.{most_bytes, most_pictures}
use Rattle.std.proofs.lemmas.Bool.{leb-true}
use Rattle.dirac_encode_laws.proofs.Kept.{kept_under, own_at_zero}
use Rattle.dirac_encode_laws.proofs.Reading.{jobs_read}
use Rattle.dirac_encode_laws.proofs.Showing.{each_unit}
use Rattle.dirac_encode_laws.proofs.Sourcing.{jobs_read_under, shown_under, sources_made}
use Rattle.dirac_encode_laws.proofs.Indices.{own_gives}
use Rattle.dirac_sources.proofs.RawBytes.{below_drop, below_take, raw_again}
use Rattle.dirac_encode_laws.proofs.Sources.{length-pictures_in, numbered_in}
use Rattle.dirac_plan_laws.specs.Plans.{PlansCanBeCoded}

-- ---- bytes

abbrev pub AreBytes : List ℕ → Type 0
AreBytes xs = AllByRecursion (λ b. b < 2 ^ 8) xs

sample_again : (b : ℕ) → b < 2 ^ 8 → clip (sample_of b) ≡ sample_of b
sample_again b small = grind (arith, small)

samples_at : (xs : List ℕ) (k : ℕ) → AreBytes xs → k < length xs → clip (sample_of (get_or xs k 0)) ≡ sample_of (get_or xs k 0)
samples_at [] k all l = absurd (omega (arith, l))
samples_at (x ∷ xs) zero all l = sample_again x all.0
samples_at (x ∷ xs) (suc k) all l = samples_at xs k all.1 (omega (arith, l))

samples_in : (xs : List ℕ) → AreBytes xs → AreSamples (map sample_of xs)
samples_in xs all k d l =
    let inside : k < length xs = omega (arith, l, length-map xs sample_of) in
    rw (get_or_default (map sample_of xs) k d (pos 0) l, get_or-map sample_of xs k 0 (pos 0) inside) (samples_at xs k all inside)

source_in : (t : Settings) (number : ℕ) (bytes : List ℕ) → AreBytes bytes → IsSource t (picture_from t number bytes)
source_in t number bytes all =
    let s = sequence_of t in
    let a = luma_bytes t in
    let b = chroma_bytes t in
    record {
      y = record { across = refl; down = refl; samples = samples_in (take a bytes) (below_take a bytes all) };
      u = record { across = refl; down = refl; samples = samples_in (take b (drop a bytes)) (below_take b (drop a bytes) (below_drop a bytes all)) };
      v = record { across = refl; down = refl; samples = samples_in (drop (a + b) bytes) (below_drop (a + b) bytes all) };
    }

whole_in : (t : Settings) (number : ℕ) (bytes : List ℕ) → length bytes ≡ raw_length t → IsWholePicture (picture_from t number bytes)
whole_in t number bytes len =
    let a = luma_bytes t in
    let b = chroma_bytes t in
    record {
      y = length-map (take a bytes) sample_of ∙ length-take-le a bytes (omega (arith, len));
      u = length-map (take b (drop a bytes)) sample_of ∙ length-take-le b (drop a bytes) (omega (arith, len, length-drop a bytes));
      v = length-map (drop (a + b) bytes) sample_of ∙ omega (arith, len, length-drop (a + b) bytes);
    }

-- the first picture's bytes, and those behind them
first_bytes : (r c : ℕ) (bytes : List ℕ) → take (suc c * r) bytes ≡ take r bytes ++ take (c * r) (drop r bytes)
first_bytes r c bytes =
    let parts : suc c * r ≡ r + c * r = omega arith in
    ap (λ n. take n bytes) parts ∙ take-add r (c * r) bytes

below_front : (xs ys : List ℕ) → AreBytes (xs ++ ys) → AreBytes xs × AreBytes ys
below_front [] ys all = (tt, all)
below_front (x ∷ xs) ys all = let rest = below_front xs ys all.1 in ((all.0, rest.0), rest.1)

below_first : (r c : ℕ) (bytes : List ℕ) → AreBytes (take (suc c * r) bytes) → AreBytes (take r bytes) × AreBytes (take (c * r) (drop r bytes))
below_first r c bytes all = below_front (take r bytes) (take (c * r) (drop r bytes)) (subst AreBytes (first_bytes r c bytes) all)

pub below_more : (xs ys : List ℕ) → AreBytes xs → AreBytes ys → AreBytes (xs ++ ys)
below_more [] ys first second = second
below_more (x ∷ xs) ys first second = (first.0, below_more xs ys first.1 second)

sources_in : (t : Settings) (count number : ℕ) (bytes : List ℕ) → AreBytes (take (count * raw_length t) bytes) → AllByRecursion (IsSource t) (pictures_in t count number bytes)
unfolding pictures_in
sources_in t zero number bytes all = tt
sources_in t (suc count) number bytes all =
    let r = raw_length t in
    let parts = below_first r count bytes all in
    (source_in t number (take r bytes) parts.0, sources_in t count (number + 1) (drop r bytes) parts.1)

raws_in : (t : Settings) (count number : ℕ) (bytes : List ℕ) → AreBytes (take (count * raw_length t) bytes) → raws (pictures_in t count number bytes) ≡ take (count * raw_length t) bytes
unfolding pictures_in
raws_in t zero number bytes all = ap (λ n. take n bytes) (none (raw_length t)) where
  none : (n : ℕ) → 0 ≡ 0 * n
  none n = omega arith
raws_in t (suc count) number bytes all =
    let r = raw_length t in
    let s = sequence_of t in
    let parts = below_first r count bytes all in
    ap₂ (λ (l m : List ℕ). l ++ m) (raw_again t.width (picture_height t) (chroma_width s) (chroma_height s) number (take r bytes) parts.0) (raws_in t count (number + 1) (drop r bytes) parts.1)
    ∙ sym (first_bytes r count bytes)

wholes_in : (t : Settings) (count number : ℕ) (bytes : List ℕ) → count * raw_length t ≤ length bytes → AllByRecursion IsWholePicture (pictures_in t count number bytes)
unfolding pictures_in
wholes_in t zero number bytes some = tt
wholes_in t (suc count) number bytes some =
    let r = raw_length t in
    let few : count * r ≤ length (drop r bytes) = omega (arith, some, length-drop r bytes) in
    (whole_in t number (take r bytes) (length-take-le r bytes (omega (arith, some))), wholes_in t count (number + 1) (drop r bytes) few)

-- ---- what is short enough

long_or_short : (t : Settings) (m : Made) (ms : List Made) (b : Bool) → is_short t m ≡ b → first_long t (m ∷ ms) ≡ None → (is_short t m ≡ true) × (first_long t ms ≡ None)
long_or_short t m ms true is none = (is, subst (λ (b : Bool). (if b then first_long t ms else Some m) ≡ None) is none)
long_or_short t m ms false is none = absurd (some_none m (subst (λ (b : Bool). (if b then first_long t ms else Some m) ≡ None) is none)) where
  some_none : (x : Made) → Some x ≡ None → ⊥
  some_none x e = cc

short_enough : (t : Settings) (m : Made) → IsAccepted t → is_short t m ≡ true → picture_length m < 2 ^ 32
short_enough t m accepted short =
    let few : picture_length m ≤ t.unit_bytes = leb-true (picture_length m) t.unit_bytes short in
    omega (arith, few, most_bytes t accepted)

each_short : (t : Settings) (ms : List Made) → IsAccepted t → first_long t ms ≡ None → AllByRecursion (λ m. picture_length m < 2 ^ 32) ms
each_short t [] accepted none = tt
each_short t (m ∷ ms) accepted none =
    let here = long_or_short t m ms (is_short t m) refl none in
    (short_enough t m accepted here.0, each_short t ms accepted here.1)

-- ---- all together

pub recovered : StreamsShowTheirPictures → StreamsAreCut → PlansCanBeCoded → TablesAreChosen → (f : IndexRule) → GivesIndices f → (t : Settings) (n : ℕ) (bytes : List ℕ) → IsAccepted t → n * raw_length t ≤ length bytes → n ≤ t.pictures → AreBytes (take (n * raw_length t) bytes)
    → sources t bytes ≡ pictures_in t n 0 bytes → first_long t (coding_under f t (sources t bytes)) ≡ None → IsRecoveredUnder f t bytes
recovered law cuts plans tables f gives t n bytes accepted some few all is short =
    let ps = pictures_in t n 0 bytes in
    let count : length ps ≡ n = length-pictures_in t n 0 bytes in
    let lengths = each_short t (coding_under f t ps) accepted (subst (λ (l : List Picture). first_long t (coding_under f t l) ≡ None) is short) in
    let sourced : AreSourcesUnder f t ps = record { accepted = accepted; below_2_31 = omega (arith, count, few, most_pictures t accepted); each = sources_in t n 0 bytes all; short = lengths } in
    let made = sources_made plans (jobs_read_under (jobs_read tables)) f gives t ps sourced in
    let shows = shown_under law (jobs_read tables) plans f gives t ps sourced in
    record {
      cut = subst (λ (l : List Picture). IsCut first_unit_place (stream_under f t l) (units_under f t l) None) (sym is) (cuts t (coding_under f t ps) (each_unit t [] (coding_under f t ps) made.0));
      shows = subst (λ (l : List Picture). (o : Outcome) × IsShown (stream_under f t l) o × (o.shown ≡ reconstructions_under f t l) × (o.end ≡ None)) (sym is) shows;
      lossless = λ none. subst (λ (l : List Picture). reconstructions_under f t l ≡ l) (sym is) (kept_under plans tables f gives t ps sourced (numbered_in t n 0 bytes) (wholes_in t n 0 bytes some) (subst (λ (l : List Picture). AreAtIndexZero f t [] (jobs_of t l)) is none));
      raw = subst (λ (l : List Picture). raws l ≡ take (length l * raw_length t) bytes) (sym is) (raws_in t n 0 bytes all ∙ ap (λ k. take (k * raw_length t) bytes) (sym count));
    }

-- no more pictures are whole than the bytes hold
whole_fit : (t : Settings) (bytes : List ℕ) → min (whole_pictures t bytes) t.pictures * raw_length t ≤ length bytes
whole_fit t bytes =
    let r = raw_length t in
    let whole = whole_pictures t bytes in
    let fits : whole * r ≤ length bytes = div-mul-le_self (length bytes) r in
    omega (arith, fits, mul-le (min whole t.pictures) r whole r (omega arith) (omega arith))

pub under_recovered : StreamsShowTheirPictures → StreamsAreCut → PlansCanBeCoded → TablesAreChosen → RawPicturesAreRecoveredUnder
under_recovered law cuts plans tables f gives t bytes accepted all short =
    let n = min (whole_pictures t bytes) t.pictures in
    recovered law cuts plans tables f gives t n bytes accepted (whole_fit t bytes) (omega arith) (below_take (n * raw_length t) bytes all) refl short

-- with the settings' index
pub own_recovered : (t : Settings) (bytes : List ℕ) → IsRecoveredUnder own_index t bytes → IsRecovered t bytes
own_recovered t bytes is = record { cut = is.cut; shows = is.shows; lossless = λ none. is.lossless (own_at_zero t [] (jobs_of t (sources t bytes)) none); raw = is.raw }

pub raws_recovered : StreamsShowTheirPictures → StreamsAreCut → PlansCanBeCoded → TablesAreChosen → RawPicturesAreRecovered
raws_recovered law cuts plans tables t bytes accepted all short = own_recovered t bytes (under_recovered law cuts plans tables own_index own_gives t bytes accepted all short)
