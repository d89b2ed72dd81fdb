-- Reading the bands of a plane, one after another.
use Rattle.std.proofs.Common.{◌≡◌, ℕ, zero, suc, ◌-◌, ◌<◌, List, [], ◌∷◌, ◌++◌, length, refl, ◌∙◌, arith, subst, Result, Ok, Err}
use Rattle.dirac_common.specs.declared.faults.Refusal.{Refusal}
use Rattle.dirac_common.specs.declared.faults.Stop.{Stop}
use Rattle.dirac_common.specs.declared.faults.Stop.TheVariants as stop
use Rattle.dirac_bits.specs.Cursor.{Cursor}
use Rattle.dirac_bits.specs.Syntax.{read}
use Rattle.dirac_bits.specs.Then.{read_then}
use Rattle.dirac_bits.specs.Answers.{ReadsOrStops}
use Rattle.dirac_parameters.specs.declared.transform.Transform.{Transform}
use Rattle.dirac_coeffs.specs.declared.layout.CodedBand.{CodedBand}
use Rattle.dirac_coeffs.specs.Grammar.{band}
use Rattle.dirac_picture.specs.Bands.{layout_of, parent_values}
use Rattle.dirac_picture.specs.Grammar.{bands_behind}

-- one more band
pub one_band : (t : Transform) (width height : ℕ) (before : List CodedBand) (more : ℕ) (c d : Cursor) (b : CodedBand) → 0 < more
    → read (band (layout_of t width height (length before)) (parent_values before)) c ≡ Ok (b, d)
    → read (bands_behind t width height before more) c ≡ read (bands_behind t width height (before ++ b ∷ []) (more - 1)) d
unfolding bands_behind
one_band t width height before zero c d b some is = absurd (omega arith)
one_band t width height before (suc more) c d b some is =
    let same : suc more - 1 ≡ more = omega arith in
    read_then (band (layout_of t width height (length before)) (parent_values before)) (λ x. bands_behind t width height (before ++ x ∷ []) more) c ∙ rw (is, same) refl

-- a band that is refused
band_refused : (t : Transform) (width height : ℕ) (before : List CodedBand) (more : ℕ) (c : Cursor) (refusal : Refusal) → 0 < more
    → read (band (layout_of t width height (length before)) (parent_values before)) c ≡ Err refusal
    → read (bands_behind t width height before more) c ≡ Err refusal
unfolding bands_behind
band_refused t width height before zero c refusal some is = absurd (omega arith)
band_refused t width height before (suc more) c refusal some is =
    read_then (band (layout_of t width height (length before)) (parent_values before)) (λ x. bands_behind t width height (before ++ x ∷ []) more) c ∙ rw is refl

-- a band at which the reader stops
pub band_stops : (t : Transform) (width height : ℕ) (before : List CodedBand) (more : ℕ) (c d e : Cursor) (s : Stop) → 0 < more
    → ReadsOrStops (Err s) d (read (band (layout_of t width height (length before)) (parent_values before)) c)
    → ReadsOrStops (Err s) e (read (bands_behind t width height before more) c)
band_stops t width height before more c d e (stop.Refused refusal) some is = band_refused t width height before more c refusal some is
band_stops t width height before more c d e stop.NoMemory some is = tt

-- by another name of what is read
pub band_stops_all : (t : Transform) (width height : ℕ) (before : List CodedBand) (more : ℕ) (c d : Cursor) (s : Stop) (x : Result (List CodedBand × Cursor) Refusal) → 0 < more
    → read (bands_behind t width height before more) c ≡ x
    → ReadsOrStops (Err s) d (read (band (layout_of t width height (length before)) (parent_values before)) c) → ReadsOrStops {X = List CodedBand} (Err s) d x
band_stops_all t width height before more c d s x some same is =
    subst (λ (y : Result (List CodedBand × Cursor) Refusal). ReadsOrStops {X = List CodedBand} (Err s) d y) same (band_stops t width height before more c d d s some is)

-- no more bands
pub all_bands : (t : Transform) (width height : ℕ) (before : List CodedBand) (c : Cursor) → read (bands_behind t width height before 0) c ≡ Ok (before, c)
unfolding bands_behind
all_bands t width height before c = refl
