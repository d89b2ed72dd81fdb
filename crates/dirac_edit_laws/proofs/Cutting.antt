-- The units of sequences: their bytes are cut into just these, and those of a stream fit their offsets.
use Rattle.std.proofs.Common.{◌≡◌, ◌<◌, ◌≤◌, ◌+◌, ◌-◌, ◌^◌, inl, inr, true, ℕ, zero, suc, List, [], ◌∷◌, ◌++◌, length, take, drop, Option, None, Some, Ok, Err, max, refl, sym, subst, arith, append_assoc, append-nil}
use Rattle.std.specs.Prelude.{nat_eq, slice_index}
use Rattle.std.specs.List.{AllByRecursion, starts_with}
use Rattle.std.specs.Int.{from_be_bytes, w32}
use Rattle.std.proofs.lemmas.List.{length-take}
use Rattle.dirac_common.specs.declared.faults.Cause.TheVariants.{BadPrefix}
use Rattle.dirac_common.specs.declared.faults.Fault.{Fault}
use Rattle.dirac_common.specs.declared.faults.Refusal.{Refusal}
use Rattle.dirac_units.specs.declared.info.ParseInfo.{ParseInfo}
use Rattle.dirac_units.specs.declared.unit_place.UnitPlace.{UnitPlace}
use Rattle.dirac_units.specs.Cut.{IsCut, UnitText, after}
use Rattle.dirac_units.specs.Info.{info_of, info_read, number_at, prefix, refusal_of, span_of, unless_refused}
use Rattle.dirac_units.specs.Writing.{IsReadAsWritten, info_bytes}
use Rattle.dirac_units.proofs.Fronts.{chosen, err_is_no_ok, front_whole, ok_same}
use Rattle.dirac_plan_laws.specs.Headers.{IsPictureCode}
use Rattle.dirac_plan_laws.proofs.Each.{each_append, each_drop, each_take}
use Rattle.dirac_encode_laws.specs.Stream.{end_info, end_unit, info_for, unit}
use Rattle.dirac_encode_laws.proofs.Cutting.{nothing_left, one_cut, unit_front_is}
use Rattle.dirac_encode_laws.proofs.Showing.{header_lawful, picture_cut}
use Rattle.dirac_edit_laws.specs.Texts.{PictureText, SequenceText, closed_off, opened_by, picture_text_at, points_up_to, sequences_from, with_picture_text}
use Rattle.dirac_edit_laws.specs.Units.{end_for, pictures_bytes, pictures_units, sequences_bytes, sequences_units, text_for}
use Rattle.dirac_edit_laws.proofs.UnitKinds.{behind_end, behind_header, behind_other, behind_picture, kind_of, of_end, of_header, of_other, of_picture}

-- ---- units fit their offsets

-- a payload of bytes whose unit's length fits its offset
pub record Fits (payload : List ℕ) : Type 0 where
  pub short : 13 + length payload < 2 ^ 32
  pub below : AllByRecursion (λ b. b < 2 ^ 8) payload

below_at : (bytes : List ℕ) (i : ℕ) → AllByRecursion (λ b. b < 2 ^ 8) bytes → slice_index bytes i < 256
below_at [] i all = omega arith
below_at (b ∷ bytes) zero all = omega (arith, all.0)
below_at (b ∷ bytes) (suc i) all = below_at bytes i all.1

-- four bytes
below_four : (a b c d : ℕ) → a < 256 → b < 256 → c < 256 → d < 256 → from_be_bytes w32 (a ∷ b ∷ c ∷ d ∷ []) < 2 ^ 32
below_four a b c d la lb lc ld = omega arith

info_is : (i info : ParseInfo) (o : Option Refusal) → unless_refused i o ≡ Ok info → i ≡ info
info_is i info None is = ok_same (unless_refused i None) i info refl is
info_is i info (Some r) is = absurd (err_is_no_ok (unless_refused i (Some r)) info r refl is)

next_small : (bytes : List ℕ) (info : ParseInfo) → AllByRecursion (λ b. b < 2 ^ 8) bytes → info_read bytes ≡ Ok info → info.next < 2 ^ 32
next_small bytes info all is =
    elim (chosen (starts_with nat_eq bytes prefix) (unless_refused (info_of bytes) (refusal_of (info_of bytes))) (Err (record { at = 0; cause = BadPrefix })) (Ok info) is) [
      | inl p ↦
          let same : info_of bytes ≡ info = info_is (info_of bytes) info (refusal_of (info_of bytes)) p.1 in
          let small : number_at bytes 5 < 2 ^ 32 = below_four (slice_index bytes 5) (slice_index bytes 6) (slice_index bytes 7) (slice_index bytes 8) (below_at bytes 5 all) (below_at bytes 6 all) (below_at bytes 7 all) (below_at bytes 8 all) in
          subst (λ (i : ParseInfo). i.next < 2 ^ 32) same small
      | inr p ↦ absurd (err_is_no_ok (Err (record { at = 0; cause = BadPrefix })) info (record { at = 0; cause = BadPrefix }) refl p.1)
    ]

span_small : (next payload : ℕ) → next < 2 ^ 32 → payload ≤ max 13 next - 13 → 13 + payload < 2 ^ 32
span_small next payload small few = omega arith

-- each unit of bytes
pub units_fit : (units : List UnitText) (unit_place : UnitPlace) (bytes : List ℕ) (end : Option Fault) → AllByRecursion (λ b. b < 2 ^ 8) bytes → IsCut unit_place bytes units end
    → AllByRecursion (λ (u : UnitText). Fits u.payload) units
units_fit [] unit_place bytes end all cut = tt
units_fit (u ∷ units) unit_place bytes end all cut =
    let whole = front_whole unit_place bytes u.info cut.0 in
    let small = next_small (take 13 bytes) u.info (each_take (λ b. b < 2 ^ 8) 13 bytes all) whole.1 in
    let span = span_of u.info in
    let count = span - 13 in
    let rest = drop 13 bytes in
    let few : length (take count rest) ≤ count = omega (arith, length-take count rest) in
    let fits : Fits (take count rest) = record {
      short = span_small u.info.next (length (take count rest)) small few;
      below = each_take (λ b. b < 2 ^ 8) count rest (each_drop (λ b. b < 2 ^ 8) 13 bytes all);
    } in
    (subst Fits (sym cut.1) fits, units_fit units (after unit_place u.info) (drop span bytes) end (each_drop (λ b. b < 2 ^ 8) span bytes all) cut.2)

-- ---- the texts of these units

pub record FitsPicture (p : PictureText) : Type 0 where
  pub code : IsPictureCode p.code
  pub payload : Fits p.payload

pub record FitsSequence (t : SequenceText) : Type 0 where
  pub header : Fits t.header
  pub pictures : AllByRecursion FitsPicture t.pictures

unfoldable pub FitsOpen : Option SequenceText → Type 0
FitsOpen None = Unit {0}
FitsOpen (Some t) = FitsSequence t

closed_fits : (now : Option SequenceText) → FitsOpen now → AllByRecursion FitsSequence (closed_off now)
unfolding FitsOpen
closed_fits None fits = tt
closed_fits (Some t) fits = (fits, tt)

opened_fits : (now : Option SequenceText) (payload : List ℕ) → FitsOpen now → Fits payload → FitsOpen (opened_by now payload)
unfolding FitsOpen
opened_fits None payload fits one = record { header = one; pictures = tt }
opened_fits (Some t) payload fits one = fits

more_fits : (now : Option SequenceText) (p : PictureText) → FitsOpen now → FitsPicture p → FitsOpen (with_picture_text now p)
unfolding FitsOpen
more_fits None p fits one = tt
more_fits (Some t) p fits one = record { header = fits.header; pictures = each_append FitsPicture t.pictures (p ∷ []) fits.pictures (one, tt) }

abbrev AllFit : List SequenceText → Type 0
AllFit sequences = AllByRecursion FitsSequence sequences

pub texts_fit : (units : List UnitText) (index points : ℕ) (now : Option SequenceText) → AllByRecursion (λ (u : UnitText). Fits u.payload) units → FitsOpen now → AllFit (sequences_from index points now units)
unfolding sequences_from FitsOpen
texts_fit [] index points now all fits = closed_fits now fits
texts_fit (u ∷ units) index points now all fits = elim (kind_of u.info.code) [
  | of_header is ↦ subst AllFit (sym (behind_header index points now u units is)) (texts_fit units (suc index) points (opened_by now u.payload) all.1 (opened_fits now u.payload fits all.0))
  | of_end is ↦ subst AllFit (sym (behind_end index points now u units is)) (each_append FitsSequence (closed_off now) (sequences_from (suc index) points None units) (closed_fits now fits) (texts_fit units (suc index) points None all.1 tt))
  | of_picture a b c is ↦
      let up_to = points_up_to points u in
      let p = picture_text_at index up_to u in
      subst AllFit (sym (behind_picture index points now u units a b c)) (texts_fit units (suc index) up_to (with_picture_text now p) all.1 (more_fits now p fits (record { code = is; payload = all.0 })))
  | of_other a b c d ↦ subst AllFit (sym (behind_other index points now u units a b c)) (texts_fit units (suc index) points now all.1 fits)
]

-- ---- their bytes are cut into just their units

-- an end unit before others
pub end_cut : IsReadAsWritten → (previous : ℕ) (unit_place : UnitPlace) (rest : List ℕ) (units : List UnitText) → previous < 2 ^ 32 → IsCut (after unit_place (end_info previous)) rest units None
    → IsCut unit_place (end_unit previous ++ rest) (end_for previous ∷ units) None
end_cut written previous unit_place rest units small more =
    let info = end_info previous in
    subst (λ (l : List ℕ). IsCut unit_place (l ++ rest) (end_for previous ∷ units) None) (append-nil (info_bytes info))
    (one_cut unit_place info [] rest units None (unit_front_is written unit_place info [] rest refl (omega arith) small refl) more)

header_cut : IsReadAsWritten → (previous : ℕ) (payload : List ℕ) (unit_place : UnitPlace) (rest : List ℕ) (units : List UnitText) → 13 + length payload < 2 ^ 32 → previous < 2 ^ 32
    → IsCut (after unit_place (info_for 0x00 previous payload)) rest units None → IsCut unit_place (unit 0x00 previous payload ++ rest) (text_for 0x00 previous payload ∷ units) None
header_cut written previous payload unit_place rest units short small more =
    let info = info_for 0x00 previous payload in
    one_cut unit_place info payload rest units None (unit_front_is written unit_place info payload rest (omega arith) short small (header_lawful previous payload)) more

-- what stands behind an end unit
abbrev IsBehind : List ℕ → List UnitText → Type 0
IsBehind rest units = (next : UnitPlace) → next.closed ≡ true → IsCut next rest units None

pictures_cut : IsReadAsWritten → (pictures : List PictureText) (previous : ℕ) (unit_place : UnitPlace) (rest : List ℕ) (units : List UnitText) → previous < 2 ^ 32 → AllByRecursion FitsPicture pictures
    → IsBehind rest units → IsCut unit_place (pictures_bytes previous pictures ++ rest) (pictures_units previous pictures units) None
unfolding pictures_bytes pictures_units
pictures_cut written [] previous unit_place rest units small all more = end_cut written previous unit_place rest units small (more (after unit_place (end_info previous)) refl)
pictures_cut written (p ∷ pictures) previous unit_place rest units small all more =
    let first = unit p.code previous p.payload in
    let length_of = 13 + length p.payload in
    let later = pictures_cut written pictures length_of (after unit_place (info_for p.code previous p.payload)) rest units all.0.payload.short all.1 more in
    subst (λ (l : List ℕ). IsCut unit_place l (text_for p.code previous p.payload ∷ pictures_units length_of pictures units) None) (sym (append_assoc first (pictures_bytes length_of pictures) rest))
    (picture_cut written p.code previous p.payload unit_place (pictures_bytes length_of pictures ++ rest) (pictures_units length_of pictures units) all.0.code all.0.payload.short small later)

sequence_cut : IsReadAsWritten → (t : SequenceText) (previous : ℕ) (unit_place : UnitPlace) (rest : List ℕ) (units : List UnitText) → previous < 2 ^ 32 → FitsSequence t
    → IsBehind rest units
    → IsCut unit_place ((unit 0x00 previous t.header ++ pictures_bytes (13 + length t.header) t.pictures) ++ rest) (text_for 0x00 previous t.header ∷ pictures_units (13 + length t.header) t.pictures units) None
sequence_cut written t previous unit_place rest units small fits more =
    let first = unit 0x00 previous t.header in
    let length_of = 13 + length t.header in
    let later = pictures_cut written t.pictures length_of (after unit_place (info_for 0x00 previous t.header)) rest units fits.header.short fits.pictures more in
    subst (λ (l : List ℕ). IsCut unit_place l (text_for 0x00 previous t.header ∷ pictures_units length_of t.pictures units) None) (sym (append_assoc first (pictures_bytes length_of t.pictures) rest))
    (header_cut written previous t.header unit_place (pictures_bytes length_of t.pictures ++ rest) (pictures_units length_of t.pictures units) fits.header.short small later)

rest_cut : IsReadAsWritten → (ts : List SequenceText) (previous : ℕ) → previous < 2 ^ 32 → AllByRecursion FitsSequence ts → IsBehind (sequences_bytes previous ts) (sequences_units previous ts)
unfolding sequences_bytes sequences_units
rest_cut written [] previous small all next closed = nothing_left next closed
rest_cut written (t ∷ ts) previous small all next closed =
    sequence_cut written t previous next (sequences_bytes 13 ts) (sequences_units 13 ts) small all.0 (rest_cut written ts 13 (omega arith) all.1)

-- sequences from the start of a stream on
pub sequences_cut : IsReadAsWritten → (t : SequenceText) (ts : List SequenceText) (previous : ℕ) (unit_place : UnitPlace) → previous < 2 ^ 32 → AllByRecursion FitsSequence (t ∷ ts)
    → IsCut unit_place (sequences_bytes previous (t ∷ ts)) (sequences_units previous (t ∷ ts)) None
unfolding sequences_bytes sequences_units
sequences_cut written t ts previous unit_place small all =
    sequence_cut written t previous unit_place (sequences_bytes 13 ts) (sequences_units 13 ts) small all.0 (rest_cut written ts 13 (omega arith) all.1)
