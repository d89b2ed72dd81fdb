-- The streams of parts are one stream without a fault, and joined they show what the whole's stream shows.
use Rattle.std.proofs.Common.{◌≡◌, ◌==◌, ◌<◌, ◌≤◌, ◌+◌, ◌^◌, if◌then◌else◌, Bool, true, false, ℕ, suc, List, [], ◌∷◌, ◌++◌, length, map, None, refl, sym, ◌∙◌, ap, ap₂, subst, arith, append-nil}
use Rattle.std.specs.List.{AllByRecursion, flat_map}
use Rattle.dirac_common.specs.declared.picture.Picture.{Picture}
use Rattle.dirac_types.specs.declared.settings.Settings.{Settings}
use Rattle.dirac_types.specs.Settings.{IsAccepted}
use Rattle.dirac_units.specs.Cut.{UnitText, first_unit_place}
use Rattle.dirac_units.specs.Writing.{IsReadAsWritten}
use Rattle.dirac_sequence.specs.Written.{sequence_payload}
use Rattle.dirac_units.proofs.Cuts.{one_cut}
use Rattle.dirac_picture.specs.Grammar.{is_intra}
use Rattle.dirac_plan.specs.Plan.{plan}
use Rattle.dirac_plan_laws.specs.Plans.{PlansCanBeCoded}
use Rattle.dirac_plan_laws.proofs.Each.{each_append}
use Rattle.dirac_content.specs.Shown.{Outcome, outcome}
use Rattle.dirac_content.specs.StreamState.{stream_begun}
use Rattle.dirac_encode_laws.specs.Coding.{Made, coding, own_index, reconstructions, refs_after}
use Rattle.dirac_encode_laws.specs.Laws.{AreMade, AreSources, JobsAreRead, SourcesShowReconstructions}
use Rattle.dirac_encode_laws.specs.Stream.{IsUnit, StreamsAreCut, closing, end_info, end_unit, header_before, header_unit, last_length, length_before, picture_length, picture_unit, stream_from, stream_of, stream_units, unit, units_in, units_of}
use Rattle.dirac_encode_laws.proofs.Indices.{own_gives, sources_under}
use Rattle.dirac_encode_laws.proofs.Sourcing.{jobs_read_under, sources_made}
use Rattle.dirac_edit_laws.specs.Joined.{joined_bytes}
use Rattle.dirac_edit_laws.specs.Laws.{IsFaultless, ShowsJust}
use Rattle.dirac_edit_laws.specs.Texts.{points_of}
use Rattle.dirac_edit_laws.specs.Cut.{cut_bytes}
use Rattle.dirac_edit_laws.proofs.Cutting.{Fits, FitsPicture}
use Rattle.dirac_edit_laws.proofs.EncodedCut.{Codes, codes_of, header_fits, picture_unit as known_code, stream_is, stream_text, texts_fit_made}
use Rattle.dirac_edit_laws.proofs.EncodedMade.{index_up, points_up, texts_made}
use Rattle.dirac_editing_laws.specs.Editing.{CutsOfAllShowAll, StreamsFollow, shown_by}
use Rattle.dirac_edit_laws.specs.Texts.{sequences}
use Rattle.dirac_editing_laws.proofs.AllShown.{ArePlaced, PlacedOpen, all_cut, texts_placed}
use Rattle.dirac_editing_laws.proofs.Following.{streams_behind}
use Rattle.dirac_editing_laws.proofs.InTurn.{code_below, info_below, unit_below}
use Rattle.dirac_encode_laws.specs.Laws.{Begins}
use Rattle.dirac_parts_laws.specs.Parts.{AreParts, IsPart, JoinedPartsShowTheWhole, units_of_parts, whole_of}
use Rattle.dirac_parts_laws.proofs.Parts.{IsWhole, is_whole, is_coded, parts_join}

abbrev AreBytes : List ℕ → Type 0
AreBytes l = AllByRecursion (λ b. b < 2 ^ 8) l

-- ---- the bytes of a stream

header_below : (t : Settings) (previous : ℕ) → AreBytes (header_unit t previous)
header_below t previous = unit_below 0x00 previous (sequence_payload t) (omega arith) (header_fits t)

before_below : (t : Settings) (m : Made) (previous : ℕ) → AreBytes (header_before t m previous)
before_below t m previous =
    elim (is_intra m.coded.code) as (λ b. AreBytes (if b then header_unit t previous else [])) [
      | true ↦ header_below t previous
      | false ↦ tt
    ]

units_below : (ms : List Made) (t : Settings) (previous index points : ℕ) → AllByRecursion FitsPicture (texts_made index points ms) → AreBytes (units_of t previous ms)
unfolding units_of
units_below [] t previous index points fits = tt
units_below (m ∷ ms) t previous index points fits =
    let header = header_before t m previous in
    let picture = picture_unit t m previous in
    let code : m.coded.code < 2 ^ 8 = code_below m.coded.code (known_code m.coded.code fits.0.code).is in
    each_append (λ b. b < 2 ^ 8) (header ++ picture) (units_of t (picture_length m) ms)
    (each_append (λ b. b < 2 ^ 8) header picture (before_below t m previous) (unit_below m.coded.code (length_before t m previous) m.payload code fits.0.payload))
    (units_below ms t (picture_length m) (suc (index_up index m)) (points_up points m) fits.1)

closing_below : (t : Settings) (ms : List Made) → AreBytes (closing t ms)
closing_below t [] = each_append (λ b. b < 2 ^ 8) (header_unit t 0) (end_unit (13 + length (sequence_payload t))) (header_below t 0) (info_below (end_info (13 + length (sequence_payload t))) (omega arith))
closing_below t (m ∷ ms) = info_below (end_info (last_length 0 (m ∷ ms))) (omega arith)

each_unit : (ms : List Made) (t : Settings) (refs : List Picture) → AreMade t refs ms → AllByRecursion IsUnit ms
each_unit [] t refs all = tt
each_unit (m ∷ ms) t refs all = (all.0.fits, each_unit ms t (refs_after refs m) all.1)

-- ---- a stream without a fault

record IsFaultlessStream (t : Settings) (ps : List Picture) : Type 0 where
  pub faultless : IsFaultless (stream_of t ps) (stream_units t ps)
  pub shown : shown_by (stream_units t ps) ≡ reconstructions t ps

is_faultless : PlansCanBeCoded → JobsAreRead → StreamsAreCut → SourcesShowReconstructions → (t : Settings) (ps : List Picture) → AreSources t ps → IsFaultlessStream t ps
is_faultless plans law cuts shows t ps is =
    let ms = coding t ps in
    let made = (sources_made plans (jobs_read_under law) own_index own_gives t ps (sources_under t ps is)).0 in
    let codes = codes_of t ms [] made in
    let fits = texts_fit_made t ps [] (plan (length ps) t) 0 0 is.short codes in
    let cut = cuts t ms (each_unit ms t [] made) in
    let s = shows t ps is in
    let same = one_cut first_unit_place (stream_of t ps) s.1.units (units_in t ms) s.1.end None s.1.cut cut in
    let out : outcome stream_begun first_unit_place (units_in t ms) None ≡ s.0 =
    sym (ap (λ us. outcome stream_begun first_unit_place us None) same.0) ∙ sym (ap (λ e. outcome stream_begun first_unit_place s.1.units e) same.1) ∙ s.1.same in
    record {
      faultless = record {
        below = each_append (λ b. b < 2 ^ 8) (units_of t 0 ms) (closing t ms) (units_below ms t 0 0 0 fits) (closing_below t ms);
        cut = cut;
        none = ap (λ (o : Outcome). o.end) out ∙ s.3;
      };
      shown = ap (λ (o : Outcome). o.shown) out ∙ s.2;
    }

-- the streams of parts, one behind the other
all_faultless : PlansCanBeCoded → JobsAreRead → StreamsAreCut → SourcesShowReconstructions → (parts : List (List Picture)) (t : Settings) (p : List Picture) → AllByRecursion (IsPart t) (p ∷ parts)
    → IsFaultless (flat_map (stream_of t) (p ∷ parts)) (units_of_parts t (p ∷ parts))
all_faultless plans law cuts shows [] t p all =
    let one = (is_faultless plans law cuts shows t p all.0.sources).faultless in
    subst (λ (l : List ℕ). IsFaultless l (stream_units t p ++ [])) (sym (append-nil (stream_of t p))) (subst (λ (us : List UnitText). IsFaultless (stream_of t p) us) (sym (append-nil (stream_units t p))) one)
all_faultless plans law cuts shows (q ∷ parts) t p all =
    let one = (is_faultless plans law cuts shows t p all.0.sources).faultless in
    let rest = all_faultless plans law cuts shows parts t q all.1 in
    (streams_behind (stream_of t p) (flat_map (stream_of t) (q ∷ parts)) (stream_units t p) (units_of_parts t (q ∷ parts)) one rest).0

-- a stream with pictures has a point
some_points : (t : Settings) (ms : List Made) → 0 < length ms → Begins ms → Codes ms → 0 < points_of (units_in t ms)
unfolding PlacedOpen
some_points t [] some begins codes = absurd (omega arith)
some_points t (m ∷ ms) some begins codes =
    let units = units_in t (m ∷ ms) in
    let top = points_of units in
    let one : sequences units ≡ stream_text t (m ∷ ms) ∷ [] = stream_is t (m ∷ ms) (omega arith) begins codes in
    let placed = subst (AllByRecursion (ArePlaced top)) one (texts_placed units 0 0 top None (omega arith) tt) in
    let first = placed.0.0 in
    let low = first.behind begins.0 in
    let high = first.up_to in
    omega (arith, low, high)

-- the law
pub parts_show : IsReadAsWritten → PlansCanBeCoded → JobsAreRead → StreamsAreCut → SourcesShowReconstructions → JoinedPartsShowTheWhole
parts_show written plans law cuts shows t [] accepted none some all are small = absurd (omega arith)
parts_show written plans law cuts shows t (p ∷ parts) accepted none some all are small =
    let w = is_whole plans law parts t p none all are small in
    let ps = whole_of (p ∷ parts) in
    let units = stream_units t ps in
    let c = (is_coded plans law t ps w.sources w.some).1 in
    let s = is_faultless plans law cuts shows t ps w.sources in
    let points = some_points t (coding t ps) c.some c.begins c.codes in
    let cut = (all_cut written (stream_of t ps) units s.faultless points).1 in
    let joined = parts_join plans law t (p ∷ parts) accepted none some all are small in (
      all_faultless plans law cuts shows parts t p all,
      subst (λ (l : List ℕ). ShowsJust l (reconstructions t ps)) (sym joined) (subst (ShowsJust (cut_bytes units 0 (points_of units))) s.shown cut),
    )
