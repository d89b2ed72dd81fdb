-- The streams of parts, one behind the other and joined, are the cut of the stream of the whole.
use Rattle.std.proofs.Common.{◌≡◌, ◌<◌, ◌≤◌, ◌+◌, ◌-◌, ◌*◌, ◌%◌, ◌^◌, if◌then◌else◌, Bool, true, false, ℕ, ℤ, zero, suc, pos, ◌+ℤ◌, List, [], ◌∷◌, ◌++◌, length, map, drop, None, Some, refl, sym, ◌∙◌, ap, ap₂, subst, arith, append_assoc, append-nil, length-append}
use Rattle.std.specs.Prelude.{int_le, slice_get, ◌-ℤ◌, ◌≤ℤ◌}
use Rattle.std.specs.Int.{cast_signed, cast_unsigned, int_max, int_min, to_be_bytes, w32}
use Rattle.std.specs.List.{AllByRecursion, filter, flat_map}
use Rattle.std.proofs.lemmas.Bool.{and_from, lt-ltb}
use Rattle.std.proofs.lemmas.Int.{int_max_is, int_min_is, ints, of_z-to_z, to_z_pos}
use Rattle.std.proofs.lemmas.List.{length-map, map-append}
use Rattle.std.proofs.lemmas.Nat.{from_be_bytes-to_be_bytes_4}
use Rattle.dirac_common.specs.declared.picture.Picture.{Picture}
use Rattle.dirac_common.specs.Codes.{is_intra}
use Rattle.dirac_types.specs.declared.settings.Settings.{Settings}
use Rattle.dirac_units.specs.Cut.{UnitText}
use Rattle.dirac_sequence.specs.Written.{sequence_of, sequence_payload}
use Rattle.dirac_refs.specs.Delivery.{key_of}
use Rattle.dirac_plan.specs.declared.planned.Planned.{Planned}
use Rattle.dirac_plan.specs.Plan.{plan}
use Rattle.dirac_plan.specs.Planning.{group_pictures}
use Rattle.dirac_plan.proofs.Accepted.{paced}
use Rattle.dirac_plan.proofs.Fields.{length_plan}
use Rattle.dirac_plan_laws.specs.Plans.{PlansCanBeCoded}
use Rattle.dirac_content.specs.StreamState.{is_same}
use Rattle.dirac_encode_laws.specs.Coding.{Made, coded_under, coding, job_of, made, own_index, refs_after}
use Rattle.dirac_encode_laws.specs.Laws.{AreNumbered, AreSources, Begins, JobsAreRead}
use Rattle.dirac_encode_laws.specs.Stream.{end_text, header_text, picture_length, picture_text as made_unit, stream_units, units_from, units_in}
use Rattle.dirac_encode_laws.proofs.Indices.{own_gives, sources_under}
use Rattle.dirac_encode_laws.proofs.Showing.{same_header}
use Rattle.dirac_encode_laws.proofs.Sourcing.{jobs_read_under, sources_made}
use Rattle.dirac_sources.specs.Sources.{IsSource}
use Rattle.dirac_edit_laws.specs.Cut.{cut_bytes, is_between, restricted}
use Rattle.dirac_edit_laws.specs.Joined.{Group, Keyed, bytes_or_bare, first_number, group_of, groups_behind, groups_of, high, joined_sequences, keyed_from, low, may_merge, merged, moved_key, new_number, number_in_payload, renumbered, shift, renumbered_text}
use Rattle.dirac_edit_laws.specs.Texts.{PictureText, SequenceText, picture_text_at, points_of, points_up_to, sequences, sequences_from, with_pictures}
use Rattle.dirac_edit_laws.specs.Units.{sequences_bytes}
use Rattle.dirac_edit_laws.proofs.EncodedCut.{Codes, IsPictureUnit, codes_of, picture_unit, stream_is, stream_text}
use Rattle.dirac_edit_laws.proofs.EncodedMade.{coded_from, index_up, points_up, text_made, texts_made}
use Rattle.dirac_edit_laws.proofs.Parts.{Rises, RisesAll, RisesOpen, filter_in, texts_rise}
use Rattle.dirac_edit_laws.proofs.UnitKinds.{behind_end, behind_header, behind_picture}
use Rattle.dirac_edit_laws.proofs.Walking.{longer}
use Rattle.dirac_editing_laws.proofs.AllShown.{ArePlaced, IsPlaced, PlacedOpen, texts_placed}
use Rattle.dirac_editing_laws.proofs.Stripped.{bytes_stripped, joined_alike, joined_by, stripped, stripped_text}
use Rattle.dirac_parts_laws.specs.Behind.{made_behind, picture_behind}
use Rattle.dirac_parts_laws.specs.Parts.{AreParts, IsPart, PartsJoinToTheWhole, units_of_parts, whole_of}
use Rattle.dirac_parts_laws.proofs.Behind.{behind_alike}
use Rattle.dirac_parts_laws.proofs.Payloads.{payload_begins}

-- ---- what stands in a stream

-- a picture's code and payload, and a part's sequence
abbrev bare_text : Made → PictureText
bare_text m = record { index = 0; points = 0; code = m.coded.code; payload = m.payload }

abbrev part_text : Settings → List Made → SequenceText
part_text t ms = record { header = sequence_payload t; pictures = map bare_text ms }

-- an open sequence with more pictures
abbrev with_more : SequenceText → List PictureText → SequenceText
with_more t ps = record { header = t.header; pictures = t.pictures ++ ps }

more_same : (t : SequenceText) (q p : PictureText) (ps : List PictureText) → stripped q ≡ stripped p → stripped_text (with_more (with_more t (q ∷ [])) ps) ≡ stripped_text (with_more t (p ∷ ps))
more_same t q p ps same =
    let make : List PictureText → SequenceText = λ l. record { header = t.header; pictures = l } in
    ap (λ l. make (map stripped l)) (append_assoc t.pictures (q ∷ []) ps) ∙ ap make (map-append stripped t.pictures (q ∷ ps))
    ∙ ap (λ (x : PictureText). make (map stripped t.pictures ++ x ∷ map stripped ps)) same ∙ sym (ap make (map-append stripped t.pictures (p ∷ ps)))

none_more : (t : SequenceText) → stripped_text t ≡ stripped_text (with_more t [])
none_more t = let same : t.pictures ++ [] ≡ t.pictures = append-nil t.pictures in ap (λ ps. stripped_text (record { header = t.header; pictures = ps })) (sym same)

-- the sequence that was open, with these pictures, and then the rest
record ReadsOn (t : SequenceText) (rest : List UnitText) (ts : List SequenceText) : Type 0 where
  pub first : SequenceText
  pub index : ℕ
  pub points : ℕ
  pub is : ts ≡ first ∷ sequences_from index points None rest
  pub same : stripped_text first ≡ stripped_text t

unit_one : (t : Settings) (now : SequenceText) (previous index points : ℕ) (u : UnitText) (rest : List UnitText) (b : Bool) → IsPictureUnit u.info.code
    → sequences_from index points (Some now) ((if b then header_text t previous ∷ [] else []) ++ u ∷ rest)
    ≡ sequences_from (suc (if b then suc index else index)) (points_up_to points u) (Some (longer now (picture_text_at (if b then suc index else index) (points_up_to points u) u))) rest
unfolding header_text
unit_one t now previous index points u rest true is =
    behind_header index points (Some now) (header_text t previous) (u ∷ rest) refl ∙ behind_picture (suc index) points (Some now) u rest is.header is.end is.is
unit_one t now previous index points u rest false is = behind_picture index points (Some now) u rest is.header is.end is.is

before_rest : (t : Settings) (now : SequenceText) (previous index points : ℕ) (b : Bool) (u : UnitText) (units rest : List UnitText)
    → sequences_from index points (Some now) (((if b then header_text t previous ∷ [] else []) ++ u ∷ units) ++ rest) ≡ sequences_from index points (Some now) ((if b then header_text t previous ∷ [] else []) ++ u ∷ (units ++ rest))
before_rest t now previous index points b u units rest =
    ap (sequences_from index points (Some now)) (append_assoc (if b then header_text t previous ∷ [] else []) (u ∷ units) rest)

units_read : (ms : List Made) (t : Settings) (now : SequenceText) (previous index points : ℕ) (rest : List UnitText) → Codes ms
    → ReadsOn (with_more now (map bare_text ms)) rest (sequences_from index points (Some now) (units_from t previous ms ++ rest))
unfolding units_from made_unit end_text
units_read [] t now previous index points rest codes = record {
  first = now;
  index = suc index;
  points = points;
  is = behind_end index points (Some now) (end_text previous) rest refl;
  same = none_more now;
}
units_read (m ∷ ms) t now previous index points rest codes =
    let u = made_unit t m previous in
    let units = units_from t (picture_length m) ms in
    let q = text_made index points m in
    let later = units_read ms t (longer now q) (picture_length m) (suc (index_up index m)) (points_up points m) rest codes.1 in
    record {
      first = later.first;
      index = later.index;
      points = later.points;
      is = before_rest t now previous index points (is_intra m.coded.code) u units rest ∙ unit_one t now previous index points u (units ++ rest) (is_intra m.coded.code) (picture_unit m.coded.code codes.0) ∙ later.is;
      same = later.same ∙ more_same now q (bare_text m) (map bare_text ms) refl;
    }

-- a stream begins with its header
opens_on : (t : Settings) (us : List UnitText) (index points : ℕ) → sequences_from index points None (header_text t 0 ∷ us) ≡ sequences_from index points (Some (record { header = sequence_payload t; pictures = [] })) (header_text t 0 ∷ us)
unfolding header_text
opens_on t us index points =
    behind_header index points None (header_text t 0) us refl ∙ sym (behind_header index points (Some (record { header = sequence_payload t; pictures = [] })) (header_text t 0) us refl)

-- a part's coded pictures: they begin with an intra picture
pub record IsCoded (n : ℕ) (ms : List Made) : Type 0 where
  pub codes : Codes ms
  pub begins : Begins ms
  pub count : length ms ≡ n
  pub some : 0 < n
  pub below : AllByRecursion (λ (m : Made). m.coded.header.number < n) ms
  pub fronts : AllByRecursion (λ (m : Made). m.payload ≡ to_be_bytes w32 m.coded.header.number ++ drop 4 m.payload) ms
  pub last : (i : ℕ) × (m : Made) × (slice_get ms i ≡ Some m) × (m.coded.header.number ≡ n - 1)

stream_read : (t : Settings) (m : Made) (ms : List Made) (index points : ℕ) (rest : List UnitText) → is_intra m.coded.code ≡ true → Codes (m ∷ ms)
    → ReadsOn (part_text t (m ∷ ms)) rest (sequences_from index points None (units_in t (m ∷ ms) ++ rest))
unfolding units_from
stream_read t m ms index points rest intra codes =
    let bare : SequenceText = record { header = sequence_payload t; pictures = [] } in
    let us = made_unit t m 0 ∷ units_from t (picture_length m) ms in
    let front : Bool → List UnitText = λ b. ((if b then header_text t 0 ∷ [] else []) ++ us) ++ rest in
    let opens : sequences_from index points None (front (is_intra m.coded.code)) ≡ sequences_from index points (Some bare) (front (is_intra m.coded.code)) =
    ap (λ b. sequences_from index points None (front b)) intra ∙ opens_on t (us ++ rest) index points ∙ sym (ap (λ b. sequences_from index points (Some bare) (front b)) intra) in
    let r = units_read (m ∷ ms) t bare 0 index points rest codes in
    record { first = r.first; index = r.index; points = r.points; is = opens ∙ r.is; same = r.same }

-- what is known of each part
abbrev pub AreCoded : List (List Made) → Type 0
AreCoded parts = AllByRecursion (λ (ms : List Made). IsCoded (length ms) ms) parts

parts_read : (parts : List (List Made)) (t : Settings) (index points : ℕ) → AreCoded parts → map stripped_text (sequences_from index points None (flat_map (units_in t) parts)) ≡ map stripped_text (map (part_text t) parts)
unfolding sequences_from
parts_read [] t index points all = refl
parts_read ([] ∷ parts) t index points all = absurd (omega (arith, all.0.some))
parts_read ((m ∷ ms) ∷ parts) t index points all =
    let rest = flat_map (units_in t) parts in
    let r = stream_read t m ms index points rest all.0.begins.0 all.0.codes in
    ap (map stripped_text) r.is ∙ ap₂ (λ (x : SequenceText) (l : List SequenceText). x ∷ l) r.same (parts_read parts t r.index r.points all.1)

-- ---- keys

-- a picture's text whose number is moved on
abbrev pub text_behind : ℕ → Made → PictureText
text_behind by m = record { index = 0; points = 0; code = m.coded.code; payload = to_be_bytes w32 (m.coded.header.number + by) ++ drop 4 m.payload }

abbrev keys_of : List Made → List Keyed
keys_of ms = map (keyed_from 0) (map bare_text ms)

number_front : (m : Made) → m.coded.header.number < 2 ^ 31 → m.payload ≡ to_be_bytes w32 m.coded.header.number ++ drop 4 m.payload → number_in_payload m.payload ≡ m.coded.header.number
number_front m small is = ap number_in_payload is ∙ from_be_bytes-to_be_bytes_4 m.coded.header.number (omega arith)

key_plain : (n : ℕ) → n < 2 ^ 31 → key_of 0 n ≡ pos n
key_plain n small =
    let same : (n + 2 ^ 32) % 2 ^ 32 ≡ n = omega arith in
    ap (cast_signed w32) same ∙ to_z_pos w32 n (omega arith)

key_is : (m : Made) → m.coded.header.number < 2 ^ 31 → m.payload ≡ to_be_bytes w32 m.coded.header.number ++ drop 4 m.payload → key_of 0 (number_in_payload m.payload) ≡ pos m.coded.header.number
key_is m small is = ap (key_of 0) (number_front m small is) ∙ key_plain m.coded.header.number small

-- bounds of the keys of pictures below a number
record Keys (n : ℕ) (ks : List Keyed) : Type 0 where
  pub high_most : high ks ≤ℤ pos (n - 1)
  pub low_least : pos 0 ≤ℤ low ks

low_most : (ks : List Keyed) → low ks ≤ℤ pos 0
low_most [] = omega (arith, ints)
low_most (k ∷ ks) = omega (arith, ints, int_min_is k.key (low ks), low_most ks)

high_least : (ks : List Keyed) → pos 0 ≤ℤ high ks
high_least [] = omega (arith, ints)
high_least (k ∷ ks) = omega (arith, ints, int_max_is k.key (high ks), high_least ks)

abbrev pub AreFronts : List Made → Type 0
AreFronts ms = AllByRecursion (λ (m : Made). m.payload ≡ to_be_bytes w32 m.coded.header.number ++ drop 4 m.payload) ms

keys_bounded : (ms : List Made) (n : ℕ) → 0 < n → n ≤ 2 ^ 31 → AllByRecursion (λ (m : Made). m.coded.header.number < n) ms → AreFronts ms → Keys n (keys_of ms)
keys_bounded [] n some small below fronts = record { high_most = omega (arith, ints); low_least = omega (arith, ints) }
keys_bounded (m ∷ ms) n some small below fronts =
    let key = key_of 0 (number_in_payload m.payload) in
    let is : key ≡ pos m.coded.header.number = key_is m (omega (arith, below.0)) fronts.0 in
    let rest = keys_bounded ms n some small below.1 fronts.1 in
    let up : m.coded.header.number < n = below.0 in
    record {
      high_most = most key m.coded.header.number n (high (keys_of ms)) is up rest.high_most;
      low_least = least key m.coded.header.number (low (keys_of ms)) is rest.low_least;
    }
  where
    most : (key : ℤ) (k n : ℕ) (h : ℤ) → key ≡ pos k → k < n → h ≤ℤ pos (n - 1) → int_max key h ≤ℤ pos (n - 1)
    most key k n h is up rest = omega (arith, ints, int_max_is key h)

    least : (key : ℤ) (k : ℕ) (l : ℤ) → key ≡ pos k → pos 0 ≤ℤ l → pos 0 ≤ℤ int_min key l
    least key k l is rest = omega (arith, ints, int_min_is key l)

key_reached : (ms : List Made) (i : ℕ) (m : Made) → slice_get ms i ≡ Some m → key_of 0 (number_in_payload m.payload) ≤ℤ high (keys_of ms)
key_reached [] i m is = absurd cc
key_reached (x ∷ ms) zero m is =
    let same : x ≡ m = cc in
    let key = key_of 0 (number_in_payload x.payload) in
    subst (λ (y : Made). key_of 0 (number_in_payload y.payload) ≤ℤ int_max key (high (keys_of ms))) same (omega (arith, ints, int_max_is key (high (keys_of ms))))
key_reached (x ∷ ms) (suc i) m is =
    let key = key_of 0 (number_in_payload x.payload) in
    omega (arith, ints, int_max_is key (high (keys_of ms)), key_reached ms i m is)

-- what holds of an item
item_holds : {X : Type 0} (P : X → Type 0) (xs : List X) (i : ℕ) (x : X) → AllByRecursion P xs → slice_get xs i ≡ Some x → P x
item_holds P [] i x all is = absurd cc
item_holds P (y ∷ xs) zero x all is = let same : y ≡ x = cc in subst P same all.0
item_holds P (y ∷ xs) (suc i) x all is = item_holds P xs i x all.1 is

between_is : (z : ℤ) (n : ℕ) → z ≤ℤ pos n → pos n ≤ℤ z → z ≡ pos n
between_is z n a b = omega (arith, ints)

high_is : (n : ℕ) (ms : List Made) → IsCoded n ms → n ≤ 2 ^ 31 → high (keys_of ms) ≡ pos (n - 1)
high_is n ms c small =
    let l = c.last in
    let some : 0 < n = c.some in
    let bounds = keys_bounded ms n some small c.below c.fronts in
    let is : key_of 0 (number_in_payload l.1.payload) ≡ pos (n - 1) =
    key_is l.1 (omega (arith, l.3)) (item_holds (λ (m : Made). m.payload ≡ to_be_bytes w32 m.coded.header.number ++ drop 4 m.payload) ms l.0 l.1 c.fronts l.2) ∙ ap pos l.3 in
    between_is (high (keys_of ms)) (n - 1) bounds.high_most (subst (λ z. z ≤ℤ high (keys_of ms)) is (key_reached ms l.0 l.1 l.2))

low_is : (n : ℕ) (ms : List Made) → IsCoded n ms → n ≤ 2 ^ 31 → low (keys_of ms) ≡ pos 0
low_is n ms c small =
    let some : 0 < n = c.some in
    between_is (low (keys_of ms)) 0 (low_most (keys_of ms)) (keys_bounded ms n some small c.below c.fronts).low_least

-- keys that are moved
high_both : (xs ys : List Keyed) → high (xs ++ ys) ≡ int_max (high xs) (high ys)
high_both [] ys = sym (zero_max (high ys) (high_least ys))
  where
    zero_max : (z : ℤ) → pos 0 ≤ℤ z → int_max (pos 0) z ≡ z
    zero_max z up = omega (arith, ints, int_max_is (pos 0) z)
high_both (x ∷ xs) ys = ap (int_max x.key) (high_both xs ys) ∙ three x.key (high xs) (high ys)
  where
    three : (a b c : ℤ) → int_max a (int_max b c) ≡ int_max (int_max a b) c
    three a b c = omega (arith, ints, int_max_is a (int_max b c), int_max_is b c, int_max_is (int_max a b) c, int_max_is a b)

moved_most : (ks : List Keyed) (by top : ℕ) → high ks ≤ℤ pos top → high (map (moved_key (pos by)) ks) ≤ℤ pos (top + by)
moved_most [] by top most = omega (arith, ints)
moved_most (k ∷ ks) by top most =
    let rest = moved_most ks by top (under (high ks) k.key (pos top) most) in
    up k.key (high ks) (high (map (moved_key (pos by)) ks)) by top most rest
  where
    under : (h k top : ℤ) → int_max k h ≤ℤ top → h ≤ℤ top
    under h k top most = omega (arith, ints, int_max_is k h)

    up : (k h m : ℤ) (by top : ℕ) → int_max k h ≤ℤ pos top → m ≤ℤ pos (top + by) → int_max (k +ℤ pos by) m ≤ℤ pos (top + by)
    up k h m by top most rest = omega (arith, ints, int_max_is k h, int_max_is (k +ℤ pos by) m)

moved_least : (ks : List Keyed) (by : ℕ) → 0 < length ks → pos 0 ≤ℤ low ks → (high ks +ℤ pos by) ≤ℤ high (map (moved_key (pos by)) ks)
moved_least [] by some least = absurd (omega arith)
moved_least (k ∷ []) by some least = one k.key by least
  where
    one : (k : ℤ) (by : ℕ) → pos 0 ≤ℤ int_min k (pos 0) → (int_max k (pos 0) +ℤ pos by) ≤ℤ int_max (k +ℤ pos by) (pos 0)
    one k by least = omega (arith, ints, int_min_is k (pos 0), int_max_is k (pos 0), int_max_is (k +ℤ pos by) (pos 0))
moved_least (k ∷ l ∷ ks) by some least =
    let rest = moved_least (l ∷ ks) by (omega arith) (above k.key (low (l ∷ ks)) least) in
    more k.key (high (l ∷ ks)) (high (map (moved_key (pos by)) (l ∷ ks))) by rest
  where
    above : (k l : ℤ) → pos 0 ≤ℤ int_min k l → pos 0 ≤ℤ l
    above k l least = omega (arith, ints, int_min_is k l)

    more : (k h m : ℤ) (by : ℕ) → (h +ℤ pos by) ≤ℤ m → (int_max k h +ℤ pos by) ≤ℤ int_max (k +ℤ pos by) m
    more k h m by rest = omega (arith, ints, int_max_is k h, int_max_is (k +ℤ pos by) m)

moved_is : (ks : List Keyed) (by top : ℕ) → 0 < length ks → high ks ≡ pos top → pos 0 ≤ℤ low ks → high (map (moved_key (pos by)) ks) ≡ pos (top + by)
moved_is ks by top some is least =
    between_is (high (map (moved_key (pos by)) ks)) (top + by) (moved_most ks by top (subst (λ z. high ks ≤ℤ z) is (itself (high ks))))
    (sum (high ks) top by (high (map (moved_key (pos by)) ks)) is (moved_least ks by some least))
  where
    itself : (z : ℤ) → z ≤ℤ z
    itself z = omega (arith, ints)

    sum : (h : ℤ) (top by : ℕ) (m : ℤ) → h ≡ pos top → (h +ℤ pos by) ≤ℤ m → pos (top + by) ≤ℤ m
    sum h top by m is least = omega (arith, ints)

-- ---- numbers

cast_plain : (j : ℕ) → j < 2 ^ 31 → cast_unsigned w32 (pos j) ≡ j
cast_plain j small = ap (cast_unsigned w32) (sym (to_z_pos w32 j small)) ∙ of_z-to_z w32 j (omega arith)

sum_is : (k by : ℕ) → pos k +ℤ pos by ≡ pos (k + by)
sum_is k by = omega (arith, ints)

new_is : (k by : ℕ) → k + by < 2 ^ 31 → new_number 0 (pos k +ℤ pos by) ≡ k + by
new_is k by small =
    let same : (0 + (k + by)) % 2 ^ 32 ≡ k + by = omega arith in
    ap (new_number 0) (sum_is k by) ∙ ap (λ n. (0 + n) % 2 ^ 32) (cast_plain (k + by) small) ∙ same

-- a text with this number
abbrev with_number : Made → ℕ → PictureText
with_number m n = record { index = 0; points = 0; code = m.coded.code; payload = to_be_bytes w32 n ++ drop 4 m.payload }

moved_texts : (ms : List Made) (n by : ℕ) → n + by ≤ 2 ^ 31 → AllByRecursion (λ (m : Made). m.coded.header.number < n) ms → AreFronts ms → map (renumbered 0) (map (moved_key (pos by)) (keys_of ms)) ≡ map (text_behind by) ms
moved_texts [] n by small below fronts = refl
moved_texts (m ∷ ms) n by small below fronts =
    let k = m.coded.header.number in
    let less : k < n = below.0 in
    let number : new_number 0 (key_of 0 (number_in_payload m.payload) +ℤ pos by) ≡ k + by = ap (λ z. new_number 0 (z +ℤ pos by)) (key_is m (omega arith) fronts.0) ∙ new_is k by (omega arith) in
    ap₂ (λ (x : ℕ) (l : List PictureText). with_number m x ∷ l) number (moved_texts ms n by small below.1 fronts.1)

own_texts : (ms : List Made) (n : ℕ) → n ≤ 2 ^ 31 → AllByRecursion (λ (m : Made). m.coded.header.number < n) ms → AreFronts ms → map (renumbered 0) (keys_of ms) ≡ map (text_behind 0) ms
own_texts [] n small below fronts = refl
own_texts (m ∷ ms) n small below fronts =
    let k = m.coded.header.number in
    let less : k < n = below.0 in
    let same : (0 + k) % 2 ^ 32 ≡ k + 0 = omega arith in
    let number : new_number 0 (key_of 0 (number_in_payload m.payload)) ≡ k + 0 = ap (new_number 0) (key_is m (omega arith) fronts.0) ∙ ap (λ x. (0 + x) % 2 ^ 32) (cast_plain k (omega arith)) ∙ same in
    ap₂ (λ (x : ℕ) (l : List PictureText). with_number m x ∷ l) number (own_texts ms n small below.1 fronts.1)

-- ---- joined

-- a part as a group
abbrev part_group : Settings → List Made → Group
part_group t ms = record { header = sequence_payload t; first = 0; pictures = keys_of ms }

first_zero : (n : ℕ) (ms : List Made) → IsCoded n ms → n ≤ 2 ^ 31 → first_number (map bare_text ms) ≡ 0
first_zero n [] c small = refl
first_zero n (m ∷ ms) c small =
    let less : m.coded.header.number < n = c.below.0 in
    number_front m (omega arith) c.fronts.0 ∙ c.begins.1

group_is : (t : Settings) (n : ℕ) (ms : List Made) → IsCoded n ms → n ≤ 2 ^ 31 → group_of (part_text t ms) ≡ part_group t ms
group_is t n ms c small =
    ap (λ (k : ℕ). let g : Group = record { header = sequence_payload t; first = k; pictures = map (keyed_from k) (map bare_text ms) } in g) (first_zero n ms c small)

-- how many pictures parts have
abbrev pub total : List (List Made) → ℕ
total [] = 0
total (ms ∷ parts) = length ms + total parts

groups_are : (parts : List (List Made)) (t : Settings) → AreCoded parts → total parts ≤ 2 ^ 31 → map group_of (map (part_text t) parts) ≡ map (part_group t) parts
groups_are [] t all small = refl
groups_are (ms ∷ parts) t all small =
    ap₂ (λ (g : Group) (l : List Group). g ∷ l) (group_is t (length ms) ms all.0 (omega arith)) (groups_are parts t all.1 (omega arith))

-- what was joined so far: that many pictures, of these texts
record IsDone (t : Settings) (n : ℕ) (xs : List PictureText) (now : Group) : Type 0 where
  pub header : now.header ≡ sequence_payload t
  pub first : now.first ≡ 0
  pub some : 0 < n
  pub top : high now.pictures ≡ pos (n - 1)
  pub texts : map (renumbered 0) now.pictures ≡ xs

shift_is : (now g : Group) (n : ℕ) → 0 < n → high now.pictures ≡ pos (n - 1) → low g.pictures ≡ pos 0 → shift now g ≡ pos n
shift_is now g n some up down = ap₂ (λ (h l : ℤ). (h +ℤ pos 1) -ℤ l) up down ∙ plain n some
  where
    plain : (n : ℕ) → 0 < n → (pos (n - 1) +ℤ pos 1) -ℤ pos 0 ≡ pos n
    plain n some = omega (arith, ints)

inside_is : (n k : ℕ) → 0 < k → n + k ≤ 2 ^ 31 → int_le (pos n +ℤ pos (k - 1)) (pos (2 ^ 31 - 1)) ≡ true
inside_is n k some small =
    let within : n + (k - 1) ≤ 2 ^ 31 - 1 = omega arith in
    ap (λ z. int_le z (pos (2 ^ 31 - 1))) (sum_is n (k - 1)) ∙ within_is (n + (k - 1)) within
  where
    within_is : (m : ℕ) → m ≤ 2 ^ 31 - 1 → int_le (pos m) (pos (2 ^ 31 - 1)) ≡ true
    within_is m small = grind (arith, ints)

some_keys : (n : ℕ) (ms : List Made) → IsCoded n ms → 0 < length (keys_of ms)
some_keys n ms c =
    let some : 0 < n = c.some in
    omega (arith, length-map ms bare_text, length-map (map bare_text ms) (keyed_from 0), c.count, some)

-- one part more
record Joins (t : Settings) (n : ℕ) (xs : List PictureText) (now : Group) (ms : List Made) : Type 0 where
  pub may : may_merge now (part_group t ms) ≡ true
  pub done : IsDone t (n + length ms) (xs ++ map (text_behind n) ms) (merged now (part_group t ms))

joins : (t : Settings) (n : ℕ) (xs : List PictureText) (now : Group) (ms : List Made) → IsDone t n xs now → IsCoded (length ms) ms → n + length ms ≤ 2 ^ 31 → Joins t n xs now ms
joins t n xs now ms d c small =
    let k = length ms in
    let g = part_group t ms in
    let ks = keys_of ms in
    let up = high_is k ms c (omega arith) in
    let down = low_is k ms c (omega arith) in
    let by = shift_is now g n d.some d.top down in
    let some : 0 < k = c.some in
    let least : pos 0 ≤ℤ low ks = (keys_bounded ms k some (omega arith) c.below c.fronts).low_least in
    let moved = moved_is ks n (k - 1) (some_keys k ms c) up least in
    let both : high (merged now g).pictures ≡ pos (n + k - 1) =
    ap (λ z. high (now.pictures ++ map (moved_key z) ks)) by ∙ high_both now.pictures (map (moved_key (pos n)) ks)
    ∙ ap₂ (λ (a b : ℤ). int_max a b) d.top moved ∙ greater n k d.some some in
    record {
      may =
          and_from (is_same g.header now.header) (int_le (shift now g +ℤ high ks) (pos (2 ^ 31 - 1)))
          (ap (λ l. is_same (sequence_payload t) l) d.header ∙ same_header (sequence_payload t))
          (ap₂ (λ (a b : ℤ). int_le (a +ℤ b) (pos (2 ^ 31 - 1))) by up ∙ inside_is n k some small);
      done = record {
        header = d.header;
        first = d.first;
        some = omega (arith, d.some);
        top = both;
        texts =
            map-append (renumbered 0) now.pictures (map (moved_key (shift now g)) ks)
            ∙ ap₂ (λ (x y : List PictureText). x ++ y) d.texts (ap (λ z. map (renumbered 0) (map (moved_key z) ks)) by ∙ moved_texts ms k n (omega arith) c.below c.fronts);
      };
    }
  where
    greater : (n k : ℕ) → 0 < n → 0 < k → int_max (pos (n - 1)) (pos (k - 1 + n)) ≡ pos (n + k - 1)
    greater n k some some' = omega (arith, ints, int_max_is (pos (n - 1)) (pos (k - 1 + n)))

-- the texts of parts, one behind the other
abbrev pub all_texts : ℕ → List (List Made) → List PictureText
all_texts n [] = []
all_texts n (ms ∷ parts) = map (text_behind n) ms ++ all_texts (n + length ms) parts

abbrev one_text : Settings → List PictureText → SequenceText
one_text t xs = record { header = sequence_payload t; pictures = xs }

all_join : (parts : List (List Made)) (t : Settings) (n : ℕ) (xs : List PictureText) (now : Group) → IsDone t n xs now → AreCoded parts → n + total parts ≤ 2 ^ 31
    → map renumbered_text (groups_behind now (map (part_group t) parts)) ≡ one_text t (xs ++ all_texts n parts) ∷ []
unfolding groups_behind
all_join [] t n xs now d all small =
    ap₂ (λ (h : List ℕ) (f : ℕ). (let x : SequenceText = record { header = h; pictures = map (renumbered f) now.pictures } in x) ∷ []) d.header d.first
    ∙ ap (λ (l : List PictureText). one_text t l ∷ []) (d.texts ∙ sym (append-nil xs))
all_join (ms ∷ parts) t n xs now d all small =
    let g = part_group t ms in
    let rest = map (part_group t) parts in
    let j = joins t n xs now ms d all.0 (omega arith) in
    ap (λ (b : Bool). map renumbered_text (if b then groups_behind (merged now g) rest else now ∷ groups_behind g rest)) j.may
    ∙ all_join parts t (n + length ms) (xs ++ map (text_behind n) ms) (merged now g) j.done all.1 (omega arith)
    ∙ ap (λ (l : List PictureText). one_text t l ∷ []) (append_assoc xs (map (text_behind n) ms) (all_texts (n + length ms) parts))

some_texts : (parts : List (List Made)) (t : Settings) → AreCoded parts → with_pictures (map (part_text t) parts) ≡ map (part_text t) parts
some_texts [] t all = refl
some_texts (ms ∷ parts) t all =
    let some : 0 < length ms = all.0.some in
    let rest = with_pictures (map (part_text t) parts) in
    ap (λ (b : Bool). if b then part_text t ms ∷ rest else rest) (lt-ltb 0 (length (map bare_text ms)) (omega (arith, length-map ms bare_text)))
    ∙ ap (λ (l : List SequenceText). part_text t ms ∷ l) (some_texts parts t all.1)

joined_parts : (ms : List Made) (parts : List (List Made)) (t : Settings) → AreCoded (ms ∷ parts) → total (ms ∷ parts) ≤ 2 ^ 31 → joined_sequences (map (part_text t) (ms ∷ parts)) ≡ one_text t (all_texts 0 (ms ∷ parts)) ∷ []
joined_parts ms parts t all small =
    let k = length ms in
    let few : k ≤ 2 ^ 31 = omega arith in
    let begin : IsDone t k (map (text_behind 0) ms) (part_group t ms) = record {
      header = refl;
      first = refl;
      some = all.0.some;
      top = high_is k ms all.0 few;
      texts = own_texts ms k few all.0.below all.0.fronts;
    } in
    ap (λ (l : List SequenceText). map renumbered_text (groups_of (map group_of l))) (some_texts (ms ∷ parts) t all)
    ∙ ap (λ (l : List Group). map renumbered_text (groups_of l)) (groups_are (ms ∷ parts) t all small)
    ∙ all_join parts t k (map (text_behind 0) ms) (part_group t ms) begin all.1 small
    ∙ ap (λ (n : ℕ). one_text t (map (text_behind 0) ms ++ all_texts n parts) ∷ []) (let same : k ≡ 0 + k = omega arith in same)

-- ---- the whole

behind_twice : (n by : ℕ) (ms : List Made) → map (text_behind by) (map (made_behind n) ms) ≡ map (text_behind (by + n)) ms
behind_twice n by [] = refl
behind_twice n by (m ∷ ms) =
    let same : m.coded.header.number + n + by ≡ m.coded.header.number + (by + n) = omega arith in
    ap₂ (λ (x : ℕ) (l : List PictureText). with_number m x ∷ l) same (behind_twice n by ms)

bare_behind : (ms : List Made) → AreFronts ms → map bare_text ms ≡ map (text_behind 0) ms
bare_behind [] fronts = refl
bare_behind (m ∷ ms) fronts =
    let same : m.coded.header.number ≡ m.coded.header.number + 0 = omega arith in
    ap₂ (λ (p : List ℕ) (l : List PictureText). (let x : PictureText = record { index = 0; points = 0; code = m.coded.code; payload = p } in x) ∷ l)
    (fronts.0 ∙ ap (λ n. to_be_bytes w32 n ++ drop 4 m.payload) same) (bare_behind ms fronts.1)

-- ---- what is known of coded sources

coded_length : (qs : List Planned) (t : Settings) (ps refs : List Picture) → length (coded_from t refs (map (job_of ps) qs)) ≡ length qs
unfolding coded_under
coded_length [] t ps refs = refl
coded_length (q ∷ qs) t ps refs = ap suc (coded_length qs t ps (refs_after refs (made t refs (job_of ps q))))

coded_below : (qs : List Planned) (t : Settings) (ps refs : List Picture) (n : ℕ) → AllByRecursion (λ (q : Planned). q.number < n) qs → AllByRecursion (λ (m : Made). m.coded.header.number < n) (coded_from t refs (map (job_of ps) qs))
unfolding coded_under
coded_below [] t ps refs n below = tt
coded_below (q ∷ qs) t ps refs n below = (below.0, coded_below qs t ps (refs_after refs (made t refs (job_of ps q))) n below.1)

coded_fronts : (qs : List Planned) (t : Settings) (ps refs : List Picture) → AreFronts (coded_from t refs (map (job_of ps) qs))
unfolding coded_under
coded_fronts [] t ps refs = tt
coded_fronts (q ∷ qs) t ps refs =
    let m = made t refs (job_of ps q) in
    (payload_begins (sequence_of t) t.blocks t.precision m.coded, coded_fronts qs t ps (refs_after refs m))

coded_at : (qs : List Planned) (t : Settings) (ps refs : List Picture) (i : ℕ) (q : Planned) → slice_get qs i ≡ Some q
    → (m : Made) × (slice_get (coded_from t refs (map (job_of ps) qs)) i ≡ Some m) × (m.coded.header.number ≡ q.number)
unfolding coded_under
coded_at [] t ps refs i q is = absurd cc
coded_at (x ∷ qs) t ps refs zero q is =
    let same : x ≡ q = cc in
    (made t refs (job_of ps x), refl, ap (λ (y : Planned). y.number) same)
coded_at (x ∷ qs) t ps refs (suc i) q is = coded_at qs t ps (refs_after refs (made t refs (job_of ps x))) i q is

pub is_coded : PlansCanBeCoded → JobsAreRead → (t : Settings) (ps : List Picture) → AreSources t ps → 0 < length ps → (length (coding t ps) ≡ length ps) × IsCoded (length (coding t ps)) (coding t ps)
is_coded plans law t ps is some =
    let n = length ps in
    let gop : 0 < t.gop = omega (arith, (paced t is.accepted).gop_least) in
    let made = sources_made plans (jobs_read_under law) own_index own_gives t ps (sources_under t ps is) in
    let count : length (coding t ps) ≡ n = coded_length (plan n t) t ps [] ∙ length_plan n t gop in
    let p = plans t n is.accepted (omega (arith, is.below_2_31)) in
    let a = p.all (n - 1) (omega arith) in
    let l = coded_at (plan n t) t ps [] a.0 a.1 a.2 in
    let last : l.0.coded.header.number ≡ length (coding t ps) - 1 = l.2 ∙ a.3 ∙ ap (λ k. k - 1) (sym count) in (
      count,
      record {
        codes = codes_of t (coding t ps) [] made.0;
        begins = made.1;
        count = refl;
        some = omega (arith, count);
        below = subst (λ (k : ℕ). AllByRecursion (λ (m : Made). m.coded.header.number < k) (coding t ps)) (sym count) (coded_below (plan n t) t ps [] n p.below);
        fronts = coded_fronts (plan n t) t ps [];
        last = (a.0, l.0, l.1, last);
      },
    )

-- ---- the whole source

numbered_on : (xs ys : List Picture) (k : ℕ) → AreNumbered k xs → AreNumbered (k + length xs) ys → AreNumbered k (xs ++ ys)
numbered_on [] ys k first second = subst (λ n. AreNumbered n ys) (let same : k + 0 ≡ k = omega arith in same) second
numbered_on (x ∷ xs) ys k first second =
    (first.0, numbered_on xs ys (k + 1) first.1 (subst (λ n. AreNumbered n ys) (let same : k + suc (length xs) ≡ k + 1 + length xs = omega arith in same) second))

numbered_behind : (ys : List Picture) (d k : ℕ) → AreNumbered k ys → AreNumbered (k + d) (map (picture_behind d) ys)
numbered_behind [] d k all = tt
numbered_behind (y ∷ ys) d k all = (
  ap (λ n. n + d) all.0,
  subst (λ n. AreNumbered n (map (picture_behind d) ys)) (let same : k + 1 + d ≡ k + d + 1 = omega arith in same) (numbered_behind ys d (k + 1) all.1),
)

each_on : {X : Type 0} (P : X → Type 0) (xs ys : List X) → AllByRecursion P xs → AllByRecursion P ys → AllByRecursion P (xs ++ ys)
each_on P [] ys first second = second
each_on P (x ∷ xs) ys first second = (first.0, each_on P xs ys first.1 second)

sources_behind : (t : Settings) (d : ℕ) (ys : List Picture) → AllByRecursion (IsSource t) ys → AllByRecursion (IsSource t) (map (picture_behind d) ys)
sources_behind t d [] all = tt
sources_behind t d (y ∷ ys) all = (record { y = all.0.y; u = all.0.u; v = all.0.v }, sources_behind t d ys all.1)

short_behind : (ms : List Made) (d : ℕ) → AreFronts ms → AllByRecursion (λ (m : Made). picture_length m < 2 ^ 32) ms → AllByRecursion (λ (m : Made). picture_length m < 2 ^ 32) (map (made_behind d) ms)
short_behind [] d fronts all = tt
short_behind (m ∷ ms) d fronts all =
    let rest = drop 4 m.payload in
    let n = m.coded.header.number in
    let four : (v : ℕ) → length (to_be_bytes w32 v ++ rest) ≡ 4 + length rest = λ v. length-append (to_be_bytes w32 v) rest in
    let same : length (to_be_bytes w32 (n + d) ++ rest) ≡ length m.payload = four (n + d) ∙ sym (four n) ∙ sym (ap length fronts.0) in
    (subst (λ (k : ℕ). 13 + k < 2 ^ 32) (sym same) all.0, short_behind ms d fronts.1 all.1)

-- a source of parts
pub record IsWhole (t : Settings) (parts : List (List Picture)) : Type 0 where
  pub sources : AreSources t (whole_of parts)
  pub numbered : AreNumbered 0 (whole_of parts)
  pub some : 0 < length (whole_of parts)
  pub texts : (by : ℕ) → map (text_behind by) (coding t (whole_of parts)) ≡ all_texts by (map (coding t) parts)
  pub total : total (map (coding t) parts) ≡ length (whole_of parts)
  pub coded : AreCoded (map (coding t) parts)

whole_one : PlansCanBeCoded → JobsAreRead → (t : Settings) (p : List Picture) → IsPart t p → IsWhole t (p ∷ [])
whole_one plans law t p is =
    let alone : p ++ [] ≡ p = append-nil p in
    let c = is_coded plans law t p is.sources is.some in
    record {
      sources = subst (AreSources t) (sym alone) is.sources;
      numbered = subst (AreNumbered 0) (sym alone) is.numbered;
      some = subst (λ (l : List Picture). 0 < length l) (sym alone) is.some;
      texts = λ by. ap (λ (l : List Picture). map (text_behind by) (coding t l)) alone ∙ sym (append-nil (map (text_behind by) (coding t p)));
      total = (let same : length (coding t p) + 0 ≡ length (coding t p) = omega arith in same) ∙ c.0 ∙ sym (ap length alone);
      coded = (c.1, tt);
    }

whole_more : PlansCanBeCoded → JobsAreRead → (t : Settings) (p q : List Picture) (parts : List (List Picture)) (m : ℕ) → t.alike ≡ 0 → IsPart t p → length p ≡ m * group_pictures t → length (whole_of (p ∷ q ∷ parts)) < 2 ^ 31 → IsWhole t (q ∷ parts) → IsWhole t (p ∷ q ∷ parts)
whole_more plans law t p q parts m none is whole small w =
    let ys = whole_of (q ∷ parts) in
    let d = length p in
    let more = map (picture_behind d) ys in
    let count : length (p ++ more) ≡ d + length ys = length-append p more ∙ ap (λ k. d + k) (length-map ys (picture_behind d)) in
    let alike = behind_alike plans law t m p ys none whole (omega (arith, small, count)) w.sources w.numbered in
    let c = is_coded plans law t p is.sources is.some in
    let after = is_coded plans law t ys w.sources w.some in
    record {
      sources = record {
        accepted = is.sources.accepted;
        below_2_31 = small;
        each = each_on (IsSource t) p more is.sources.each (sources_behind t d ys w.sources.each);
        short =
            subst (AllByRecursion (λ (x : Made). picture_length x < 2 ^ 32)) (sym alike)
            (each_on (λ (x : Made). picture_length x < 2 ^ 32) (coding t p) (map (made_behind d) (coding t ys)) is.sources.short (short_behind (coding t ys) d after.1.fronts w.sources.short));
      };
      numbered = numbered_on p more 0 is.numbered (numbered_behind ys d 0 w.numbered);
      some = omega (arith, count, is.some);
      texts = λ by.
          ap (map (text_behind by)) alike ∙ map-append (text_behind by) (coding t p) (map (made_behind d) (coding t ys))
          ∙ ap (λ (l : List PictureText). map (text_behind by) (coding t p) ++ l)
          (behind_twice d by (coding t ys) ∙ w.texts (by + d) ∙ ap (λ k. all_texts (by + k) (map (coding t) (q ∷ parts))) (sym c.0));
      total = ap₂ (λ (a b : ℕ). a + b) c.0 w.total ∙ sym count;
      coded = (c.1, w.coded);
    }

shorter : (p : List Picture) (ys : List Picture) (d : ℕ) → length (p ++ map (picture_behind d) ys) < 2 ^ 31 → length ys < 2 ^ 31
shorter p ys d small = omega (arith, small, length-append p (map (picture_behind d) ys), length-map ys (picture_behind d))

pub is_whole : PlansCanBeCoded → JobsAreRead → (parts : List (List Picture)) (t : Settings) (p : List Picture) → t.alike ≡ 0 → AllByRecursion (IsPart t) (p ∷ parts) → AreParts t (p ∷ parts) → length (whole_of (p ∷ parts)) < 2 ^ 31 → IsWhole t (p ∷ parts)
is_whole plans law [] t p none all are small = whole_one plans law t p all.0
is_whole plans law (q ∷ parts) t p none all are small =
    whole_more plans law t p q parts are.0.0 none all.0 are.0.1 small (is_whole plans law parts t q none all.1 are.1 (shorter p (whole_of (q ∷ parts)) (length p) small))

-- ---- the cut of the whole

within : (top : ℕ) (p : PictureText) → 0 < p.points → p.points ≤ top → is_between 0 top p ≡ true
within top p more few = grind arith

all_within : (ps : List PictureText) (low high top : ℕ) → 0 < low → Rises low high ps → AllByRecursion (IsPlaced top) ps → filter (is_between 0 top) ps ≡ ps
unfolding Rises
all_within [] low high top some rises placed = refl
all_within (p ∷ ps) low high top some rises placed =
    filter_in (is_between 0 top) p ps (within top p (omega (arith, some, rises.0)) placed.0.up_to)
    ∙ ap (λ (l : List PictureText). p ∷ l) (all_within ps p.points high top (omega (arith, some, rises.0)) rises.1 placed.1)

from_intra : (p : PictureText) (ps : List PictureText) (high top : ℕ) → is_intra p.code ≡ true → Rises 0 high (p ∷ ps) → AllByRecursion (IsPlaced top) (p ∷ ps) → filter (is_between 0 top) (p ∷ ps) ≡ p ∷ ps
unfolding Rises
from_intra p ps high top intra rises placed = all_within (p ∷ ps) p.points high top (placed.0.behind intra) (omega arith, rises.1) placed

bare_texts : (ms : List Made) (index points : ℕ) → map stripped (texts_made index points ms) ≡ map bare_text ms
bare_texts [] index points = refl
bare_texts (m ∷ ms) index points = ap (λ (l : List PictureText). bare_text m ∷ l) (bare_texts ms (suc (index_up index m)) (points_up points m))

whole_cut : (t : Settings) (m : Made) (ms : List Made) → Begins (m ∷ ms) → Codes (m ∷ ms)
    → cut_bytes (units_in t (m ∷ ms)) 0 (points_of (units_in t (m ∷ ms))) ≡ sequences_bytes 0 (one_text t (map bare_text (m ∷ ms)) ∷ [])
unfolding RisesOpen PlacedOpen
whole_cut t m ms begins codes =
    let all = m ∷ ms in
    let units = units_in t all in
    let top = points_of units in
    let T = stream_text t all in
    let one : sequences units ≡ T ∷ [] = stream_is t all (omega arith) begins codes in
    let placed = subst (AllByRecursion (ArePlaced top)) one (texts_placed units 0 0 top None (omega arith) tt) in
    let rises = subst (AllByRecursion RisesAll) one (texts_rise units 0 0 None tt) in
    let ps = texts_made (suc (index_up 0 m)) (points_up 0 m) ms in
    let kept : filter (is_between 0 top) T.pictures ≡ T.pictures = from_intra (text_made 0 0 m) ps rises.0.high top begins.0 rises.0.rises placed.0 in
    ap (λ (ts : List SequenceText). sequences_bytes 0 (with_pictures (map (restricted 0 top) ts))) one
    ∙ ap (λ (l : List PictureText). sequences_bytes 0 (with_pictures (one_text t l ∷ []))) kept
    ∙ ap (λ (b : Bool). sequences_bytes 0 (if b then T ∷ [] else [])) (lt-ltb 0 (length T.pictures) (omega arith))
    ∙ sym (bytes_stripped (T ∷ []) 0)
    ∙ ap (λ (l : List PictureText). sequences_bytes 0 (one_text t l ∷ [])) (bare_texts all 0 0)

cut_by : (t : Settings) (ms : List Made) → 0 < length ms → Begins ms → Codes ms → cut_bytes (units_in t ms) 0 (points_of (units_in t ms)) ≡ sequences_bytes 0 (one_text t (map bare_text ms) ∷ [])
cut_by t [] some begins codes = absurd (omega arith)
cut_by t (m ∷ ms) some begins codes = whole_cut t m ms begins codes

-- ---- the law

units_are : (parts : List (List Picture)) (t : Settings) → units_of_parts t parts ≡ flat_map (units_in t) (map (coding t) parts)
units_are [] t = refl
units_are (p ∷ parts) t = ap (λ (l : List UnitText). stream_units t p ++ l) (units_are parts t)

join_by : (t : Settings) (p : List Picture) (parts : List (List Picture)) → IsWhole t (p ∷ parts) → joined_by (sequences (units_of_parts t (p ∷ parts))) ≡ sequences_bytes 0 (one_text t (all_texts 0 (map (coding t) (p ∷ parts))) ∷ [])
join_by t p parts w =
    let cs = map (coding t) (p ∷ parts) in
    let small : total cs ≤ 2 ^ 31 = omega (arith, w.total, w.sources.below_2_31) in
    ap (λ (us : List UnitText). joined_by (sequences us)) (units_are (p ∷ parts) t)
    ∙ joined_alike (sequences (flat_map (units_in t) cs)) (map (part_text t) cs) (parts_read cs t 0 0 w.coded)
    ∙ ap (bytes_or_bare (map (part_text t) cs)) (joined_parts (coding t p) (map (coding t) parts) t w.coded small)

pub parts_join : PlansCanBeCoded → JobsAreRead → PartsJoinToTheWhole
parts_join plans law t [] accepted none some all are small = absurd (omega arith)
parts_join plans law t (p ∷ parts) accepted none some all are small =
    let w = is_whole plans law parts t p none all are small in
    let ms = coding t (whole_of (p ∷ parts)) in
    let c = (is_coded plans law t (whole_of (p ∷ parts)) w.sources w.some).1 in
    join_by t p parts w
    ∙ sym (cut_by t ms c.some c.begins c.codes ∙ ap (λ (l : List PictureText). sequences_bytes 0 (one_text t l ∷ [])) (bare_behind ms c.fronts ∙ w.texts 0))
