-- The cut of the encoder's stream from one group to another shows the reconstructions of these groups.
use Rattle.dirac_picture.specs.Written.{payload_by}
use Rattle.std.proofs.Common.{◌≡◌, ◌==◌, ℕ, ℤ, zero, suc, pos, ◌+ℤ◌, ◌+◌, ◌-◌, ◌*◌, ◌/◌, ◌%◌, ◌<◌, ◌≤◌, ◌^◌, min, nat_le, nat_lt, if◌then◌else◌, Bool, true, false, List, [], ◌∷◌, ◌++◌, length, map, take, drop, None, Some, refl, sym, ◌∙◌, ap, ap₂, subst, arith, append_assoc, append-nil, length-append}
use Rattle.std.specs.Prelude.{slice_get, ◌≤ℤ◌}
use Rattle.std.specs.Int.{cast_signed, w32}
use Rattle.std.specs.List.{AllByRecursion, filter}
use Rattle.std.proofs.lemmas.Bool.{leb-false, lt-ltb}
use Rattle.std.proofs.lemmas.Int.{ints, to_z_pos}
use Rattle.std.proofs.lemmas.List.{drop_at, length-map, map-append, take_at}
use Rattle.std.proofs.lemmas.List.Elements.{filter-append}
use Rattle.dirac_common.specs.declared.picture.Picture.{Picture}
use Rattle.dirac_types.specs.declared.settings.Settings.{Settings}
use Rattle.dirac_types.specs.Settings.{IsAccepted}
use Rattle.dirac_common.specs.Bits.{number_from}
use Rattle.dirac_common.specs.Bytes.{bytes_in}
use Rattle.dirac_common.specs.Codes.{is_intra}
use Rattle.dirac_units.specs.Cut.{UnitText}
use Rattle.dirac_units.specs.Info.{fields_are_read, is_picture}
use Rattle.dirac_units.specs.Writing.{IsReadAsWritten}
use Rattle.dirac_bits.specs.Writing.{up_to_byte}
use Rattle.dirac_sequence_header.specs.declared.sequence.Sequence.{Sequence}
use Rattle.dirac_sequence.specs.Written.{sequence_bits, sequence_of, sequence_payload}
use Rattle.dirac_refs.specs.declared.waiting.Waiting.{Waiting}
use Rattle.dirac_refs.specs.Delivery.{delivered, in_delivery_order, flushed, flushed_by, key_of, least, least_place, others, picture_of, pushed_all}
use Rattle.dirac_refs.proofs.Least.{leaves_first}
use Rattle.dirac_plan.specs.declared.planned.Planned.{Planned}
use Rattle.dirac_plan.specs.Plan.{plan}
use Rattle.dirac_plan.specs.Planning.{group_pictures}
use Rattle.dirac_plan.proofs.Accepted.{paced}
use Rattle.dirac_plan.proofs.Fields.{length_plan}
use Rattle.dirac_plan_laws.specs.Headers.{IsPictureCode}
use Rattle.dirac_plan_laws.specs.Order.{as_waiting}
use Rattle.dirac_plan_laws.specs.Plans.{PlansCanBeCoded}
use Rattle.dirac_plan_laws.proofs.Each.{each_append, each_more}
use Rattle.dirac_encode_laws.specs.Coding.{Made, coded_under, coding, job_of, made, own_index, reconstructions, refs_after, shown_of}
use Rattle.dirac_encode_laws.specs.Laws.{AreMade, AreSources, Begins, JobsAreRead}
use Rattle.dirac_encode_laws.specs.Payloads.{with_coded_picture}
use Rattle.dirac_encode_laws.specs.Stream.{end_text, header_text, picture_length, picture_text as made_unit, stream_units, units_from, units_in}
use Rattle.dirac_encode_laws.proofs.Headers.{header_read, header_short}
use Rattle.dirac_encode_laws.proofs.Indices.{own_gives, sources_under}
use Rattle.dirac_encode_laws.proofs.Sourcing.{jobs_read_under, sources_leave, sources_made}
use Rattle.dirac_edit_laws.specs.Cut.{cut_bytes, first_answer, open_among, open_cut, open_from, part_rebuilt, part_shown_of, restricted}
use Rattle.dirac_edit_laws.specs.Encoded.{EncodedCutsShowTheirGroups, groups_in, of_groups}
use Rattle.dirac_edit_laws.specs.Laws.{ShowsJust}
use Rattle.dirac_edit_laws.specs.Later.{AreNotBefore}
use Rattle.dirac_edit_laws.specs.Rebuilt.{IsRead, RebuiltText, all_shown, in_order, rebuilt_picture, rebuilt_from, waiting_from}
use Rattle.dirac_edit_laws.specs.Texts.{PictureText, SequenceText, picture_text_at, points_up_to, sequences, sequences_from, with_pictures}
use Rattle.dirac_edit_laws.specs.Units.{sequences_bytes}
use Rattle.dirac_edit_laws.proofs.Cutting.{Fits, FitsPicture, FitsSequence}
use Rattle.dirac_edit_laws.proofs.EncodedMade.{BeginsIntra, coded_from, all_rebuilt, are_rebuilt, before_part, behind_point, coded_append, from_point, index_behind, index_up, made_begins, made_points, pictures_made, points_behind, points_up, rebuilt_append, refs_behind, text_made, texts_made}
use Rattle.dirac_edit_laws.proofs.Grouping.{LiesIn}
use Rattle.dirac_edit_laws.proofs.Inside.{alone_behind, below_behind, closed_part, few_behind, made_back, made_front}
use Rattle.dirac_edit_laws.proofs.Joining.{keys_from}
use Rattle.dirac_edit_laws.proofs.Keys.{AreAtLeast, AreAtMost, key_in, not_before}
use Rattle.dirac_edit_laws.proofs.Later.{later_leave_later, left_from, length_remove}
use Rattle.dirac_edit_laws.proofs.Parts.{RisesAll, RisesOpen, all_kept, is_among, rebuilt_is, same_with_pictures, texts_rise}
use Rattle.dirac_edit_laws.proofs.PlannedParts.{first_planned, length_part, part_at, part_begins, part_begins_intra, part_first, part_from, part_lies, part_none, part_points, part_split, plan_is, some_pictures}
use Rattle.dirac_edit_laws.proofs.Shifted.{flush_moved, waiting_with}
use Rattle.dirac_edit_laws.proofs.UnitKinds.{behind_end, behind_header, behind_picture, kind_of, of_end, of_header, of_other, of_picture}
use Rattle.dirac_edit_laws.proofs.Walking.{first_in, longer}
use Rattle.dirac_edit_laws.proofs.Whole.{restricted_fit, stream_shown}
use Rattle.dirac_encode_laws.proofs.Sourcing.{pushed_shown}
use Rattle.dirac_encode_laws.proofs.InBytes.{bit_small}

-- ---- the stream is one sequence

pub record IsPictureUnit (code : ℕ) : Type 0 where
  pub header : (code == 0x00) ≡ false
  pub end : (code == 0x10) ≡ false
  pub is : is_picture code ≡ true

pub picture_unit : (code : ℕ) → IsPictureCode code → IsPictureUnit code
picture_unit code known = elim (kind_of code) [
  | of_header e ↦ let bad : (code == 0x00) ≡ true = ap (λ n. n == 0x00) e in absurd (let good = known.other in cc)
  | of_end e ↦ let bad : fields_are_read code ≡ false = ap fields_are_read e in absurd (let good = known.read in cc)
  | of_picture a b c d ↦ record { header = a; end = b; is = c }
  | of_other a b c d ↦ absurd (let good = known.read in cc)
]

unit_one : (t : Settings) (T : SequenceText) (previous index points : ℕ) (u : UnitText) (rest : List UnitText) (b : Bool) → IsPictureUnit u.info.code
    → sequences_from index points (Some T) ((if b then header_text t previous ∷ [] else []) ++ u ∷ rest)
    ≡ sequences_from (suc (if b then suc index else index)) (points_up_to points u) (Some (longer T (picture_text_at (if b then suc index else index) (points_up_to points u) u))) rest
unfolding header_text
unit_one t T previous index points u rest true is =
    behind_header index points (Some T) (header_text t previous) (u ∷ rest) refl ∙ behind_picture (suc index) points (Some T) u rest is.header is.end is.is
unit_one t T previous index points u rest false is = behind_picture index points (Some T) u rest is.header is.end is.is

abbrev with_texts : SequenceText → List PictureText → SequenceText
with_texts T ps = record { header = T.header; pictures = T.pictures ++ ps }

abbrev pub Codes : List Made → Type 0
Codes ms = AllByRecursion (λ (m : Made). IsPictureCode m.coded.code) ms

texts_from : (ms : List Made) (t : Settings) (T : SequenceText) (previous index points : ℕ) → Codes ms → sequences_from index points (Some T) (units_from t previous ms) ≡ with_texts T (texts_made index points ms) ∷ []
unfolding units_from made_unit end_text sequences_from
texts_from [] t T previous index points all =
    behind_end index points (Some T) (end_text previous) [] refl ∙ ap (λ ps. (let x : SequenceText = record { header = T.header; pictures = ps } in x) ∷ []) (sym (append-nil T.pictures))
texts_from (m ∷ ms) t T previous index points all =
    let u = made_unit t m previous in
    let rest = units_from t (picture_length m) ms in
    let p = text_made index points m in
    unit_one t T previous index points u rest (is_intra m.coded.code) (picture_unit m.coded.code all.0)
    ∙ texts_from ms t (longer T p) (picture_length m) (suc (index_up index m)) (points_up points m) all.1
    ∙ ap (λ ps. (let x : SequenceText = record { header = T.header; pictures = ps } in x) ∷ []) (append_assoc T.pictures (p ∷ []) (texts_made (suc (index_up index m)) (points_up points m) ms))

-- the one sequence of a stream
abbrev pub stream_text : Settings → List Made → SequenceText
stream_text t ms = record { header = sequence_payload t; pictures = texts_made 0 0 ms }

opens_same : (t : Settings) (us : List UnitText) → sequences_from 0 0 None (header_text t 0 ∷ us) ≡ sequences_from 0 0 (Some (record { header = sequence_payload t; pictures = [] })) (header_text t 0 ∷ us)
unfolding header_text
opens_same t us = behind_header 0 0 None (header_text t 0) us refl ∙ sym (behind_header 0 0 (Some (record { header = sequence_payload t; pictures = [] })) (header_text t 0) us refl)

stream_sequences : (t : Settings) (m : Made) (ms : List Made) → is_intra m.coded.code ≡ true → Codes (m ∷ ms) → sequences (units_in t (m ∷ ms)) ≡ stream_text t (m ∷ ms) ∷ []
unfolding units_from
stream_sequences t m ms intra all =
    let bare : SequenceText = record { header = sequence_payload t; pictures = [] } in
    let us = made_unit t m 0 ∷ units_from t (picture_length m) ms in
    let front : Bool → List UnitText = λ b. (if b then header_text t 0 ∷ [] else []) ++ us in
    ap (λ b. sequences_from 0 0 None (front b)) intra ∙ opens_same t us ∙ sym (ap (λ b. sequences_from 0 0 (Some bare) (front b)) intra)
    ∙ texts_from (m ∷ ms) t bare 0 0 0 all

-- ---- what leaves

some_at : (ws : List Waiting) (n : ℕ) → n < length ws → length (picture_of (slice_get ws n)) ≡ 1
some_at [] n l = absurd (omega arith)
some_at (w ∷ ws) zero l = refl
some_at (w ∷ ws) (suc n) l = some_at ws n (omega arith)

one_leaves : (ws : List Waiting) → 0 < length ws → length (least ws) ≡ 1
one_leaves ws some = some_at ws (least_place ws) (leaves_first ws some).waits

flushed_length : (n : ℕ) (ws : List Waiting) → length ws ≡ n → length (flushed_by n ws) ≡ n
flushed_length zero ws e = refl
flushed_length (suc n) ws e =
    let some : 0 < length ws = omega (arith, e) in
    let fewer = length_remove ws (least_place ws) (leaves_first ws some).waits in
    let rest = flushed_length n (others ws) (omega (arith, fewer, e)) in
    omega (arith, length-append (least ws) (flushed_by n (others ws)), one_leaves ws some, rest)

left_length : (ws : List Waiting) (b : Bool) → nat_le (length ws) 4 ≡ b → length (left_from b ws).gone + length (left_from b ws).waiting ≡ length ws
left_length ws true is = omega arith
left_length ws false is =
    let many = leb-false (length ws) 4 is in
    let some : 0 < length ws = omega (arith, many) in
    let fewer = length_remove ws (least_place ws) (leaves_first ws some).waits in
    omega (arith, fewer, one_leaves ws some)

pushed_length : (xs ws : List Waiting) → length (pushed_all ws xs).gone + length (pushed_all ws xs).waiting ≡ length ws + length xs
pushed_length [] ws = omega arith
pushed_length (x ∷ xs) ws =
    let now = delivered (ws ++ x ∷ []) in
    let here : length now.gone + length now.waiting ≡ length (ws ++ x ∷ []) = left_length (ws ++ x ∷ []) (nat_le (length (ws ++ x ∷ [])) 4) refl in
    let rest = pushed_length xs now.waiting in
    omega (arith, here, rest, length-append now.gone (pushed_all now.waiting xs).gone, length-append ws (x ∷ []))

flush_length : (ws : List Waiting) → length (in_delivery_order ws) ≡ length ws
flush_length ws =
    let all = pushed_all [] ws in
    omega (arith, pushed_length ws [], length-append all.gone (flushed all.waiting), flushed_length (length all.waiting) all.waiting refl)

-- ---- numbers

small_key : (first n : ℕ) → first ≤ n → n < 2 ^ 31 → key_of first n ≡ pos (n - first)
small_key first n low high =
    let same : (n + (2 ^ 32 - first)) % 2 ^ 32 ≡ n - first = omega arith in
    ap (cast_signed w32) same ∙ to_z_pos w32 (n - first) (omega arith)

zero_key : (n : ℕ) → n < 2 ^ 31 → key_of 0 n ≡ pos n
zero_key n high =
    let same : n - 0 ≡ n = omega arith in
    small_key 0 n (omega arith) high ∙ ap pos same

-- numbers from this one up to, and without, that one
abbrev pub AreNumbers : ℕ → ℕ → List Picture → Type 0
AreNumbers low high ps = AllByRecursion (λ (p : Picture). (low ≤ p.number) × (p.number < high)) ps

numbers_lie : (t : Settings) (pictures refs : List Picture) (qs : List Planned) (first count : ℕ) → AllByRecursion (LiesIn first count) qs → AreNumbers first (first + count) (map shown_of (coded_from t refs (map (job_of pictures) qs)))
unfolding coded_under
numbers_lie t pictures refs [] first count all = tt
numbers_lie t pictures refs (q ∷ qs) first count all = ((all.0.low, all.0.high), numbers_lie t pictures (refs_after refs (made t refs (job_of pictures q))) qs first count all.1)

at_most : (ps : List Picture) (low high top : ℕ) → AreNumbers low high ps → high ≤ top → top ≤ 2 ^ 31 → AreAtMost (pos top) (map key_in (map as_waiting ps))
at_most [] low high top all few small = tt
at_most (p ∷ ps) low high top all few small =
    let key : key_of 0 p.number ≡ pos p.number = zero_key p.number (omega (arith, all.0.1)) in
    let below : p.number < high = all.0.1 in
    (subst (λ z. z ≤ℤ pos top) (sym key) (under p.number top (omega arith)), at_most ps low high top all.1 few small)
  where
    under : (n top : ℕ) → n ≤ top → pos n ≤ℤ pos top
    under n top l = omega (arith, ints)

at_least : (ps : List Picture) (low high bottom : ℕ) → AreNumbers low high ps → bottom ≤ low → high ≤ 2 ^ 31 → AreAtLeast (pos bottom) (map key_in (map as_waiting ps))
at_least [] low high bottom all few small = tt
at_least (p ∷ ps) low high bottom all few small =
    let above : low ≤ p.number = all.0.0 in
    let below : p.number < high = all.0.1 in
    let key : key_of 0 p.number ≡ pos p.number = zero_key p.number (omega arith) in
    (subst (λ z. pos bottom ≤ℤ z) (sym key) (under bottom p.number (omega arith)), at_least ps low high bottom all.1 few small)
  where
    under : (n top : ℕ) → n ≤ top → pos n ≤ℤ pos top
    under n top l = omega (arith, ints)

-- keys that count from another number
same_waiting : (ps : List Picture) (first high : ℕ) → AreNumbers first high ps → high ≤ 2 ^ 31 → map as_waiting ps ≡ map (waiting_with (pos first) (λ p. p)) (map (waiting_from first) ps)
same_waiting [] first high all small = refl
same_waiting (p ∷ ps) first high all small =
    let above : first ≤ p.number = all.0.0 in
    let below : p.number < high = all.0.1 in
    let whole : p.number ≡ p.number - first + first = omega arith in
    let key : key_of 0 p.number ≡ key_of first p.number +ℤ pos first =
    zero_key p.number (omega arith) ∙ ap pos whole ∙ sym (ap (λ z. z +ℤ pos first) (small_key first p.number above (omega arith))) in
    ap₂ (λ (z : ℤ) (ws : List Waiting). (let w : Waiting = record { key = z; picture = p } in w) ∷ ws) key (same_waiting ps first high all.1 small)

map_same : (ps : List Picture) → map (λ (p : Picture). p) ps ≡ ps
map_same [] = refl
map_same (p ∷ ps) = ap (λ l. p ∷ l) (map_same ps)

-- pictures of their own keys leave in the same order
own_order : (ps : List Picture) (first high : ℕ) → AreNumbers first high ps → high ≤ 2 ^ 31 → first_in ps ≡ Some first → in_delivery_order (map as_waiting ps) ≡ in_order ps
own_order ps first high all small begin =
    let ws = map (waiting_from first) ps in
    ap in_delivery_order (same_waiting ps first high all small) ∙ flush_moved (pos first) (λ p. p) ws ∙ map_same (in_delivery_order ws) ∙ ap in_delivery_order (sym (keys_from first ps begin))

-- ---- the plan in three parts

-- what becomes of m groups from group i on, with these pictures listed before
abbrev groups_made : Settings → List Picture → List Picture → ℕ → ℕ → List Made
groups_made t pictures refs i m = coded_from t refs (map (job_of pictures) (part_at t (length pictures) i m))

abbrev first_refs : Settings → List Picture → ℕ → List Picture
first_refs t pictures a = refs_behind t pictures [] (part_at t (length pictures) 0 a)

abbrev second_refs : Settings → List Picture → ℕ → ℕ → List Picture
second_refs t pictures a m = refs_behind t pictures (first_refs t pictures a) (part_at t (length pictures) a m)

-- the plan: the groups before group a, m groups from there on, and those behind them
plan_parts : (t : Settings) (n a m e : ℕ) → groups_in t n ≡ a + (m + e) → plan n t ≡ part_at t n 0 a ++ (part_at t n a m ++ part_at t n (a + m) e)
plan_parts t n a m e is =
    plan_is t n ∙ ap (part_at t n 0) is ∙ part_split t n 0 a (m + e) a (omega arith)
    ∙ ap (λ qs. part_at t n 0 a ++ qs) (part_split t n a m e (a + m) refl)

coding_split : (t : Settings) (pictures : List Picture) (a m e : ℕ) → groups_in t (length pictures) ≡ a + (m + e)
    → coding t pictures ≡ groups_made t pictures [] 0 a ++ (groups_made t pictures (first_refs t pictures a) a m ++ groups_made t pictures (second_refs t pictures a m) (a + m) e)
coding_split t pictures a m e is =
    let n = length pictures in
    let code : List Picture → List Planned → List Made = λ refs qs. coded_from t refs (map (job_of pictures) qs) in
    let first = part_at t n 0 a in
    let second = part_at t n a m in
    let third = part_at t n (a + m) e in
    ap (code []) (plan_parts t n a m e is)
    ∙ coded_append t pictures [] first (second ++ third)
    ∙ ap (λ x. code [] first ++ x) (coded_append t pictures (first_refs t pictures a) second third)

-- the part refers to none before it
closed_groups : (t : Settings) (pictures : List Picture) (a m e index points : ℕ) → 0 < t.gop → groups_in t (length pictures) ≡ a + (m + e) → AreMade t [] (coding t pictures)
    → open_from [] (all_rebuilt index points (groups_made t pictures (first_refs t pictures a) a m)) ≡ None
closed_groups t pictures a m e index points some is made =
    let n = length pictures in
    let first = part_at t n 0 a in
    let second = part_at t n a m in
    let third = part_at t n (a + m) e in
    let low : ℕ = a * group_pictures t in
    let all = subst (λ (qs : List Planned). AreMade t [] (coded_from t [] (map (job_of pictures) qs))) (plan_parts t n a m e is) made in
    let behind = made_back t pictures first (second ++ third) [] all in
    let mine = made_front t pictures second third (first_refs t pictures a) behind in
    let top : 0 * group_pictures t + (min n ((0 + a) * group_pictures t) - 0 * group_pictures t) ≤ low = omega arith in
    let lie = part_lies t n 0 a some (omega (arith, is)) in
    let below = each_more (LiesIn (0 * group_pictures t) (min n ((0 + a) * group_pictures t) - 0 * group_pictures t)) (λ (q : Planned). q.number < low) first (λ q l. omega (arith, top, l.high)) lie in
    closed_part t pictures low second (first_refs t pictures a) [] index points mine (part_from t n a m) (few_behind t pictures first [] (omega arith))
    (alone_behind low (first_refs t pictures a) (below_behind t pictures low first [] below tt))

-- ---- the part's pictures, rebuilt

part_made : (a m index : ℕ) (xs ys zs : List Made) → points_behind 0 xs ≡ a → BeginsIntra ys → points_behind a ys ≡ a + m → BeginsIntra zs
    → filter (is_among a (a + m)) (all_rebuilt 0 0 (xs ++ (ys ++ zs))) ≡ all_rebuilt (index_behind 0 xs) a ys
part_made a m index xs ys zs first begin second begin' =
    let test = is_among a (a + m) in
    let i = index_behind 0 xs in
    let parts : all_rebuilt 0 0 (xs ++ (ys ++ zs)) ≡ all_rebuilt 0 0 xs ++ (all_rebuilt i a ys ++ all_rebuilt (index_behind i ys) (a + m) zs) =
    rebuilt_append xs (ys ++ zs) 0 0
    ∙ ap (λ p. all_rebuilt 0 0 xs ++ all_rebuilt i p (ys ++ zs)) first
    ∙ ap (λ l. all_rebuilt 0 0 xs ++ l) (rebuilt_append ys zs i a ∙ ap (λ p. all_rebuilt i a ys ++ all_rebuilt (index_behind i ys) p zs) second) in
    let front : filter test (all_rebuilt 0 0 xs) ≡ [] = before_part xs a (a + m) 0 0 (omega (arith, first)) in
    let middle = from_point ys a (a + m) i a (omega arith) begin (omega (arith, second)) in
    let back : filter test (all_rebuilt (index_behind i ys) (a + m) zs) ≡ [] = behind_point zs a (a + m) (index_behind i ys) (a + m) (omega arith) begin' in
    ap (filter test) parts
    ∙ filter-append test (all_rebuilt 0 0 xs) (all_rebuilt i a ys ++ all_rebuilt (index_behind i ys) (a + m) zs)
    ∙ ap₂ (λ (x y : List RebuiltText). x ++ y) front (filter-append test (all_rebuilt i a ys) (all_rebuilt (index_behind i ys) (a + m) zs))
    ∙ ap₂ (λ (x y : List RebuiltText). x ++ y) middle back ∙ append-nil (all_rebuilt i a ys)

-- ---- a slice

take_more : (xs : List Picture) (l : ℕ) → length xs ≤ l → take l xs ≡ xs
take_more [] zero few = refl
take_more [] (suc l) few = refl
take_more (x ∷ xs) zero few = absurd (omega arith)
take_more (x ∷ xs) (suc l) few = ap (λ ys. x ∷ ys) (take_more xs l (omega arith))

slice_full : (f g h : List Picture) (k l : ℕ) → length f ≡ k → length g ≡ l → take l (drop k (f ++ (g ++ h))) ≡ g
slice_full f g h k l first second = ap (take l) (drop_at f (g ++ h) k first) ∙ take_at g h l second

slice_last : (f g : List Picture) (k l : ℕ) → length f ≡ k → length g ≤ l → take l (drop k (f ++ (g ++ []))) ≡ g
slice_last f g k l first few = ap (take l) (drop_at f (g ++ []) k first ∙ append-nil g) ∙ take_more g l few

-- ---- payloads are bytes

byte_small : (bits : List Bool) → number_from 0 (take 8 bits) < 2 ^ 8
byte_small [] = omega arith
byte_small (a ∷ []) = omega (arith, bit_small a)
byte_small (a ∷ b ∷ []) = omega (arith, bit_small a, bit_small b)
byte_small (a ∷ b ∷ c ∷ []) = omega (arith, bit_small a, bit_small b, bit_small c)
byte_small (a ∷ b ∷ c ∷ d ∷ []) = omega (arith, bit_small a, bit_small b, bit_small c, bit_small d)
byte_small (a ∷ b ∷ c ∷ d ∷ e ∷ []) = omega (arith, bit_small a, bit_small b, bit_small c, bit_small d, bit_small e)
byte_small (a ∷ b ∷ c ∷ d ∷ e ∷ f ∷ []) = omega (arith, bit_small a, bit_small b, bit_small c, bit_small d, bit_small e, bit_small f)
byte_small (a ∷ b ∷ c ∷ d ∷ e ∷ f ∷ g ∷ []) = omega (arith, bit_small a, bit_small b, bit_small c, bit_small d, bit_small e, bit_small f, bit_small g)
byte_small (a ∷ b ∷ c ∷ d ∷ e ∷ f ∷ g ∷ h ∷ bits) = omega (arith, bit_small a, bit_small b, bit_small c, bit_small d, bit_small e, bit_small f, bit_small g, bit_small h)

bytes_small : (n : ℕ) (bits : List Bool) → AllByRecursion (λ b. b < 2 ^ 8) (bytes_in n bits)
unfolding bytes_in
bytes_small zero bits = tt
bytes_small (suc n) bits = (byte_small bits, bytes_small n (drop 8 bits))

-- the units of coded pictures fit
pub texts_fit_made : (t : Settings) (pictures refs : List Picture) (qs : List Planned) (index points : ℕ) → AllByRecursion (λ m. picture_length m < 2 ^ 32) (coded_from t refs (map (job_of pictures) qs)) → Codes (coded_from t refs (map (job_of pictures) qs))
    → AllByRecursion FitsPicture (texts_made index points (coded_from t refs (map (job_of pictures) qs)))
unfolding coded_under payload_by
texts_fit_made t pictures refs [] index points short codes = tt
texts_fit_made t pictures refs (q ∷ qs) index points short codes =
    let m = made t refs (job_of pictures q) in
    let bits = up_to_byte (with_coded_picture t m.coded []) in (
      record { code = codes.0; payload = record { short = short.0; below = bytes_small (length bits / 8) bits } },
      texts_fit_made t pictures (refs_after refs m) qs (suc (index_up index m)) (points_up points m) short.1 codes.1,
    )

pub header_fits : (t : Settings) → Fits (sequence_payload t)
unfolding sequence_payload
header_fits t =
    let bits = up_to_byte (sequence_bits t) in
    record { short = header_short t; below = bytes_small (length bits / 8) bits }

pub codes_of : (t : Settings) (ms : List Made) (refs : List Picture) → AreMade t refs ms → Codes ms
codes_of t [] refs all = tt
codes_of t (m ∷ ms) refs all = (all.0.fits.code, codes_of t ms (refs_after refs m) all.1)

-- ---- the order

-- pictures of three parts, by rising numbers, leave part by part
parts_leave : (xs ys zs : List Picture) (low high most : ℕ) → AreNumbers 0 low xs → AreNumbers low most (ys ++ zs) → AreNumbers low high ys → AreNumbers high most zs → most ≤ 2 ^ 31 → low ≤ most → high ≤ most
    → in_delivery_order (map as_waiting (xs ++ (ys ++ zs))) ≡ in_delivery_order (map as_waiting xs) ++ (in_delivery_order (map as_waiting ys) ++ in_delivery_order (map as_waiting zs))
parts_leave xs ys zs low high most first both second third small under under' =
    let w : List Picture → List Waiting = map as_waiting in
    let one : AreNotBefore (w (ys ++ zs)) (w xs) = not_before (w xs) (w (ys ++ zs)) (pos low) (at_most xs 0 low low first (omega arith) (omega arith)) (at_least (ys ++ zs) low most low both (omega arith) small) in
    let two : AreNotBefore (w zs) (w ys) = not_before (w ys) (w zs) (pos high) (at_most ys low high high second (omega arith) (omega arith)) (at_least zs high most high third (omega arith) small) in
    ap in_delivery_order (map-append as_waiting xs (ys ++ zs)) ∙ later_leave_later (w xs) (w (ys ++ zs)) one
    ∙ ap (λ l. in_delivery_order (w xs) ++ l) (ap in_delivery_order (map-append as_waiting ys zs) ∙ later_leave_later (w ys) (w zs) two)

length_shown : (t : Settings) (pictures refs : List Picture) (qs : List Planned) → length (map shown_of (coded_from t refs (map (job_of pictures) qs))) ≡ length qs
unfolding coded_under
length_shown t pictures refs [] = refl
length_shown t pictures refs (q ∷ qs) = ap suc (length_shown t pictures (refs_after refs (made t refs (job_of pictures q))) qs)

numbers_within : (ps : List Picture) (low high low' high' : ℕ) → low' ≤ low → high ≤ high' → AreNumbers low high ps → AreNumbers low' high' ps
numbers_within [] low high low' high' less more all = tt
numbers_within (p ∷ ps) low high low' high' less more all = ((omega (arith, less, all.0.0), omega (arith, more, all.0.1)), numbers_within ps low high low' high' less more all.1)

-- ---- the part's reconstructions

-- what a cut of some groups stands on: their pictures, shown
abbrev shown_groups : Settings → List Picture → List Picture → ℕ → ℕ → List Picture
shown_groups t pictures refs i m = map shown_of (groups_made t pictures refs i m)

-- the number of the first of them
first_made : (t : Settings) (pictures refs : List Picture) (qs : List Planned) → first_in (map shown_of (coded_from t refs (map (job_of pictures) qs))) ≡ first_planned qs
unfolding coded_under
first_made t pictures refs [] = refl
first_made t pictures refs (q ∷ qs) = refl

groups_numbers : (t : Settings) (pictures refs : List Picture) (i m : ℕ) → 0 < t.gop → i + m ≤ groups_in t (length pictures)
    → AreNumbers (i * group_pictures t) (i * group_pictures t + (min (length pictures) ((i + m) * group_pictures t) - i * group_pictures t)) (shown_groups t pictures refs i m)
groups_numbers t pictures refs i m some h =
    let n = length pictures in
    numbers_lie t pictures refs (part_at t n i m) (i * group_pictures t) (min n ((i + m) * group_pictures t) - i * group_pictures t) (part_lies t n i m some h)

groups_length : (t : Settings) (pictures refs : List Picture) (i m : ℕ) → 0 < t.gop → i + m ≤ groups_in t (length pictures)
    → length (in_delivery_order (map as_waiting (shown_groups t pictures refs i m))) ≡ min (length pictures) ((i + m) * group_pictures t) - i * group_pictures t
groups_length t pictures refs i m some h =
    let ps = shown_groups t pictures refs i m in
    flush_length (map as_waiting ps) ∙ length-map ps as_waiting ∙ length_shown t pictures refs (part_at t (length pictures) i m) ∙ length_part t (length pictures) i m some h

-- ---- where the parts lie

record AreParts (t : Settings) (pictures : List Picture) (a m e : ℕ) : Type 0 where
  pub first : AreNumbers 0 (a * group_pictures t) (shown_groups t pictures [] 0 a)
  pub second : AreNumbers (a * group_pictures t) (min (length pictures) ((a + m) * group_pictures t)) (shown_groups t pictures (first_refs t pictures a) a m)
  pub third : AreNumbers (min (length pictures) ((a + m) * group_pictures t)) (length pictures) (shown_groups t pictures (second_refs t pictures a m) (a + m) e)

-- numbers between a first one and an end that may lie before it
top_is : (first n end : ℕ) → first ≤ n → first ≤ end → first + (min n end - first) ≡ min n end
top_is first n end low up = omega arith

last_part : (t : Settings) (pictures refs : List Picture) (i e : ℕ) → 0 < t.gop → i + e ≤ groups_in t (length pictures) → AreNumbers (min (length pictures) (i * group_pictures t)) (length pictures) (shown_groups t pictures refs i e)
unfolding coded_under
last_part t pictures refs i zero some h =
    subst (λ qs. AreNumbers (min (length pictures) (i * group_pictures t)) (length pictures) (map shown_of (coded_from t refs (map (job_of pictures) qs)))) (sym (part_none t (length pictures) i)) tt
last_part t pictures refs i (suc e) some h =
    let n = length pictures in
    let gop = group_pictures t in
    let low : i * gop < n = part_begins t n i some (omega arith) in
    let wide : i * gop ≤ (i + suc e) * gop = omega arith in
    numbers_within (shown_groups t pictures refs i (suc e)) (i * gop) (i * gop + (min n ((i + suc e) * gop) - i * gop)) (min n (i * gop)) n (omega arith) (omega arith) (groups_numbers t pictures refs i (suc e) some h)

are_parts : (t : Settings) (pictures : List Picture) (a m e : ℕ) → 0 < t.gop → groups_in t (length pictures) ≡ a + (m + e) → a * group_pictures t ≤ length pictures → AreParts t pictures a m e
are_parts t pictures a m e some is low =
    let n = length pictures in
    let gop = group_pictures t in
    let xs = shown_groups t pictures [] 0 a in
    let ys = shown_groups t pictures (first_refs t pictures a) a m in
    let zs = shown_groups t pictures (second_refs t pictures a m) (a + m) e in
    let wide : a * gop ≤ (a + m) * gop = omega arith in
    let first = groups_numbers t pictures [] 0 a some (omega (arith, is)) in
    let second = groups_numbers t pictures (first_refs t pictures a) a m some (omega (arith, is)) in
    record {
      first = numbers_within xs (0 * gop) (0 * gop + (min n ((0 + a) * gop) - 0 * gop)) 0 (a * gop) (omega arith) (omega arith) first;
      second = subst (λ top. AreNumbers (a * gop) top ys) (top_is (a * gop) n ((a + m) * gop) low wide) second;
      third = last_part t pictures (second_refs t pictures a m) (a + m) e some (omega (arith, is));
    }

-- the reconstructions, part by part
reconstructions_split : PlansCanBeCoded → (t : Settings) (pictures : List Picture) (a m e : ℕ) → IsAccepted t → length pictures < 2 ^ 31 → 0 < t.gop → groups_in t (length pictures) ≡ a + (m + e) → a * group_pictures t ≤ length pictures
    → reconstructions t pictures
    ≡ in_delivery_order (map as_waiting (shown_groups t pictures [] 0 a)) ++ (in_delivery_order (map as_waiting (shown_groups t pictures (first_refs t pictures a) a m)) ++ in_delivery_order (map as_waiting (shown_groups t pictures (second_refs t pictures a m) (a + m) e)))
reconstructions_split plans t pictures a m e accepted few some is low =
    let n = length pictures in
    let xs = shown_groups t pictures [] 0 a in
    let ys = shown_groups t pictures (first_refs t pictures a) a m in
    let zs = shown_groups t pictures (second_refs t pictures a m) (a + m) e in
    let all : map shown_of (coding t pictures) ≡ xs ++ (ys ++ zs) =
    ap (map shown_of) (coding_split t pictures a m e is)
    ∙ map-append shown_of (groups_made t pictures [] 0 a) (groups_made t pictures (first_refs t pictures a) a m ++ groups_made t pictures (second_refs t pictures a m) (a + m) e)
    ∙ ap (λ l. xs ++ l) (map-append shown_of (groups_made t pictures (first_refs t pictures a) a m) (groups_made t pictures (second_refs t pictures a m) (a + m) e)) in
    let parts = are_parts t pictures a m e some is low in
    let high = min n ((a + m) * group_pictures t) in
    let wide : a * group_pictures t ≤ (a + m) * group_pictures t = omega arith in
    let over : a * group_pictures t ≤ high = omega arith in
    let within : high ≤ n = omega arith in
    let both = each_append (λ (p : Picture). (a * group_pictures t ≤ p.number) × (p.number < n)) ys zs (numbers_within ys (a * group_pictures t) high (a * group_pictures t) n (omega arith) within parts.second) (numbers_within zs high n (a * group_pictures t) n over (omega arith) parts.third) in
    sym (sources_leave plans own_index t pictures accepted few) ∙ ap in_delivery_order (pushed_shown (coding t pictures) ∙ ap (map as_waiting) all)
    ∙ parts_leave xs ys zs (a * group_pictures t) high n parts.first both parts.second parts.third (omega (arith, few)) low within

-- those of the groups
groups_slice : PlansCanBeCoded → (t : Settings) (pictures : List Picture) (a m e : ℕ) → IsAccepted t → length pictures < 2 ^ 31 → 0 < t.gop → groups_in t (length pictures) ≡ a + (m + e) → a * group_pictures t ≤ length pictures
    → of_groups t a (a + m) (reconstructions t pictures) ≡ in_delivery_order (map as_waiting (shown_groups t pictures (first_refs t pictures a) a m))
unfolding coded_under
groups_slice plans t pictures a m zero accepted few some is low =
    let n = length pictures in
    let gop = group_pictures t in
    let fs = in_delivery_order (map as_waiting (shown_groups t pictures [] 0 a)) in
    let gs = in_delivery_order (map as_waiting (shown_groups t pictures (first_refs t pictures a) a m)) in
    let k = (a + m - a) * gop in
    let one : length fs ≡ a * gop = groups_length t pictures [] 0 a some (omega (arith, is)) ∙ omega arith in
    let two = groups_length t pictures (first_refs t pictures a) a m some (omega (arith, is)) in
    let span : (a + m - a) * gop ≡ m * gop = ap (λ x. x * gop) (let e : a + m - a ≡ m = omega arith in e) in
    let long : (a + m) * gop ≡ a * gop + m * gop = omega arith in
    let rest : List Planned → List Picture = λ qs. in_delivery_order (map as_waiting (map shown_of (coded_from t (second_refs t pictures a m) (map (job_of pictures) qs)))) in
    ap (λ l. take k (drop (a * gop) l))
    (reconstructions_split plans t pictures a m 0 accepted few some is low ∙ ap (λ qs. fs ++ (gs ++ rest qs)) (part_none t n (a + m)))
    ∙ slice_last fs gs (a * gop) k one (omega arith)
groups_slice plans t pictures a m (suc e) accepted few some is low =
    let n = length pictures in
    let gop = group_pictures t in
    let fs = in_delivery_order (map as_waiting (shown_groups t pictures [] 0 a)) in
    let gs = in_delivery_order (map as_waiting (shown_groups t pictures (first_refs t pictures a) a m)) in
    let hs = in_delivery_order (map as_waiting (shown_groups t pictures (second_refs t pictures a m) (a + m) (suc e))) in
    let k = (a + m - a) * gop in
    let one : length fs ≡ a * gop = groups_length t pictures [] 0 a some (omega (arith, is)) ∙ omega arith in
    let two = groups_length t pictures (first_refs t pictures a) a m some (omega (arith, is)) in
    let span : (a + m - a) * gop ≡ m * gop = ap (λ x. x * gop) (let e : a + m - a ≡ m = omega arith in e) in
    let long : (a + m) * gop ≡ a * gop + m * gop = omega arith in
    let more : (a + m) * gop < n = part_begins t n (a + m) some (omega (arith, is)) in
    let same : length gs ≡ k = two ∙ omega arith in
    ap (λ l. take k (drop (a * gop) l)) (reconstructions_split plans t pictures a m (suc e) accepted few some is low) ∙ slice_full fs gs hs (a * gop) k one same

rebuilt_length : (ms : List Made) (index points : ℕ) → length (all_rebuilt index points ms) ≡ length ms
rebuilt_length [] index points = refl
rebuilt_length (m ∷ ms) index points = ap suc (rebuilt_length ms (suc (index_up index m)) (points_up points m))

-- ---- the law

pub stream_is : (t : Settings) (ms : List Made) → 0 < length ms → Begins ms → Codes ms → sequences (units_in t ms) ≡ stream_text t ms ∷ []
stream_is t [] some begins codes = absurd (omega arith)
stream_is t (m ∷ ms) some begins codes = stream_sequences t m ms begins.0 codes

some_text : (s : Sequence) (ps : List PictureText) (rs : List RebuiltText) → rebuilt_from s [] ps ≡ rs → 0 < length rs → 0 < length ps
unfolding rebuilt_from
some_text s [] rs is some = absurd (omega (arith, ap length is, some))
some_text s (p ∷ ps) rs is some = omega arith

-- a sequence and its part, which has pictures
part_stands : IsReadAsWritten → (units : List UnitText) (T : SequenceText) (a b : ℕ) (rs : List RebuiltText) (pictures : List Picture) → sequences units ≡ T ∷ [] → IsRead T → FitsSequence T
    → part_rebuilt a b T ≡ rs → 0 < length rs → open_from [] rs ≡ None → in_order (map rebuilt_picture rs) ≡ pictures → (open_cut units a b ≡ None) × ShowsJust (cut_bytes units a b) pictures
unfolding open_among RisesOpen
part_stands written units T a b rs pictures one read fits rebuilt many closed shown =
    let closed' : open_from [] (part_rebuilt a b T) ≡ None = ap (open_from []) rebuilt ∙ closed in
    let none : open_among a b (T ∷ []) ≡ None = ap (λ o. first_answer o None) closed' in
    let rises = subst (AllByRecursion RisesAll) one (texts_rise units 0 0 None tt) in
    let kept = all_kept (T ∷ []) a b (read, tt) rises none in
    let part = restricted a b T in
    let same = same_with_pictures (part ∷ []) kept.read in
    let s = kept.read.0.sequence in
    let again : rebuilt_from s [] part.pictures ≡ rs = sym (rebuilt_is s part kept.read.0.header) ∙ kept.each.0 ∙ rebuilt in
    let some = some_text s part.pictures rs again many in
    let test : nat_lt 0 (length part.pictures) ≡ true = lt-ltb 0 (length part.pictures) some in
    let parts : with_pictures (part ∷ []) ≡ part ∷ [] = ap (λ (c : Bool). if c then part ∷ [] else []) test in
    let all : all_shown (part ∷ []) ≡ pictures = kept.same ∙ append-nil (part_shown_of a b T) ∙ ap (λ l. in_order (map rebuilt_picture l)) rebuilt ∙ shown in
    let fit : AllByRecursion FitsSequence (part ∷ []) = restricted_fit (T ∷ []) a b (fits, tt) in
    let shows : ShowsJust (sequences_bytes 0 (part ∷ [])) pictures = stream_shown written (part ∷ []) pictures (omega arith) kept.read fit all in
    let bytes : cut_bytes units a b ≡ sequences_bytes 0 (part ∷ []) = ap (λ ts. sequences_bytes 0 (with_pictures (map (restricted a b) ts))) one ∙ ap (sequences_bytes 0) parts in
    (ap (open_among a b) one ∙ none, subst (λ l. ShowsJust l pictures) (sym bytes) shows)

encoded_by : IsReadAsWritten → PlansCanBeCoded → JobsAreRead → (t : Settings) (pictures : List Picture) (a m e : ℕ) → AreSources t pictures → groups_in t (length pictures) ≡ a + (suc m + e)
    → (open_cut (stream_units t pictures) a (a + suc m) ≡ None) × ShowsJust (cut_bytes (stream_units t pictures) a (a + suc m)) (of_groups t a (a + suc m) (reconstructions t pictures))
unfolding coded_under
encoded_by written plans law t pictures a m e is count =
    let n = length pictures in
    let some : 0 < t.gop = omega (arith, (paced t is.accepted).gop_least) in
    let inside : a * group_pictures t < n = part_begins t n a some (omega (arith, count)) in
    let low : a * group_pictures t ≤ n = omega arith in
    let ms = coding t pictures in
    let made = sources_made plans (jobs_read_under law) own_index own_gives t pictures (sources_under t pictures is) in
    let codes = codes_of t ms [] made.0 in
    let T = stream_text t ms in
    let long : length ms ≡ n = sym (length-map ms shown_of) ∙ length_shown t pictures [] (plan n t) ∙ length_plan n t some in
    let one = stream_is t ms (omega (arith, long)) made.1 codes in
    let rebuilt = are_rebuilt t ms [] 0 0 made.0 in
    let read : IsRead T = record { sequence = sequence_of t; header = header_read t is.accepted; pictures = rebuilt.read } in
    let fits : FitsSequence T = record { header = header_fits t; pictures = texts_fit_made t pictures [] (plan n t) 0 0 is.short codes } in
    let first = part_at t n 0 a in
    let second = part_at t n a (suc m) in
    let third = part_at t n (a + suc m) e in
    let refs = first_refs t pictures a in
    let xs = groups_made t pictures [] 0 a in
    let ys = groups_made t pictures refs a (suc m) in
    let zs = groups_made t pictures (second_refs t pictures a (suc m)) (a + suc m) e in
    let i = index_behind 0 xs in
    let ahead : points_behind 0 xs ≡ a = made_points t pictures [] first 0 ∙ part_points t n a 0 0 ∙ omega arith in
    let behind : points_behind a ys ≡ a + suc m = made_points t pictures refs second a ∙ part_points t n (suc m) a a in
    let chosen = part_made a (suc m) 0 xs ys zs ahead (made_begins t pictures refs second (part_begins_intra t n (suc m) a)) behind (made_begins t pictures (second_refs t pictures a (suc m)) third (part_begins_intra t n e (a + suc m))) in
    let part : part_rebuilt a (a + suc m) T ≡ all_rebuilt i a ys =
    ap (filter (is_among a (a + suc m))) (rebuilt_is (sequence_of t) T (header_read t is.accepted) ∙ rebuilt.same ∙ ap (all_rebuilt 0 0) (coding_split t pictures a (suc m) e count)) ∙ chosen in
    let closed = closed_groups t pictures a (suc m) e i a some count made.0 in
    let ps = map shown_of ys in
    let parts = are_parts t pictures a (suc m) e some count low in
    let wide : a * group_pictures t + group_pictures t ≤ (a + suc m) * group_pictures t = omega arith in
    let many : 0 < length (all_rebuilt i a ys) = omega (arith, rebuilt_length ys i a, length-map ys shown_of, length_shown t pictures refs second, length_part t n a (suc m) some (omega (arith, count)), inside, some_pictures t some) in
    let begin : first_in ps ≡ Some (a * group_pictures t) = first_made t pictures refs second ∙ part_first t n a m in
    let own = own_order ps (a * group_pictures t) (min n ((a + suc m) * group_pictures t)) parts.second (omega (arith, is.below_2_31)) begin in
    let shown : in_order (map rebuilt_picture (all_rebuilt i a ys)) ≡ of_groups t a (a + suc m) (reconstructions t pictures) =
    ap in_order (pictures_made ys i a) ∙ sym own ∙ sym (groups_slice plans t pictures a (suc m) e is.accepted is.below_2_31 some count low) in
    part_stands written (stream_units t pictures) T a (a + suc m) (all_rebuilt i a ys) (of_groups t a (a + suc m) (reconstructions t pictures)) one read fits part many closed shown

pub encoded_cuts : IsReadAsWritten → PlansCanBeCoded → JobsAreRead → EncodedCutsShowTheirGroups
encoded_cuts written plans law t pictures a b is less within =
    let m = b - a - 1 in
    let e = groups_in t (length pictures) - b in
    let same : a + suc m ≡ b = omega arith in
    let count : groups_in t (length pictures) ≡ a + (suc m + e) = omega arith in
    subst (λ x. (open_cut (stream_units t pictures) a x ≡ None) × ShowsJust (cut_bytes (stream_units t pictures) a x) (of_groups t a x (reconstructions t pictures))) same (encoded_by written plans law t pictures a m e is count)
