-- Joined sequences show the raw pictures of those that they come from.
use Rattle.std.proofs.Common.{◌≡◌, ℕ, ℤ, pos, ◌+ℤ◌, ◌-◌, ◌<◌, ◌≤◌, ◌^◌, if◌then◌else◌, true, false, List, [], ◌∷◌, ◌++◌, length, map, drop, None, Some, Ok, refl, sym, ◌∙◌, ap, ap₂, subst, arith, append_assoc, append-nil, length-append, length-drop}
use Rattle.std.specs.Prelude.{◌≤ℤ◌, nat_lt}
use Rattle.std.specs.Int.{to_be_bytes, w32}
use Rattle.std.specs.List.{AllByRecursion}
use Rattle.std.proofs.lemmas.Bool.{ltb-true}
use Rattle.std.proofs.lemmas.Int.{ints}
use Rattle.std.proofs.lemmas.List.{map-append}
use Rattle.dirac_common.specs.declared.picture.Picture.{Picture}
use Rattle.dirac_units.specs.Cut.{IsCut, after, first_unit_place}
use Rattle.dirac_units.specs.Writing.{IsReadAsWritten}
use Rattle.dirac_sequence_header.specs.declared.sequence.Sequence.{Sequence}
use Rattle.dirac_sequence_header.specs.Grammar.{sequence_read}
use Rattle.dirac_refs.specs.declared.waiting.Waiting.{Waiting}
use Rattle.dirac_refs.specs.Delivery.{in_delivery_order, key_of}
use Rattle.dirac_refs.specs.References.{as_reference}
use Rattle.dirac_refs.proofs.Listed.{few_committed}
use Rattle.dirac_plan_laws.proofs.Each.{each_append, each_drop}
use Rattle.dirac_content.specs.Raw.{raw, raws}
use Rattle.dirac_content.specs.Shown.{IsShown, Outcome, outcome}
use Rattle.dirac_content.specs.StreamState.{stream_begun, ended}
use Rattle.dirac_encode_laws.specs.Stream.{end_info, end_unit}
use Rattle.dirac_encode_laws.proofs.Cutting.{nothing_left}
use Rattle.dirac_encode_laws.proofs.Showing.{outcome_more}
use Rattle.dirac_edit_laws.specs.Joined.{Group, Keyed, bare, bytes_or_bare, first_number, group_of, groups_behind, groups_of, high, keyed_from, low, may_merge, merged, moved_key, number_in_payload, renumbered, renumbered_text}
use Rattle.dirac_edit_laws.specs.Laws.{JoinedStreamsShowTheSame, ShowsJust}
use Rattle.dirac_edit_laws.specs.Rebuilt.{AreRead, IsRead, RebuiltText, all_shown, in_order, list_behind, rebuilt_picture, rebuilt_from, rebuilt_of, rebuilt_text, sequence_shown, waiting_from, with_keys}
use Rattle.dirac_edit_laws.specs.Texts.{PictureText, SequenceText, sequences, with_pictures}
use Rattle.dirac_edit_laws.specs.Units.{end_for, pictures_bytes, sequences_bytes}
use Rattle.dirac_edit_laws.proofs.Closed.{one_rebuilt}
use Rattle.dirac_edit_laws.proofs.Cutting.{Fits, FitsOpen, FitsPicture, FitsSequence, end_cut, texts_fit, units_fit}
use Rattle.dirac_edit_laws.proofs.Keys.{AreAtLeast, AreAtMost, Merges, NumberMoves, above_low, add_none, below_high, key_in, key_inside, keys_in, merges, moved_above, not_before, number_moves, way}
use Rattle.dirac_edit_laws.proofs.Later.{later_leave_later}
use Rattle.dirac_edit_laws.proofs.Onward.{onward}
use Rattle.dirac_edit_laws.proofs.Parts.{rebuilt_is, same_with_pictures}
use Rattle.dirac_edit_laws.proofs.Renumbered.{IsNumbered, all_onward, picture_onward, rebuilt_text_onward, text_in, text_onward}
use Rattle.dirac_edit_laws.proofs.Restricted.{none_yet}
use Rattle.dirac_edit_laws.proofs.Shifted.{flush_moved, waiting_with}
use Rattle.dirac_edit_laws.proofs.Walking.{first_in, lists_behind, units_shown}
use Rattle.dirac_edit_laws.proofs.Whole.{stream_shown}
use Rattle.dirac_content.proofs.Flushing.{end_moves}
use Rattle.dirac_content.proofs.Raws.{raws_front}

-- a picture with its key moved by this, and its number moved on
abbrev waiting_onward : ℤ → ℕ → Waiting → Waiting
waiting_onward by d = waiting_with by (picture_onward d)

-- ---- pictures behind others

record ReadBehind (s : Sequence) (list : List Picture) (xs ys : List PictureText) : Type 0 where
  pub read : AreRead s list (xs ++ ys)
  pub same : rebuilt_from s list (xs ++ ys) ≡ rebuilt_from s list xs ++ rebuilt_from s (lists_behind list (rebuilt_from s list xs)) ys

read_behind : (xs : List PictureText) (s : Sequence) (list : List Picture) (ys : List PictureText) → AreRead s list xs → AreRead s (lists_behind list (rebuilt_from s list xs)) ys → ReadBehind s list xs ys
unfolding AreRead rebuilt_from
read_behind [] s list ys first second = record { read = second; same = refl }
read_behind (x ∷ xs) s list ys first second =
    let one = rebuilt_text s list x first.0 in
    let next = list_behind list one in
    let front = one_rebuilt s list x xs first.0 first.1 in
    let second' : AreRead s (lists_behind next (rebuilt_from s next xs)) ys = subst (λ (rs : List RebuiltText). AreRead s (lists_behind list rs) ys) front second in
    let rest = read_behind xs s next ys first.2 second' in
    record {
      read = (first.0, first.1, rest.read);
      same =
          one_rebuilt s list x (xs ++ ys) first.0 first.1 ∙ ap (λ rs. one ∷ rs) rest.same
          ∙ ap (λ rs. rs ++ rebuilt_from s (lists_behind list rs) ys) (sym front);
    }

-- no list is longer than eight
few_behind : (rs : List RebuiltText) (list : List Picture) → length list ≤ 8 → length (lists_behind list rs) ≤ 8
few_behind [] list few = few
few_behind (r ∷ rs) list few = few_behind rs (list_behind list r) (few_committed list r.coded.header.retire (as_reference r.coded.code r.picture) few)

-- ---- a sequence moved on

abbrev pictures_of : List RebuiltText → List Picture
pictures_of rs = map rebuilt_picture rs

pictures_onward : (d : ℕ) (rs : List RebuiltText) → pictures_of (map (rebuilt_text_onward d) rs) ≡ map (picture_onward d) (pictures_of rs)
pictures_onward d [] = refl
pictures_onward d (r ∷ rs) = ap (λ ps. picture_onward d r.picture ∷ ps) (pictures_onward d rs)

-- the keys of these pictures, moved, are inside
abbrev AreInside : ℕ → ℕ → List RebuiltText → Type 0
AreInside first by rs = AllByRecursion (λ (r : RebuiltText). (key_of first (number_in_payload r.text.payload) +ℤ pos by) ≤ℤ pos (2 ^ 31 - 1)) rs

-- what is known of a later sequence behind a former one, whose keys are moved by so much
record IsMoved (former first by : ℕ) (rs : List RebuiltText) : Type 0 where
  pub waits : map (waiting_from former) (map (picture_onward (way former first by)) (pictures_of rs)) ≡ map (waiting_onward (pos by) (way former first by)) (map (waiting_from first) (pictures_of rs))
  pub texts : map (renumbered former) (map (moved_key (pos by)) (map (keyed_from first) (map text_in rs))) ≡ map (text_onward (way former first by)) (map text_in rs)
  pub keys : map key_in (map (waiting_from former) (map (picture_onward (way former first by)) (pictures_of rs))) ≡ keys_in (map (moved_key (pos by)) (map (keyed_from first) (map text_in rs)))

moved_one : (former first by : ℕ) (r : RebuiltText) → former < 2 ^ 32 → first < 2 ^ 32 → by < 2 ^ 31 → IsNumbered r → (key_of first (number_in_payload r.text.payload) +ℤ pos by) ≤ℤ pos (2 ^ 31 - 1)
    → NumberMoves former first by (number_in_payload r.text.payload)
moved_one former first by r f l less n inside = number_moves former first by (number_in_payload r.text.payload) f l less inside

is_moved : (rs : List RebuiltText) (former first by : ℕ) → former < 2 ^ 32 → first < 2 ^ 32 → by < 2 ^ 31 → AllByRecursion IsNumbered rs → AreInside first by rs → IsMoved former first by rs
is_moved [] former first by f l less numbered inside = record { waits = refl; texts = refl; keys = refl }
is_moved (r ∷ rs) former first by f l less numbered inside =
    let n = number_in_payload r.text.payload in
    let d = way former first by in
    let m = moved_one former first by r f l less numbered.0 inside.0 in
    let rest = is_moved rs former first by f l less numbered.1 inside.1 in
    let same : r.picture.number ≡ n = numbered.0.number in
    let key : key_of former (onward d r.picture.number) ≡ key_of first r.picture.number +ℤ pos by =
    ap (λ x. key_of former (onward d x)) same ∙ m.key ∙ sym (ap (λ x. key_of first x +ℤ pos by) same) in
    let key' : key_of former (onward d r.picture.number) ≡ key_of first n +ℤ pos by = ap (λ x. key_of former (onward d x)) same ∙ m.key in
    record {
      waits = ap₂ (λ (z : ℤ) (ws : List Waiting). let w : Waiting = record { key = z; picture = picture_onward d r.picture } in w ∷ ws) key rest.waits;
      texts = ap₂ (λ (x : ℕ) (ts : List PictureText). let t : PictureText = record { index = r.text.index; points = r.text.points; code = r.text.code; payload = to_be_bytes w32 x ++ drop 4 r.text.payload } in t ∷ ts) m.number rest.texts;
      keys = ap₂ (λ (z : ℤ) (zs : List ℤ). z ∷ zs) key' rest.keys;
    }

-- ---- units moved on fit

bytes_below : (v : ℕ) → AllByRecursion (λ b. b < 2 ^ 8) (to_be_bytes w32 v)
bytes_below v = (omega arith, (omega arith, (omega arith, (omega arith, tt))))

fits_onward : (d : ℕ) (p : PictureText) → 4 ≤ length p.payload → FitsPicture p → FitsPicture (text_onward d p)
fits_onward d p long fits =
    let n = onward d (number_in_payload p.payload) in
    let front = to_be_bytes w32 n in
    let rest = drop 4 p.payload in
    let four : length front ≡ 4 = refl in
    record {
      code = fits.code;
      payload = record {
        short = omega (arith, fits.payload.short, length-append front rest, length-drop 4 p.payload, four);
        below = each_append (λ b. b < 2 ^ 8) front rest (bytes_below n) (each_drop (λ b. b < 2 ^ 8) 4 p.payload fits.payload.below);
      };
    }

all_fit_onward : (rs : List RebuiltText) (d : ℕ) → AllByRecursion IsNumbered rs → AllByRecursion FitsPicture (map text_in rs) → AllByRecursion FitsPicture (map (text_onward d) (map text_in rs))
all_fit_onward [] d numbered fits = tt
all_fit_onward (r ∷ rs) d numbered fits = (fits_onward d r.text numbered.0.long fits.0, all_fit_onward rs d numbered.1 fits.1)

-- ---- raw pictures have no numbers

raws_onward : (d : ℕ) (pictures : List Picture) → raws (map (picture_onward d) pictures) ≡ raws pictures
raws_onward d [] = refl
raws_onward d (p ∷ pictures) = ap (λ l. raw p ++ l) (raws_onward d pictures)

-- ---- a joined sequence

-- its pictures, rebuilt
abbrev rebuilt_in : Sequence → Group → List RebuiltText
rebuilt_in s g = rebuilt_from s [] (renumbered_text g).pictures

pub record IsSound (g : Group) (bytes : List ℕ) : Type 0 where
  pub sequence : Sequence
  pub header : sequence_read g.header ≡ Ok sequence
  pub header_fits : Fits g.header
  pub small : g.first < 2 ^ 32
  pub read : AreRead sequence [] (renumbered_text g).pictures
  pub fits : AllByRecursion FitsPicture (renumbered_text g).pictures
  pub first : first_in (pictures_of (rebuilt_in sequence g)) ≡ Some g.first
  pub keys : map key_in (with_keys (pictures_of (rebuilt_in sequence g))) ≡ keys_in g.pictures
  pub shown : raws (in_order (pictures_of (rebuilt_in sequence g))) ≡ bytes

-- a sequence that is read, with pictures
pub record IsFull (t : SequenceText) : Type 0 where
  pub read : IsRead t
  pub fits : FitsSequence t
  pub some : 0 < length t.pictures

-- the keys of pictures in coding order
pub keys_from : (first : ℕ) (pictures : List Picture) → first_in pictures ≡ Some first → with_keys pictures ≡ map (waiting_from first) pictures
keys_from first [] is = absurd cc
keys_from first (p ∷ pictures) is = let same : p.number ≡ first = cc in ap (λ n. map (waiting_from n) (p ∷ pictures)) same

-- what is known of a sequence of its own
record IsOwn (t : SequenceText) (s : Sequence) : Type 0 where
  pub header : sequence_read t.header ≡ Ok s
  pub read : AreRead s [] t.pictures
  pub numbered : AllByRecursion IsNumbered (rebuilt_from s [] t.pictures)
  pub texts : map text_in (rebuilt_from s [] t.pictures) ≡ t.pictures
  pub small : first_number t.pictures < 2 ^ 32
  pub first : first_in (pictures_of (rebuilt_from s [] t.pictures)) ≡ Some (first_number t.pictures)

first_is : (rs : List RebuiltText) (ps : List PictureText) → AllByRecursion IsNumbered rs → map text_in rs ≡ ps → 0 < length ps → first_in (pictures_of rs) ≡ Some (first_number ps)
first_is [] ps numbered is some = absurd (omega (arith, ap length is))
first_is (r ∷ rs) ps numbered is some = ap Some numbered.0.number ∙ ap (λ l. Some (first_number l)) is

first_small : (rs : List RebuiltText) (ps : List PictureText) → AllByRecursion IsNumbered rs → map text_in rs ≡ ps → 0 < length ps → first_number ps < 2 ^ 32
first_small [] ps numbered is some = absurd (omega (arith, ap length is))
first_small (r ∷ rs) ps numbered is some = subst (λ l. first_number l < 2 ^ 32) is numbered.0.small

own : (t : SequenceText) (f : IsFull t) → IsOwn t f.read.sequence
own t f =
    let s = f.read.sequence in
    let o = all_onward t.pictures s 0 [] [] (none_yet []) (omega arith) tt f.fits.pictures f.read.pictures in
    record {
      header = f.read.header;
      read = f.read.pictures;
      numbered = o.numbered;
      texts = o.texts;
      small = first_small (rebuilt_from s [] t.pictures) t.pictures o.numbered o.texts f.some;
      first = first_is (rebuilt_from s [] t.pictures) t.pictures o.numbered o.texts f.some;
    }

-- a sequence moved on, behind any list
record StandsBehind (s : Sequence) (former by : ℕ) (list : List Picture) (t : SequenceText) : Type 0 where
  pub texts : map (renumbered former) (map (moved_key (pos by)) (group_of t).pictures) ≡ map (text_onward (way former (first_number t.pictures) by)) t.pictures
  pub read : AreRead s list (map (text_onward (way former (first_number t.pictures) by)) t.pictures)
  pub fits : AllByRecursion FitsPicture (map (text_onward (way former (first_number t.pictures) by)) t.pictures)
  pub pictures : pictures_of (rebuilt_from s list (map (text_onward (way former (first_number t.pictures) by)) t.pictures)) ≡ map (picture_onward (way former (first_number t.pictures) by)) (pictures_of (rebuilt_from s [] t.pictures))
  pub waits : map (waiting_from former) (map (picture_onward (way former (first_number t.pictures) by)) (pictures_of (rebuilt_from s [] t.pictures))) ≡ map (waiting_onward (pos by) (way former (first_number t.pictures) by)) (with_keys (pictures_of (rebuilt_from s [] t.pictures)))
  pub keys : map key_in (map (waiting_from former) (map (picture_onward (way former (first_number t.pictures) by)) (pictures_of (rebuilt_from s [] t.pictures)))) ≡ keys_in (map (moved_key (pos by)) (group_of t).pictures)

-- keys of a sequence that lie inside, picture by picture
inside_by : (rs : List RebuiltText) (first by : ℕ) (top : ℤ) → (top +ℤ pos by) ≤ℤ pos (2 ^ 31 - 1) → AreAtMost top (keys_in (map (keyed_from first) (map text_in rs))) → AreInside first by rs
inside_by [] first by top most all = tt
inside_by (r ∷ rs) first by top most all = (lower (key_of first (number_in_payload r.text.payload)) top by all.0 most, inside_by rs first by top most all.1)
  where
    lower : (z top : ℤ) (by : ℕ) → z ≤ℤ top → (top +ℤ pos by) ≤ℤ pos (2 ^ 31 - 1) → (z +ℤ pos by) ≤ℤ pos (2 ^ 31 - 1)
    lower z top by low most = omega (arith, ints)

stands_behind : (s : Sequence) (former by : ℕ) (list : List Picture) (t : SequenceText) → length list ≤ 8 → former < 2 ^ 32 → by < 2 ^ 31 → FitsSequence t → IsOwn t s
    → AreInside (first_number t.pictures) by (rebuilt_from s [] t.pictures) → StandsBehind s former by list t
stands_behind s former by list t few small less fits o inside =
    let first = first_number t.pictures in
    let d = way former first by in
    let rs = rebuilt_from s [] t.pictures in
    let m = is_moved rs former first by small o.small less o.numbered inside in
    let on = all_onward t.pictures s d [] list (none_yet list) few tt fits.pictures o.read in
    let fit : AllByRecursion FitsPicture (map text_in rs) = subst (AllByRecursion FitsPicture) (sym o.texts) fits.pictures in
    record {
      texts = subst (λ (ps : List PictureText). map (renumbered former) (map (moved_key (pos by)) (map (keyed_from first) ps)) ≡ map (text_onward d) ps) o.texts m.texts;
      read = on.read;
      fits = subst (λ (ps : List PictureText). AllByRecursion FitsPicture (map (text_onward d) ps)) o.texts (all_fit_onward rs d o.numbered fit);
      pictures = ap (map rebuilt_picture) on.same ∙ pictures_onward d rs;
      waits = m.waits ∙ ap (map (waiting_onward (pos by) d)) (sym (keys_from first (pictures_of rs) o.first));
      keys = m.keys ∙ ap (λ ps. keys_in (map (moved_key (pos by)) (map (keyed_from first) ps))) o.texts;
    }

-- ---- a sequence of its own

first_front : (xs ys : List Picture) (n : ℕ) → first_in xs ≡ Some n → first_in (xs ++ ys) ≡ Some n
first_front [] ys n is = absurd cc
first_front (x ∷ xs) ys n is = is

first_onward : (d : ℕ) (pictures : List Picture) (n : ℕ) → first_in pictures ≡ Some n → first_in (map (picture_onward d) pictures) ≡ Some (onward d n)
first_onward d [] n is = absurd cc
first_onward d (p ∷ pictures) n is = let same : p.number ≡ n = cc in ap (λ m. Some (onward d m)) same

moved_none : (ks : List Keyed) → map (moved_key (pos 0)) ks ≡ ks
moved_none [] = refl
moved_none (k ∷ ks) = ap₂ (λ (z : ℤ) (l : List Keyed). let x : Keyed = record { key = z; picture = k.picture } in x ∷ l) (add_none k.key) (moved_none ks)

all_inside : (rs : List RebuiltText) (first : ℕ) → AreInside first 0 rs
all_inside [] first = tt
all_inside (r ∷ rs) first = (key_inside first (number_in_payload r.text.payload), all_inside rs first)

way_none : (first : ℕ) → first < 2 ^ 32 → onward (way first first 0) first ≡ first
way_none first small = omega arith

-- what moved pictures show, raw
moved_shown : (by d : ℕ) (ws' ws : List Waiting) → ws' ≡ map (waiting_onward (pos by) d) ws → raws (in_delivery_order ws') ≡ raws (in_delivery_order ws)
moved_shown by d ws' ws is = ap (λ l. raws (in_delivery_order l)) is ∙ ap raws (flush_moved (pos by) (picture_onward d) ws) ∙ raws_onward d (in_delivery_order ws)

shown_as : (s : Sequence) (t : SequenceText) → sequence_read t.header ≡ Ok s → sequence_shown t ≡ in_delivery_order (with_keys (pictures_of (rebuilt_from s [] t.pictures)))
shown_as s t is = ap (λ rs. in_delivery_order (with_keys (pictures_of rs))) (rebuilt_is s t is)

pub own_sound : (t : SequenceText) → IsFull t → IsSound (group_of t) (raws (sequence_shown t))
own_sound t f =
    let s = f.read.sequence in
    let first = first_number t.pictures in
    let d = way first first 0 in
    let o = own t f in
    let rs = rebuilt_from s [] t.pictures in
    let b = stands_behind s first 0 [] t (omega arith) o.small (omega arith) f.fits o (all_inside rs first) in
    let qs = map (text_onward d) t.pictures in
    let texts : (renumbered_text (group_of t)).pictures ≡ qs = ap (map (renumbered first)) (sym (moved_none (group_of t).pictures)) ∙ b.texts in
    let ps = pictures_of (rebuilt_from s [] qs) in
    let now : pictures_of (rebuilt_in s (group_of t)) ≡ ps = ap (λ l. pictures_of (rebuilt_from s [] l)) texts in
    let begin : first_in ps ≡ Some first = ap first_in b.pictures ∙ first_onward d (pictures_of rs) first o.first ∙ ap Some (way_none first o.small) in
    let waits : with_keys ps ≡ map (waiting_from first) (map (picture_onward d) (pictures_of rs)) = keys_from first ps begin ∙ ap (map (waiting_from first)) b.pictures in
    record {
      sequence = s;
      header = f.read.header;
      header_fits = f.fits.header;
      small = o.small;
      read = subst (AreRead s []) (sym texts) b.read;
      fits = subst (AllByRecursion FitsPicture) (sym texts) b.fits;
      first = ap first_in now ∙ begin;
      keys = ap (λ l. map key_in (with_keys l)) now ∙ ap (map key_in) waits ∙ b.keys ∙ ap keys_in (moved_none (group_of t).pictures);
      shown =
          ap (λ l. raws (in_order l)) now ∙ moved_shown 0 d (with_keys ps) (with_keys (pictures_of rs)) (waits ∙ b.waits)
          ∙ sym (ap raws (shown_as s t f.read.header));
    }

-- ---- a merge

at_least_moved : (ks : List Keyed) (bottom top : ℤ) (by : ℕ) → top ≤ℤ (bottom +ℤ pos by) → AreAtLeast bottom (keys_in ks) → AreAtLeast top (keys_in (map (moved_key (pos by)) ks))
at_least_moved [] bottom top by most all = tt
at_least_moved (k ∷ ks) bottom top by most all = (raise k.key bottom top by all.0 most, at_least_moved ks bottom top by most all.1)
  where
    raise : (z bottom top : ℤ) (by : ℕ) → bottom ≤ℤ z → top ≤ℤ (bottom +ℤ pos by) → top ≤ℤ (z +ℤ pos by)
    raise z bottom top by low most = omega (arith, ints)

pub at_most_itself : (z : ℤ) → z ≤ℤ z
at_most_itself z = omega (arith, ints)

-- pictures behind those of a joined sequence
record Appended (g : Group) (s : Sequence) (before later : List Picture) (former : ℕ) : Type 0 where
  pub first : first_in (before ++ later) ≡ Some former
  pub waits : with_keys (before ++ later) ≡ with_keys before ++ map (waiting_from former) later

appended_keys : (g : Group) (s : Sequence) (before later : List Picture) (former : ℕ) → first_in before ≡ Some former → Appended g s before later former
appended_keys g s before later former is =
    let first = first_front before later former is in
    record {
      first = first;
      waits = keys_from former (before ++ later) first ∙ map-append (waiting_from former) before later ∙ ap (λ l. l ++ map (waiting_from former) later) (sym (keys_from former before is));
    }

-- the later sequence has the former one's header
own_as : (t : SequenceText) (s' s : Sequence) → IsOwn t s' → sequence_read t.header ≡ Ok s → IsOwn t s
own_as t s' s o is =
    let same : Ok s' ≡ Ok s = sym o.header ∙ is in
    let same' : s' ≡ s = cc in
    subst (IsOwn t) same' o

pub merge_sound : (g : Group) (bytes : List ℕ) (t : SequenceText) → IsSound g bytes → IsFull t → may_merge g (group_of t) ≡ true → IsSound (merged g (group_of t)) (bytes ++ raws (sequence_shown t))
merge_sound g bytes t i f is =
    let l = group_of t in
    let m : Merges g l = merges g l is in
    let s = i.sequence in
    let read_header : sequence_read t.header ≡ Ok s = ap sequence_read m.header ∙ i.header in
    let o : IsOwn t s = own_as t f.read.sequence s (own t f) read_header in
    let first = first_number t.pictures in
    let d = way g.first first m.by in
    let rs = rebuilt_from s [] t.pictures in
    let before = rebuilt_in s g in
    let list = lists_behind [] before in
    let few = few_behind before [] (omega arith) in
    let most : AreAtMost (high l.pictures) (keys_in (map (keyed_from first) (map text_in rs))) =
    subst (λ (ps : List PictureText). AreAtMost (high l.pictures) (keys_in (map (keyed_from first) ps))) (sym o.texts) (below_high l.pictures (high l.pictures) (at_most_itself (high l.pictures))) in
    let b = stands_behind s g.first m.by list t few i.small m.less f.fits o (inside_by rs first m.by (high l.pictures) m.inside most) in
    let qs = map (text_onward d) t.pictures in
    let front = (renumbered_text g).pictures in
    let texts : (renumbered_text (merged g l)).pictures ≡ front ++ qs =
    ap (λ z. map (renumbered g.first) (g.pictures ++ map (moved_key z) l.pictures)) m.is
    ∙ map-append (renumbered g.first) g.pictures (map (moved_key (pos m.by)) l.pictures) ∙ ap (λ x. front ++ x) b.texts in
    let rb = read_behind front s [] qs i.read b.read in
    let ps = pictures_of before in
    let later = map (picture_onward d) (pictures_of rs) in
    let now : pictures_of (rebuilt_in s (merged g l)) ≡ ps ++ later =
    ap (λ x. pictures_of (rebuilt_from s [] x)) texts ∙ ap pictures_of rb.same ∙ map-append rebuilt_picture before (rebuilt_from s list qs) ∙ ap (λ x. ps ++ x) b.pictures in
    let a = appended_keys g s ps later g.first i.first in
    let ws = map (waiting_from g.first) later in
    let top = high g.pictures in
    let low_keys : AreAtMost top (map key_in (with_keys ps)) = subst (AreAtMost top) (sym i.keys) (below_high g.pictures top (at_most_itself top)) in
    let high_keys : AreAtLeast top (map key_in ws) =
    subst (AreAtLeast top) (sym b.keys) (at_least_moved l.pictures (low l.pictures) top m.by (moved_above g l m) (above_low l.pictures (low l.pictures) (at_most_itself (low l.pictures)))) in
    let order = not_before (with_keys ps) ws top low_keys high_keys in
    record {
      sequence = s;
      header = i.header;
      header_fits = i.header_fits;
      small = i.small;
      read = subst (AreRead s []) (sym texts) rb.read;
      fits = subst (AllByRecursion FitsPicture) (sym texts) (each_append FitsPicture front qs i.fits b.fits);
      first = ap first_in now ∙ a.first;
      keys =
          ap (λ x. map key_in (with_keys x)) now ∙ ap (map key_in) a.waits ∙ map-append key_in (with_keys ps) ws
          ∙ ap₂ (λ (x y : List ℤ). x ++ y) i.keys b.keys
          ∙ sym (map-append (λ (k : Keyed). k.key) g.pictures (map (moved_key (pos m.by)) l.pictures))
          ∙ ap (λ z. keys_in (g.pictures ++ map (moved_key z) l.pictures)) (sym m.is);
      shown =
          ap (λ x. raws (in_order x)) now ∙ ap (λ x. raws (in_delivery_order x)) a.waits
          ∙ ap raws (later_leave_later (with_keys ps) ws order)
          ∙ raws_front (in_delivery_order (with_keys ps)) (in_delivery_order ws)
          ∙ ap₂ (λ (x y : List ℕ). x ++ y) i.shown (moved_shown m.by d ws (with_keys (pictures_of rs)) b.waits ∙ sym (ap raws (shown_as s t read_header)));
    }

-- ---- all sequences

-- joined sequences that are read and show these raw pictures
pub record AreSound (gs : List Group) (bytes : List ℕ) : Type 0 where
  pub read : AllByRecursion IsRead (map renumbered_text gs)
  pub fits : AllByRecursion FitsSequence (map renumbered_text gs)
  pub shown : raws (all_shown (map renumbered_text gs)) ≡ bytes
  pub some : 0 < length (map renumbered_text gs)

one_sound : (g : Group) (bytes : List ℕ) (gs : List Group) (more : List ℕ) → IsSound g bytes → AllByRecursion IsRead (map renumbered_text gs) → AllByRecursion FitsSequence (map renumbered_text gs) → raws (all_shown (map renumbered_text gs)) ≡ more
    → AreSound (g ∷ gs) (bytes ++ more)
one_sound g bytes gs more i read fits shown = record {
  read = (record { sequence = i.sequence; header = i.header; pictures = i.read }, read);
  fits = (record { header = i.header_fits; pictures = i.fits }, fits);
  shown =
      raws_front (sequence_shown (renumbered_text g)) (all_shown (map renumbered_text gs))
      ∙ ap₂ (λ (x y : List ℕ). x ++ y) (ap raws (shown_as i.sequence (renumbered_text g) i.header) ∙ i.shown) shown;
  some = omega arith;
}

pub groups_sound : (ts : List SequenceText) (now : Group) (bytes : List ℕ) → IsSound now bytes → AllByRecursion IsFull ts → AreSound (groups_behind now (map group_of ts)) (bytes ++ raws (all_shown ts))
unfolding groups_behind
groups_sound [] now bytes i all = one_sound now bytes [] [] i tt tt refl
groups_sound (t ∷ ts) now bytes i all =
    let rest = map group_of ts in
    let shown : bytes ++ raws (all_shown (t ∷ ts)) ≡ bytes ++ (raws (sequence_shown t) ++ raws (all_shown ts)) = ap (λ x. bytes ++ x) (raws_front (sequence_shown t) (all_shown ts)) in
    subst (AreSound (groups_behind now (map group_of (t ∷ ts)))) (sym shown)
    (elim (may_merge now (group_of t)) as (λ b. may_merge now (group_of t) ≡ b → AreSound (if b then groups_behind (merged now (group_of t)) rest else now ∷ groups_behind (group_of t) rest) (bytes ++ (raws (sequence_shown t) ++ raws (all_shown ts)))) [
      | true ↦ λ is.
          subst (AreSound (groups_behind (merged now (group_of t)) rest)) (append_assoc bytes (raws (sequence_shown t)) (raws (all_shown ts)))
          (groups_sound ts (merged now (group_of t)) (bytes ++ raws (sequence_shown t)) (merge_sound now bytes t i all.0 is) all.1)
      | false ↦ λ is.
          let later = groups_sound ts (group_of t) (raws (sequence_shown t)) (own_sound t all.0) all.1 in
          one_sound now bytes (groups_behind (group_of t) rest) (raws (sequence_shown t) ++ raws (all_shown ts)) i later.read later.fits later.shown
    ] refl)

-- ---- the whole stream

pub each_full : (ts : List SequenceText) → AllByRecursion IsRead ts → AllByRecursion FitsSequence ts → AllByRecursion IsFull (with_pictures ts)
each_full [] read fits = tt
each_full (t ∷ ts) read fits =
    elim (nat_lt 0 (length t.pictures)) as (λ b. nat_lt 0 (length t.pictures) ≡ b → AllByRecursion IsFull (if b then t ∷ with_pictures ts else with_pictures ts)) [
      | true ↦ λ e. (record { read = read.0; fits = fits.0; some = ltb-true 0 (length t.pictures) e }, each_full ts read.1 fits.1)
      | false ↦ λ e. each_full ts read.1 fits.1
    ] refl

-- a stream of a header alone, and of an end unit alone
bare_shown : IsReadAsWritten → (ts : List SequenceText) → AllByRecursion IsRead ts → AllByRecursion FitsSequence ts → ShowsJust (bare ts) []
unfolding outcome sequences_bytes pictures_bytes AreRead rebuilt_of rebuilt_from
bare_shown written [] read fits =
    let units = end_for 0 ∷ [] in
    let cut : IsCut first_unit_place (end_unit 0) units None = subst (λ (l : List ℕ). IsCut first_unit_place l units None) (append-nil (end_unit 0)) (end_cut written 0 first_unit_place [] [] (omega arith) (nothing_left (after first_unit_place (end_info 0)) refl)) in
    let step = outcome_more stream_begun first_unit_place (end_for 0) [] (ended stream_begun) (end_moves stream_begun 0x10 [] refl) in
    (outcome stream_begun first_unit_place units None, record { units = units; end = None; cut = cut; same = refl }, ap (λ (o : Outcome). o.shown) step, ap (λ (o : Outcome). o.end) step)
bare_shown written (t ∷ ts) read fits =
    let alone : SequenceText = record { header = t.header; pictures = [] } in
    let one : IsRead alone = record { sequence = read.0.sequence; header = read.0.header; pictures = tt } in
    let fit : FitsSequence alone = record { header = fits.0.header; pictures = tt } in
    let shown : all_shown (alone ∷ []) ≡ [] = append-nil (sequence_shown alone) ∙ shown_as read.0.sequence alone read.0.header in
    let whole : sequences_bytes 0 (alone ∷ []) ≡ bare (t ∷ ts) = append-nil (bare (t ∷ ts)) in
    subst (λ (l : List ℕ). ShowsJust l []) whole (stream_shown written (alone ∷ []) [] (omega arith) (one, tt) (fit, tt) shown)

-- what is shown and has these raw pictures
abbrev ShowsRaw : List ℕ → List ℕ → Type 0
ShowsRaw bytes raw = (o : Outcome) × IsShown bytes o × (raws o.shown ≡ raw) × (o.end ≡ None)

raw_shown : (bytes raw : List ℕ) (pictures : List Picture) → ShowsJust bytes pictures → raws pictures ≡ raw → ShowsRaw bytes raw
raw_shown bytes raw pictures shows is = (shows.0, shows.1, ap raws shows.2 ∙ is, shows.3)

some_joined : IsReadAsWritten → (all : List SequenceText) (gs : List Group) (bytes : List ℕ) → AreSound gs bytes → ShowsRaw (bytes_or_bare all (map renumbered_text gs)) bytes
some_joined written all [] bytes a = absurd (omega (arith, a.some))
some_joined written all (g ∷ gs) bytes a =
    let ts = map renumbered_text (g ∷ gs) in
    raw_shown (sequences_bytes 0 ts) bytes (all_shown ts) (stream_shown written ts (all_shown ts) a.some a.read a.fits refl) a.shown

joined_by : IsReadAsWritten → (all full : List SequenceText) → AllByRecursion IsRead all → AllByRecursion FitsSequence all → AllByRecursion IsFull full → ShowsRaw (bytes_or_bare all (map renumbered_text (groups_of (map group_of full)))) (raws (all_shown full))
joined_by written all [] read fits each = raw_shown (bare all) [] [] (bare_shown written all read fits) refl
joined_by written all (t ∷ full) read fits each =
    let a = groups_sound full (group_of t) (raws (sequence_shown t)) (own_sound t each.0) each.1 in
    let same : raws (sequence_shown t) ++ raws (all_shown full) ≡ raws (all_shown (t ∷ full)) = sym (raws_front (sequence_shown t) (all_shown full)) in
    subst (ShowsRaw (bytes_or_bare all (map renumbered_text (groups_behind (group_of t) (map group_of full))))) same
    (some_joined written all (groups_behind (group_of t) (map group_of full)) (raws (sequence_shown t) ++ raws (all_shown full)) a)

-- the law
pub joins_shown : IsReadAsWritten → JoinedStreamsShowTheSame
unfolding FitsOpen
joins_shown written bytes units f =
    let ts = sequences units in
    let all = units_shown units f.none in
    let fits = texts_fit units 0 0 None (units_fit units first_unit_place bytes None f.below f.cut) tt in
    let same = same_with_pictures ts all.0 in
    let shows = joined_by written ts (with_pictures ts) all.0 fits (each_full ts all.0 fits) in
    (shows.0, shows.1, shows.2 ∙ ap raws (same.same ∙ sym all.1), shows.3)
