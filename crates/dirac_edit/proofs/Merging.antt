-- Sequences that are joined while they're written are the joined ones.
use Rattle.std.proofs.Common.{◌≡◌, ◌∙◌, ℕ, ℤ, pos, ◌+ℤ◌, ◌+◌, ◌-◌, ◌%◌, ◌<◌, ◌≤◌, ◌^◌, ◌&&◌, nat_lt, if◌then◌else◌, Bool, true, false, List, [], ◌∷◌, ◌++◌, drop, map, length, get_or, Option, None, Some, refl, sym, ap, ap₂, subst, arith, append_assoc, append-nil}
use Rattle.std.specs.Prelude.{int_le, ◌-ℤ◌}
use Rattle.std.proofs.lemmas.Bool.{cond-false, cond-true, le-ltb, lt-ltb}
use Rattle.std.proofs.lemmas.Int.{ints}
use Rattle.std.proofs.lemmas.List.{drop_all, map-append}
use Rattle.dirac_common.specs.declared.codes.TheConstants.{SEQUENCE_HEADER}
use Rattle.dirac_content.specs.StreamState.{is_same}
use Rattle.dirac_encode_laws.specs.Stream.{end_unit, unit}
use Rattle.dirac_edit_laws.specs.Joined.{Group, bare, bytes_or_bare, first_number, group_of, groups_behind, groups_of, high, joined_sequences, low, may_merge, merged, moved_key, renumbered, shift, renumbered_text}
use Rattle.dirac_edit_laws.specs.Texts.{PictureText, SequenceText, with_pictures}
use Rattle.dirac_edit_laws.specs.Units.{pictures_bytes, sequence_bytes, sequences_bytes}
use Rattle.dirac_edit_laws.proofs.Keys.{Merges, below_high, merges}
use Rattle.dirac_edit.specs.Merged.{Added, Latest, WritingProgress, added, added_behind, below, keys_among, length_behind, may_follow, moved_on, onto, own_sequence, own_bytes, own_length, shift_onto, units_behind, way_onto}
use Rattle.dirac_edit.proofs.Going.{left_at}
use Rattle.dirac_edit.proofs.Placed.{high_is, high_onto, low_is, moved_texts_are, own_texts}
use Rattle.dirac_edit_laws.proofs.Joining.{at_most_itself}

-- ---- bytes

-- the units of pictures, and those of more pictures behind them
units_append : (xs ys : List PictureText) (previous : ℕ) → units_behind previous (xs ++ ys) ≡ units_behind previous xs ++ units_behind (length_behind previous xs) ys
unfolding units_behind length_behind
units_append [] ys previous = refl
units_append (x ∷ xs) ys previous =
    ap (λ bs. unit x.code previous x.payload ++ bs) (units_append xs ys (13 + length x.payload))
    ∙ sym (append_assoc (unit x.code previous x.payload) (units_behind (13 + length x.payload) xs) (units_behind (length_behind (13 + length x.payload) xs) ys))

length_append : (xs ys : List PictureText) (previous : ℕ) → length_behind previous (xs ++ ys) ≡ length_behind (length_behind previous xs) ys
unfolding length_behind
length_append [] ys previous = refl
length_append (x ∷ xs) ys previous = length_append xs ys (13 + length x.payload)

-- and an end unit
units_ended : (xs : List PictureText) (previous : ℕ) → pictures_bytes previous xs ≡ units_behind previous xs ++ end_unit (length_behind previous xs)
unfolding pictures_bytes units_behind length_behind
units_ended [] previous = refl
units_ended (x ∷ xs) previous =
    ap (λ bs. unit x.code previous x.payload ++ bs) (units_ended xs (13 + length x.payload))
    ∙ sym (append_assoc (unit x.code previous x.payload) (units_behind (13 + length x.payload) xs) (end_unit (length_behind (13 + length x.payload) xs)))

-- the units of a group up to its end unit, and the length of the last one
abbrev pub group_bytes : ℕ → Group → List ℕ
group_bytes previous g = unit SEQUENCE_HEADER previous g.header ++ units_behind (13 + length g.header) (renumbered_text g).pictures

abbrev pub group_length : Group → ℕ
group_length g = length_behind (13 + length g.header) (renumbered_text g).pictures

group_ended : (g : Group) (previous : ℕ) → sequence_bytes previous (renumbered_text g) ≡ group_bytes previous g ++ end_unit (group_length g)
group_ended g previous =
    ap (λ bs. unit SEQUENCE_HEADER previous g.header ++ bs) (units_ended (renumbered_text g).pictures (13 + length g.header))
    ∙ sym (append_assoc (unit SEQUENCE_HEADER previous g.header) (units_behind (13 + length g.header) (renumbered_text g).pictures) (end_unit (group_length g)))

-- the pictures that are appended to a group
abbrev pub appended : Group → Group → List PictureText
appended now g = map (renumbered now.first) (map (moved_key (shift now g)) g.pictures)

merged_texts : (now g : Group) → (renumbered_text (merged now g)).pictures ≡ (renumbered_text now).pictures ++ appended now g
merged_texts now g = map-append (renumbered now.first) now.pictures (map (moved_key (shift now g)) g.pictures)

merged_bytes : (now g : Group) (previous : ℕ) → group_bytes previous (merged now g) ≡ group_bytes previous now ++ units_behind (group_length now) (appended now g)
merged_bytes now g previous =
    let head = unit SEQUENCE_HEADER previous now.header in
    let n = 13 + length now.header in
    ap (λ ps. head ++ units_behind n ps) (merged_texts now g) ∙ ap (λ bs. head ++ bs) (units_append (renumbered_text now).pictures (appended now g) n)
    ∙ sym (append_assoc head (units_behind n (renumbered_text now).pictures) (units_behind (group_length now) (appended now g)))

merged_length : (now g : Group) → group_length (merged now g) ≡ length_behind (group_length now) (appended now g)
merged_length now g =
    ap (length_behind (13 + length now.header)) (merged_texts now g) ∙ length_append (renumbered_text now).pictures (appended now g) (13 + length now.header)

-- what is left to be written behind the pictures of a group
unfoldable pub tail : ℕ → Group → List Group → List ℕ
tail previous now [] = end_unit previous
tail previous now (g ∷ gs) =
    if may_merge now g then units_behind previous (appended now g) ++ tail (length_behind previous (appended now g)) (merged now g) gs
    else end_unit previous ++ (group_bytes 13 g ++ tail (group_length g) g gs)

tail_is : (gs : List Group) (now : Group) (previous : ℕ) → sequences_bytes previous (map renumbered_text (groups_behind now gs)) ≡ group_bytes previous now ++ tail (group_length now) now gs
unfolding sequences_bytes groups_behind tail
tail_is [] now previous = append-nil (sequence_bytes previous (renumbered_text now)) ∙ group_ended now previous
tail_is (g ∷ gs) now previous =
    let front = group_bytes previous now in
    let n = group_length now in
    elim (may_merge now g) as (λ b. sequences_bytes previous (map renumbered_text (if b then groups_behind (merged now g) gs else now ∷ groups_behind g gs))
    ≡ front ++ (if b then units_behind n (appended now g) ++ tail (length_behind n (appended now g)) (merged now g) gs else end_unit n ++ (group_bytes 13 g ++ tail (group_length g) g gs))) [
      | true ↦
          tail_is gs (merged now g) previous
          ∙ ap₂ (λ (bs : List ℕ) (m : ℕ). bs ++ tail m (merged now g) gs) (merged_bytes now g previous) (merged_length now g)
          ∙ append_assoc front (units_behind n (appended now g)) (tail (length_behind n (appended now g)) (merged now g) gs)
      | false ↦
          ap₂ (λ (bs more : List ℕ). bs ++ more) (group_ended now previous) (tail_is gs g 13)
          ∙ append_assoc front (end_unit n) (group_bytes 13 g ++ tail (group_length g) g gs)
    ]

-- the same where nothing is written yet; where there is no group, just this is written
abbrev pub whole : List ℕ → List Group → List ℕ
whole none [] = none
whole none (g ∷ gs) = sequences_bytes 0 (map renumbered_text (groups_behind g gs))

abbrev pub left : List ℕ → ℕ → Option Group → List Group → List ℕ
left none previous None gs = whole none gs
left none previous (Some now) gs = tail previous now gs

some_joined : (all : List SequenceText) (gs : List Group) (g : Group) → bytes_or_bare all (map renumbered_text (groups_behind g gs)) ≡ sequences_bytes 0 (map renumbered_text (groups_behind g gs))
unfolding groups_behind
some_joined all [] g = refl
some_joined all (h ∷ gs) g =
    elim (may_merge g h) as (λ b. bytes_or_bare all (map renumbered_text (if b then groups_behind (merged g h) gs else g ∷ groups_behind h gs)) ≡ sequences_bytes 0 (map renumbered_text (if b then groups_behind (merged g h) gs else g ∷ groups_behind h gs))) [
      | true ↦ some_joined all gs (merged g h)
      | false ↦ refl
    ]

joined_is : (all : List SequenceText) (gs : List Group) → bytes_or_bare all (map renumbered_text (groups_of gs)) ≡ whole (bare all) gs
joined_is all [] = refl
joined_is all (g ∷ gs) = some_joined all gs g

pub all_left : (all : List SequenceText) → bytes_or_bare all (joined_sequences all) ≡ left (bare all) 0 None (map group_of (with_pictures all))
all_left all = joined_is all (map group_of (with_pictures all))

-- ---- how far the writing is

-- this group was written last
pub record IsLatest (l : Latest) (g : Group) : Type 0 where
  pub header : g.header ≡ l.header
  pub first : g.first ≡ l.first
  pub high : high g.pictures ≡ pos l.high
  pub small : g.first < 2 ^ 32

abbrev pub IsAt : Option Latest → ℕ → Option Group → Type 0
IsAt None previous None = previous ≡ 0
IsAt None previous (Some g) = ⊥
IsAt (Some l) previous None = ⊥
IsAt (Some l) previous (Some g) = IsLatest l g

-- its keys and those of the next one
shift_is : (now : Group) (l : Latest) (t : SequenceText) → IsLatest l now → shift now (group_of t) ≡ pos (shift_onto l (keys_among t.pictures))
shift_is now l t i =
    let ks = (group_of t).pictures in
    by_low (high now.pictures) (low ks) l.high (below ks) i.high (low_is ks) where
      by_low : (top bottom : ℤ) (m n : ℕ) → top ≡ pos m → bottom +ℤ pos n ≡ pos 0 → (top +ℤ pos 1) -ℤ bottom ≡ pos (m + 1 + n)
      by_low top bottom m n is is' = omega (arith, ints, is, is')

sum_is : (z w : ℤ) (m n : ℕ) → z ≡ pos m → w ≡ pos n → z +ℤ w ≡ pos (m + n)
sum_is z w m n is is' = ap₂ (λ (x y : ℤ). x +ℤ y) is is'

may_is : (now : Group) (l : Latest) (t : SequenceText) → IsLatest l now → may_merge now (group_of t) ≡ may_follow l t.header (keys_among t.pictures)
may_is now l t i =
    let ks = (group_of t).pictures in
    let k = keys_among t.pictures in
    ap₂ (λ (h : List ℕ) (z : ℤ). is_same t.header h && int_le z (pos (2 ^ 31 - 1))) i.header
    (sum_is (shift now (group_of t)) (high ks) (shift_onto l k) k.above (shift_is now l t i) (high_is ks))

-- a sequence of its own
own_is : (t : SequenceText) → first_number t.pictures < 2 ^ 32 → IsLatest (record { header = t.header; first = first_number t.pictures; high = (keys_among t.pictures).above }) (group_of t)
own_is t small = record { header = refl; first = refl; high = high_is (group_of t).pictures; small = small }

own_group : (t : SequenceText) (previous : ℕ) → first_number t.pictures < 2 ^ 32 → group_bytes previous (group_of t) ≡ own_bytes previous t
own_group t previous small = ap (λ ps. unit SEQUENCE_HEADER previous t.header ++ units_behind (13 + length t.header) ps) (own_texts (first_number t.pictures) t.pictures small)

own_last : (t : SequenceText) → first_number t.pictures < 2 ^ 32 → group_length (group_of t) ≡ own_length t
own_last t small = ap (length_behind (13 + length t.header)) (own_texts (first_number t.pictures) t.pictures small)

-- one that is appended
appended_are : (now : Group) (l : Latest) (t : SequenceText) → IsLatest l now → first_number t.pictures < 2 ^ 32 → may_merge now (group_of t) ≡ true
    → appended now (group_of t) ≡ map (moved_on (way_onto l (keys_among t.pictures))) t.pictures
appended_are now l t i small may =
    let g = group_of t in
    let k = keys_among t.pictures in
    let first = first_number t.pictures in
    let m : Merges now g = merges now g may in
    let by : m.by ≡ shift_onto l k = cc (m.is, shift_is now l t i) in
    let way : way_onto l k ≡ ((now.first + m.by) % 2 ^ 32 + (2 ^ 32 - first)) % 2 ^ 32 =
    ap₂ (λ (f n : ℕ). ((f + n) % 2 ^ 32 + (2 ^ 32 - first)) % 2 ^ 32) (sym i.first) (sym by) in
    ap (λ z. map (renumbered now.first) (map (moved_key z) g.pictures)) m.is
    ∙ moved_texts_are now.first first m.by (way_onto l k) (high g.pictures) t.pictures i.small small m.less m.inside way (below_high g.pictures (high g.pictures) (at_most_itself (high g.pictures)))

onto_is : (now : Group) (l : Latest) (previous : ℕ) (t : SequenceText) → IsLatest l now → 0 < length t.pictures → first_number t.pictures < 2 ^ 32
    → IsLatest (onto l previous t (keys_among t.pictures)).latest (merged now (group_of t))
onto_is now l previous t i some small =
    let k = keys_among t.pictures in
    record {
      header = i.header;
      first = i.first;
      high = ap (λ z. high (now.pictures ++ map (moved_key z) (group_of t).pictures)) (shift_is now l t i)
          ∙ high_onto now.pictures t.pictures l.high (shift_onto l k) i.high (omega arith) some small;
      small = i.small;
    }

-- one sequence more
pub record IsStep (none : List ℕ) (p : WritingProgress) (t : SequenceText) (now : Option Group) (rest : List Group) : Type 0 where
  pub next : Option Group
  pub at : IsAt (Some (added p t).latest) (added p t).previous next
  pub bytes : left none p.previous now (group_of t ∷ rest) ≡ (added p t).bytes ++ left none (added p t).previous next rest

begins : (none : List ℕ) (t : SequenceText) (rest : List Group) (previous : ℕ) → previous ≡ 0 → first_number t.pictures < 2 ^ 32
    → whole none (group_of t ∷ rest) ≡ own_bytes previous t ++ tail (own_length t) (group_of t) rest
begins none t rest previous is small =
    tail_is rest (group_of t) 0
    ∙ ap₂ (λ (bs : List ℕ) (n : ℕ). bs ++ tail n (group_of t) rest) (own_group t 0 small ∙ ap (λ n. own_bytes n t) (sym is)) (own_last t small)

stands_apart : (t : SequenceText) (rest : List Group) (now : Group) (previous : ℕ) → may_merge now (group_of t) ≡ false → first_number t.pictures < 2 ^ 32
    → tail previous now (group_of t ∷ rest) ≡ (end_unit previous ++ own_bytes 13 t) ++ tail (own_length t) (group_of t) rest
unfolding tail
stands_apart t rest now previous may small =
    cond-false (may_merge now (group_of t)) _ _ may
    ∙ ap₂ (λ (bs : List ℕ) (n : ℕ). end_unit previous ++ (bs ++ tail n (group_of t) rest)) (own_group t 13 small) (own_last t small)
    ∙ sym (append_assoc (end_unit previous) (own_bytes 13 t) (tail (own_length t) (group_of t) rest))

is_appended : (t : SequenceText) (rest : List Group) (now : Group) (l : Latest) (previous : ℕ) → IsLatest l now → may_merge now (group_of t) ≡ true → first_number t.pictures < 2 ^ 32
    → tail previous now (group_of t ∷ rest)
    ≡ units_behind previous (map (moved_on (way_onto l (keys_among t.pictures))) t.pictures)
    ++ tail (length_behind previous (map (moved_on (way_onto l (keys_among t.pictures))) t.pictures)) (merged now (group_of t)) rest
unfolding tail
is_appended t rest now l previous i may small =
    cond-true (may_merge now (group_of t)) _ _ may
    ∙ ap (λ ps. units_behind previous ps ++ tail (length_behind previous ps) (merged now (group_of t)) rest) (appended_are now l t i small may)

behind_group : (none : List ℕ) (l : Latest) (previous : ℕ) (t : SequenceText) (now : Group) (rest : List Group) → IsLatest l now → 0 < length t.pictures → first_number t.pictures < 2 ^ 32
    → (b : Bool) → may_follow l t.header (keys_among t.pictures) ≡ b → IsStep none (record { latest = Some l; previous = previous }) t (Some now) rest
behind_group none l previous t now rest i some small true may =
    let k = keys_among t.pictures in
    let is : added_behind (Some l) previous t k ≡ onto l previous t k = cond-true (may_follow l t.header k) _ _ may in
    record {
      next = Some (merged now (group_of t));
      at = subst (λ (a : Added). IsLatest a.latest (merged now (group_of t))) (sym is) (onto_is now l previous t i some small);
      bytes = is_appended t rest now l previous i (may_is now l t i ∙ may) small
          ∙ ap (λ (a : Added). a.bytes ++ tail a.previous (merged now (group_of t)) rest) (sym is);
    }
behind_group none l previous t now rest i some small false may =
    let k = keys_among t.pictures in
    let is : added_behind (Some l) previous t k ≡ own_sequence (end_unit previous) 13 t k = cond-false (may_follow l t.header k) _ _ may in
    record {
      next = Some (group_of t);
      at = subst (λ (a : Added). IsLatest a.latest (group_of t)) (sym is) (own_is t small);
      bytes = stands_apart t rest now previous (may_is now l t i ∙ may) small
          ∙ ap (λ (a : Added). a.bytes ++ tail a.previous (group_of t) rest) (sym is);
    }

pub one_more : (none : List ℕ) (p : WritingProgress) (t : SequenceText) (now : Option Group) (rest : List Group) → IsAt p.latest p.previous now → 0 < length t.pictures → first_number t.pictures < 2 ^ 32
    → IsStep none p t now rest
one_more none p t now rest at some small = by_latest p.latest p.previous now at where
  by_latest : (l : Option Latest) (previous : ℕ) (now : Option Group) → IsAt l previous now → IsStep none (record { latest = l; previous = previous }) t now rest
  by_latest None previous None at = record { next = Some (group_of t); at = own_is t small; bytes = begins none t rest previous at small }
  by_latest None previous (Some g) at = absurd at
  by_latest (Some l) previous None at = absurd at
  by_latest (Some l) previous (Some g) at = behind_group none l previous t g rest at some small (may_follow l t.header (keys_among t.pictures)) refl

-- ---- sequences from a place on

pub empty_passed : (all : List SequenceText) (i : ℕ) (s : SequenceText) → i < length all → s ≡ get_or all i s → length s.pictures ≡ 0
    → with_pictures (drop i all) ≡ with_pictures (drop (i + 1) all)
empty_passed all i s inside is none =
    ap with_pictures (left_at all i s inside is) ∙ cond-false (nat_lt 0 (length s.pictures)) _ _ (le-ltb 0 (length s.pictures) (omega (arith, none)))

pub sequence_next : (all : List SequenceText) (i : ℕ) (s : SequenceText) → i < length all → s ≡ get_or all i s → 0 < length s.pictures
    → with_pictures (drop i all) ≡ s ∷ with_pictures (drop (i + 1) all)
sequence_next all i s inside is some =
    ap with_pictures (left_at all i s inside is) ∙ cond-true (nat_lt 0 (length s.pictures)) _ _ (lt-ltb 0 (length s.pictures) some)

pub none_next : (all : List SequenceText) (i : ℕ) → length all ≤ i → with_pictures (drop i all) ≡ []
none_next all i past = ap with_pictures (drop_all i all past)

-- behind the last sequence
pub tail_ended : (none : List ℕ) (previous : ℕ) (l : Latest) (now : Option Group) (gs : List Group) → gs ≡ [] → IsAt (Some l) previous now → left none previous now gs ≡ end_unit previous
unfolding tail
tail_ended none previous l None gs is at = absurd at
tail_ended none previous l (Some g) gs is at = ap (tail previous g) is

pub bare_left : (none : List ℕ) (previous : ℕ) (now : Option Group) (gs : List Group) → gs ≡ [] → IsAt None previous now → left none previous now gs ≡ none
bare_left none previous None gs is at = ap (whole none) is
bare_left none previous (Some g) gs is at = absurd at
