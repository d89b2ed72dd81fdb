-- What is joined stays as it is when it is joined again.
use Rattle.std.proofs.Common.{◌≡◌, ◌<◌, ◌-◌, ◌+◌, ◌%◌, ◌^◌, ◌&&◌, if◌then◌else◌, Bool, true, false, ℕ, ℤ, pos, ◌+ℤ◌, List, [], ◌∷◌, ◌++◌, length, map, None, refl, sym, ◌∙◌, ap, ap₂, subst, arith, append-nil}
use Rattle.std.specs.Prelude.{int_le, nat_lt, ◌-ℤ◌, ◌≤ℤ◌}
use Rattle.std.specs.Int.{cast_signed, cast_unsigned, int_max, int_min, w32}
use Rattle.std.specs.List.{AllByRecursion}
use Rattle.std.proofs.lemmas.Bool.{lt-ltb}
use Rattle.std.proofs.lemmas.Int.{int_max_is, int_min_is, ints, of_z-to_z, to_z_pos}
use Rattle.std.proofs.lemmas.Nat.{from_be_bytes-to_be_bytes_4}
use Rattle.dirac_units.specs.Cut.{IsCut, after, first_unit_place}
use Rattle.dirac_units.specs.Writing.{IsReadAsWritten}
use Rattle.dirac_refs.specs.Delivery.{key_of}
use Rattle.dirac_plan_laws.proofs.Each.{each_append}
use Rattle.dirac_content.specs.Shown.{IsShown, Outcome, outcome}
use Rattle.dirac_content.specs.StreamState.{stream_begun, ended, is_same}
use Rattle.dirac_content.proofs.Flushing.{end_moves}
use Rattle.dirac_encode_laws.specs.Stream.{end_info, end_unit}
use Rattle.dirac_encode_laws.proofs.Cutting.{nothing_left}
use Rattle.dirac_encode_laws.proofs.Showing.{outcome_more}
use Rattle.dirac_edit_laws.specs.Joined.{Group, Keyed, bare, bytes_or_bare, first_number, group_of, groups_behind, groups_of, high, joined_sequences, joined_bytes, keyed_from, low, may_merge, merged, moved_key, new_number, number_in_payload, renumbered, shift, renumbered_text}
use Rattle.dirac_edit_laws.specs.Rebuilt.{AreRead, IsRead}
use Rattle.dirac_edit_laws.specs.Texts.{PictureText, SequenceText, sequences, sequences_from, with_pictures}
use Rattle.dirac_edit_laws.specs.Units.{end_for, pictures_bytes, sequences_bytes, sequences_units}
use Rattle.dirac_edit_laws.proofs.Cutting.{FitsOpen, FitsSequence, end_cut, sequences_cut, texts_fit, units_fit}
use Rattle.dirac_edit_laws.proofs.Joining.{IsFull, each_full, groups_sound, own_sound}
use Rattle.dirac_edit_laws.proofs.Keys.{AreAtMost, Merges, below_high, key_moves, keys_in, merges}
use Rattle.dirac_edit_laws.proofs.Numbers.{numbers_have_keys}
use Rattle.dirac_edit_laws.proofs.Showing.{sequences_shown}
use Rattle.dirac_edit_laws.proofs.UnitKinds.{behind_end}
use Rattle.dirac_edit_laws.proofs.Walking.{IsAt, at_start, units_shown}
use Rattle.dirac_editing_laws.specs.Editing.{JoinedStreamsStay}
use Rattle.dirac_editing_laws.proofs.Stripped.{joined_alike, joined_by, texts_read}

-- ---- keys that were counted

-- a signed number of 32 bits
record IsKey (k : Keyed) : Type 0 where
  pub number : ℕ
  pub small : number < 2 ^ 32
  pub is : k.key ≡ cast_signed w32 number

-- the first key is 0
abbrev BeginsAtZero : List Keyed → Type 0
BeginsAtZero [] = ⊥
BeginsAtZero (k ∷ ks) = k.key ≡ pos 0

-- a sequence with pictures, whose keys were counted from its first one's number
record IsCounted (g : Group) : Type 0 where
  pub small : g.first < 2 ^ 32
  pub begins : BeginsAtZero g.pictures
  pub keys : AllByRecursion IsKey g.pictures

own_keys : (ps : List PictureText) (first : ℕ) → AllByRecursion IsKey (map (keyed_from first) ps)
own_keys [] first = tt
own_keys (p ∷ ps) first = (record { number = (number_in_payload p.payload + (2 ^ 32 - first)) % 2 ^ 32; small = omega arith; is = refl }, own_keys ps first)

zero_key : (n : ℕ) → n < 2 ^ 32 → key_of n n ≡ pos 0
zero_key n small =
    let same : (n + (2 ^ 32 - n)) % 2 ^ 32 ≡ 0 = omega arith in
    ap (cast_signed w32) same ∙ to_z_pos w32 0 (omega arith)

own_begins : (ps : List PictureText) → 0 < length ps → first_number ps < 2 ^ 32 → BeginsAtZero (map (keyed_from (first_number ps)) ps)
own_begins [] some small = absurd (omega arith)
own_begins (p ∷ ps) some small = zero_key (number_in_payload p.payload) small

counted_own : (t : SequenceText) → IsFull t → IsCounted (group_of t)
counted_own t f =
    let small = (own_sound t f).small in
    record { small = small; begins = own_begins t.pictures f.some small; keys = own_keys t.pictures (first_number t.pictures) }

moved_keys : (ks : List Keyed) (by : ℕ) (top : ℤ) → by < 2 ^ 31 → (top +ℤ pos by) ≤ℤ pos (2 ^ 31 - 1) → AreAtMost top (keys_in ks) → AllByRecursion IsKey ks → AllByRecursion IsKey (map (moved_key (pos by)) ks)
moved_keys [] by top less inside most all = tt
moved_keys (k ∷ ks) by top less inside most all =
    let m = all.0.number in
    let within : (cast_signed w32 m +ℤ pos by) ≤ℤ pos (2 ^ 31 - 1) = lower k.key (cast_signed w32 m) top by all.0.is most.0 inside in (
      record { number = (m + by) % 2 ^ 32; small = omega arith; is = ap (λ z. z +ℤ pos by) all.0.is ∙ sym (key_moves m by all.0.small less within) },
      moved_keys ks by top less inside most.1 all.1,
    )
  where
    lower : (z y top : ℤ) (by : ℕ) → z ≡ y → z ≤ℤ top → (top +ℤ pos by) ≤ℤ pos (2 ^ 31 - 1) → (y +ℤ pos by) ≤ℤ pos (2 ^ 31 - 1)
    lower z y top by same low most = omega (arith, ints)

begins_front : (ks more : List Keyed) → BeginsAtZero ks → BeginsAtZero (ks ++ more)
begins_front [] more is = absurd is
begins_front (k ∷ ks) more is = is

same_key : (z : ℤ) → z ≤ℤ z
same_key z = omega (arith, ints)

counted_merged : (a b : Group) → IsCounted a → IsCounted b → may_merge a b ≡ true → IsCounted (merged a b)
counted_merged a b x y is =
    let m : Merges a b = merges a b is in
    let top = high b.pictures in
    let moved = moved_keys b.pictures m.by top m.less m.inside (below_high b.pictures top (same_key top)) y.keys in
    let moved' : AllByRecursion IsKey (map (moved_key (shift a b)) b.pictures) = subst (λ z. AllByRecursion IsKey (map (moved_key z) b.pictures)) (sym m.is) moved in
    record {
      small = x.small;
      begins = begins_front a.pictures (map (moved_key (shift a b)) b.pictures) x.begins;
      keys = each_append IsKey a.pictures (map (moved_key (shift a b)) b.pictures) x.keys moved';
    }

counted_behind : (ts : List SequenceText) (now : Group) → IsCounted now → AllByRecursion IsFull ts → AllByRecursion IsCounted (groups_behind now (map group_of ts))
unfolding groups_behind
counted_behind [] now is all = (is, tt)
counted_behind (t ∷ ts) now is all =
    let g = group_of t in
    let rest = map group_of ts in
    let own = counted_own t all.0 in
    elim (may_merge now g) as (λ b. may_merge now g ≡ b → AllByRecursion IsCounted (if b then groups_behind (merged now g) rest else now ∷ groups_behind g rest)) [
      | true ↦ λ e. counted_behind ts (merged now g) (counted_merged now g is own e) all.1
      | false ↦ λ e. (is, counted_behind ts g own all.1)
    ] refl

-- ---- none of those that were joined may be merged with the one before it

abbrev AreApart : List Group → Type 0
AreApart [] = Unit {0}
AreApart (g ∷ []) = Unit {0}
AreApart (g ∷ h ∷ gs) = (may_merge g h ≡ false) × AreApart (h ∷ gs)

high_above : (ks : List Keyed) → pos 0 ≤ℤ high ks
high_above [] = omega (arith, ints)
high_above (k ∷ ks) = omega (arith, ints, int_max_is k.key (high ks), high_above ks)

low_below : (ks : List Keyed) → low ks ≤ℤ pos 0
low_below [] = omega (arith, ints)
low_below (k ∷ ks) = omega (arith, ints, int_min_is k.key (low ks), low_below ks)

high_front : (xs ys : List Keyed) → high xs ≤ℤ high (xs ++ ys)
high_front [] ys = high_above ys
high_front (x ∷ xs) ys = omega (arith, ints, int_max_is x.key (high xs), int_max_is x.key (high (xs ++ ys)), high_front xs ys)

low_front : (xs ys : List Keyed) → low (xs ++ ys) ≤ℤ low xs
low_front [] ys = low_below ys
low_front (x ∷ xs) ys = omega (arith, ints, int_min_is x.key (low xs), int_min_is x.key (low (xs ++ ys)), low_front xs ys)

still_above : (x y top : ℤ) → x ≤ℤ y → int_le x top ≡ false → int_le y top ≡ false
still_above x y top less is = grind (arith, ints)

further : (h l l' u u' : ℤ) → l' ≤ℤ l → u ≤ℤ u' → ((h +ℤ pos 1) -ℤ l +ℤ u) ≤ℤ ((h +ℤ pos 1) -ℤ l' +ℤ u')
further h l l' u u' low high = omega (arith, ints)

merge_keeps : (former now g : Group) → may_merge former now ≡ false → may_merge former (merged now g) ≡ false
merge_keeps former now g is =
    let more = map (moved_key (shift now g)) g.pictures in
    let reach : List Keyed → ℤ = λ ks. (high former.pictures +ℤ pos 1) -ℤ low ks +ℤ high ks in
    let less = further (high former.pictures) (low now.pictures) (low (now.pictures ++ more)) (high now.pictures) (high (now.pictures ++ more)) (low_front now.pictures more) (high_front now.pictures more) in
    elim (is_same now.header former.header) as (λ b. (b && int_le (reach now.pictures) (pos (2 ^ 31 - 1))) ≡ false → (b && int_le (reach (now.pictures ++ more)) (pos (2 ^ 31 - 1))) ≡ false) [
      | true ↦ λ e. still_above (reach now.pictures) (reach (now.pictures ++ more)) (pos (2 ^ 31 - 1)) less e
      | false ↦ λ e. refl
    ] is

behind_apart : (gs : List Group) (now former : Group) → may_merge former now ≡ false → AreApart (former ∷ groups_behind now gs)
unfolding groups_behind
behind_apart [] now former is = (is, tt)
behind_apart (g ∷ gs) now former is =
    elim (may_merge now g) as (λ b. may_merge now g ≡ b → AreApart (former ∷ (if b then groups_behind (merged now g) gs else now ∷ groups_behind g gs))) [
      | true ↦ λ e. behind_apart gs (merged now g) former (merge_keeps former now g is)
      | false ↦ λ e. (is, behind_apart gs g now e)
    ] refl

all_apart : (gs : List Group) (now : Group) → AreApart (groups_behind now gs)
unfolding groups_behind
all_apart [] now = tt
all_apart (g ∷ gs) now =
    elim (may_merge now g) as (λ b. may_merge now g ≡ b → AreApart (if b then groups_behind (merged now g) gs else now ∷ groups_behind g gs)) [
      | true ↦ λ e. all_apart gs (merged now g)
      | false ↦ λ e. behind_apart gs g now e
    ] refl

-- ---- they are found again

-- a picture that has its new number, with its key
abbrev numbered : ℕ → Keyed → Keyed
numbered first k = record { key = k.key; picture = renumbered first k }

abbrev again_of : Group → Group
again_of g = record { header = g.header; first = g.first; pictures = map (numbered g.first) g.pictures }

number_again : (first : ℕ) (k : Keyed) → number_in_payload (renumbered first k).payload ≡ new_number first k.key
number_again first k = from_be_bytes-to_be_bytes_4 (new_number first k.key) (omega arith)

zero_bits : cast_unsigned w32 (pos 0) ≡ 0
zero_bits = ap (cast_unsigned w32) (sym (to_z_pos w32 0 (omega arith))) ∙ of_z-to_z w32 0 (omega arith)

first_again : (ks : List Keyed) (first : ℕ) → first < 2 ^ 32 → BeginsAtZero ks → first_number (map (renumbered first) ks) ≡ first
first_again [] first small is = absurd is
first_again (k ∷ ks) first small is =
    let same : (first + 0) % 2 ^ 32 ≡ first = omega arith in
    number_again first k ∙ ap (new_number first) is ∙ ap (λ n. (first + n) % 2 ^ 32) zero_bits ∙ same

key_again : (first : ℕ) (k : Keyed) → first < 2 ^ 32 → IsKey k → key_of first (number_in_payload (renumbered first k).payload) ≡ k.key
key_again first k small is =
    ap (key_of first) (number_again first k) ∙ ap (λ z. key_of first (new_number first z)) is.is
    ∙ numbers_have_keys first is.number small is.small ∙ sym is.is

keys_again : (ks : List Keyed) (first : ℕ) → first < 2 ^ 32 → AllByRecursion IsKey ks → map (keyed_from first) (map (renumbered first) ks) ≡ map (numbered first) ks
keys_again [] first small all = refl
keys_again (k ∷ ks) first small all =
    ap₂ (λ (z : ℤ) (l : List Keyed). (let x : Keyed = record { key = z; picture = renumbered first k } in x) ∷ l) (key_again first k small all.0) (keys_again ks first small all.1)

group_again : (g : Group) → IsCounted g → group_of (renumbered_text g) ≡ again_of g
group_again g is =
    let ps = map (renumbered g.first) g.pictures in
    let make : ℕ → List Keyed → Group = λ n ks. record { header = g.header; first = n; pictures = ks } in
    ap (λ n. make n (map (keyed_from n) ps)) (first_again g.pictures g.first is.small is.begins) ∙ ap (make g.first) (keys_again g.pictures g.first is.small is.keys)

groups_again : (gs : List Group) → AllByRecursion IsCounted gs → map group_of (map renumbered_text gs) ≡ map again_of gs
groups_again [] all = refl
groups_again (g ∷ gs) all = ap₂ (λ (x : Group) (l : List Group). x ∷ l) (group_again g all.0) (groups_again gs all.1)

texts_twice : (ks : List Keyed) (first : ℕ) → map (renumbered first) (map (numbered first) ks) ≡ map (renumbered first) ks
texts_twice [] first = refl
texts_twice (k ∷ ks) first = ap (λ (l : List PictureText). renumbered first k ∷ l) (texts_twice ks first)

all_twice : (gs : List Group) → map renumbered_text (map again_of gs) ≡ map renumbered_text gs
all_twice [] = refl
all_twice (g ∷ gs) = ap₂ (λ (ps : List PictureText) (l : List SequenceText). (let t : SequenceText = record { header = g.header; pictures = ps } in t) ∷ l) (texts_twice g.pictures g.first) (all_twice gs)

high_again : (ks : List Keyed) (first : ℕ) → high (map (numbered first) ks) ≡ high ks
high_again [] first = refl
high_again (k ∷ ks) first = ap (int_max k.key) (high_again ks first)

low_again : (ks : List Keyed) (first : ℕ) → low (map (numbered first) ks) ≡ low ks
low_again [] first = refl
low_again (k ∷ ks) first = ap (int_min k.key) (low_again ks first)

may_again : (a b : Group) → may_merge (again_of a) (again_of b) ≡ may_merge a b
may_again a b =
    let may : ℤ → ℤ → ℤ → Bool = λ h l u. is_same b.header a.header && int_le ((h +ℤ pos 1) -ℤ l +ℤ u) (pos (2 ^ 31 - 1)) in
    ap (λ h. may h (low (again_of b).pictures) (high (again_of b).pictures)) (high_again a.pictures a.first)
    ∙ ap₂ (λ (l u : ℤ). may (high a.pictures) l u) (low_again b.pictures b.first) (high_again b.pictures b.first)

none_merged : (gs : List Group) (g : Group) → AreApart (g ∷ gs) → groups_behind (again_of g) (map again_of gs) ≡ map again_of (g ∷ gs)
unfolding groups_behind
none_merged [] g apart = refl
none_merged (h ∷ gs) g apart =
    let rest = map again_of gs in
    ap (λ (b : Bool). if b then groups_behind (merged (again_of g) (again_of h)) rest else again_of g ∷ groups_behind (again_of h) rest) (may_again g h ∙ apart.0)
    ∙ ap (λ (l : List Group). again_of g ∷ l) (none_merged gs h apart.1)

of_apart : (gs : List Group) → AreApart gs → groups_of (map again_of gs) ≡ map again_of gs
of_apart [] apart = refl
of_apart (g ∷ gs) apart = none_merged gs g apart

some_pictures : (ks : List Keyed) (first : ℕ) → BeginsAtZero ks → nat_lt 0 (length (map (renumbered first) ks)) ≡ true
some_pictures [] first is = absurd is
some_pictures (k ∷ ks) first is = lt-ltb 0 (length (map (renumbered first) (k ∷ ks))) (omega arith)

all_with : (gs : List Group) → AllByRecursion IsCounted gs → with_pictures (map renumbered_text gs) ≡ map renumbered_text gs
all_with [] all = refl
all_with (g ∷ gs) all =
    let rest = with_pictures (map renumbered_text gs) in
    ap (λ (b : Bool). if b then renumbered_text g ∷ rest else rest) (some_pictures g.pictures g.first all.0.begins) ∙ ap (λ (l : List SequenceText). renumbered_text g ∷ l) (all_with gs all.1)

joined_again : (gs : List Group) → AllByRecursion IsCounted gs → AreApart gs → joined_sequences (map renumbered_text gs) ≡ map renumbered_text gs
joined_again gs all apart =
    ap (λ (l : List SequenceText). map renumbered_text (groups_of (map group_of l))) (all_with gs all)
    ∙ ap (λ (l : List Group). map renumbered_text (groups_of l)) (groups_again gs all)
    ∙ ap (map renumbered_text) (of_apart gs apart) ∙ all_twice gs

-- ---- the stream

-- these bytes are a stream without a fault, which stays as it is when it is joined
abbrev Stays : List ℕ → Type 0
Stays bytes = (o : Outcome) × (again : IsShown bytes o) × (o.end ≡ None) × (joined_bytes again.units ≡ bytes)

stays_by : IsReadAsWritten → (t : SequenceText) (ts : List SequenceText) → AllByRecursion IsRead (t ∷ ts) → AllByRecursion FitsSequence (t ∷ ts) → joined_by (t ∷ ts) ≡ sequences_bytes 0 (t ∷ ts) → Stays (sequences_bytes 0 (t ∷ ts))
unfolding IsAt
stays_by written t ts read fits same =
    let all = t ∷ ts in
    let units = sequences_units 0 all in
    let shows = sequences_shown all 0 first_unit_place stream_begun at_start read fits in (
      outcome stream_begun first_unit_place units None,
      record { units = units; end = None; cut = sequences_cut written t ts 0 first_unit_place (omega arith) fits; same = refl },
      shows.none,
      joined_alike (sequences units) all (texts_read all 0 0 0 fits) ∙ same,
    )

stays_bare : IsReadAsWritten → (ts : List SequenceText) → AllByRecursion IsRead ts → AllByRecursion FitsSequence ts → Stays (bare ts)
unfolding sequences_from outcome AreRead pictures_bytes sequences_bytes
stays_bare written [] read fits =
    let units = end_for 0 ∷ [] in
    let cut : IsCut first_unit_place (end_unit 0) units None = subst (λ (l : List ℕ). IsCut first_unit_place l units None) (append-nil (end_unit 0)) (end_cut written 0 first_unit_place [] [] (omega arith) (nothing_left (after first_unit_place (end_info 0)) refl)) in
    let step = outcome_more stream_begun first_unit_place (end_for 0) [] (ended stream_begun) (end_moves stream_begun 0x10 [] refl) in (
      outcome stream_begun first_unit_place units None,
      record { units = units; end = None; cut = cut; same = refl },
      ap (λ (o : Outcome). o.end) step,
      ap joined_by (behind_end 0 0 None (end_for 0) [] refl),
    )
stays_bare written (t ∷ ts) read fits =
    let alone : SequenceText = record { header = t.header; pictures = [] } in
    let one : IsRead alone = record { sequence = read.0.sequence; header = read.0.header; pictures = tt } in
    let fit : FitsSequence alone = record { header = fits.0.header; pictures = tt } in
    let whole : sequences_bytes 0 (alone ∷ []) ≡ bare (t ∷ ts) = append-nil (bare (t ∷ ts)) in
    subst Stays whole (stays_by written alone [] (one, tt) (fit, tt) (sym whole))

stays_joined : IsReadAsWritten → (all : List SequenceText) (gs : List Group) → 0 < length gs → AllByRecursion IsRead (map renumbered_text gs) → AllByRecursion FitsSequence (map renumbered_text gs) → AllByRecursion IsCounted gs → AreApart gs
    → Stays (bytes_or_bare all (map renumbered_text gs))
stays_joined written all [] some read fits counted apart = absurd (omega arith)
stays_joined written all (g ∷ gs) some read fits counted apart =
    let ts = map renumbered_text (g ∷ gs) in
    stays_by written (renumbered_text g) (map renumbered_text gs) read fits (ap (bytes_or_bare ts) (joined_again (g ∷ gs) counted apart))

some_behind : (gs : List Group) (now : Group) → 0 < length (groups_behind now gs)
unfolding groups_behind
some_behind [] now = omega arith
some_behind (g ∷ gs) now =
    elim (may_merge now g) as (λ b. 0 < length (if b then groups_behind (merged now g) gs else now ∷ groups_behind g gs)) [
      | true ↦ some_behind gs (merged now g)
      | false ↦ omega arith
    ]

stays : IsReadAsWritten → (all full : List SequenceText) → AllByRecursion IsRead all → AllByRecursion FitsSequence all → AllByRecursion IsFull full → Stays (bytes_or_bare all (map renumbered_text (groups_of (map group_of full))))
stays written all [] read fits each = stays_bare written all read fits
stays written all (t ∷ full) read fits each =
    let now = group_of t in
    let gs = groups_behind now (map group_of full) in
    let sound = groups_sound full now _ (own_sound t each.0) each.1 in
    stays_joined written all gs (some_behind (map group_of full) now) sound.read sound.fits (counted_behind full now (counted_own t each.0) each.1) (all_apart (map group_of full) now)

-- the law
pub joined_stay : IsReadAsWritten → JoinedStreamsStay
unfolding FitsOpen
joined_stay written bytes units f =
    let ts = sequences units in
    let all = units_shown units f.none in
    let fits = texts_fit units 0 0 None (units_fit units first_unit_place bytes None f.below f.cut) tt in
    stays written ts (with_pictures ts) all.0 fits (each_full ts all.0 fits)
