-- What is joined doesn't depend on where its pictures stood before: on their units' indices and points.
use Rattle.std.proofs.Common.{◌≡◌, ◌-◌, ◌+◌, ◌^◌, ◌&&◌, if◌then◌else◌, Bool, true, false, ℕ, ℤ, suc, pos, ◌+ℤ◌, List, [], ◌∷◌, ◌++◌, length, map, None, Some, refl, sym, ◌∙◌, ap, ap₂, append_assoc, append-nil}
use Rattle.std.specs.Prelude.{int_le, nat_lt, ◌-ℤ◌}
use Rattle.std.specs.Int.{int_max, int_min}
use Rattle.std.specs.List.{AllByRecursion}
use Rattle.std.proofs.lemmas.List.{length-map, map-append}
use Rattle.dirac_units.specs.Cut.{UnitText}
use Rattle.dirac_content.specs.StreamState.{is_same}
use Rattle.dirac_encode_laws.specs.Stream.{unit}
use Rattle.dirac_edit_laws.specs.Joined.{Group, Keyed, bare, bytes_or_bare, first_number, group_of, groups_behind, groups_of, high, joined_sequences, keyed_from, low, may_merge, merged, moved_key, renumbered, shift, renumbered_text}
use Rattle.dirac_edit_laws.specs.Texts.{PictureText, SequenceText, picture_text_at, points_up_to, sequences_from, with_pictures}
use Rattle.dirac_edit_laws.specs.Units.{end_for, pictures_bytes, pictures_units, sequences_bytes, sequences_units, text_for}
use Rattle.dirac_edit_laws.proofs.Cutting.{FitsPicture, FitsSequence}
use Rattle.dirac_edit_laws.proofs.EncodedCut.{picture_unit}
use Rattle.dirac_edit_laws.proofs.UnitKinds.{behind_end, behind_header, behind_picture}

-- a picture's code and payload alone
abbrev pub stripped : PictureText → PictureText
stripped p = record { index = 0; points = 0; code = p.code; payload = p.payload }

abbrev pub stripped_text : SequenceText → SequenceText
stripped_text t = record { header = t.header; pictures = map stripped t.pictures }

abbrev stripped_keyed : Keyed → Keyed
stripped_keyed k = record { key = k.key; picture = stripped k.picture }

abbrev stripped_group : Group → Group
stripped_group g = record { header = g.header; first = g.first; pictures = map stripped_keyed g.pictures }

-- the bytes of sequences that are joined
abbrev pub joined_by : List SequenceText → List ℕ
joined_by ts = bytes_or_bare ts (joined_sequences ts)

with_stripped : (ts : List SequenceText) → with_pictures (map stripped_text ts) ≡ map stripped_text (with_pictures ts)
with_stripped [] = refl
with_stripped (t ∷ ts) =
    let rest = with_pictures (map stripped_text ts) in
    ap (λ (n : ℕ). if nat_lt 0 n then stripped_text t ∷ rest else rest) (length-map t.pictures stripped)
    ∙ (elim (nat_lt 0 (length t.pictures)) as (λ b. (if b then stripped_text t ∷ rest else rest) ≡ map stripped_text (if b then t ∷ with_pictures ts else with_pictures ts)) [
      | true ↦ ap (λ (l : List SequenceText). stripped_text t ∷ l) (with_stripped ts)
      | false ↦ with_stripped ts
    ])

first_stripped : (ps : List PictureText) → first_number (map stripped ps) ≡ first_number ps
first_stripped [] = refl
first_stripped (p ∷ ps) = refl

keyed_stripped : (ps : List PictureText) (first : ℕ) → map (keyed_from first) (map stripped ps) ≡ map stripped_keyed (map (keyed_from first) ps)
keyed_stripped [] first = refl
keyed_stripped (p ∷ ps) first = ap (λ (l : List Keyed). stripped_keyed (keyed_from first p) ∷ l) (keyed_stripped ps first)

group_stripped : (t : SequenceText) → group_of (stripped_text t) ≡ stripped_group (group_of t)
group_stripped t =
    let make : ℕ → List Keyed → Group = λ n ks. record { header = t.header; first = n; pictures = ks } in
    ap (λ n. make n (map (keyed_from n) (map stripped t.pictures))) (first_stripped t.pictures)
    ∙ ap (make (first_number t.pictures)) (keyed_stripped t.pictures (first_number t.pictures))

groups_stripped : (ts : List SequenceText) → map group_of (map stripped_text ts) ≡ map stripped_group (map group_of ts)
groups_stripped [] = refl
groups_stripped (t ∷ ts) = ap₂ (λ (g : Group) (gs : List Group). g ∷ gs) (group_stripped t) (groups_stripped ts)

high_stripped : (ks : List Keyed) → high (map stripped_keyed ks) ≡ high ks
high_stripped [] = refl
high_stripped (k ∷ ks) = ap (int_max k.key) (high_stripped ks)

low_stripped : (ks : List Keyed) → low (map stripped_keyed ks) ≡ low ks
low_stripped [] = refl
low_stripped (k ∷ ks) = ap (int_min k.key) (low_stripped ks)

shift_stripped : (a b : Group) → shift (stripped_group a) (stripped_group b) ≡ shift a b
shift_stripped a b = ap₂ (λ (h l : ℤ). (h +ℤ pos 1) -ℤ l) (high_stripped a.pictures) (low_stripped b.pictures)

may_stripped : (a b : Group) → may_merge (stripped_group a) (stripped_group b) ≡ may_merge a b
may_stripped a b =
    ap₂ (λ (s h : ℤ). is_same b.header a.header && int_le (s +ℤ h) (pos (2 ^ 31 - 1))) (shift_stripped a b) (high_stripped b.pictures)

moved_stripped : (ks : List Keyed) (by : ℤ) → map (moved_key by) (map stripped_keyed ks) ≡ map stripped_keyed (map (moved_key by) ks)
moved_stripped [] by = refl
moved_stripped (k ∷ ks) by = ap (λ (l : List Keyed). stripped_keyed (moved_key by k) ∷ l) (moved_stripped ks by)

merged_stripped : (a b : Group) → merged (stripped_group a) (stripped_group b) ≡ stripped_group (merged a b)
merged_stripped a b =
    let make : List Keyed → Group = λ ks. record { header = a.header; first = a.first; pictures = ks } in
    ap (λ z. make (map stripped_keyed a.pictures ++ map (moved_key z) (map stripped_keyed b.pictures))) (shift_stripped a b)
    ∙ ap (λ ks. make (map stripped_keyed a.pictures ++ ks)) (moved_stripped b.pictures (shift a b))
    ∙ ap make (sym (map-append stripped_keyed a.pictures (map (moved_key (shift a b)) b.pictures)))

behind_stripped : (gs : List Group) (now : Group) → groups_behind (stripped_group now) (map stripped_group gs) ≡ map stripped_group (groups_behind now gs)
unfolding groups_behind
behind_stripped [] now = refl
behind_stripped (g ∷ gs) now =
    let rest = map stripped_group gs in
    let now' = stripped_group now in
    let g' = stripped_group g in
    ap (λ (b : Bool). if b then groups_behind (merged now' g') rest else now' ∷ groups_behind g' rest) (may_stripped now g)
    ∙ (elim (may_merge now g) as (λ b. (if b then groups_behind (merged now' g') rest else now' ∷ groups_behind g' rest) ≡ map stripped_group (if b then groups_behind (merged now g) gs else now ∷ groups_behind g gs)) [
      | true ↦ ap (λ (x : Group). groups_behind x rest) (merged_stripped now g) ∙ behind_stripped gs (merged now g)
      | false ↦ ap (λ (l : List Group). now' ∷ l) (behind_stripped gs g)
    ])

of_stripped : (gs : List Group) → groups_of (map stripped_group gs) ≡ map stripped_group (groups_of gs)
of_stripped [] = refl
of_stripped (g ∷ gs) = behind_stripped gs g

numbered_stripped : (ks : List Keyed) (first : ℕ) → map (renumbered first) (map stripped_keyed ks) ≡ map stripped (map (renumbered first) ks)
numbered_stripped [] first = refl
numbered_stripped (k ∷ ks) first = ap (λ (l : List PictureText). stripped (renumbered first k) ∷ l) (numbered_stripped ks first)

texts_stripped : (gs : List Group) → map renumbered_text (map stripped_group gs) ≡ map stripped_text (map renumbered_text gs)
texts_stripped [] = refl
texts_stripped (g ∷ gs) =
    ap₂ (λ (ps : List PictureText) (ts : List SequenceText). (let t : SequenceText = record { header = g.header; pictures = ps } in t) ∷ ts) (numbered_stripped g.pictures g.first) (texts_stripped gs)

joined_stripped : (ts : List SequenceText) → joined_sequences (map stripped_text ts) ≡ map stripped_text (joined_sequences ts)
joined_stripped ts =
    ap (λ (l : List SequenceText). map renumbered_text (groups_of (map group_of l))) (with_stripped ts)
    ∙ ap (λ (gs : List Group). map renumbered_text (groups_of gs)) (groups_stripped (with_pictures ts))
    ∙ ap (map renumbered_text) (of_stripped (map group_of (with_pictures ts)))
    ∙ texts_stripped (groups_of (map group_of (with_pictures ts)))

pictures_stripped : (ps : List PictureText) (previous : ℕ) → pictures_bytes previous (map stripped ps) ≡ pictures_bytes previous ps
unfolding pictures_bytes
pictures_stripped [] previous = refl
pictures_stripped (p ∷ ps) previous = ap (λ l. unit p.code previous p.payload ++ l) (pictures_stripped ps (13 + length p.payload))

pub bytes_stripped : (ts : List SequenceText) (previous : ℕ) → sequences_bytes previous (map stripped_text ts) ≡ sequences_bytes previous ts
unfolding sequences_bytes
bytes_stripped [] previous = refl
bytes_stripped (t ∷ ts) previous =
    ap₂ (λ (x y : List ℕ). (unit 0x00 previous t.header ++ x) ++ y) (pictures_stripped t.pictures (13 + length t.header)) (bytes_stripped ts 13)

bare_stripped : (ts : List SequenceText) → bare (map stripped_text ts) ≡ bare ts
bare_stripped [] = refl
bare_stripped (t ∷ ts) = refl

either_stripped : (all ts : List SequenceText) → bytes_or_bare (map stripped_text all) (map stripped_text ts) ≡ bytes_or_bare all ts
either_stripped all [] = bare_stripped all
either_stripped all (t ∷ ts) = bytes_stripped (t ∷ ts) 0

by_stripped : (ts : List SequenceText) → joined_by (map stripped_text ts) ≡ joined_by ts
by_stripped ts = ap (bytes_or_bare (map stripped_text ts)) (joined_stripped ts) ∙ either_stripped ts (joined_sequences ts)

pub joined_alike : (ts ts' : List SequenceText) → map stripped_text ts ≡ map stripped_text ts' → joined_by ts ≡ joined_by ts'
joined_alike ts ts' same = sym (by_stripped ts) ∙ ap joined_by same ∙ by_stripped ts'

-- ---- the sequences of units that were made of sequences

-- a sequence whose pictures were read, and those behind it
record ReadsAs (t : SequenceText) (rest : List UnitText) (ts : List SequenceText) : Type 0 where
  pub first : SequenceText
  pub index : ℕ
  pub points : ℕ
  pub is : ts ≡ first ∷ sequences_from index points None rest
  pub same : stripped_text first ≡ stripped_text t

-- an open sequence with more pictures
abbrev with_more : SequenceText → List PictureText → SequenceText
with_more t ps = record { header = t.header; pictures = t.pictures ++ ps }

more_same : (t : SequenceText) (q p : PictureText) (ps : List PictureText) → stripped q ≡ stripped p
    → stripped_text (with_more (with_more t (q ∷ [])) ps) ≡ stripped_text (with_more t (p ∷ ps))
more_same t q p ps same =
    let make : List PictureText → SequenceText = λ l. record { header = t.header; pictures = l } in
    ap (λ l. make (map stripped l)) (append_assoc t.pictures (q ∷ []) ps) ∙ ap make (map-append stripped t.pictures (q ∷ ps))
    ∙ ap (λ (x : PictureText). make (map stripped t.pictures ++ x ∷ map stripped ps)) same ∙ sym (ap make (map-append stripped t.pictures (p ∷ ps)))

none_more : (t : SequenceText) → stripped_text t ≡ stripped_text (with_more t [])
none_more t = let same : t.pictures ++ [] ≡ t.pictures = append-nil t.pictures in ap (λ ps. stripped_text (record { header = t.header; pictures = ps })) (sym same)

pictures_read : (ps : List PictureText) (t : SequenceText) (index points previous : ℕ) (rest : List UnitText) → AllByRecursion FitsPicture ps
    → ReadsAs (with_more t ps) rest (sequences_from index points (Some t) (pictures_units previous ps rest))
unfolding pictures_units
pictures_read [] t index points previous rest fits = record {
  first = t;
  index = suc index;
  points = points;
  is = behind_end index points (Some t) (end_for previous) rest refl;
  same = none_more t;
}
pictures_read (p ∷ ps) t index points previous rest fits =
    let u = text_for p.code previous p.payload in
    let length_of = 13 + length p.payload in
    let known = picture_unit p.code fits.0.code in
    let q = picture_text_at index (points_up_to points u) u in
    let later = pictures_read ps (with_more t (q ∷ [])) (suc index) (points_up_to points u) length_of rest fits.1 in
    record {
      first = later.first;
      index = later.index;
      points = later.points;
      is = behind_picture index points (Some t) u (pictures_units length_of ps rest) known.header known.end known.is ∙ later.is;
      same = later.same ∙ more_same t q p ps refl;
    }

bare_more : (t : SequenceText) → stripped_text (with_more (record { header = t.header; pictures = [] }) t.pictures) ≡ stripped_text t
bare_more t = refl

pub texts_read : (ts : List SequenceText) (index points previous : ℕ) → AllByRecursion FitsSequence ts → map stripped_text (sequences_from index points None (sequences_units previous ts)) ≡ map stripped_text ts
unfolding sequences_units sequences_from
texts_read [] index points previous fits = refl
texts_read (t ∷ ts) index points previous fits =
    let header = text_for 0x00 previous t.header in
    let rest = sequences_units 13 ts in
    let units = pictures_units (13 + length t.header) t.pictures rest in
    let r = pictures_read t.pictures (record { header = t.header; pictures = [] }) (suc index) points (13 + length t.header) rest fits.0.pictures in
    ap (map stripped_text) (behind_header index points None header units refl ∙ r.is)
    ∙ ap₂ (λ (x : SequenceText) (l : List SequenceText). x ∷ l) (r.same ∙ bare_more t) (texts_read ts r.index r.points 13 fits.1)
