-- The part of a stream, sequence by sequence: its pictures are read and rebuilt as in the whole.
use Rattle.std.proofs.Common.{◌≡◌, ◌<◌, ◌≤◌, ◌⊎◌, inl, inr, if◌then◌else◌, Bool, true, false, ℕ, suc, List, [], ◌∷◌, ◌++◌, length, map, Option, None, Some, Ok, nat_lt, nat_le, refl, sym, ◌∙◌, ap, ap₂, subst, arith}
use Rattle.std.specs.List.{AllByRecursion, filter, flat_map}
use Rattle.std.proofs.lemmas.Bool.{and_cases, and_parts, cases_Bool, leb-false, ltb-true, ltb-false}
use Rattle.dirac_common.specs.declared.picture.Picture.{Picture}
use Rattle.dirac_sequence_header.specs.declared.sequence.Sequence.{Sequence}
use Rattle.dirac_sequence_header.specs.Grammar.{sequence_read}
use Rattle.dirac_units.specs.Cut.{UnitText}
use Rattle.dirac_common.specs.Codes.{is_intra}
use Rattle.dirac_refs.specs.References.{as_reference}
use Rattle.dirac_refs.proofs.Listed.{few_committed}
use Rattle.dirac_picture.specs.declared.coded.CodedPicture.{CodedPicture}
use Rattle.dirac_picture.specs.Grammar.{picture_read}
use Rattle.dirac_plan_laws.proofs.Each.{each_append}
use Rattle.dirac_edit_laws.specs.Cut.{first_answer, is_between, open_among, open_from, part_rebuilt, part_shown_of, restricted}
use Rattle.dirac_edit_laws.specs.Rebuilt.{AreRead, IsRead, RebuiltText, all_shown, in_order, list_behind, rebuilt_picture, rebuilt_behind, rebuilt_from, rebuilt_of, rebuilt_text, sequence_shown}
use Rattle.dirac_edit_laws.specs.Restricted.{IsRestricted}
use Rattle.dirac_edit_laws.specs.Texts.{PictureText, SequenceText, closed_off, opened_by, picture_text_at, points_up_to, sequences_from, with_picture_text, with_pictures}
use Rattle.dirac_edit_laws.proofs.Closed.{OpensLater, IsAlikeBehind, alike_behind, one_rebuilt, opens_later}
use Rattle.dirac_edit_laws.proofs.UnitKinds.{behind_end, behind_header, behind_other, behind_picture, kind_of, of_end, of_header, of_other, of_picture}
use Rattle.dirac_edit_laws.proofs.Restricted.{none_yet}

-- ---- points never fall

-- from at least the first of these numbers of points up to at most the second
unfoldable pub Rises : ℕ → ℕ → List PictureText → Type 0
Rises low high [] = low ≤ high
Rises low high (p ∷ pictures) = (low ≤ p.points) × Rises p.points high pictures

pub rises_on : (pictures : List PictureText) (low high : ℕ) (p : PictureText) → high ≤ p.points → Rises low high pictures → Rises low p.points (pictures ++ p ∷ [])
unfolding Rises
rises_on [] low high p more all = (omega arith, omega arith)
rises_on (q ∷ pictures) low high p more all = (all.0, rises_on pictures q.points high p more all.1)

pub record RisesAll (t : SequenceText) : Type 0 where
  pub high : ℕ
  pub rises : Rises 0 high t.pictures

unfoldable pub RisesOpen : ℕ → Option SequenceText → Type 0
RisesOpen points None = Unit {0}
RisesOpen points (Some t) = Rises 0 points t.pictures

closed_rises : (points : ℕ) (now : Option SequenceText) → RisesOpen points now → AllByRecursion RisesAll (closed_off now)
unfolding RisesOpen
closed_rises points None is = tt
closed_rises points (Some t) is = (record { high = points; rises = is }, tt)

opened_rises : (points : ℕ) (now : Option SequenceText) (payload : List ℕ) → RisesOpen points now → RisesOpen points (opened_by now payload)
unfolding RisesOpen Rises
opened_rises points None payload is = omega arith
opened_rises points (Some t) payload is = is

picture_rises : (points : ℕ) (now : Option SequenceText) (p : PictureText) → points ≤ p.points → RisesOpen points now → RisesOpen p.points (with_picture_text now p)
unfolding RisesOpen
picture_rises points None p more is = tt
picture_rises points (Some t) p more is = rises_on t.pictures 0 points p more is

points_rise : (points : ℕ) (u : UnitText) → points ≤ points_up_to points u
points_rise points u = rise (is_intra u.info.code) points
  where
    rise : (b : Bool) (points : ℕ) → points ≤ (if b then suc points else points)
    rise true points = omega arith
    rise false points = omega arith

pub texts_rise : (units : List UnitText) (index points : ℕ) (now : Option SequenceText) → RisesOpen points now → AllByRecursion RisesAll (sequences_from index points now units)
unfolding sequences_from RisesOpen
texts_rise [] index points now is = closed_rises points now is
texts_rise (u ∷ units) index points now is = elim (kind_of u.info.code) [
  | of_header e ↦ subst (AllByRecursion RisesAll) (sym (behind_header index points now u units e)) (texts_rise units (suc index) points (opened_by now u.payload) (opened_rises points now u.payload is))
  | of_end e ↦ subst (AllByRecursion RisesAll) (sym (behind_end index points now u units e)) (each_append RisesAll (closed_off now) (sequences_from (suc index) points None units) (closed_rises points now is) (texts_rise units (suc index) points None tt))
  | of_picture a b c e ↦
      let up_to = points_up_to points u in
      let p = picture_text_at index up_to u in
      subst (AllByRecursion RisesAll) (sym (behind_picture index points now u units a b c)) (texts_rise units (suc index) up_to (with_picture_text now p) (picture_rises points now p (points_rise points u) is))
  | of_other a b c d ↦ subst (AllByRecursion RisesAll) (sym (behind_other index points now u units a b c)) (texts_rise units (suc index) points now is)
]

-- ---- one sequence

pub filter_in : {X : Type 0} (test : X → Bool) (x : X) (xs : List X) → test x ≡ true → filter test (x ∷ xs) ≡ x ∷ filter test xs
filter_in test x xs e = ap (λ (b : Bool). if b then x ∷ filter test xs else filter test xs) e

pub filter_out : {X : Type 0} (test : X → Bool) (x : X) (xs : List X) → test x ≡ false → filter test (x ∷ xs) ≡ filter test xs
filter_out test x xs e = ap (λ (b : Bool). if b then x ∷ filter test xs else filter test xs) e

-- a rebuilt picture of the part
abbrev pub is_among : ℕ → ℕ → RebuiltText → Bool
is_among a b r = is_between a b r.text

-- a picture behind the part
is_beyond : (a b : ℕ) (p : PictureText) → b < p.points → is_between a b p ≡ false
is_beyond a b p more = grind arith

-- pictures behind the part are not of it
record AreBeyond (a b : ℕ) (s : Sequence) (whole : List Picture) (pictures : List PictureText) : Type 0 where
  pub texts : filter (is_between a b) pictures ≡ []
  pub rebuilt : filter (is_among a b) (rebuilt_from s whole pictures) ≡ []

beyond : (pictures : List PictureText) (a b : ℕ) (s : Sequence) (whole : List Picture) (low high : ℕ) → b < low → Rises low high pictures → AreRead s whole pictures → AreBeyond a b s whole pictures
unfolding Rises AreRead rebuilt_from
beyond [] a b s whole low high more rises all = record { texts = refl; rebuilt = refl }
beyond (p ∷ pictures) a b s whole low high more rises all =
    let one = rebuilt_text s whole p all.0 in
    let next = list_behind whole one in
    let out = is_beyond a b p (omega (arith, rises.0)) in
    let rest = beyond pictures a b s next p.points high (omega (arith, rises.0)) rises.1 all.2 in
    record {
      texts = filter_out (is_between a b) p pictures out ∙ rest.texts;
      rebuilt = ap (filter (is_among a b)) (one_rebuilt s whole p pictures all.0 all.1) ∙ filter_out (is_among a b) one (rebuilt_from s next pictures) out ∙ rest.rebuilt;
    }

-- the part's pictures, as they are read and rebuilt in the part
pub record AreKept (a b : ℕ) (s : Sequence) (whole inside : List Picture) (pictures : List PictureText) : Type 0 where
  pub read : AreRead s inside (filter (is_between a b) pictures)
  pub same : rebuilt_from s inside (filter (is_between a b) pictures) ≡ filter (is_among a b) (rebuilt_from s whole pictures)

nothing_kept : (a b : ℕ) (s : Sequence) (whole inside : List Picture) (pictures : List PictureText) → AreBeyond a b s whole pictures → AreKept a b s whole inside pictures
unfolding AreRead rebuilt_from
nothing_kept a b s whole inside pictures is = record {
  read = subst (AreRead s inside) (sym is.texts) tt;
  same = ap (rebuilt_from s inside) is.texts ∙ sym is.rebuilt;
}

-- a picture that isn't of the part
kept_without : (a b : ℕ) (s : Sequence) (whole inside : List Picture) (p : PictureText) (pictures : List PictureText) (coded : CodedPicture) → picture_read p.code s whole p.payload ≡ Ok coded → is_between a b p ≡ false
    → AreKept a b s (list_behind whole (rebuilt_text s whole p coded)) inside pictures → AreKept a b s whole inside (p ∷ pictures)
kept_without a b s whole inside p pictures coded is out k =
    let one = rebuilt_text s whole p coded in
    let texts = filter_out (is_between a b) p pictures out in
    record {
      read = subst (AreRead s inside) (sym texts) k.read;
      same =
          ap (rebuilt_from s inside) texts ∙ k.same
          ∙ sym (ap (filter (is_among a b)) (one_rebuilt s whole p pictures coded is) ∙ filter_out (is_among a b) one (rebuilt_from s (list_behind whole one) pictures) out);
    }

-- a picture of the part
kept_with : (a b : ℕ) (s : Sequence) (whole inside : List Picture) (p : PictureText) (pictures : List PictureText) (coded : CodedPicture) → picture_read p.code s whole p.payload ≡ Ok coded → is_between a b p ≡ true
    → IsAlikeBehind s whole inside p coded → AreKept a b s (list_behind whole (rebuilt_text s whole p coded)) (list_behind inside (rebuilt_text s whole p coded)) pictures → AreKept a b s whole inside (p ∷ pictures)
unfolding AreRead
kept_with a b s whole inside p pictures coded is within alike k =
    let one = rebuilt_text s whole p coded in
    let chosen = filter (is_between a b) pictures in
    let texts = filter_in (is_between a b) p pictures within in
    let mine : RebuiltText → List RebuiltText = λ t. t ∷ rebuilt_from s (list_behind inside t) chosen in
    record {
      read = subst (AreRead s inside) (sym texts) (coded, alike.read, subst (λ (t : RebuiltText). AreRead s (list_behind inside t) chosen) (sym alike.same) k.read);
      same =
          ap (rebuilt_from s inside) texts ∙ one_rebuilt s inside p chosen coded alike.read ∙ ap mine alike.same ∙ ap (λ rs. one ∷ rs) k.same
          ∙ sym (ap (filter (is_among a b)) (one_rebuilt s whole p pictures coded is) ∙ filter_in (is_among a b) one (rebuilt_from s (list_behind whole one) pictures) within);
    }

-- before the part nothing of it is listed; within it all points are above its first
abbrev pub IsOnWay : ℕ → ℕ → List Picture → Type 0
IsOnWay a low inside = (inside ≡ []) ⊎ (a < low)

-- a picture that isn't of the part stands before or behind it
not_between : (a b : ℕ) (p : PictureText) → is_between a b p ≡ false → (p.points ≤ a) ⊎ (b < p.points)
not_between a b p out = elim (and_cases (nat_lt a p.points) (nat_le p.points b) out) [
  | inl e ↦ inl (ltb-false a p.points e)
  | inr e ↦ inr (leb-false p.points b e)
]

still_none : (a low points : ℕ) (inside : List Picture) → low ≤ points → points ≤ a → IsOnWay a low inside → inside ≡ []
still_none a low points inside up before (inl e) = e
still_none a low points inside up before (inr l) = absurd (omega arith)

-- a picture of the part is above its first point
first_above : (a b : ℕ) (p : PictureText) → is_between a b p ≡ true → a < p.points
first_above a b p within =
    let both = and_parts (nat_lt a p.points) (nat_le p.points b) within in
    ltb-true a p.points both.0

pub parts_kept : (pictures : List PictureText) (a b : ℕ) (s : Sequence) (low high : ℕ) (whole inside : List Picture) → IsRestricted whole inside → length whole ≤ 8 → AreRead s whole pictures → Rises low high pictures
    → IsOnWay a low inside → open_from inside (filter (is_among a b) (rebuilt_from s whole pictures)) ≡ None → AreKept a b s whole inside pictures
unfolding AreRead rebuilt_from Rises
parts_kept [] a b s low high whole inside r few all rises way closed = record { read = tt; same = refl }
parts_kept (p ∷ pictures) a b s low high whole inside r few all rises way closed =
    let coded = all.0 in
    let one = rebuilt_text s whole p coded in
    let next = list_behind whole one in
    let behind = rebuilt_from s next pictures in
    let there : filter (is_among a b) (rebuilt_from s whole (p ∷ pictures)) ≡ filter (is_among a b) (one ∷ behind) = ap (filter (is_among a b)) (one_rebuilt s whole p pictures coded all.1) in
    let few' : length next ≤ 8 = few_committed whole coded.header.retire (as_reference coded.code one.picture) few in
    elim (cases_Bool (is_between a b p)) [
      | inl within ↦
          let opens : OpensLater inside one (filter (is_among a b) behind) = opens_later inside one (filter (is_among a b) behind) (ap (open_from inside) (sym (there ∙ filter_in (is_among a b) one behind within)) ∙ closed) in
          let alike : IsAlikeBehind s whole inside p coded = alike_behind s whole inside p coded r few all.1 opens.closed in
          kept_with a b s whole inside p pictures coded all.1 within alike
          (parts_kept pictures a b s p.points high next (list_behind inside one) alike.behind few' all.2 rises.1 (inr (first_above a b p within)) opens.later)
      | inr out ↦
          let closed' : open_from inside (filter (is_among a b) behind) ≡ None = ap (open_from inside) (sym (there ∙ filter_out (is_among a b) one behind out)) ∙ closed in
          elim (not_between a b p out) [
            | inl before ↦
                let none : inside ≡ [] = still_none a low p.points inside rises.0 before way in
                let r' : IsRestricted next inside = subst (λ l. IsRestricted next l) (sym none) (none_yet next) in
                kept_without a b s whole inside p pictures coded all.1 out (parts_kept pictures a b s p.points high next inside r' few' all.2 rises.1 (inl none) closed')
            | inr after ↦
                kept_without a b s whole inside p pictures coded all.1 out (nothing_kept a b s next inside pictures (beyond pictures a b s next p.points high after rises.1 all.2))
          ]
    ]

-- ---- all sequences

-- a sequence's part
pub record IsKept (a b : ℕ) (t : SequenceText) : Type 0 where
  pub read : IsRead (restricted a b t)
  pub same : rebuilt_of (restricted a b t) ≡ part_rebuilt a b t

pub rebuilt_is : (s : Sequence) (t : SequenceText) → sequence_read t.header ≡ Ok s → rebuilt_of t ≡ rebuilt_from s [] t.pictures
unfolding rebuilt_of
rebuilt_is s t is = ap (rebuilt_behind t.pictures) is

is_kept : (a b : ℕ) (t : SequenceText) → IsRead t → RisesAll t → open_from [] (part_rebuilt a b t) ≡ None → IsKept a b t
is_kept a b t read rises closed =
    let s = read.sequence in
    let whole = rebuilt_is s t read.header in
    let closed' : open_from [] (filter (is_among a b) (rebuilt_from s [] t.pictures)) ≡ None = ap (λ rs. open_from [] (filter (is_among a b) rs)) (sym whole) ∙ closed in
    let k = parts_kept t.pictures a b s 0 rises.high [] [] (none_yet []) (omega arith) read.pictures rises.rises (inl refl) closed' in
    record {
      read = record { sequence = s; header = read.header; pictures = k.read };
      same = rebuilt_is s (restricted a b t) read.header ∙ k.same ∙ ap (filter (is_among a b)) (sym whole);
    }

none_rebuilt : (s : Sequence) → rebuilt_from s [] [] ≡ []
unfolding rebuilt_from
none_rebuilt s = refl

-- a part without pictures shows none
none_shown : (t : SequenceText) → IsRead t → nat_lt 0 (length t.pictures) ≡ false → sequence_shown t ≡ []
none_shown t read none =
    let nothing : t.pictures ≡ [] = empty t.pictures none in
    ap (λ rs. in_order (map rebuilt_picture rs)) (rebuilt_is read.sequence t read.header ∙ ap (rebuilt_from read.sequence []) nothing ∙ none_rebuilt read.sequence)
  where
    empty : (ps : List PictureText) → nat_lt 0 (length ps) ≡ false → ps ≡ []
    empty [] e = refl
    empty (p ∷ ps) e = absurd (omega (arith, ltb-false 0 (length (p ∷ ps)) e))

-- sequences without their empty ones
pub record IsSameWith (ts : List SequenceText) : Type 0 where
  pub read : AllByRecursion IsRead (with_pictures ts)
  pub same : all_shown (with_pictures ts) ≡ all_shown ts

with_one : (t : SequenceText) (ts : List SequenceText) (b : Bool) → nat_lt 0 (length t.pictures) ≡ b → IsRead t → IsSameWith ts → AllByRecursion IsRead (if b then t ∷ with_pictures ts else with_pictures ts) × (all_shown (if b then t ∷ with_pictures ts else with_pictures ts) ≡ all_shown (t ∷ ts))
with_one t ts true e read rest = ((read, rest.read), ap (λ l. sequence_shown t ++ l) rest.same)
with_one t ts false e read rest = (rest.read, rest.same ∙ ap (λ l. l ++ all_shown ts) (sym (none_shown t read e)))

pub same_with_pictures : (ts : List SequenceText) → AllByRecursion IsRead ts → IsSameWith ts
same_with_pictures [] all = record { read = tt; same = refl }
same_with_pictures (t ∷ ts) all =
    let both = with_one t ts (nat_lt 0 (length t.pictures)) refl all.0 (same_with_pictures ts all.1) in
    record { read = both.0; same = both.1 }

-- the parts of all sequences
pub record AreAllKept (a b : ℕ) (ts : List SequenceText) : Type 0 where
  pub read : AllByRecursion IsRead (map (restricted a b) ts)
  pub same : all_shown (map (restricted a b) ts) ≡ flat_map (part_shown_of a b) ts
  pub each : AllByRecursion (λ (t : SequenceText). rebuilt_of (restricted a b t) ≡ part_rebuilt a b t) ts

first_none : (first second : Option ℕ) → first_answer first second ≡ None → (first ≡ None) × (second ≡ None)
first_none None second is = (refl, is)
first_none (Some n) second is = absurd cc

pub all_kept : (ts : List SequenceText) (a b : ℕ) → AllByRecursion IsRead ts → AllByRecursion RisesAll ts → open_among a b ts ≡ None → AreAllKept a b ts
unfolding open_among
all_kept [] a b all rise closed = record { read = tt; same = refl; each = tt }
all_kept (t ∷ ts) a b all rise closed =
    let both = first_none (open_from [] (part_rebuilt a b t)) (open_among a b ts) closed in
    let one = is_kept a b t all.0 rise.0 both.0 in
    let rest = all_kept ts a b all.1 rise.1 both.1 in
    record {
      read = (one.read, rest.read);
      same = ap₂ (λ (rs : List RebuiltText) (l : List Picture). in_order (map rebuilt_picture rs) ++ l) one.same rest.same;
      each = (one.same, rest.each);
    }
