-- The units of the encoder's stream, seen as one sequence, and its pictures as a decoder rebuilds them.
use Rattle.std.proofs.Common.{◌≡◌, ℕ, suc, ◌<◌, ◌≤◌, if◌then◌else◌, Bool, true, false, List, [], ◌∷◌, ◌++◌, map, refl, sym, ◌∙◌, ap, subst, arith}
use Rattle.std.specs.List.{filter}
use Rattle.dirac_common.specs.declared.picture.Picture.{Picture}
use Rattle.dirac_types.specs.declared.settings.Settings.{Settings}
use Rattle.dirac_common.specs.Codes.{is_intra}
use Rattle.dirac_sequence.specs.Written.{sequence_of}
use Rattle.dirac_refs.specs.References.{as_reference, committed}
use Rattle.dirac_content.specs.Content.{rebuilt}
use Rattle.dirac_plan.specs.declared.planned.Planned.{Planned}
use Rattle.dirac_encode_laws.specs.Coding.{Job, Made, coded_under, job_of, made, own_index, refs_after, shown_of}
use Rattle.dirac_encode_laws.specs.Laws.{AreMade}
use Rattle.dirac_edit_laws.specs.Cut.{is_between}
use Rattle.dirac_edit_laws.specs.Rebuilt.{AreRead, RebuiltText, rebuilt_picture, rebuilt_from}
use Rattle.dirac_edit_laws.specs.Texts.{PictureText}
use Rattle.dirac_edit_laws.proofs.Closed.{one_rebuilt}
use Rattle.dirac_edit_laws.proofs.Parts.{filter_in, filter_out, is_among}
use Rattle.dirac_edit_laws.proofs.Grouping.{BeginIntra, planned_points, planned_up}

-- what planned sources become one after another with the settings' index, with these pictures listed before the first
abbrev pub coded_from : Settings → List Picture → List Job → List Made
coded_from t refs jobs = coded_under own_index t refs jobs

-- a point more, and a unit more for its sequence header, before an intra picture
abbrev pub points_up : ℕ → Made → ℕ
points_up points m = if is_intra m.coded.code then suc points else points

abbrev pub index_up : ℕ → Made → ℕ
index_up index m = if is_intra m.coded.code then suc index else index

abbrev pub points_behind : ℕ → List Made → ℕ
points_behind points [] = points
points_behind points (m ∷ ms) = points_behind (points_up points m) ms

abbrev pub index_behind : ℕ → List Made → ℕ
index_behind index [] = index
index_behind index (m ∷ ms) = index_behind (suc (index_up index m)) ms

-- a picture's unit, and what it is rebuilt to
abbrev pub text_made : ℕ → ℕ → Made → PictureText
text_made index points m = record { index = index_up index m; points = points_up points m; code = m.coded.code; payload = m.payload }

abbrev pub rebuilt_made : ℕ → ℕ → Made → RebuiltText
rebuilt_made index points m = record { text = text_made index points m; coded = m.coded; picture = m.shown }

abbrev pub texts_made : ℕ → ℕ → List Made → List PictureText
texts_made index points [] = []
texts_made index points (m ∷ ms) = text_made index points m ∷ texts_made (suc (index_up index m)) (points_up points m) ms

abbrev pub all_rebuilt : ℕ → ℕ → List Made → List RebuiltText
all_rebuilt index points [] = []
all_rebuilt index points (m ∷ ms) = rebuilt_made index points m ∷ all_rebuilt (suc (index_up index m)) (points_up points m) ms

pub rebuilt_append : (xs ys : List Made) (index points : ℕ) → all_rebuilt index points (xs ++ ys) ≡ all_rebuilt index points xs ++ all_rebuilt (index_behind index xs) (points_behind points xs) ys
rebuilt_append [] ys index points = refl
rebuilt_append (x ∷ xs) ys index points = ap (λ rs. rebuilt_made index points x ∷ rs) (rebuilt_append xs ys (suc (index_up index x)) (points_up points x))

pub pictures_made : (ms : List Made) (index points : ℕ) → map rebuilt_picture (all_rebuilt index points ms) ≡ map shown_of ms
pictures_made [] index points = refl
pictures_made (m ∷ ms) index points = ap (λ ps. m.shown ∷ ps) (pictures_made ms (suc (index_up index m)) (points_up points m))

-- ---- what a decoder rebuilds

pub record AreRebuilt (t : Settings) (refs : List Picture) (index points : ℕ) (ms : List Made) : Type 0 where
  pub read : AreRead (sequence_of t) refs (texts_made index points ms)
  pub same : rebuilt_from (sequence_of t) refs (texts_made index points ms) ≡ all_rebuilt index points ms

pub are_rebuilt : (t : Settings) (ms : List Made) (refs : List Picture) (index points : ℕ) → AreMade t refs ms → AreRebuilt t refs index points ms
unfolding AreRead rebuilt_from
are_rebuilt t [] refs index points all = record { read = tt; same = refl }
are_rebuilt t (m ∷ ms) refs index points all =
    let s = sequence_of t in
    let p = text_made index points m in
    let rest = are_rebuilt t ms (refs_after refs m) (suc (index_up index m)) (points_up points m) all.1 in
    let ps = texts_made (suc (index_up index m)) (points_up points m) ms in
    let mine : Picture → RebuiltText = λ x. record { text = p; coded = m.coded; picture = x } in
    let behind : Picture → List Picture = λ x. committed refs m.coded.header.retire (as_reference m.coded.code x) in
    let shows : m.shown ≡ rebuilt s refs m.coded = all.0.shows in
    record {
      read = (m.coded, all.0.read, subst (λ (x : Picture). AreRead s (behind x) ps) shows rest.read);
      same =
          one_rebuilt s refs p ps m.coded all.0.read ∙ ap (λ (x : Picture). mine x ∷ rebuilt_from s (behind x) ps) (sym shows)
          ∙ ap (λ rs. rebuilt_made index points m ∷ rs) rest.same;
    }

-- ---- the part

up_grows : (m : Made) (points : ℕ) → points ≤ points_up points m
up_grows m points =
    elim (is_intra m.coded.code) as (λ b. points ≤ (if b then suc points else points)) [
      | true ↦ omega arith
      | false ↦ omega arith
    ]

points_grow : (ms : List Made) (points : ℕ) → points ≤ points_behind points ms
points_grow [] points = omega arith
points_grow (m ∷ ms) points = omega (arith, up_grows m points, points_grow ms (points_up points m))

out_before : (a b : ℕ) (p : PictureText) → p.points ≤ a → is_between a b p ≡ false
out_before a b p few = grind arith

out_behind : (a b : ℕ) (p : PictureText) → b < p.points → is_between a b p ≡ false
out_behind a b p many = grind arith

in_between : (a b : ℕ) (p : PictureText) → a < p.points → p.points ≤ b → is_between a b p ≡ true
in_between a b p more few = grind arith

pub before_part : (ms : List Made) (a b index points : ℕ) → points_behind points ms ≤ a → filter (is_among a b) (all_rebuilt index points ms) ≡ []
before_part [] a b index points few = refl
before_part (m ∷ ms) a b index points few =
    let r = rebuilt_made index points m in
    let rest = all_rebuilt (suc (index_up index m)) (points_up points m) ms in
    filter_out (is_among a b) r rest (out_before a b r.text (omega (arith, few, points_grow ms (points_up points m))))
    ∙ before_part ms a b (suc (index_up index m)) (points_up points m) few

pub in_part : (ms : List Made) (a b index points : ℕ) → a < points → points_behind points ms ≤ b → filter (is_among a b) (all_rebuilt index points ms) ≡ all_rebuilt index points ms
in_part [] a b index points more few = refl
in_part (m ∷ ms) a b index points more few =
    let r = rebuilt_made index points m in
    let up = points_up points m in
    let rest = all_rebuilt (suc (index_up index m)) up ms in
    let above : a < up = omega (arith, more, up_grows m points) in
    filter_in (is_among a b) r rest (in_between a b r.text above (omega (arith, few, points_grow ms up)))
    ∙ ap (λ rs. r ∷ rs) (in_part ms a b (suc (index_up index m)) up above few)

pub behind_part : (ms : List Made) (a b index points : ℕ) → b < points → filter (is_among a b) (all_rebuilt index points ms) ≡ []
behind_part [] a b index points more = refl
behind_part (m ∷ ms) a b index points more =
    let r = rebuilt_made index points m in
    let up = points_up points m in
    let above : b < up = omega (arith, more, up_grows m points) in
    filter_out (is_among a b) r (all_rebuilt (suc (index_up index m)) up ms) (out_behind a b r.text above)
    ∙ behind_part ms a b (suc (index_up index m)) up above

-- pictures that begin with an intra picture
unfoldable pub BeginsIntra : List Made → Type 0
BeginsIntra [] = Unit {0}
BeginsIntra (m ∷ ms) = is_intra m.coded.code ≡ true

up_intra : (m : Made) (points : ℕ) → is_intra m.coded.code ≡ true → points_up points m ≡ suc points
up_intra m points is = ap (λ (b : Bool). if b then suc points else points) is

pub from_point : (ms : List Made) (a b index points : ℕ) → a ≤ points → BeginsIntra ms → points_behind points ms ≤ b → filter (is_among a b) (all_rebuilt index points ms) ≡ all_rebuilt index points ms
unfolding BeginsIntra
from_point [] a b index points more is few = refl
from_point (m ∷ ms) a b index points more is few =
    let r = rebuilt_made index points m in
    let up = points_up points m in
    let above : a < up = omega (arith, more, up_intra m points is) in
    filter_in (is_among a b) r (all_rebuilt (suc (index_up index m)) up ms) (in_between a b r.text above (omega (arith, few, points_grow ms up)))
    ∙ ap (λ rs. r ∷ rs) (in_part ms a b (suc (index_up index m)) up above few)

pub behind_point : (ms : List Made) (a b index points : ℕ) → b ≤ points → BeginsIntra ms → filter (is_among a b) (all_rebuilt index points ms) ≡ []
unfolding BeginsIntra
behind_point [] a b index points more is = refl
behind_point (m ∷ ms) a b index points more is =
    let r = rebuilt_made index points m in
    let up = points_up points m in
    let above : b < up = omega (arith, more, up_intra m points is) in
    filter_out (is_among a b) r (all_rebuilt (suc (index_up index m)) up ms) (out_behind a b r.text above)
    ∙ behind_part ms a b (suc (index_up index m)) up above

-- ---- what becomes of planned pictures

pub made_points : (t : Settings) (pictures refs : List Picture) (qs : List Planned) (points : ℕ) → points_behind points (coded_from t refs (map (job_of pictures) qs)) ≡ planned_points points qs
unfolding coded_under
made_points t pictures refs [] points = refl
made_points t pictures refs (q ∷ qs) points = made_points t pictures (refs_after refs (made t refs (job_of pictures q))) qs (planned_up points q)

pub made_begins : (t : Settings) (pictures refs : List Picture) (qs : List Planned) → BeginIntra qs → BeginsIntra (coded_from t refs (map (job_of pictures) qs))
unfolding coded_under BeginIntra BeginsIntra
made_begins t pictures refs [] is = tt
made_begins t pictures refs (q ∷ qs) is = is

-- the list of references behind them
abbrev pub refs_behind : Settings → List Picture → List Picture → List Planned → List Picture
refs_behind t pictures refs [] = refs
refs_behind t pictures refs (q ∷ qs) = refs_behind t pictures (refs_after refs (made t refs (job_of pictures q))) qs

pub coded_append : (t : Settings) (pictures refs : List Picture) (xs ys : List Planned)
    → coded_from t refs (map (job_of pictures) (xs ++ ys)) ≡ coded_from t refs (map (job_of pictures) xs) ++ coded_from t (refs_behind t pictures refs xs) (map (job_of pictures) ys)
unfolding coded_under
coded_append t pictures refs [] ys = refl
coded_append t pictures refs (x ∷ xs) ys = ap (λ ms. made t refs (job_of pictures x) ∷ ms) (coded_append t pictures (refs_after refs (made t refs (job_of pictures x))) xs ys)
