-- Loops over the units, sequences and pictures of a stream: what is left of a list, one step on.
use Rattle.std.proofs.Common.{◌≡◌, ◌∙◌, ℕ, suc, ◌+◌, ◌<◌, ◌≤◌, Bool, true, false, cond, List, [], ◌∷◌, length, drop, get_or, sym, ap, arith, add-one, Option, None, Some}
use Rattle.std.proofs.lemmas.List.{drop_all, drop_more}
use Rattle.dirac_common.specs.declared.picture.Picture.{Picture}
use Rattle.dirac_common.specs.Codes.{is_intra}
use Rattle.dirac_units.specs.Cut.{UnitText}
use Rattle.dirac_edit_laws.specs.Cut.{first_answer}
use Rattle.dirac_edit_laws.specs.Texts.{PictureText, SequenceText, points_of, points_up_to}
use Rattle.dirac_edit.specs.declared.bounds.Part.{Part}
use Rattle.dirac_edit.specs.Kept.{Walked, all_of, kept_of, walked, walked_from}
use Rattle.dirac_edit.specs.Open.{first_open, first_open_among, header_in, list_behind_header, open_or}

-- the item at a place, and what is behind it
pub left_at : {A : Type 0} (xs : List A) (i : ℕ) (x : A) → i < length xs → x ≡ get_or xs i x → drop i xs ≡ x ∷ drop (i + 1) xs
left_at {A} xs i x inside is = drop_more xs i x inside ∙ ap (λ (y : A). y ∷ drop (i + 1) xs) (sym is)

-- points: so many of these units, and those of the units left
pub points_more : (units : List UnitText) (i : ℕ) (u : UnitText) (points points' : ℕ) → i < length units → u ≡ get_or units i u → points + points_of (drop i units) ≡ points_of units
    → points' ≡ cond (is_intra u.info.code) (points + 1) points → points' + points_of (drop (i + 1) units) ≡ points_of units
unfolding points_of
points_more units i u points points' inside is so next =
    let left : points_of (drop i units) ≡ points_up_to (points_of (drop (i + 1) units)) u = ap points_of (left_at units i u inside is) in
    elim_intra (is_intra u.info.code) (points_of (drop (i + 1) units)) points points' (points_of units) next (ap (λ n. points + n) (sym left) ∙ so) where
      elim_intra : (b : Bool) (rest points points' all : ℕ) → points' ≡ cond b (points + 1) points → points + cond b (suc rest) rest ≡ all → points' + rest ≡ all
      elim_intra true rest points points' all next so = omega (arith, next, so)
      elim_intra false rest points points' all next so = omega (arith, next, so)

pub points_all : (units : List UnitText) (i points : ℕ) → length units ≤ i → points + points_of (drop i units) ≡ points_of units → points ≡ points_of units
unfolding points_of
points_all units i points past so = omega (arith, ap points_of (drop_all i units past), so)

-- sequences: one unit more
pub walked_more : (part : Option Part) (units : List UnitText) (i : ℕ) (u : UnitText) (w : Walked) → i < length units → u ≡ get_or units i u
    → kept_of part units ≡ all_of (walked_from part i w (drop i units)) → kept_of part units ≡ all_of (walked_from part (i + 1) (walked part i w u) (drop (i + 1) units))
unfolding walked_from
walked_more part units i u w inside is so =
    so ∙ ap (λ us. all_of (walked_from part i w us)) (left_at units i u inside is)
    ∙ ap (λ n. all_of (walked_from part n (walked part i w u) (drop (i + 1) units))) (sym (add-one i))

pub walked_all : (part : Option Part) (units : List UnitText) (i : ℕ) (w : Walked) → length units ≤ i → kept_of part units ≡ all_of (walked_from part i w (drop i units)) → kept_of part units ≡ all_of w
unfolding walked_from
walked_all part units i w past so = so ∙ ap (λ us. all_of (walked_from part i w us)) (drop_all i units past)

-- pictures: one that isn't open, one that is, and none
pub listed_more : (pictures : List PictureText) (i : ℕ) (p : PictureText) (list list' : List Picture) → i < length pictures → p ≡ get_or pictures i p
    → first_open [] pictures ≡ first_open list (drop i pictures) → list_behind_header list p.code (header_in p) ≡ Some list' → first_open [] pictures ≡ first_open list' (drop (i + 1) pictures)
unfolding first_open
listed_more pictures i p list list' inside is so next =
    so ∙ ap (first_open list) (left_at pictures i p inside is) ∙ ap (open_or p.index (λ next. first_open next (drop (i + 1) pictures))) next

pub open_here : (pictures : List PictureText) (i : ℕ) (p : PictureText) (list : List Picture) → i < length pictures → p ≡ get_or pictures i p
    → first_open [] pictures ≡ first_open list (drop i pictures) → list_behind_header list p.code (header_in p) ≡ None → Some p.index ≡ first_open [] pictures
unfolding first_open
open_here pictures i p list inside is so next =
    sym (so ∙ ap (first_open list) (left_at pictures i p inside is) ∙ ap (open_or p.index (λ next. first_open next (drop (i + 1) pictures))) next)

pub none_open : (pictures : List PictureText) (i : ℕ) (list : List Picture) → length pictures ≤ i → first_open [] pictures ≡ first_open list (drop i pictures) → None ≡ first_open [] pictures
unfolding first_open
none_open pictures i list past so = sym (so ∙ ap (first_open list) (drop_all i pictures past))

-- sequences: one that has none, one that has one, and no sequence
pub sequence_more : (sequences : List SequenceText) (i : ℕ) (s : SequenceText) → i < length sequences → s ≡ get_or sequences i s
    → first_open_among sequences ≡ first_open_among (drop i sequences) → None ≡ first_open [] s.pictures → first_open_among sequences ≡ first_open_among (drop (i + 1) sequences)
unfolding first_open_among
sequence_more sequences i s inside is so none =
    so ∙ ap first_open_among (left_at sequences i s inside is) ∙ ap (λ first. first_answer first (first_open_among (drop (i + 1) sequences))) (sym none)

pub sequence_open : (sequences : List SequenceText) (i : ℕ) (s : SequenceText) (n : ℕ) → i < length sequences → s ≡ get_or sequences i s
    → first_open_among sequences ≡ first_open_among (drop i sequences) → Some n ≡ first_open [] s.pictures → Some n ≡ first_open_among sequences
unfolding first_open_among
sequence_open sequences i s n inside is so some =
    sym (so ∙ ap first_open_among (left_at sequences i s inside is) ∙ ap (λ first. first_answer first (first_open_among (drop (i + 1) sequences))) (sym some))

pub no_sequence_open : (sequences : List SequenceText) (i : ℕ) → length sequences ≤ i → first_open_among sequences ≡ first_open_among (drop i sequences) → None ≡ first_open_among sequences
unfolding first_open_among
no_sequence_open sequences i past so = sym (so ∙ ap first_open_among (drop_all i sequences past))
