-- What the choice of blocks asks for follows from what the coding of a picture asks for; and what the choice comes to.
use Rattle.std.proofs.Common.{◌≡◌, Bool, true, false, if◌then◌else◌, List, Option, None, Some, refl, sym, ap, ◌∙◌}
use Rattle.dirac_common.specs.declared.picture.Picture.{Picture}
use Rattle.dirac_types.specs.declared.settings.Settings.{Settings}
use Rattle.dirac_sequence.specs.Written.{sequence_of}
use Rattle.dirac_block_table.specs.Tables.{BlockTable}
use Rattle.dirac_picture.specs.Grammar.{is_intra}
use Rattle.dirac_plan.specs.declared.planned.Planned.{Planned}
use Rattle.dirac_plan_laws.specs.Headers.{header_of}
use Rattle.dirac_motion.specs.Chosen.{IsChosenAtEachIndex, IsChoosing, chosen, chosen_unless_intra}
use Rattle.dirac_motion.proofs.Indices.{chosen_same}
use Rattle.dirac_encode_laws.specs.Coded.{coded_of, coded_with, motion_among, motion_of, motion_with}
use Rattle.dirac_encode_laws.proofs.Lefts.{picture_is}
use Rattle.dirac_encode_picture.specs.Asked.{IsAsked, coded_by}
use Rattle.dirac_encode_picture.proofs.Asking.{ask_refs}

pub can_choose : (t : Settings) (refs : List Picture) (q : Planned) (p : Picture) → IsAsked t refs q p
    → IsChoosing t refs q p
can_choose t refs q p is = record {
  accepted = is.accepted;
  source = picture_is t p is.source;
  references = ask_refs t (sequence_of t) refs q p (header_of q) is refl refl;
  header = is.planned.references;
  predicted = is.planned.predicted;
}

-- ---- the chosen table, or none

none_if : (b : Bool) (x : BlockTable) → b ≡ true → None ≡ (if b then None else Some x)
none_if true x e = refl
none_if false x e = absurd cc

some_if : (b : Bool) (x : BlockTable) → b ≡ false → Some x ≡ (if b then None else Some x)
some_if true x e = absurd cc
some_if false x e = refl

pub intra_choice : (t : Settings) (refs : List Picture) (q : Planned) (p : Picture) (o : Option BlockTable)
    → is_intra q.code ≡ true → o ≡ None → o ≡ chosen_unless_intra t refs q p
intra_choice t refs q p o intra e = e ∙ none_if (is_intra q.code) (chosen t refs q p) intra

pub inter_choice : (t : Settings) (refs : List Picture) (q : Planned) (p : Picture) (o : Option BlockTable)
    → is_intra q.code ≡ false → o ≡ Some (chosen t refs q p) → o ≡ chosen_unless_intra t refs q p
inter_choice t refs q p o inter e = e ∙ some_if (is_intra q.code) (chosen t refs q p) inter

-- it is the same at each index
pub choices_same : (t : Settings) (refs : List Picture) (q : Planned) (p : Picture) (o : Option BlockTable)
    → o ≡ chosen_unless_intra t refs q p → IsChosenAtEachIndex t refs q p o
choices_same t refs q p o e index =
    e ∙ ap (λ (x : BlockTable). if is_intra q.code then None else Some x) (sym (chosen_same t index refs q p))

motion_if : (t : Settings) (b : Bool) (x : BlockTable)
    → motion_among t (if b then None else Some x) ≡ (if b then None else Some (motion_with t x))
motion_if t true x = refl
motion_if t false x = refl

-- the motion by it is that of the plan
pub chosen_motion : (t : Settings) (refs : List Picture) (q : Planned) (p : Picture)
    → motion_among t (chosen_unless_intra t refs q p) ≡ motion_of t refs q p
chosen_motion t refs q p = motion_if t (is_intra q.code) (chosen t refs q p)

-- and so is the coded picture
pub coded_chosen : (t : Settings) (refs : List Picture) (q : Planned) (p : Picture)
    → coded_by t refs q p (chosen_unless_intra t refs q p) ≡ coded_of t refs q p
coded_chosen t refs q p = ap (coded_with t refs q p) (chosen_motion t refs q p)
