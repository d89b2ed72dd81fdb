-- The references that are lent for a planned picture are those that it names.
use Rattle.std.proofs.Common.{◌≡◌, ◌∙◌, false, List, Option, Some, sym, ap, ap₂, subst}
use Rattle.std.specs.Option.{ForSome}
use Rattle.dirac_common.specs.declared.formats.Component.TheVariants as component
use Rattle.dirac_common.specs.declared.picture.Picture.{Picture}
use Rattle.dirac_types.specs.declared.settings.Settings.{Settings}
use Rattle.dirac_sequence_header.specs.declared.sequence.Sequence.{Sequence}
use Rattle.dirac_sequence.specs.Written.{sequence_of}
use Rattle.dirac_block_table.specs.Tables.{BlockTable}
use Rattle.dirac_upconvert.specs.SubSamples.{Up}
use Rattle.dirac_picture.specs.Grammar.{is_intra}
use Rattle.dirac_content.specs.Content.{IsPicture, named}
use Rattle.dirac_content.specs.Predicting.{IsUpOfPart}
use Rattle.dirac_content.proofs.Covering.{lent_size}
use Rattle.dirac_plan.specs.declared.planned.Planned.{Planned}
use Rattle.dirac_motion.specs.Chosen.{IsChosen, blocks_among, blocks_from, chosen}
use Rattle.dirac_motion.specs.Lent.{AreLent, AreNamed, first_of, second_of}
use Rattle.dirac_motion.specs.declared.lent.Reference.{Reference}
use Rattle.dirac_motion.specs.declared.lent.References.{References}
use Rattle.dirac_motion.proofs.Fitting.{chosen_fits}
use Rattle.dirac_encode_laws.specs.Coded.{IsSource}
use Rattle.dirac_encode_laws.proofs.Lefts.{named_is, picture_is}
use Rattle.dirac_encode_picture.specs.Asked.{IsAsked, IsMoving}
use Rattle.dirac_encode_picture.specs.declared.prepared.Moving.{Moving}
use Rattle.dirac_encode_picture.proofs.Choices.{can_choose}

-- a picture that is found is one of the sequence
pub first_is : (t : Settings) (refs : List Picture) (q : Planned) (p first : Picture) → IsAsked t refs q p
    → named refs q.ref1 ≡ Some first → IsPicture (sequence_of t) first
first_is t refs q p first is e = picture_is t first (named_is (IsSource t) refs q.ref1 is.listed first e)

pub second_is : (t : Settings) (refs : List Picture) (q : Planned) (p : Picture) (second : Option Picture)
    → IsAsked t refs q p → second ≡ named refs q.ref2 → ForSome second (IsPicture (sequence_of t))
second_is t refs q p second is e other there =
    picture_is t other (named_is (IsSource t) refs q.ref2 is.listed other (sym e ∙ there))

-- what is lent of them
pub moving_so : (t : Settings) (refs : List Picture) (q : Planned) (p first : Picture) (second : Option Picture) (r : References) → IsAsked t refs q p
    → named refs q.ref1 ≡ Some first → second ≡ named refs q.ref2 → first_of r ≡ first → second_of r ≡ second
    → ((s : Sequence) → IsPicture s first → ForSome second (IsPicture s) → AreLent s r)
    → AreNamed refs q r × AreLent (sequence_of t) r
moving_so t refs q p first second r is e f ef es lent = (
  record { first = e ∙ ap Some (sym ef); second = sym f ∙ sym es },
  lent (sequence_of t) (first_is t refs q p first is e) (second_is t refs q p second is f),
)

pub moving_some : (t : Settings) (refs : List Picture) (q : Planned) (m x : Moving)
    → AreNamed refs q m.references.now × AreLent (sequence_of t) m.references.now → Some m ≡ Some x
    → IsMoving t refs q x
moving_some t refs q m x is e =
    let same : m ≡ x = cc in
    subst (IsMoving t refs q) same (record { named = is.0; lent = is.1 })

-- the blocks that are chosen from them are those of the plan
pub chosen_so : (t : Settings) (refs : List Picture) (q : Planned) (p : Picture) (r : References) (b : BlockTable)
    → AreNamed refs q r → b ≡ blocks_from t p (first_of r) (second_of r) → b ≡ chosen t refs q p
unfolding chosen
chosen_so t refs q p r b is e = e ∙ ap₂ (λ (x y : Option Picture). blocks_among t p x y) (sym is.first) (sym is.second)

pub chosen_is : (t : Settings) (refs : List Picture) (q : Planned) (p : Picture) (b : BlockTable) → IsAsked t refs q p
    → is_intra q.code ≡ false → b ≡ chosen t refs q p → IsChosen t q.code b
chosen_is t refs q p b is inter e =
    subst (IsChosen t q.code) (sym e) (chosen_fits t refs q p (can_choose t refs q p is) inter)

-- the second reference is a picture of the sequence, and its luma has that plane's size
pub lent_picture : (s : Sequence) (r : References) (one : Reference) (x : Picture) → AreLent s r → r.second ≡ Some one
    → Some one.picture.now ≡ Some x → IsPicture s x
lent_picture s r one x lent there e =
    let same : one.picture.now ≡ x = cc in
    subst (IsPicture s) same (lent.second one there).picture

pub lent_luma : (s : Sequence) (r : References) (one : Reference) (u : Up) → AreLent s r → r.second ≡ Some one
    → Some one.luma.now ≡ Some u → IsUpOfPart s component.Y u
lent_luma s r one u lent there e =
    let is = lent.second one there in
    lent_size s one.picture.now component.Y one.luma.now u is.picture is.luma e
