-- The pictures that a header names are pictures of the open sequence, where all listed ones are.
use Rattle.std.proofs.Common.{◌≡◌, ℕ, true, false, if◌then◌else◌, List, [], ◌∷◌, Option, None, Some, subst, IsTrue, arith}
use Rattle.std.specs.Prelude.{◌==◌}
use Rattle.std.specs.List.{All}
use Rattle.std.specs.Option.{ForSome}
use Rattle.std.proofs.lemmas.List.Elements.{All-drop, All-get_or}
use Rattle.dirac_common.specs.declared.picture.Picture.{Picture}
use Rattle.dirac_sequence_header.specs.declared.sequence.Sequence.{Sequence}
use Rattle.dirac_header.specs.declared.header.PictureHeader.{PictureHeader}
use Rattle.dirac_refs.specs.References.{listed}
use Rattle.dirac_picture.specs.Grammar.{are_listed}
use Rattle.dirac_content.specs.Content.{named, IsPicture, AreReferences}

first_fits : (P : Picture → Type 0) (q : Picture) (list : List Picture) → All P (q ∷ list) → P q
first_fits P q list all = All-get_or P (q ∷ list) 0 q (omega arith) all

rest_fits : (P : Picture → Type 0) (q : Picture) (list : List Picture) → All P (q ∷ list) → All P list
rest_fits P q list all = All-drop P 1 (q ∷ list) all

-- a picture that is found is one of the list
found_fits : (P : Picture → Type 0) (list : List Picture) (number : ℕ) (p : Picture) → All P list → listed list number ≡ Some p → P p
found_fits P [] number p all is = absurd cc
found_fits P (q ∷ list) number p all is =
    elim (q.number == number) as (λ b. (if b then Some q else listed list number) ≡ Some p → P p) [
      | true ↦ λ e. let same : q ≡ p = cc in subst P same (first_fits P q list all)
      | false ↦ λ e. found_fits P list number p (rest_fits P q list all) e
    ] is

named_fits : (s : Sequence) (refs : List Picture) (number : Option ℕ) → All (IsPicture s) refs → ForSome (named refs number) (IsPicture s)
named_fits s refs None all = λ p is. absurd cc
named_fits s refs (Some n) all = λ p is. found_fits (IsPicture s) refs n p all is

-- what a header names, where all listed pictures are of the sequence
pub references_fit : (s : Sequence) (refs : List Picture) (head : PictureHeader) → IsTrue (are_listed refs head) → All (IsPicture s) refs → AreReferences s refs head
references_fit s refs head there all = record { listed = there; first = named_fits s refs head.ref1 all; second = named_fits s refs head.ref2 all }
