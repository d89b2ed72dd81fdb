-- Pictures that wait, written one after another.
use Rattle.std.proofs.Common.{◌≡◌, ℕ, ◌+◌, List, [], ◌∷◌, ◌++◌, length, sym, ap, ◌∙◌, subst, append_assoc, append-nil, Option}
use Rattle.std.specs.Io.KnownBytes.{Appends}
use Rattle.std.proofs.KnownBytes.{Appends-trans}
use Rattle.std.proofs.lemmas.Grind.{flat_map-append}
use Rattle.dirac_common.specs.declared.picture.Picture.{Picture}
use Rattle.dirac_io.specs.Writing.{AppendsFront}
use Rattle.dirac_refs.specs.declared.waiting.Waiting.{Waiting}
use Rattle.dirac_refs.specs.Delivery.{flushed, least, others}
use Rattle.dirac_content.specs.Raw.{raw, raws}
use Rattle.dirac_content.proofs.Flushed.{flushed_one}
use Rattle.dirac_content.proofs.Raws.{raws_more}

-- these left and were written, and the others wait on
pub record Flushes (first now : List Waiting) (side0 side : Option (List ℕ)) : Type 0 where
  pub given : List Picture
  pub all : flushed first ≡ given ++ flushed now
  pub written : Appends side0 side (raws given)

pub flushes_more : (first old new : List Waiting) (p : Picture) (side0 side side' : Option (List ℕ)) → Flushes first old side0 side → p ∷ [] ≡ least old → new ≡ others old → length new + 1 ≡ length old
    → Appends side side' (raw p) → Flushes first new side0 side'
flushes_more first old new p side0 side side' so is rest count written = record {
  given = so.given ++ p ∷ [];
  all = so.all ∙ ap (λ l. so.given ++ l) (flushed_one old new p is rest count) ∙ sym (append_assoc so.given (p ∷ []) (flushed new));
  written = subst (λ (l : List ℕ). Appends side0 side' l) (sym (raws_more so.given p)) (Appends-trans side0 side side' (raws so.given) (raw p) so.written written);
}

-- a picture is written in part
pub flushes_part : (first old new : List Waiting) (p : Picture) (side0 side side' : Option (List ℕ)) → Flushes first old side0 side → p ∷ [] ≡ least old → new ≡ others old → length new + 1 ≡ length old
    → AppendsFront side side' (raw p) → AppendsFront side0 side' (raws (flushed first))
flushes_part first old new p side0 side side' so is rest count front =
    let text : raws (flushed first) ≡ (raws so.given ++ front.0) ++ (front.1 ++ raws (flushed new)) =
    ap raws (so.all ∙ ap (λ l. so.given ++ l) (flushed_one old new p is rest count)) ∙ flat_map-append raw so.given (p ∷ flushed new)
    ∙ ap (λ l. raws so.given ++ (l ++ raws (flushed new))) front.2 ∙ ap (λ l. raws so.given ++ l) (append_assoc front.0 front.1 (raws (flushed new)))
    ∙ sym (append_assoc (raws so.given) front.0 (front.1 ++ raws (flushed new))) in
    (raws so.given ++ front.0, front.1 ++ raws (flushed new), text, Appends-trans side0 side side' (raws so.given) front.0 so.written front.3)

-- one picture alone
pub one_front : (side side' : Option (List ℕ)) (p : Picture) (ps : List Picture) → p ∷ [] ≡ ps → AppendsFront side side' (raw p) → AppendsFront side side' (raws ps)
one_front side side' p ps is front = subst (λ (l : List Picture). AppendsFront side side' (raws l)) is (subst (λ (l : List ℕ). AppendsFront side side' l) (sym (append-nil (raw p))) front)
