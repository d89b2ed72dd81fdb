-- Raw pictures, one after another.
use Rattle.std.proofs.Common.{◌≡◌, ◌∙◌, List, [], ◌∷◌, ◌++◌, ap}
use Rattle.std.proofs.lemmas.Grind.{flat_map-append}
use Rattle.std.proofs.lemmas.List.{append-nil}
use Rattle.dirac_common.specs.declared.picture.Picture.{Picture}
use Rattle.dirac_content.specs.Raw.{raw, raws}

pub raws_more : (given : List Picture) (p : Picture) → raws (given ++ p ∷ []) ≡ raws given ++ raw p
raws_more given p = flat_map-append raw given (p ∷ []) ∙ ap (λ t. raws given ++ t) (append-nil (raw p))

pub raws_front : (front rest : List Picture) → raws (front ++ rest) ≡ raws front ++ raws rest
raws_front front rest = flat_map-append raw front rest
