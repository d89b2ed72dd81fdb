-- What a decoder that is sent its bytes may not do.
use Rattle.std.proofs.Common.{◌≡◌, List, [], ◌∷◌, ◌++◌, ap, sym, ◌∙◌}
use Rattle.dirac_common.specs.declared.picture.Picture.{Picture}
use Rattle.dirac_units.specs.declared.unit.StreamEnd.TheVariants as stream_end
use Rattle.dirac_units.specs.Cut.{UnitText}
use Rattle.dirac_content.specs.Leaving.{leaving}
use Rattle.dirac_push.specs.Pushing.{Pushed, TakesUnits}

none_behind : (due : List Picture) (p : Picture) (ps : List Picture) → due ++ p ∷ ps ≡ [] → ⊥
none_behind [] p ps is = cc
none_behind (x ∷ due) p ps is = cc

none_before : (p : Picture) (ps more : List Picture) → (p ∷ ps) ++ more ≡ [] → ⊥
none_before p ps more is = cc

-- a unit taken behind one with which a picture left
further_refused : (old new : Pushed) (takes : TakesUnits old new) (unit next : UnitText) (p : Picture) (ps : List Picture) → takes.units ≡ unit ∷ next ∷ [] → leaving old.decoder.state (unit ∷ []) ≡ p ∷ ps → ⊥
further_refused old new takes unit next p ps taken left =
    none_behind old.decoder.due p ps (ap (λ (xs : List Picture). old.decoder.due ++ xs) (sym left) ∙ takes.up_to (unit ∷ []) next taken)

-- a unit taken while a picture is due
refused_while_due : (old new : Pushed) (takes : TakesUnits old new) (unit : UnitText) (p : Picture) (ps : List Picture) → takes.units ≡ unit ∷ [] → old.decoder.due ≡ p ∷ ps → ⊥
refused_while_due old new takes unit p ps taken due =
    none_before p ps (leaving old.decoder.state []) (ap (λ (xs : List Picture). xs ++ leaving old.decoder.state []) (sym due) ∙ takes.up_to [] unit taken)

-- a due picture lost where memory is wanting
lost_refused : (old new : Pushed) (takes : TakesUnits old new) (p : Picture) (ps : List Picture) → old.decoder.stream_end ≡ stream_end.Going → new.decoder.stream_end ≡ stream_end.Stopped → old.decoder.due ≡ p ∷ ps → ⊥
lost_refused old new takes p ps going stopped due =
    let moving : new.decoder.stream_end ≡ stream_end.Going → ⊥ = λ goes. cc in
    none_before p ps (leaving old.decoder.state takes.units) (ap (λ (xs : List Picture). xs ++ leaving old.decoder.state takes.units) (sym due) ∙ takes.none_left going moving)
