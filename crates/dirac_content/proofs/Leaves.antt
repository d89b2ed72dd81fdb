-- What leaves while units are taken is shown.
use Rattle.std.proofs.Common.{◌≡◌, ◌∙◌, List, [], ◌∷◌, ◌++◌, Option, Result, Ok, Err, refl, sym, ap, append_assoc}
use Rattle.dirac_common.specs.declared.faults.Fault.{Fault}
use Rattle.dirac_common.specs.declared.faults.Refusal.{Refusal}
use Rattle.dirac_common.specs.declared.picture.Picture.{Picture}
use Rattle.dirac_units.specs.declared.unit_place.UnitPlace.{UnitPlace}
use Rattle.dirac_units.specs.Cut.{UnitText, after}
use Rattle.dirac_content.specs.Leaving.{WhatLeavesIsShown, leaving, leaving_on}
use Rattle.dirac_content.specs.Shown.{follows, outcome}
use Rattle.dirac_content.specs.StreamState.{StreamState, StreamStep, unit_step}

front_step : (state : StreamState) (unit_place : UnitPlace) (unit : UnitText) (units more : List UnitText) (end : Option Fault) (r : Result StreamStep Refusal)
    → ((next : StreamState) → (later : List Picture) × ((outcome next (after unit_place unit.info) (units ++ more) end).shown ≡ leaving next units ++ later))
    → (later : List Picture) × ((follows state unit_place (λ next. outcome next (after unit_place unit.info) (units ++ more) end) r).shown ≡ leaving_on (λ next. leaving next units) r ++ later)
front_step state unit_place unit units more end (Ok m) next =
    let rest = next m.state in
    (rest.0, ap (λ l. m.gone ++ l) rest.1 ∙ sym (append_assoc m.gone (leaving m.state units) rest.0))
front_step state unit_place unit units more end (Err refusal) next =
    ((follows state unit_place (λ next. outcome next (after unit_place unit.info) (units ++ more) end) (Err refusal)).shown, refl)

pub leaves_first : WhatLeavesIsShown
unfolding outcome leaving
leaves_first state unit_place [] more end = ((outcome state unit_place more end).shown, refl)
leaves_first state unit_place (unit ∷ units) more end =
    front_step state unit_place unit units more end (unit_step state unit.info.code unit.payload) (λ next. leaves_first next (after unit_place unit.info) units more end)
