-- What a stream shows: its pictures up to the first fault, that fault, and the tally.
use Rattle.std.specs.Prelude.{◌≡◌, ℕ, List, [], ◌∷◌, ◌++◌, length, Option, Some, Result, Ok, Err}
use Rattle.dirac_common.specs.declared.faults.Fault.{Fault}
use Rattle.dirac_common.specs.declared.faults.Refusal.{Refusal}
use Rattle.dirac_common.specs.declared.picture.Picture.{Picture}
use Rattle.dirac_units.specs.declared.unit_place.UnitPlace.{UnitPlace}
use Rattle.dirac_units.specs.Cut.{UnitText, IsCut, first_unit_place, after, fault_at}
use Rattle.dirac_refs.specs.Delivery.{flushed}
use Rattle.dirac_content.specs.declared.tally.Tally.{Tally}
use Rattle.dirac_content.specs.StreamState.{StreamState, StreamStep, stream_begun, unit_step}

-- the pictures shown, in order of delivery, the greatest length of a reference list, and the fault that ends the stream
pub record Outcome : Type 0 where
  pub shown : List Picture
  pub most : ℕ
  pub end : Option Fault

-- what is shown with these pictures in front
abbrev pub with_front : List Picture → Outcome → Outcome
with_front front o = record { shown = front ++ o.shown; most = o.most; end = o.end }

-- what is shown where a stream ends, lawfully or with a fault: all pictures that wait leave
abbrev pub ends_with : StreamState → Option Fault → Outcome
ends_with state end = record { shown = flushed state.waiting; most = state.most; end = end }

-- what the content of a unit shows, and then the rest of the stream; at a refusal the stream ends with its fault
abbrev pub follows : StreamState → UnitPlace → (StreamState → Outcome) → Result StreamStep Refusal → Outcome
follows state unit_place next (Ok m) = with_front m.gone (next m.state)
follows state unit_place next (Err refusal) = ends_with state (Some (fault_at unit_place refusal.at refusal.cause))

-- what these units show from a state of a stream on, where the cutting ends with this end or fault
unfoldable pub outcome : StreamState → UnitPlace → List UnitText → Option Fault → Outcome
outcome state unit_place [] end = ends_with state end
outcome state unit_place (unit ∷ units) end =
    follows state unit_place (λ next. outcome next (after unit_place unit.info) units end)
    (unit_step state unit.info.code unit.payload)

-- a unit and those behind it that are accepted; one whose content is refused ends them
abbrev pub accepted_on : UnitText → (StreamState → List UnitText) → Result StreamStep Refusal → List UnitText
accepted_on unit rest (Ok m) = unit ∷ rest m.state
accepted_on unit rest (Err refusal) = []

-- the units among these that are accepted, from this state of the stream on
unfoldable pub accepted : StreamState → List UnitText → List UnitText
accepted state [] = []
accepted state (unit ∷ units) =
    accepted_on unit (λ next. accepted next units) (unit_step state unit.info.code unit.payload)

-- what these bytes show from a state and a place of a stream on
pub record Shows (state : StreamState) (unit_place : UnitPlace) (bytes : List ℕ) (o : Outcome) : Type 0 where
  pub units : List UnitText
  pub end : Option Fault
  pub cut : IsCut unit_place bytes units end
  pub same : outcome state unit_place units end ≡ o

-- what a stream shows
abbrev pub IsShown : List ℕ → Outcome → Type 0
IsShown bytes o = Shows stream_begun first_unit_place bytes o

-- how many pictures are shown, and the greatest length of a reference list
abbrev pub tally_of : Outcome → Tally
tally_of o = record { pictures = length o.shown; references = o.most }
