-- The pictures that leave while units are taken, and what is delivered of a stream that breaks off.
use Rattle.std.specs.Prelude.{◌≡◌, ℕ, List, [], ◌∷◌, ◌++◌, Option, Some, Result, Ok, Err}
use Rattle.std.specs.Io.KnownBytes.{Appends}
use Rattle.dirac_common.specs.declared.faults.Fault.{Fault}
use Rattle.dirac_common.specs.declared.faults.Refusal.{Refusal}
use Rattle.dirac_common.specs.declared.picture.Picture.{Picture}
use Rattle.dirac_io.specs.Writing.{AppendsFront}
use Rattle.dirac_units.specs.declared.unit_place.UnitPlace.{UnitPlace}
use Rattle.dirac_units.specs.Cut.{IsCut, IsEndOfBytes, UnitText, first_unit_place}
use Rattle.dirac_content.specs.Raw.{raws}
use Rattle.dirac_content.specs.Shown.{IsShown, Outcome, accepted, outcome}
use Rattle.dirac_content.specs.StreamState.{StreamState, StreamStep, stream_begun, unit_step}

-- the pictures that leave at a unit, and then those that leave behind it; none at one that is refused
abbrev pub leaving_on : (StreamState → List Picture) → Result StreamStep Refusal → List Picture
leaving_on rest (Ok m) = m.gone ++ rest m.state
leaving_on rest (Err refusal) = []

-- the pictures that leave while these units are taken, one after another, whatever follows them
unfoldable pub leaving : StreamState → List UnitText → List Picture
leaving state [] = []
leaving state (unit ∷ units) =
    leaving_on (λ next. leaving next units) (unit_step state unit.info.code unit.payload)

-- of these bytes some were read and just the others are held; the units that lie whole in those read are all accepted
-- and no parse info behind them is refused, and a sink took just the pictures that leave while they are taken
pub record IsBrokenOff (bytes : List ℕ) (held' taken taken' : Option (List ℕ)) : Type 0 where
  pub read : List ℕ
  pub rest : List ℕ
  pub parts : bytes ≡ read ++ rest
  pub holds : held' ≡ Some rest
  pub units : List UnitText
  pub end : Option Fault
  pub cut : IsCut first_unit_place read units end
  pub bytes_end : IsEndOfBytes end
  pub accepts : accepted stream_begun units ≡ units
  pub delivered : Appends taken taken' (raws (leaving stream_begun units))

-- of these bytes some were read and just the others are held, and a sink took a front of the pictures that those read
-- show by themselves
pub record IsFrontOfRead (bytes : List ℕ) (held' taken taken' : Option (List ℕ)) : Type 0 where
  pub read : List ℕ
  pub rest : List ℕ
  pub parts : bytes ≡ read ++ rest
  pub holds : held' ≡ Some rest
  pub shows : Outcome
  pub shown : IsShown read shows
  pub delivered : AppendsFront taken taken' (raws shows.shown)

-- whatever follows them, what bytes show begins with the pictures that leave while their first units are taken
abbrev pub WhatLeavesIsShown : Type 0
WhatLeavesIsShown =
    (state : StreamState) (unit_place : UnitPlace) (units more : List UnitText) (end : Option Fault)
    → (later : List Picture) × ((outcome state unit_place (units ++ more) end).shown ≡ leaving state units ++ later)
