-- What the content of one unit brought, as the decoder's state answers it.
-- Inner: for the proofs of this crate.
use Rattle.std.specs.Prelude.{◌≡◌, ℕ, ◌+◌, ◌≤◌, List, [], ◌∷◌, length, Option, None, Some}
use Rattle.std.specs.Prelude.{Result, Ok, Err, IfErr}
use Rattle.std.specs.List.{All}
use Rattle.std.specs.Option.{option_to_list}
use Rattle.dirac_common.specs.declared.faults.Refusal.{Refusal}
use Rattle.dirac_common.specs.declared.faults.Stop.{Stop}
use Rattle.dirac_common.specs.declared.faults.Stop.TheVariants as stop
use Rattle.dirac_common.specs.declared.picture.Picture.{Picture}
use Rattle.dirac_sequence_header.specs.Lawful.{IsSequence}
use Rattle.dirac_refs.specs.Delivery.{flushed, least, others as rest_of}
use Rattle.dirac_content.specs.declared.opened.Opened.{Opened}
use Rattle.dirac_decode_picture.specs.declared.decoded_picture.DecodedPicture.{DecodedPicture}
use Rattle.dirac_decode.specs.declared.step.Step.{Step}
use Rattle.dirac_decode.specs.declared.step.Step.TheVariants as step
use Rattle.dirac_content.specs.Content.{IsPicture}
use Rattle.dirac_content.specs.StreamState.{StreamState, StreamStep, shows}
pub use Rattle.dirac_content.specs.Stopped.{IfStopped}
use Rattle.dirac_decode.specs.Decoding.{emptied}

-- what a unit's content brings by its step; after Drains the waiting pictures are left to the caller
abbrev pub made_by : Step → StreamState → StreamStep
made_by step.On new = record { state = new; gone = [] }
made_by (step.Shown p) new = record { state = new; gone = p ∷ [] }
made_by step.Drains new = record { state = emptied new; gone = flushed new.waiting }

-- a step of a decoder and the state behind it are what the content of a unit brings
abbrev pub Steps : Step → StreamStep → StreamState → Type 0
Steps step made new = made ≡ made_by step new

-- the answer is what the unit's content brings, or its refusal, at which the state stays
abbrev pub IsTakenAs : Result Step Stop → Result StreamStep Refusal → StreamState → StreamState → Type 0
IsTakenAs (Ok step) read old new = (made : StreamStep) × (read ≡ Ok made) × Steps step made new
IsTakenAs (Err (stop.Refused refusal)) read old new = (read ≡ Err refusal) × (new ≡ old)
IsTakenAs (Err stop.NoMemory) read old new = new ≡ old

-- how many pictures a step of a decoder lets leave at once
abbrev pub shown_in : Step → ℕ
shown_in step.On = 0
shown_in (step.Shown p) = 1
shown_in step.Drains = 0

-- at most one picture more waits or leaves, and none more where the unit was refused or memory was wanting
abbrev pub OneMoreAtMost : Result Step Stop → ℕ → ℕ → Type 0
OneMoreAtMost (Ok step) before now = shown_in step + now ≤ before + 1
OneMoreAtMost (Err stop) before now = now ≤ before

-- what the content of a unit brings with a payload of so many bytes, or its refusal, placed inside the unit
pub record TakesContent (answer : Result Step Stop) (read : Result StreamStep Refusal) (bytes : ℕ)
    (old new : StreamState) : Type 0 where
  pub took : IsTakenAs answer read old new
  pub place_inside : IfErr answer (λ e. IfStopped e (λ (r : Refusal). r.at ≤ 13 + bytes))
  pub one_more_at_most : OneMoreAtMost answer (length old.waiting) (length new.waiting)
  pub greatest_never_falls : old.most ≤ new.most

-- the picture of least key left, where one waited
pub record IsPopped (popped : Option Picture) (old new : StreamState) : Type 0 where
  pub gone : option_to_list popped ≡ least old.waiting
  pub others : new.waiting ≡ rest_of old.waiting
  pub same : new ≡ record old { waiting = new.waiting }
  pub fewer : length new.waiting + length (option_to_list popped) ≡ length old.waiting
  pub none : popped ≡ None → length old.waiting ≡ 0

-- a decoded picture changes the list and joins those that wait, as the coded picture that it was does
abbrev pub shows_decoded : StreamState → DecodedPicture → StreamStep
shows_decoded state d =
    shows state (record { code = d.code; header = d.header; motion = None; residual = None }) d.picture

-- the open sequence can be read, and all listed pictures are of it; without one none is listed
abbrev pub IsOpen : Option Opened → List Picture → Type 0
IsOpen None refs = refs ≡ []
IsOpen (Some o) refs = IsSequence o.sequence × All (IsPicture o.sequence) refs

-- a picture of the open sequence
abbrev pub IsOfOpen : Option Opened → Picture → Type 0
IsOfOpen None p = ⊥
IsOfOpen (Some o) p = IsPicture o.sequence p
