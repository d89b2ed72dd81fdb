-- The content of a stream as a check goes through it: a decoder's state, whose pictures are not rebuilt. One sample
-- stands for each listed picture, and none waits.
-- Inner: for the proofs of this crate.
use Rattle.std.specs.Prelude.{◌≡◌, ℕ, ◌==◌, if◌then◌else◌, List, Option, None, Some, ⊤, Result, Ok, Err}
use Rattle.dirac_common.specs.declared.codes.TheConstants.{SEQUENCE_HEADER}
use Rattle.dirac_common.specs.declared.faults.Cause.TheVariants.{NoSequence}
use Rattle.dirac_common.specs.declared.faults.Refusal.{Refusal}
use Rattle.dirac_common.specs.declared.faults.Stop.{Stop}
use Rattle.dirac_common.specs.declared.faults.Stop.TheVariants as stop
use Rattle.dirac_units.specs.Info.{fields_are_read}
use Rattle.dirac_refs.specs.References.{as_reference, committed}
use Rattle.dirac_picture.specs.declared.coded.CodedPicture.{CodedPicture}
use Rattle.dirac_picture.specs.Grammar.{picture_read}
use Rattle.dirac_content.specs.declared.opened.Opened.{Opened}
use Rattle.dirac_content.specs.StreamState.{StreamState, StreamStep, header_step, in_unit, passed}
use Rattle.dirac_edit.specs.Open.{numbered}

-- where a unit brings a decoder, without the pictures that leave
abbrev pub state_of : Result StreamStep Refusal → Result StreamState Refusal
state_of (Ok m) = Ok m.state
state_of (Err refusal) = Err refusal

-- a picture that was read changes the list, in which it stands by its number; or it was refused
abbrev pub listed_by : StreamState → Result CodedPicture Refusal → Result StreamState Refusal
listed_by course (Ok coded) =
    let p = numbered coded.header.number in
    Ok (record course { list = committed course.list coded.header.retire (as_reference coded.code p) })
listed_by course (Err refusal) = Err (in_unit refusal)

-- a picture of the open sequence
abbrev pub picture_checked : StreamState → Option Opened → ℕ → List ℕ → Result StreamState Refusal
picture_checked course None code payload = Err (record { at = 0; cause = NoSequence })
picture_checked course (Some o) code payload = listed_by course (picture_read code o.sequence course.list payload)

-- a sequence header or a picture
abbrev pub content_checked : StreamState → ℕ → List ℕ → Result StreamState Refusal
content_checked course code payload =
    if code == SEQUENCE_HEADER then state_of (header_step course course.opened payload)
    else picture_checked course course.opened code payload

-- the content of one unit: where it brings the course, or its refusal
unfoldable pub unit_checked : StreamState → ℕ → List ℕ → Result StreamState Refusal
unit_checked course code payload =
    if fields_are_read code then content_checked course code payload else Ok (passed course code).state

-- the answer is where the unit brings the course, or its refusal; want of memory says nothing of the input
abbrev pub IsTaken : Result (Unit {0}) Stop → Result StreamState Refusal → StreamState → Type 0
IsTaken (Ok all) read new = read ≡ Ok new
IsTaken (Err (stop.Refused refusal)) read new = read ≡ Err refusal
IsTaken (Err stop.NoMemory) read new = ⊤
