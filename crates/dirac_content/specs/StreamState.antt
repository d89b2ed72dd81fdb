-- The content of a stream, unit by unit: the open sequence, its references, the pictures that wait.
use Rattle.std.specs.Prelude.{ℕ, ◌+◌, ◌==◌, nat_eq, ◌&&◌, if◌then◌else◌, Bool, List, [], ◌∷◌, ◌++◌, length, max, Option}
use Rattle.std.specs.Prelude.{None, Some, Result, Ok, Err}
use Rattle.std.specs.List.{starts_with}
use Rattle.dirac_common.specs.declared.faults.Cause.TheVariants.{NoSequence, SequenceChanged}
use Rattle.dirac_common.specs.declared.faults.Refusal.{Refusal}
use Rattle.dirac_common.specs.declared.picture.Picture.{Picture}
use Rattle.dirac_common.specs.declared.codes.TheConstants.{END_OF_SEQUENCE, SEQUENCE_HEADER}
use Rattle.dirac_units.specs.Info.{fields_are_read}
use Rattle.dirac_sequence_header.specs.declared.sequence.Sequence.{Sequence}
use Rattle.dirac_sequence_header.specs.Grammar.{sequence_read}
use Rattle.dirac_refs.specs.declared.waiting.Waiting.{Waiting}
pub use Rattle.dirac_refs.specs.References.{as_reference, committed}
use Rattle.dirac_refs.specs.Delivery.{key_of, delivered, flushed}
use Rattle.dirac_picture.specs.declared.coded.CodedPicture.{CodedPicture}
use Rattle.dirac_picture.specs.Grammar.{picture_read}
use Rattle.dirac_content.specs.declared.opened.Opened.{Opened}
use Rattle.dirac_content.specs.Content.{rebuilt}

-- the state of a stream: the open sequence, the number of its first picture, its list of references, its waiting
-- pictures, and the greatest length that a list had
pub record StreamState : Type 0 where
  pub opened : Option Opened
  pub first : Option ℕ
  pub list : List Picture
  pub waiting : List Waiting
  pub most : ℕ

-- the state of a stream before its first unit
abbrev pub stream_begun : StreamState
stream_begun = record { opened = None; first = None; list = []; waiting = []; most = 0 }

-- the state behind a unit, and the pictures that it made leave, in order
pub record StreamStep : Type 0 where
  pub state : StreamState
  pub gone : List Picture

-- a step to this state, at which no picture leaves
abbrev pub staying : StreamState → StreamStep
staying state = record { state = state; gone = [] }

-- a refusal in a payload, its place counted from the unit's first byte
abbrev pub in_unit : Refusal → Refusal
in_unit refusal = record { at = 13 + refusal.at; cause = refusal.cause }

-- a first sequence header opens its sequence
abbrev pub opening : StreamState → List ℕ → Result Sequence Refusal → Result StreamStep Refusal
opening state payload (Ok s) =
    Ok (staying (record state { opened = Some (record { header = payload; sequence = s }); first = None }))
opening state payload (Err refusal) = Err (in_unit refusal)

-- a repeated sequence header has the first one's payload
abbrev pub is_same : List ℕ → List ℕ → Bool
is_same payload header = length payload == length header && starts_with nat_eq payload header

-- a sequence header opens a sequence, or repeats the header of the open one
abbrev pub header_step : StreamState → Option Opened → List ℕ → Result StreamStep Refusal
header_step state None payload = opening state payload (sequence_read payload)
header_step state (Some o) payload =
    if is_same payload o.header then Ok (staying state) else Err (record { at = 0; cause = SequenceChanged })

-- what a sequence header brings where this was opened by it: a sequence, or none, since one is open; or its refusal
abbrev pub opened_in : StreamState → Result (Option Opened) Refusal → Result StreamStep Refusal
opened_in state (Ok None) = Ok (staying state)
opened_in state (Ok (Some o)) = Ok (staying (record state { opened = Some o; first = None }))
opened_in state (Err refusal) = Err refusal

-- the number of the sequence's first picture
abbrev pub first_or : Option ℕ → ℕ → ℕ
first_or None number = number
first_or (Some first) number = first

-- a rebuilt picture changes the list and joins those that wait
abbrev pub shows : StreamState → CodedPicture → Picture → StreamStep
shows state coded p =
    let first = first_or state.first p.number in
    let list = committed state.list coded.header.retire (as_reference coded.code p) in
    let after = delivered (state.waiting ++ record { key = key_of first p.number; picture = p } ∷ []) in
    record {
      state = record {
        opened = state.opened;
        first = Some first;
        list = list;
        waiting = after.waiting;
        most = max state.most (length list);
      };
      gone = after.gone;
    }

-- what a picture's unit brings: its picture, which was read and is shown, or its refusal
abbrev pub shown_or_refused : StreamState → Opened → Result CodedPicture Refusal → Result StreamStep Refusal
shown_or_refused state o (Ok coded) = Ok (shows state coded (rebuilt o.sequence state.list coded))
shown_or_refused state o (Err refusal) = Err (in_unit refusal)

-- what a picture's unit brings to the open sequence; where none is open, its refusal
abbrev pub picture_step : StreamState → Option Opened → ℕ → List ℕ → Result StreamStep Refusal
picture_step state None code payload = Err (record { at = 0; cause = NoSequence })
picture_step state (Some o) code payload = shown_or_refused state o (picture_read code o.sequence state.list payload)

-- an end unit closes the sequence, and all that wait leave
abbrev pub ended : StreamState → StreamStep
ended state =
    record {
      state = record { opened = None; first = None; list = []; waiting = []; most = state.most };
      gone = flushed state.waiting;
    }

-- what the unit of a sequence header or of a picture brings
abbrev pub content : StreamState → ℕ → List ℕ → Result StreamStep Refusal
content state code payload =
    if code == SEQUENCE_HEADER then header_step state state.opened payload
    else picture_step state state.opened code payload

-- what an end unit brings, or a unit that is passed over
abbrev pub passed : StreamState → ℕ → StreamStep
passed state code = if code == END_OF_SEQUENCE then ended state else staying state

-- the content of one unit: the state that it brings, or its refusal, placed from the unit's first byte
unfoldable pub unit_step : StreamState → ℕ → List ℕ → Result StreamStep Refusal
unit_step state code payload = if fields_are_read code then content state code payload else Ok (passed state code)
