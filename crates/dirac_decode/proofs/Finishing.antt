-- How far the writing of a stream is, and how it ends.
use Rattle.std.proofs.Common.{◌≡◌, ◌∙◌, ℕ, ◌+◌, ◌≤◌, List, [], length, Option, sym, ap, subst}
use Rattle.std.specs.Prelude.{IfSome}
use Rattle.std.specs.Io.KnownBytes.{Appends, IsAtEnd}
use Rattle.dirac_common.specs.declared.faults.Fault.{Fault}
use Rattle.dirac_common.specs.declared.picture.Picture.{Picture}
use Rattle.dirac_io.specs.Writing.{AppendsFront}
use Rattle.dirac_units.specs.declared.unit.StreamEnd.{StreamEnd}
use Rattle.dirac_units.specs.declared.unit.StreamEnd.TheVariants as stream_end
use Rattle.dirac_units.specs.Cut.{EachHasACut}
use Rattle.dirac_refs.specs.declared.ref_buffer.TheConstants.{MOST_REFERENCES}
use Rattle.dirac_content.specs.declared.tally.Tally.{Tally}
use Rattle.dirac_content.specs.Raw.{raw}
use Rattle.dirac_decode.specs.declared.answers.Decoded.TheVariants as decoded
use Rattle.dirac_decode.specs.declared.answers.Next.TheVariants as next
use Rattle.dirac_decode.specs.Decoding.{BreaksOff, Decoding, Gives, StopsIn, decoder_begun, tally}
use Rattle.dirac_decode.specs.Decoded.{IsDecodedStream}
use Rattle.dirac_decode.specs.Streamed.{IsStreamWritten}
use Rattle.dirac_decode.proofs.Counts.{room_begins}
use Rattle.dirac_decode.proofs.Leading.{not_stopped}
use Rattle.dirac_decode.proofs.Lengthened.{more_in, more_out, more_some}
use Rattle.dirac_decode.proofs.Streaming.{IsStreamed, broken_off, cut_off, cut_off_in, not_stopped_by_end, not_stopped_by_fault, read_in, read_out, read_some, stops_at_break, streamed_done, streamed_fault, streamed_more, streamed_none}

-- pictures were given and written, and nothing was met that stops a decoder
pub record IsUnderway (d : Decoding) (held held' taken taken' : Option (List ℕ)) : Type 0 where
  pub streamed : IsStreamed d held held' taken taken'
  pub moving : d.stream_end ≡ stream_end.Stopped → ⊥
  pub at_the_end : d.stream_end ≡ stream_end.Ended → IsAtEnd held'
  pub none_ahead : d.units.ahead ≡ []

not_ended_yet : (m : StreamEnd) → m ≡ stream_end.Going → m ≡ stream_end.Ended → ⊥
not_ended_yet m going is = let both : stream_end.Going ≡ stream_end.Ended = sym going ∙ is in cc

not_ended_by_fault : (m : StreamEnd) (fault : Fault) → m ≡ stream_end.Faulted fault → m ≡ stream_end.Ended → ⊥
not_ended_by_fault m fault met is = let both : stream_end.Faulted fault ≡ stream_end.Ended = sym met ∙ is in cc

-- before the first picture
pub underway_begun : (d : Decoding) (held taken : Option (List ℕ)) → d ≡ decoder_begun → IsUnderway d held held taken taken
underway_begun d held taken same =
    let going : d.stream_end ≡ stream_end.Going = ap (λ (x : Decoding). x.stream_end) same in
    record {
      streamed = streamed_none d held taken same;
      moving = not_stopped d.stream_end going;
      at_the_end = λ is. absurd (not_ended_yet d.stream_end going is);
      none_ahead = ap (λ (x : Decoding). x.units.ahead) same;
    }

pub room_begun : (d : Decoding) (left : ℕ) → d ≡ decoder_begun → d.units.unit_place.at + length d.units.ahead + left ≤ left
room_begun d left same = subst (λ (x : Decoding). x.units.unit_place.at + length x.units.ahead + left ≤ left) (sym same) (room_begins left)

-- what the next answer keeps
abbrev KeepsEnd : Decoding → Decoding → Option (List ℕ) → Option (List ℕ) → Type 0
KeepsEnd d d' held held' =
    (d.stream_end ≡ stream_end.Ended → IsAtEnd held) → d'.stream_end ≡ stream_end.Ended → IsAtEnd held'

abbrev KeepsAhead : Decoding → Decoding → Type 0
KeepsAhead d d' = d.units.ahead ≡ [] → d'.units.ahead ≡ []

-- one picture more was written
pub underway_more : (d d' : Decoding) (p : Picture) (held held' held'' taken taken' taken'' : Option (List ℕ)) → IsUnderway d held held' taken taken' → KeepsEnd d d' held' held'' → KeepsAhead d d'
    → Gives (next.Shown p) d d' held' held'' → Appends taken' taken'' (raw p) → IsUnderway d' held held'' taken taken''
underway_more d d' p held held' held'' taken taken' taken'' so ends none gives written = record {
  streamed = streamed_more d d' p held held' held'' taken taken' taken'' so.streamed gives written;
  moving = λ is. so.moving (gives.2 is);
  at_the_end = ends so.at_the_end;
  none_ahead = none so.none_ahead;
}

-- the lawful end
pub written_to_end : (d d' : Decoding) (t : Tally) (held held' held'' taken taken' : Option (List ℕ)) → EachHasACut → IsUnderway d held held' taken taken' → KeepsEnd d d' held' held'' → KeepsAhead d d'
    → Gives next.End d d' held' held'' → t ≡ tally d' → t.references ≤ MOST_REFERENCES → IsStreamWritten (decoded.Done t) held held'' taken taken'
written_to_end d d' t held held' held'' taken taken' cuts so ends none gives is few = record {
  decoded = subst (λ (x : Tally). IfSome held (λ bytes. IsDecodedStream bytes (decoded.Done x) taken taken')) (sym is) (streamed_done d d' held held' held'' taken taken' so.streamed gives);
  broken_off = λ (e : decoded.Done t ≡ decoded.ReadFault). cc;
  front_of_read = read_out d d' held held' held'' taken taken' cuts (not_stopped_by_end d'.stream_end gives.1) (none so.none_ahead) so.streamed gives.0;
  front_of_more = more_out d d' held held' held'' taken taken' cuts (not_stopped_by_end d'.stream_end gives.1) (none so.none_ahead) (ends so.at_the_end) so.streamed gives.0;
  at_the_end = ends so.at_the_end gives.1;
  at_most_8_references = few;
}

-- a fault
pub written_to_fault : (d d' : Decoding) (fault : Fault) (t : Tally) (held held' held'' taken taken' : Option (List ℕ)) → EachHasACut → IsUnderway d held held' taken taken' → KeepsAhead d d'
    → Gives (next.Fault fault) d d' held' held'' → t ≡ tally d' → t.references ≤ MOST_REFERENCES → IsStreamWritten (decoded.Fault fault t) held held'' taken taken'
written_to_fault d d' fault t held held' held'' taken taken' cuts so none gives is few = record {
  decoded = subst (λ (x : Tally). IfSome held (λ bytes. IsDecodedStream bytes (decoded.Fault fault x) taken taken')) (sym is) (streamed_fault d d' fault held held' held'' taken taken' so.streamed gives);
  broken_off = λ (e : decoded.Fault fault t ≡ decoded.ReadFault). cc;
  front_of_read = read_out d d' held held' held'' taken taken' cuts (not_stopped_by_fault d'.stream_end fault gives.1) (none so.none_ahead) so.streamed gives.0;
  front_of_more = more_out d d' held held' held'' taken taken' cuts (not_stopped_by_fault d'.stream_end fault gives.1) (none so.none_ahead) (λ is. absurd (not_ended_by_fault d'.stream_end fault gives.1 is)) so.streamed gives.0;
  at_the_end = tt;
  at_most_8_references = few;
}

-- a read failed
pub written_to_read_fault : (d : Decoding) (held held' held'' taken taken' : Option (List ℕ)) → EachHasACut → IsUnderway d held held' taken taken' → BreaksOff d held' held'' → IsStreamWritten decoded.ReadFault held held'' taken taken'
written_to_read_fault d held held' held'' taken taken' cuts so breaks = record {
  decoded = cut_off d held held' taken taken' cuts so.moving so.streamed;
  broken_off = λ is. broken_off d held held' held'' taken taken' so.streamed breaks;
  front_of_read = read_some d held held' held'' taken taken' cuts so.moving so.streamed (stops_at_break d held' held'' breaks);
  front_of_more = more_some d held held' held'' taken taken' cuts so.moving so.streamed (stops_at_break d held' held'' breaks);
  at_the_end = tt;
  at_most_8_references = tt;
}

-- memory was wanting while a unit was taken
pub written_to_want : (d : Decoding) (held held' held'' taken taken' : Option (List ℕ)) → EachHasACut → IsUnderway d held held' taken taken' → StopsIn d held' held'' → IsStreamWritten decoded.NoMemory held held'' taken taken'
written_to_want d held held' held'' taken taken' cuts so stops = record {
  decoded = cut_off d held held' taken taken' cuts so.moving so.streamed;
  broken_off = λ (e : decoded.NoMemory ≡ decoded.ReadFault). cc;
  front_of_read = read_some d held held' held'' taken taken' cuts so.moving so.streamed stops;
  front_of_more = more_some d held held' held'' taken taken' cuts so.moving so.streamed stops;
  at_the_end = tt;
  at_most_8_references = tt;
}

-- a write failed in the middle of a picture, or found no memory
pub written_into : (d d' : Decoding) (p : Picture) (held held' held'' taken taken' taken'' : Option (List ℕ)) → EachHasACut → IsUnderway d held held' taken taken' → KeepsEnd d d' held' held'' → KeepsAhead d d'
    → Gives (next.Shown p) d d' held' held'' → AppendsFront taken' taken'' (raw p) → IsStreamWritten decoded.WriteFault held held'' taken taken''
written_into d d' p held held' held'' taken taken' taken'' cuts so ends none gives front = record {
  decoded = cut_off_in d d' p held held' held'' taken taken' taken'' cuts so.moving so.streamed gives front;
  broken_off = λ (e : decoded.WriteFault ≡ decoded.ReadFault). cc;
  front_of_read = read_in d d' p held held' held'' taken taken' taken'' cuts so.moving (none so.none_ahead) so.streamed gives front;
  front_of_more = more_in d d' p held held' held'' taken taken' taken'' cuts so.moving (none so.none_ahead) (ends so.at_the_end) so.streamed gives front;
  at_the_end = tt;
  at_most_8_references = tt;
}

pub written_into_want : (d d' : Decoding) (p : Picture) (held held' held'' taken taken' taken'' : Option (List ℕ)) → EachHasACut → IsUnderway d held held' taken taken' → KeepsEnd d d' held' held'' → KeepsAhead d d'
    → Gives (next.Shown p) d d' held' held'' → AppendsFront taken' taken'' (raw p) → IsStreamWritten decoded.NoMemory held held'' taken taken''
written_into_want d d' p held held' held'' taken taken' taken'' cuts so ends none gives front = record {
  decoded = cut_off_in d d' p held held' held'' taken taken' taken'' cuts so.moving so.streamed gives front;
  broken_off = λ (e : decoded.NoMemory ≡ decoded.ReadFault). cc;
  front_of_read = read_in d d' p held held' held'' taken taken' taken'' cuts so.moving (none so.none_ahead) so.streamed gives front;
  front_of_more = more_in d d' p held held' held'' taken taken' taken'' cuts so.moving (none so.none_ahead) (ends so.at_the_end) so.streamed gives front;
  at_the_end = tt;
  at_most_8_references = tt;
}
