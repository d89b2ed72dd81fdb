-- What was read and written while a whole stream was decoded.
-- Inner: for the proofs of this crate.
use Rattle.std.specs.Prelude.{◌≡◌, ℕ, ◌≤◌, List, Option, IfSome}
use Rattle.std.specs.Io.KnownBytes.{IsAtEnd}
use Rattle.dirac_io.specs.Faults.{Rose}
use Rattle.dirac_refs.specs.declared.ref_buffer.TheConstants.{MOST_REFERENCES}
use Rattle.dirac_content.specs.declared.tally.Tally.{Tally}
use Rattle.dirac_content.specs.Leaving.{IsBrokenOff, IsFrontOfRead}
use Rattle.dirac_decode.specs.declared.answers.Decoded.{Decoded}
use Rattle.dirac_decode.specs.declared.answers.Decoded.TheVariants as answers
use Rattle.dirac_decode.specs.Decoded.{IfDone, IfTally, IsDecodedStream, IsFrontOfMore}

-- the pictures of a stream were written, as the answer says
pub record IsStreamWritten (answer : Decoded) (held held' taken taken' : Option (List ℕ)) : Type 0 where
  pub decoded : IfSome held (λ bytes. IsDecodedStream bytes answer taken taken')
  pub broken_off : answer ≡ answers.ReadFault → IfSome held (λ bytes. IsBrokenOff bytes held' taken taken')
  pub front_of_read : IfSome held (λ bytes. IsFrontOfRead bytes held' taken taken')
  pub front_of_more : IfSome held (λ bytes. IsFrontOfMore bytes held' taken taken')
  pub at_the_end : IfDone answer (IsAtEnd held')
  pub at_most_8_references : IfTally answer (λ (tally : Tally). tally.references ≤ MOST_REFERENCES)

-- a fault is answered only where its count rose, and no count falls
pub record CountsFaults (answer : Decoded) (reads reads' writes writes' : ℕ) : Type 0 where
  pub read : answer ≡ answers.ReadFault → Rose reads reads'
  pub write : answer ≡ answers.WriteFault → Rose writes writes'
  pub reads_never_fall : reads ≤ reads'
  pub writes_never_fall : writes ≤ writes'
