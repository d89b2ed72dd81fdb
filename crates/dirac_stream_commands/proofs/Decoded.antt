-- What `decode` answers, behind what the decoding of a stream answers.
use Rattle.std.proofs.Common.{List, [], Option, None, Some, refl, sym, append-nil, subst}
use Rattle.std.specs.Prelude.{ℕ, IfSome}
use Rattle.std.specs.Io.KnownBytes.{Appends}
use Rattle.std.proofs.KnownBytes.{Appends-nil}
use Rattle.dirac_common.specs.declared.faults.Fault.{Fault}
use Rattle.dirac_io.specs.Writing.{AppendsFront}
use Rattle.dirac_decode.specs.declared.answers.Decoded.TheVariants as decoded
use Rattle.dirac_content.specs.declared.tally.Tally.{Tally}
use Rattle.dirac_decode.specs.Decoded.{IsDecodedStream}
use Rattle.dirac_content.specs.Raw.{raws}
use Rattle.dirac_command_line.specs.declared.ended.Ended.TheVariants as ended
use Rattle.dirac_stream_commands.specs.Decoding.{IsDecoded, tally_line}

-- all of it is a front of it
whole_front : (taken taken' : Option (List ℕ)) (bytes : List ℕ) → Appends taken taken' bytes
    → AppendsFront taken taken' bytes
whole_front taken taken' bytes all = (bytes, [], sym (append-nil bytes), all)

no_front : (taken : Option (List ℕ)) (bytes : List ℕ) → AppendsFront taken taken bytes
no_front taken bytes = ([], bytes, refl, Appends-nil taken)

-- no memory for the line, at the end of the stream
pub done_no_memory : (held out out' side side' : Option (List ℕ)) (tally : Tally)
    → IfSome held (λ bytes. IsDecodedStream bytes (decoded.Done tally) out out')
    → AppendsFront side side' (tally_line tally)
    → IfSome held (λ bytes. IsDecoded bytes ended.NoMemory out out' side side')
done_no_memory None out out' side side' tally is line = tt
done_no_memory (Some bytes) out out' side side' tally is line =
    (is.0, is.1, (whole_front out out' (raws is.0.shown) is.2.2, subst (λ (t : Tally). AppendsFront side side' (tally_line t)) is.2.1 line))

-- the line wasn't taken whole, at a fault
pub fault_side : (held out out' side side' : Option (List ℕ)) (fault : Fault) (tally : Tally)
    → IfSome held (λ bytes. IsDecodedStream bytes (decoded.Fault fault tally) out out')
    → AppendsFront side side' (tally_line tally)
    → IfSome held (λ bytes. IsDecoded bytes ended.SideFault out out' side side')
fault_side None out out' side side' fault tally is line = tt
fault_side (Some bytes) out out' side side' fault tally is line =
    (is.0, is.1, (is.2.2, subst (λ (t : Tally). AppendsFront side side' (tally_line t)) is.2.1 line))

-- no memory for the line, at a fault
pub fault_no_memory : (held out out' side side' : Option (List ℕ)) (fault : Fault) (tally : Tally)
    → IfSome held (λ bytes. IsDecodedStream bytes (decoded.Fault fault tally) out out')
    → AppendsFront side side' (tally_line tally)
    → IfSome held (λ bytes. IsDecoded bytes ended.NoMemory out out' side side')
fault_no_memory None out out' side side' fault tally is line = tt
fault_no_memory (Some bytes) out out' side side' fault tally is line =
    (is.0, is.1, (whole_front out out' (raws is.0.shown) is.2.2, subst (λ (t : Tally). AppendsFront side side' (tally_line t)) is.2.1 line))

-- no memory to decode
pub no_memory : (held out out' side : Option (List ℕ))
    → IfSome held (λ bytes. IsDecodedStream bytes decoded.NoMemory out out')
    → IfSome held (λ bytes. IsDecoded bytes ended.NoMemory out out' side side)
no_memory None out out' side is = tt
no_memory (Some bytes) out out' side is = (is.0, is.1, (is.2, no_front side _))
