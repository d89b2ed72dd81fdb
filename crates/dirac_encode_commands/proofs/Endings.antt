-- What the end of an encoding says of the answer of its run.
use Rattle.std.proofs.Common.{◌≡◌, ℕ, List, Option, None, Some, ap, refl, subst, sym}
use Rattle.std.specs.Prelude.{IfSome}
use Rattle.dirac_types.specs.declared.settings.Settings.{Settings}
use Rattle.dirac_command_line.specs.declared.ended.Ended.{Ended}
use Rattle.dirac_command_line.specs.declared.ended.Ended.TheVariants as ended
use Rattle.dirac_encode_laws.specs.declared.answers.Encoded.{Encoded}
use Rattle.dirac_encode_laws.specs.declared.answers.Encoded.TheVariants as encoded
use Rattle.dirac_encode_laws.specs.Encoding.{AnswersEncodedStream, EncodesToTheEnd, Encoding, IsRecovered}
use Rattle.dirac_encode_laws.specs.Encoding.{IsRecoveredUnder, encoding, encoding_under}
use Rattle.dirac_encode_laws.specs.Fit.{fit}
use Rattle.dirac_encode_commands.specs.Encoding.{AnswersEncode, EndsStream, IsEncodeAnswer, IsEncoded, ended_of}
use Rattle.dirac_encode_commands.specs.Rating.{IsRated}

-- each end is an answer of `encode`
of_any : (e : Encoded) → IsEncodeAnswer (ended_of e)
of_any encoded.Done = tt
of_any (encoded.PartialPicture n) = tt
of_any (encoded.UnitTooLong number) = tt
of_any encoded.TooManyPictures = tt
of_any encoded.ReadFault = tt
of_any encoded.WriteFault = tt
of_any encoded.SideFault = tt
of_any encoded.NoMemory = tt

pub is_answer : (e : Encoded) (answer : Ended) → answer ≡ ended_of e → IsEncodeAnswer answer
is_answer e answer same = subst IsEncodeAnswer (sym same) (of_any e)

-- an answer comes of one end alone
pub of_done : (e : Encoded) → ended_of e ≡ ended.Done → e ≡ encoded.Done
of_done encoded.Done is = refl
of_done (encoded.PartialPicture n) is = absurd cc
of_done (encoded.UnitTooLong number) is = absurd cc
of_done encoded.TooManyPictures is = absurd cc
of_done encoded.ReadFault is = absurd cc
of_done encoded.WriteFault is = absurd cc
of_done encoded.SideFault is = absurd cc
of_done encoded.NoMemory is = absurd cc

pub of_partial : (n : ℕ) (e : Encoded) → ended_of e ≡ ended.PartialPicture n → e ≡ encoded.PartialPicture n
of_partial n encoded.Done is = absurd cc
of_partial n (encoded.PartialPicture m) is = cc
of_partial n (encoded.UnitTooLong number) is = absurd cc
of_partial n encoded.TooManyPictures is = absurd cc
of_partial n encoded.ReadFault is = absurd cc
of_partial n encoded.WriteFault is = absurd cc
of_partial n encoded.SideFault is = absurd cc
of_partial n encoded.NoMemory is = absurd cc

pub of_read : (e : Encoded) → ended_of e ≡ ended.ReadFault → e ≡ encoded.ReadFault
of_read encoded.Done is = absurd cc
of_read (encoded.PartialPicture n) is = absurd cc
of_read (encoded.UnitTooLong number) is = absurd cc
of_read encoded.TooManyPictures is = absurd cc
of_read encoded.ReadFault is = refl
of_read encoded.WriteFault is = absurd cc
of_read encoded.SideFault is = absurd cc
of_read encoded.NoMemory is = absurd cc

pub of_write : (e : Encoded) → ended_of e ≡ ended.WriteFault → e ≡ encoded.WriteFault
of_write encoded.Done is = absurd cc
of_write (encoded.PartialPicture n) is = absurd cc
of_write (encoded.UnitTooLong number) is = absurd cc
of_write encoded.TooManyPictures is = absurd cc
of_write encoded.ReadFault is = absurd cc
of_write encoded.WriteFault is = refl
of_write encoded.SideFault is = absurd cc
of_write encoded.NoMemory is = absurd cc

pub of_side : (e : Encoded) → ended_of e ≡ ended.SideFault → e ≡ encoded.SideFault
of_side encoded.Done is = absurd cc
of_side (encoded.PartialPicture n) is = absurd cc
of_side (encoded.UnitTooLong number) is = absurd cc
of_side encoded.TooManyPictures is = absurd cc
of_side encoded.ReadFault is = absurd cc
of_side encoded.WriteFault is = absurd cc
of_side encoded.SideFault is = refl
of_side encoded.NoMemory is = absurd cc

-- what an end says of both sinks its answer says
answers : (e : Encoded) (it : Encoding) (out out' side side' : Option (List ℕ))
    → AnswersEncodedStream e it out out' side side' → AnswersEncode (ended_of e) it out out' side side'
answers encoded.Done it out out' side side' is = (ap ended_of is.0, is.1)
answers (encoded.PartialPicture n) it out out' side side' is = (ap ended_of is.0, is.1)
answers (encoded.UnitTooLong number) it out out' side side' is = (ap ended_of is.0, is.1)
answers encoded.TooManyPictures it out out' side side' is = (ap ended_of is.0, is.1)
answers encoded.ReadFault it out out' side side' is = is
answers encoded.WriteFault it out out' side side' is = is
answers encoded.SideFault it out out' side side' is = is
answers encoded.NoMemory it out out' side side' is = is

to_the_end : (e : Encoded) → EndsStream (ended_of e) → EncodesToTheEnd e
to_the_end encoded.Done ends = tt
to_the_end (encoded.PartialPicture n) ends = tt
to_the_end (encoded.UnitTooLong number) ends = absurd ends
to_the_end encoded.TooManyPictures ends = tt
to_the_end encoded.ReadFault ends = absurd ends
to_the_end encoded.WriteFault ends = absurd ends
to_the_end encoded.SideFault ends = absurd ends
to_the_end encoded.NoMemory ends = absurd ends

-- where the source tells its bytes: of `encode`
pub is_encoded : (t : Settings) (e : Encoded) (answer : Ended) (held out out' side side' : Option (List ℕ))
    → answer ≡ ended_of e → IfSome held (λ bytes. AnswersEncodedStream e (encoding t bytes) out out' side side')
    → IfSome held (λ bytes. EncodesToTheEnd e → IsRecovered t bytes)
    → IfSome held (λ bytes. IsEncoded t bytes answer out out' side side')
is_encoded t e answer None out out' side side' same is recovered = tt
is_encoded t e answer (Some bytes) out out' side side' same is recovered =
    subst (λ (a : Ended). IsEncoded t bytes a out out' side side') (sym same)
    (answers e (encoding t bytes) out out' side side' is, λ ends. recovered (to_the_end e ends))

-- of `rate`
pub is_rated : (t : Settings) (budget : ℕ) (e : Encoded) (answer : Ended) (held out out' side side' : Option (List ℕ))
    → answer ≡ ended_of e
    → IfSome held (λ bytes. AnswersEncodedStream e (encoding_under (fit budget) t bytes) out out' side side')
    → IfSome held (λ bytes. EncodesToTheEnd e → IsRecoveredUnder (fit budget) t bytes)
    → IfSome held (λ bytes. IsRated t budget bytes answer out out' side side')
is_rated t budget e answer None out out' side side' same is recovered = tt
is_rated t budget e answer (Some bytes) out out' side side' same is recovered =
    subst (λ (a : Ended). IsRated t budget bytes a out out' side side') (sym same)
    (answers e (encoding_under (fit budget) t bytes) out out' side side' is, λ ends. recovered (to_the_end e ends))
