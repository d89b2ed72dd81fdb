-- What was decoded ahead is what the payload is decoded to.
use Rattle.std.proofs.Common.{◌≡◌, ℕ, true, List, Result, Ok, Err, refl}
use Rattle.std.specs.Prelude.{is_ok}
use Rattle.dirac_common.specs.declared.faults.Refusal.{Refusal}
use Rattle.dirac_common.specs.declared.picture.Picture.{Picture}
use Rattle.dirac_sequence_header.specs.declared.sequence.Sequence.{Sequence}
use Rattle.dirac_picture.specs.declared.coded.CodedPicture.{CodedPicture}
use Rattle.dirac_picture.specs.Grammar.{picture_read}
use Rattle.dirac_decode_picture.specs.declared.decoded_picture.DecodedPicture.{DecodedPicture}
use Rattle.dirac_decode_picture.specs.Ahead.{IsDecodedAs}
use Rattle.dirac_decode_picture.specs.Payload.{DecodesPayload}

read_to : (r : Result CodedPicture Refusal) → is_ok r ≡ true → (coded : CodedPicture) × (r ≡ Ok coded)
read_to (Ok coded) is = (coded, refl)
read_to (Err e) is = absurd cc

pub decodes_payload : (payload : List ℕ) (code : ℕ) (s : Sequence) (refs : List Picture) (d : DecodedPicture) → IsDecodedAs payload code s refs d → DecodesPayload payload code s refs (Ok d) refs
decodes_payload payload code s refs d is =
    let there = read_to (picture_read code s refs payload) is.read in
    record { value = (there.0, there.1, is.value there.0 there.1); place_inside = tt; fits = is.fits; kept = refl }
