-- What is made of the payload of a picture, and a way to make it, as a decoder is handed one.
use Rattle.std.specs.Prelude.{◌≡◌, ⊤, ℕ, IsTrue, List, length, Result, Ok, Err, IfErr, IfOk}
use Rattle.std.specs.Borrow.{Bor, MutBor}
use Rattle.std.specs.List.{All}
use Rattle.dirac_common.specs.declared.faults.Refusal.{Refusal}
use Rattle.dirac_common.specs.declared.faults.Stop.{Stop}
use Rattle.dirac_common.specs.declared.faults.Stop.TheVariants as stop
use Rattle.dirac_common.specs.declared.picture.Picture.{Picture}
use Rattle.dirac_bits.specs.Answers.{IsEarly}
use Rattle.dirac_sequence_header.specs.declared.sequence.Sequence.{Sequence}
use Rattle.dirac_sequence_header.specs.Lawful.{IsSequence}
use Rattle.dirac_refs.specs.References.{as_reference}
use Rattle.dirac_picture.specs.declared.coded.CodedPicture.{CodedPicture}
use Rattle.dirac_picture.specs.Grammar.{is_picture, picture_read}
use Rattle.dirac_content.specs.Content.{IsPicture, rebuilt}
use Rattle.dirac_decode_picture.specs.declared.decoded_picture.DecodedPicture.{DecodedPicture}

-- a picture with this parse code may stand in a sequence, with these pictures listed
pub record CanBeDecoded (code : ℕ) (s : Sequence) (refs : List Picture) : Type 0 where
  pub picture : IsTrue (is_picture code)
  pub sequence : IsSequence s
  pub listed : All (IsPicture s) refs

-- the picture that a coded picture stands for, with its parse code and header; once more where later pictures may
-- refer to it
pub record StandsFor (coded : CodedPicture) (s : Sequence) (refs : List Picture) (d : DecodedPicture) : Type 0 where
  pub code : d.code ≡ coded.code
  pub header : d.header ≡ coded.header
  pub picture : d.picture ≡ rebuilt s refs coded
  pub reference : d.reference ≡ as_reference d.code d.picture

-- what was read was rebuilt, or its refusal is answered; want of memory says nothing of the payload
abbrev pub IsRebuiltOf : Result DecodedPicture Stop → Result CodedPicture Refusal → Sequence → List Picture → Type 0
IsRebuiltOf (Ok d) read s refs = (coded : CodedPicture) × (read ≡ Ok coded) × StandsFor coded s refs d
IsRebuiltOf (Err (stop.Refused refusal)) read s refs = read ≡ Err refusal
IsRebuiltOf (Err stop.NoMemory) read s refs = ⊤

-- what is answered of a payload with this parse code, and that the pictures listed stay
pub record DecodesPayload (payload : List ℕ) (code : ℕ) (s : Sequence) (refs : List Picture)
    (result : Result DecodedPicture Stop) (refs' : List Picture) : Type 0 where
  pub value : IsRebuiltOf result (picture_read code s refs payload) s refs
  pub place_inside : IfErr result (IsEarly (length payload))
  pub fits : IfOk result (λ d. IsPicture s d.picture)
  pub kept : refs' ≡ refs

-- a call that may be made on the payload of each picture that can be decoded, and decodes it
abbrev pub DecodesPictures : {A : Type 0} → (A → Bor (List ℕ) → ℕ → Bor Sequence → MutBor (List Picture) → Type 0)
    → (A → Bor (List ℕ) → ℕ → Bor Sequence → MutBor (List Picture) → Result DecodedPicture Stop → MutBor (List Picture)
    → Type 0) → Type 0
DecodesPictures {A} pre post =
    ((alloc : A) (payload : Bor (List ℕ)) (code : ℕ) (s : Bor Sequence) (refs : MutBor (List Picture))
    → CanBeDecoded code s.now refs.now → pre alloc payload code s refs)
    × ((alloc : A) (payload : Bor (List ℕ)) (code : ℕ) (s : Bor Sequence) (refs : MutBor (List Picture))
    (result : Result DecodedPicture Stop) (behind : MutBor (List Picture))
    → CanBeDecoded code s.now refs.now → post alloc payload code s refs result behind
    → DecodesPayload payload.now code s.now refs.now result behind.now)
