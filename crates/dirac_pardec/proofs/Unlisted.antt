-- An intra picture is decoded alike, whatever pictures are listed.
use Rattle.std.proofs.Common.{◌≡◌, ℕ, true, List, [], Option, None, Some, Result, Ok, Err, refl, sym, ap, ◌∙◌, subst, inl, inr, ◌⊎◌}
use Rattle.std.specs.Prelude.{◌==◌, is_ok}
use Rattle.std.proofs.lemmas.Bool.{eqb-true, or_cases}
use Rattle.dirac_common.specs.declared.faults.Refusal.{Refusal}
use Rattle.dirac_common.specs.declared.formats.Component.TheVariants as component
use Rattle.dirac_common.specs.declared.picture.Picture.{Picture}
use Rattle.dirac_bits.specs.Answers.{value_of}
use Rattle.dirac_bits.specs.Cursor.{Cursor, start}
use Rattle.dirac_bits.specs.Syntax.{Syntax, done, read, ◌>>=◌}
use Rattle.dirac_sequence_header.specs.declared.sequence.Sequence.{Sequence}
use Rattle.dirac_header.specs.Header.{header, reference, retirement}
use Rattle.dirac_picture.specs.declared.coded.CodedMotion.{CodedMotion}
use Rattle.dirac_picture.specs.declared.coded.CodedPicture.{CodedPicture}
use Rattle.dirac_picture.specs.declared.coded.CodedResidual.{CodedResidual}
use Rattle.dirac_picture.specs.Grammar.{body, is_intra, motion, picture, picture_read, residual_fields, residual_unless, zero_residual}
use Rattle.dirac_picture.proofs.Every.{Every, every_any, every_read, every_then}
use Rattle.dirac_content.specs.Content.{rebuilt, samples_from}
use Rattle.dirac_decode_picture.specs.declared.decoded_picture.DecodedPicture.{DecodedPicture}
use Rattle.dirac_decode_picture.specs.Ahead.{IsDecodedAs}
use Rattle.dirac_decode_picture.specs.Payload.{DecodesPayload}
use Rattle.dirac_decode_picture.proofs.Kept.{decodes_payload}

-- the parse code is one of the two of intra pictures
abbrev IsIntra : ℕ → Type 0
IsIntra code = (code ≡ 0x08) ⊎ (code ≡ 0x0C)

intra_code : (code : ℕ) → is_intra code ≡ true → IsIntra code
intra_code code intra = elim (or_cases (code == 0x08) (code == 0x0C) intra) [
  | inl e ↦ inl (eqb-true code 0x08 e)
  | inr e ↦ inr (eqb-true code 0x0C e)
]

-- its header names no reference, so no list is looked at
no_list : (code : ℕ) (s : Sequence) (refs : List Picture) → IsIntra code → picture code s refs ≡ picture code s []
unfolding picture header reference retirement
no_list code s refs (inl is) = subst (λ (c : ℕ). picture c s refs ≡ picture c s []) (sym is) refl
no_list code s refs (inr is) = subst (λ (c : ℕ). picture c s refs ≡ picture c s []) (sym is) refl

-- it is predicted from none
abbrev Stays : CodedPicture → Type 0
Stays coded = coded.motion ≡ None

-- the fields behind its header
abbrev fields : Sequence → Syntax (Option CodedResidual)
fields s = residual_fields s >>= λ r. done (Some r)

all_stay : (code : ℕ) (s : Sequence) → IsIntra code → Every Stays (picture code s [])
unfolding picture header reference retirement body motion zero_residual residual_unless
all_stay code s (inl is) =
    subst (λ (c : ℕ). Every Stays (picture c s [])) (sym is)
    (λ n. every_then (λ _. Unit {0}) Stays (fields s) _ (every_any (fields s)) (λ x _. refl))
all_stay code s (inr is) =
    subst (λ (c : ℕ). Every Stays (picture c s [])) (sym is)
    (λ n z. every_then (λ _. Unit {0}) Stays (fields s) _ (every_any (fields s)) (λ x _. refl))

-- what was read, and the place behind it
value_at : {A : Type 0} (r : Result (A × Cursor) Refusal) (x : A) → value_of r ≡ Ok x → (d : Cursor) × (r ≡ Ok (x, d))
value_at (Ok y) x is = let same : y.0 ≡ x = cc in (y.1, ap (λ a. Ok (a, y.1)) same)
value_at (Err e) x is = absurd cc

stays : (code : ℕ) (s : Sequence) (payload : List ℕ) (coded : CodedPicture) → IsIntra code → picture_read code s [] payload ≡ Ok coded → Stays coded
stays code s payload coded intra is =
    let there = value_at (read (picture code s []) (start payload)) coded is in
    every_read Stays (picture code s []) (start payload) there.0 coded (all_stay code s intra) there.1

-- so it stands for the same picture
made_with : Sequence → List Picture → CodedPicture → Option CodedMotion → Picture
made_with s refs coded m = record {
  number = coded.header.number;
  y = samples_from s refs coded.header m coded.residual component.Y;
  u = samples_from s refs coded.header m coded.residual component.U;
  v = samples_from s refs coded.header m coded.residual component.V;
}

made_alike : (s : Sequence) (refs : List Picture) (coded : CodedPicture) → Stays coded → rebuilt s [] coded ≡ rebuilt s refs coded
unfolding made_with
made_alike s refs coded is = ap (made_with s [] coded) is ∙ sym (ap (made_with s refs coded) is)

-- what it is decoded to while none is listed it is decoded to whatever is listed
decoded_as : (payload : List ℕ) (code : ℕ) (s : Sequence) (refs : List Picture) (d : DecodedPicture) → is_intra code ≡ true → IsDecodedAs payload code s [] d → IsDecodedAs payload code s refs d
decoded_as payload code s refs d of_intra is =
    let intra : IsIntra code = intra_code code of_intra in
    let same : picture_read code s refs payload ≡ picture_read code s [] payload =
    ap (λ (f : Syntax CodedPicture). value_of (read f (start payload))) (no_list code s refs intra) in
    record {
      read = ap is_ok same ∙ is.read;
      value = λ coded there.
          let alone = sym same ∙ there in
          let stands = is.value coded alone in
          record {
            code = stands.code;
            header = stands.header;
            picture = stands.picture ∙ made_alike s refs coded (stays code s payload coded intra alone);
            reference = stands.reference;
          };
      fits = is.fits;
    }

pub decoded_alike : (payload : List ℕ) (code : ℕ) (s : Sequence) (refs : List Picture) (d : DecodedPicture) → is_intra code ≡ true → IsDecodedAs payload code s [] d → DecodesPayload payload code s refs (Ok d) refs
decoded_alike payload code s refs d intra is = decodes_payload payload code s refs d (decoded_as payload code s refs d intra is)
