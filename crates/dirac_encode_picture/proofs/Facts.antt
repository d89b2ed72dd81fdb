-- The coded picture of a planned source fits its sequence, and can be written.
use Rattle.std.proofs.Common.{◌≡◌, ℕ, Bool, true, false, if◌then◌else◌, List, [], Option, None, Some, Ok, refl, sym, ap}
use Rattle.std.proofs.Common.{ap₂, ◌∙◌, subst}
use Rattle.std.specs.Prelude.{IfOk, IfSome, Result}
use Rattle.dirac_common.specs.declared.memory.NoMemory.{NoMemory}
use Rattle.dirac_common.specs.declared.picture.Picture.{Picture}
use Rattle.dirac_types.specs.declared.settings.Settings.{Settings}
use Rattle.dirac_sequence_header.specs.declared.sequence.Sequence.{Sequence}
use Rattle.dirac_sequence.specs.Written.{sequence_of}
use Rattle.dirac_header.specs.Written.{header_bits}
use Rattle.dirac_block_table.specs.Tables.{BlockTable}
use Rattle.dirac_picture.specs.declared.coded.CodedMotion.{CodedMotion}
use Rattle.dirac_picture.specs.declared.coded.CodedPicture.{CodedPicture}
use Rattle.dirac_picture.specs.declared.coded.CodedResidual.{CodedResidual}
use Rattle.dirac_picture.specs.Fits.{FitsSequence, HasResidual}
use Rattle.dirac_picture.specs.Grammar.{is_intra, picture_read}
use Rattle.dirac_encode_laws.specs.Payloads.{HasSpelledBlocks, payload_of}
use Rattle.dirac_picture.specs.Writable.{IsWritten}
use Rattle.dirac_content.specs.Content.{rebuilt}
use Rattle.dirac_plan.specs.declared.planned.Planned.{Planned}
use Rattle.dirac_plan_laws.specs.Headers.{header_of}
use Rattle.dirac_encode_laws.specs.Coded.{coded_with, is_left_out, motion_among, motion_with, residual_of}
use Rattle.dirac_encode_laws.specs.Laws.{IsWholePicture}
use Rattle.dirac_encode_laws.specs.Codable.{ResidualIsSmall}
use Rattle.dirac_encode_laws.proofs.Kept.{kept_with}
use Rattle.dirac_encode_laws.proofs.Lefts.{motion_fits}
use Rattle.dirac_encode_laws.proofs.Reading.{Moves, predicting, read_spelled, residual_fits, residual_small}
use Rattle.dirac_encode_laws.proofs.Reading.Moves.{moves, stays}
use Rattle.dirac_encode_laws.specs.declared.coded.Coded.{Coded}
use Rattle.dirac_encode_picture.specs.Asked.{HasBlocks, IsAsked, IsCodingOfPicture}

-- just an inter picture has motion
pub moves_of : (t : Settings) (q : Planned) (o : Option BlockTable) → HasBlocks t q.code o
    → Moves t q (motion_among t o)
moves_of t q None has = stays has
moves_of t q (Some b) has = moves b has.0 has.1

-- a residual that may be left out
residual_had : (code : ℕ) (s : Sequence) (r : CodedResidual) (b : Bool) → is_intra code ≡ false → IsWritten s r
    → HasResidual code s (if b then None else Some r)
residual_had code s r true inter is = inter
residual_had code s r false inter is = is.lawful

residual_written : (s : Sequence) (r : CodedResidual) (b : Bool) → IsWritten s r
    → IfSome (if b then None else Some r) (IsWritten s)
residual_written s r true is = tt
residual_written s r false is = is

facts : (t : Settings) (refs : List Picture) (q : Planned) (p : Picture) (m : Option CodedMotion) → IsAsked t refs q p
    → Moves t q m
    → FitsSequence q.code (sequence_of t) (coded_with t refs q p m) × IfSome (coded_with t refs q p m).residual (IsWritten (sequence_of t))
facts t refs q p None is (stays intra) =
    let fits = residual_fits t refs q p None is.accepted is.listed is.source is.planned is.found (stays intra) in
    (record { same_code = refl; header = record { first = is.planned.references.first; second = is.planned.references.second }; motion = intra; residual = fits.lawful }, fits)
facts t refs q p (Some m) is (moves b inter chose) =
    let s = sequence_of t in
    let r = residual_of t refs (header_of q) (Some (motion_with t b)) p in
    let fits = residual_fits t refs q p (Some (motion_with t b)) is.accepted is.listed is.source is.planned is.found (moves b inter chose) in (
      record {
        same_code = refl;
        header = record { first = is.planned.references.first; second = is.planned.references.second };
        motion = (inter, motion_fits t q.code b (predicting t is.accepted) chose);
        residual = residual_had q.code s r (is_left_out t r) inter fits;
      },
      residual_written s r (is_left_out t r) fits,
    )

pub coded_fits : (t : Settings) (s : Sequence) (refs : List Picture) (q : Planned) (p : Picture) (m : Option CodedMotion) (c : CodedPicture) → IsAsked t refs q p → Moves t q m → s ≡ sequence_of t → c ≡ coded_with t refs q p m
    → FitsSequence c.code s c × IfSome c.residual (IsWritten s)
coded_fits t s refs q p m c is known es ec =
    subst (λ (x : CodedPicture). FitsSequence x.code s x × IfSome x.residual (IsWritten s)) (sym ec)
    (subst (λ (x : Sequence). FitsSequence q.code x (coded_with t refs q p m) × IfSome (coded_with t refs q p m).residual (IsWritten x)) (sym es) (facts t refs q p m is known))

pub payload_read : (t : Settings) (refs : List Picture) (q : Planned) (p : Picture) (m : Option CodedMotion) (c : CodedPicture) (payload : List ℕ) → IsAsked t refs q p → Moves t q m → c ≡ coded_with t refs q p m → payload ≡ payload_of t c
    → HasSpelledBlocks t c.motion (header_bits [] c.code c.header)
    → picture_read q.code (sequence_of t) refs payload ≡ Ok (coded_with t refs q p m)
payload_read t refs q p m c payload is known ec e spelled =
    ap (picture_read q.code (sequence_of t) refs) (e ∙ ap (payload_of t) ec)
    ∙ read_spelled t refs q p m is.accepted is.listed is.source is.planned is.found known
    (subst (λ (x : CodedPicture). HasSpelledBlocks t x.motion (header_bits [] x.code x.header)) ec spelled)

pub small_so : (t : Settings) (refs : List Picture) (q : Planned) (p : Picture) (m : Option CodedMotion)
    → IsAsked t refs q p → Moves t q m → ResidualIsSmall (residual_of t refs (header_of q) m p)
small_so t refs q p m is known = residual_small t refs q p m is.accepted is.listed is.source is.planned is.found known

intra_moves : (t : Settings) (q : Planned) (m : Option CodedMotion) → Moves t q m → m ≡ None → is_intra q.code ≡ true
intra_moves t q None (stays intra) e = intra
intra_moves t q (Some m) (moves b inter chose) e = absurd cc

inter_moves : (t : Settings) (q : Planned) (m : Option CodedMotion) → Moves t q m → (x : CodedMotion) → m ≡ Some x
    → is_intra q.code ≡ false
inter_moves t q None (stays intra) x e = absurd cc
inter_moves t q (Some m) (moves b inter chose) x e = inter

-- at index 0 a source is shown again
pub shown_again : (t : Settings) (refs : List Picture) (q : Planned) (p : Picture) (m : Option CodedMotion)
    → IsAsked t refs q p → Moves t q m → IsWholePicture p → p.number ≡ q.number → t.index ≡ 0
    → rebuilt (sequence_of t) refs (coded_with t refs q p m) ≡ p
shown_again t refs q p m is known whole number none =
    kept_with t refs q p m is.accepted is.source whole is.planned is.found (intra_moves t q m known) (inter_moves t q m known) number none

-- what is coded with the same motion
pub coding_by : (t : Settings) (refs : List Picture) (q : Planned) (p : Picture) (m n : Option CodedMotion) (r : Result Coded NoMemory) → m ≡ n → IfOk r (IsCodingOfPicture t refs q p m) → IfOk r (IsCodingOfPicture t refs q p n)
coding_by t refs q p m n r e is = subst (λ (x : Option CodedMotion). IfOk r (IsCodingOfPicture t refs q p x)) e is

-- a picture that is rebuilt from the same
pub shown_from : (s u : Sequence) (refs : List Picture) (c d : CodedPicture) → s ≡ u → c ≡ d
    → rebuilt s refs c ≡ rebuilt u refs d
shown_from s u refs c d es ec = ap₂ (λ (x : Sequence) (y : CodedPicture). rebuilt x refs y) es ec
