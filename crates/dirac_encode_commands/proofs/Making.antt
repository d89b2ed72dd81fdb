-- The encoding of generated pictures: they are whole, and what of it is written.
use Rattle.std.proofs.Common.{if◌then◌else◌, ◌≡◌, ℕ, ◌*◌, ◌/◌, ◌%◌, ◌<◌, ◌≤◌, ◌==◌, Bool, true, false, List, [], ◌++◌}
use Rattle.std.proofs.Common.{length, refl, sym, ap, ap₂, ◌∙◌, subst, Option, Some, None, ◌&&◌, arith}
use Rattle.std.proofs.lemmas.Bool.{le-leb, lt-leb, eq-eqb}
use Rattle.std.proofs.KnownBytes.{Appends-nil, Keeps-refl}
use Rattle.std.proofs.Math.Nat.{mul-mod_left}
use mathlib.Core.Logic.{dite}
use native.Mathlib.Decide.{ℕ_discrete}
use Rattle.dirac_types.specs.declared.settings.Name.TheVariants as name
use Rattle.dirac_types.specs.declared.settings.Settings.{Settings}
use Rattle.dirac_types.specs.Settings.{IsAccepted, is_in_range, setting, step_down}
use Rattle.dirac_types.specs.Sizes.{picture_height}
use Rattle.dirac_types.proofs.Accepted.{in_range}
use Rattle.dirac_common.specs.declared.formats.Chroma.TheVariants.{C444, C422, C420}
use Rattle.dirac_sequence_header.specs.Grammar.{chroma_of}
use Rattle.dirac_common.specs.Ratios.{ratio_across, ratio_down}
use Rattle.dirac_sequence.specs.Written.{sequence_of}
use Rattle.dirac_picture.specs.Grammar.{chroma_height, chroma_width}
use Rattle.dirac_sources.specs.Sources.{left_over, raw_length}
use Rattle.dirac_encode_laws.specs.declared.answers.Encoded.{Encoded}
use Rattle.dirac_encode_laws.specs.declared.answers.Encoded.TheVariants as encoded
use Rattle.dirac_encode_laws.specs.Coding.{Made}
use Rattle.dirac_encode_laws.specs.Encoding.{Encoding, answer_behind, encoding, encoding_by, encoding_under}
use Rattle.dirac_generator.specs.Generated.{chroma_across, chroma_down, generated_from, picture_count}
use Rattle.dirac_generator.proofs.Lengths.{pictures_length}
use Rattle.dirac_command_line.specs.declared.ended.Ended.{Ended}
use Rattle.dirac_command_line.specs.declared.ended.Ended.TheVariants as ended
use Rattle.dirac_encode_commands.specs.Making.{AnswersMake, AnswersUnmade, make_line_with, made_line, made_text, making}

-- chroma's sizes are those of the sequence header
across_of : (a b : Bool) → ratio_across (if a then C444 else if b then C422 else C420) ≡ (if a then 1 else 2)
across_of true b = refl
across_of false true = refl
across_of false false = refl

down_of : (n : ℕ) → n ≤ 2 → ratio_down (chroma_of n) ≡ step_down n
down_of n few = dite (ℕ_discrete n 0)
    (λ e. subst (λ (k : ℕ). ratio_down (chroma_of k) ≡ step_down k) (sym e) refl)
    (λ more. dite (ℕ_discrete n 1)
    (λ e. subst (λ (k : ℕ). ratio_down (chroma_of k) ≡ step_down k) (sym e) refl)
    (λ most. let e : n ≡ 2 = omega arith in subst (λ (k : ℕ). ratio_down (chroma_of k) ≡ step_down k) (sym e) refl))

pub same_count : (t : Settings) → IsAccepted t → picture_count t ≡ raw_length t
unfolding sequence_of
same_count t is =
    let across : chroma_across t ≡ chroma_width (sequence_of t) = ap (λ (k : ℕ). t.width / k) (sym (across_of (t.chroma == 0) (t.chroma == 1))) in
    let down : chroma_down t ≡ chroma_height (sequence_of t) = ap (λ (k : ℕ). picture_height t / k) (sym (down_of t.chroma (in_range t is).chroma)) in
    let chroma = ap₂ (λ (a b : ℕ). a * b) across down in omega arith

-- generated pictures are whole
pub none_left : (t : Settings) (count : ℕ) → IsAccepted t → left_over t (generated_from t count 0) ≡ 0
none_left t count is =
    ap (λ (k : ℕ). k % raw_length t) (pictures_length t count 0 ∙ ap (λ (k : ℕ). count * k) (same_count t is)) ∙ mul-mod_left count (raw_length t)

behind_none : (n left : ℕ) → left ≡ 0 → answer_behind left ≡ encoded.PartialPicture n → ⊥
behind_none n left none is = let done : answer_behind left ≡ encoded.Done = ap answer_behind none in cc

ending_whole : (enough : Bool) (n left : ℕ) → left ≡ 0
    → (if enough then answer_behind left else encoded.TooManyPictures) ≡ encoded.PartialPicture n → ⊥
ending_whole true n left none is = behind_none n left none is
ending_whole false n left none is = cc

by_first : (t : Settings) (answer : Encoded) (pictures : List Made) (first : Option Made) (n : ℕ)
    → (answer ≡ encoded.PartialPicture n → ⊥) → (encoding_by t answer pictures first).answer ≡ encoded.PartialPicture n
    → ⊥
by_first t answer pictures None n never is = never is
by_first t answer pictures (Some p) n never is = cc

pub never_partial : (t : Settings) (count n : ℕ) → IsAccepted t → (making t count).answer ≡ encoded.PartialPicture n → ⊥
unfolding encoding_under
never_partial t count n accepted is =
    by_first t _ _ _ n (ending_whole _ n (left_over t (generated_from t count 0)) (none_left t count accepted)) is

-- what came out in memory, from nothing on
pub came_out : (t : Settings) (count : ℕ) (part : Encoding → List ℕ) (held old new : List ℕ)
    → held ≡ generated_from t count 0 → old ≡ [] → new ≡ old ++ part (encoding t held) → new ≡ part (making t count)
came_out t count part held old new is none grown = grown ∙ ap₂ (λ (o h : List ℕ). o ++ part (encoding t h)) none is

pub whole_raw : (t : Settings) (count size : ℕ) → size ≡ picture_count t
    → count * size ≡ length (generated_from t count 0)
whole_raw t count size is = ap (λ (k : ℕ). count * k) is ∙ sym (pictures_length t count 0)

pub same_line : (count s s' r r' e e' : ℕ) → s ≡ s' → r ≡ r' → e ≡ e' → make_line_with count s r e ≡ make_line_with count s' r' e'
same_line count s s' r r' e e' stream raw exact =
    ap (λ (k : ℕ). make_line_with count k r e) stream ∙ ap₂ (λ (k j : ℕ). make_line_with count s' k j) raw exact

-- where there is no line, nothing is written
pub nothing_made : (why : Ended) (t : Settings) (count : ℕ) (out : Option (List ℕ)) → AnswersUnmade why t count
    → AnswersMake why t count out out
nothing_made (ended.UnitTooLong number) t count out is = (is, Keeps-refl out)
nothing_made ended.TooManyPictures t count out is = (is, Keeps-refl out)
nothing_made ended.NoMemory t count out is =
    ([], made_text (making t count).answer (made_line t count), refl, Appends-nil out)
nothing_made why t count out is = absurd is

pub no_write_fault : (why : Ended) (t : Settings) (count : ℕ) → AnswersUnmade why t count → why ≡ ended.WriteFault → ⊥
no_write_fault why t count is fault = subst (λ (answer : Ended). AnswersUnmade answer t count) fault is
