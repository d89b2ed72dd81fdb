-- Where bytes end no parse info is refused: the causes of refusals are others.
use Rattle.std.proofs.Common.{◌≡◌, ℕ, ◌≤◌, List, length, take, sym, ap, ◌∙◌, refl, subst, Option, None, Some, Result}
use Rattle.std.proofs.Common.{Ok, Err, Bool, true, false, ◌⊎◌, inl, inr, ◌==◌, if◌then◌else◌}
use Rattle.std.specs.Prelude.{nat_eq, ◌||◌}
use Rattle.std.specs.List.{starts_with}
use Rattle.dirac_common.specs.declared.codes.TheConstants.{END_OF_SEQUENCE, PADDING, SEQUENCE_HEADER}
use Rattle.dirac_common.specs.declared.faults.Cause.{Cause}
use Rattle.dirac_common.specs.declared.faults.Cause.TheVariants as cause
use Rattle.dirac_common.specs.declared.faults.Fault.{Fault}
use Rattle.dirac_common.specs.declared.faults.Refusal.{Refusal}
use Rattle.dirac_units.specs.declared.info.ParseInfo.{ParseInfo}
use Rattle.dirac_units.specs.declared.info.UnitKind.{UnitKind}
use Rattle.dirac_units.specs.declared.info.UnitKind.TheVariants as kind
use Rattle.dirac_units.specs.declared.unit_place.UnitPlace.{UnitPlace}
use Rattle.dirac_units.specs.Info.{info_of, info_read, is_auxiliary, is_picture, offset_is_lawful, prefix, refusal_of}
use Rattle.dirac_units.specs.Info.{refused_by, unit_kind, unless_refused}
use Rattle.dirac_units.specs.Cut.{fault_at, front_of, unit_front, IsEndOfBytes}
use Rattle.dirac_units.proofs.Fronts.{chosen}
use Rattle.dirac_units.proofs.Told.{behind_header}

abbrev IsOtherCause : Cause → Type 0
IsOtherCause c = (c ≡ cause.MissingEnd → ⊥) × (c ≡ cause.Truncated → ⊥)

-- a code is refused for another cause
abbrev RefusesOtherwise : Result UnitKind Cause → Type 0
RefusesOtherwise (Ok k) = Unit {0}
RefusesOtherwise (Err c) = IsOtherCause c

either : {A : Type 0} (P : A → Type 0) (b : Bool) (x y : A) → P x → P y → P (if b then x else y)
either P true x y p q = p
either P false x y p q = q

code_refused : (code : ℕ) → RefusesOtherwise (unit_kind code)
code_refused code =
    either RefusesOtherwise (code == SEQUENCE_HEADER) (Ok kind.Sequence) _ tt
    (either RefusesOtherwise (code == END_OF_SEQUENCE) (Ok kind.End) _ tt
    (either RefusesOtherwise (code == PADDING) (Ok kind.Padding) _ tt
    (either RefusesOtherwise (is_auxiliary code) (Ok kind.Auxiliary) _ tt
    (either RefusesOtherwise (is_picture code) (Ok kind.Picture) _ tt
    (either RefusesOtherwise (code == 0x48 || code == 0x4C) (Err cause.Vlc) _ (λ e. cc, λ e. cc)
    (either RefusesOtherwise (code == 0xC8 || code == 0xCC) (Err cause.LowDelay) (Err cause.UnknownCode)
    (λ e. cc, λ e. cc) (λ e. cc, λ e. cc)))))))

of_refusal : (a b : Refusal) → Some a ≡ Some b → IsOtherCause a.cause → IsOtherCause b.cause
of_refusal a b is other = let same : a ≡ b = cc in subst (λ (r : Refusal). IsOtherCause r.cause) same other

refused_otherwise : (r : Result UnitKind Cause) (next : ℕ) (refusal : Refusal) → RefusesOtherwise r
    → refused_by r next ≡ Some refusal → IsOtherCause refusal.cause
refused_otherwise (Err c) next refusal other is = of_refusal (record { at = 4; cause = c }) refusal is other
refused_otherwise (Ok k) next refusal other is =
    let missing : Refusal = record { at = 5; cause = cause.OffsetMissing } in
    elim (chosen (offset_is_lawful k next) None (Some missing) (Some refusal) is) [
      | inl p ↦ let both : None ≡ Some refusal = p.1 in cc
      | inr p ↦ of_refusal missing refusal p.1 (λ e. cc, λ e. cc)
    ]

unless_refused-otherwise : (info : ParseInfo) (o : Option Refusal) (refusal : Refusal)
    → ((r : Refusal) → o ≡ Some r → IsOtherCause r.cause) → unless_refused info o ≡ Err refusal
    → IsOtherCause refusal.cause
unless_refused-otherwise info None refusal other is = let both : Ok info ≡ Err refusal = is in cc
unless_refused-otherwise info (Some r) refusal other is =
    let same : r ≡ refusal = cc in subst (λ (q : Refusal). IsOtherCause q.cause) same (other r refl)

info_refused : (bytes : List ℕ) (refusal : Refusal) → info_read bytes ≡ Err refusal → IsOtherCause refusal.cause
info_refused bytes refusal is =
    let info = info_of bytes in
    let other : (r : Refusal) → refusal_of info ≡ Some r → IsOtherCause r.cause =
    λ r e. refused_otherwise (unit_kind info.code) info.next r (code_refused info.code) e in
    let unprefixed : Refusal = record { at = 0; cause = cause.BadPrefix } in
    let lawful : Result ParseInfo Refusal = unless_refused info (refusal_of info) in
    elim (chosen (starts_with nat_eq bytes prefix) lawful (Err unprefixed) (Err refusal) is) [
      | inl p ↦ unless_refused-otherwise info (refusal_of info) refusal other p.1
      | inr p ↦
          let same : unprefixed ≡ refusal = cc in
          subst (λ (q : Refusal). IsOtherCause q.cause) same (λ e. cc, λ e. cc)
    ]

no_end : (c : Cause) → IsOtherCause c → (c ≡ cause.MissingEnd) ⊎ (c ≡ cause.Truncated) → ⊥
no_end c other (inl e) = other.0 e
no_end c other (inr e) = other.1 e

same_end : (r : Result ParseInfo (Option Fault)) (a b : Option Fault) → r ≡ Err a → r ≡ Err b → a ≡ b
same_end r a b p q = cc

-- bytes at whose front a parse info is refused don't end there
pub refused_is_no_end : (unit_place : UnitPlace) (bytes : List ℕ) (refusal : Refusal) (end : Option Fault)
    → 13 ≤ length bytes → info_read (take 13 bytes) ≡ Err refusal → front_of unit_place bytes ≡ Err end
    → IsEndOfBytes end → ⊥
refused_is_no_end unit_place bytes refusal end long read front last =
    let fault = fault_at unit_place refusal.at refusal.cause in
    let here : front_of unit_place bytes ≡ Err (Some fault) =
    behind_header unit_place bytes long ∙ ap (unit_front unit_place bytes) read in
    no_end refusal.cause (info_refused (take 13 bytes) refusal read)
    (subst IsEndOfBytes (sym (same_end (front_of unit_place bytes) (Some fault) end here front)) last)
