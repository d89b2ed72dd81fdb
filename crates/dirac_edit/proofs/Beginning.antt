-- The unit that begins bytes in memory.
use Rattle.std.proofs.Common.{◌≡◌, ◌∙◌, ℕ, ◌+◌, ◌<◌, ◌≤◌, List, [], ◌∷◌, ◌++◌, length, take, drop, slice_range, arith, sym, ap, subst, append_assoc, append-nil, Option, Some, Ok, Err, ◌==◌, nat_lt, inl, inr}
use Rattle.std.proofs.lemmas.Bool.{cases_Bool, cond-true, cond-false, ne_eqb, lt-ltb, le-ltb}
use Rattle.dirac_common.specs.declared.faults.Cause.TheVariants.{Truncated}
use Rattle.dirac_common.specs.declared.faults.Fault.{Fault}
use Rattle.dirac_common.specs.declared.faults.Refusal.{Refusal}
use Rattle.dirac_units.specs.declared.info.ParseInfo.{ParseInfo}
use Rattle.dirac_units.specs.declared.unit_place.UnitPlace.{UnitPlace}
use Rattle.dirac_units.specs.Info.{info_read, span_of}
use Rattle.dirac_units.specs.Cut.{IsCut, UnitText, after, fault_at, front_of, first_unit_place, unit_front}
use Rattle.dirac_units.proofs.Cuts.{fewer_behind}
use Rattle.dirac_edit.specs.Units.{IsBegun, IsCutInto, NoneIsBegun}

-- fewer bytes than a parse info has
pub too_few : (bytes : List ℕ) → length bytes < 13 → NoneIsBegun bytes
too_few bytes few unit_place =
    elim (cases_Bool (length bytes == 0)) [
      | inl none ↦ (_, cond-true (length bytes == 0) _ _ none)
      | inr some ↦ (_, cond-false (length bytes == 0) _ _ some ∙ cond-true (nat_lt (length bytes) 13) _ _ (lt-ltb (length bytes) 13 few))
    ]

-- enough of them: what they say decides
front_is : (unit_place : UnitPlace) (bytes : List ℕ) → 13 ≤ length bytes → front_of unit_place bytes ≡ unit_front unit_place bytes (info_read (take 13 bytes))
front_is unit_place bytes enough =
    cond-false (length bytes == 0) _ _ (ne_eqb (length bytes) 0 (omega arith)) ∙ cond-false (nat_lt (length bytes) 13) _ _ (le-ltb (length bytes) 13 enough)

-- a parse info that is refused
pub not_read : (bytes : List ℕ) (refusal : Refusal) → 13 ≤ length bytes → info_read (take 13 bytes) ≡ Err refusal → NoneIsBegun bytes
not_read bytes refusal enough read unit_place =
    (Some (fault_at unit_place refusal.at refusal.cause), front_is unit_place bytes enough ∙ ap (unit_front unit_place bytes) read)

-- one whose unit is longer
pub too_long : (bytes : List ℕ) (info : ParseInfo) → 13 ≤ length bytes → info_read (take 13 bytes) ≡ Ok info → length bytes < span_of info → NoneIsBegun bytes
too_long bytes info enough read short unit_place = (
  Some (fault_at unit_place (length bytes) Truncated),
  front_is unit_place bytes enough ∙ ap (unit_front unit_place bytes) read
      ∙ cond-true (nat_lt (length bytes) (span_of info)) _ _ (lt-ltb (length bytes) (span_of info) short),
)

-- one whose unit is whole
pub whole_unit : (bytes : List ℕ) (info : ParseInfo) (unit : UnitText) (rest : List ℕ) → 13 ≤ length bytes → info_read (take 13 bytes) ≡ Ok info → span_of info ≤ length bytes
    → unit ≡ record { info = info; payload = slice_range bytes 13 (span_of info) } → rest ≡ drop (span_of info) bytes → IsBegun bytes unit rest
whole_unit bytes info unit rest enough read whole is rest_is = record {
  front = λ unit_place. front_is unit_place bytes enough ∙ ap (unit_front unit_place bytes) read
      ∙ cond-false (nat_lt (length bytes) (span_of info)) _ _ (le-ltb (length bytes) (span_of info) whole) ∙ ap Ok (sym (ap (λ (u : UnitText). u.info) is));
  payload = ap (λ (u : UnitText). u.payload) is ∙ ap (λ (i : ParseInfo). slice_range bytes 13 (span_of i)) (sym (ap (λ (u : UnitText). u.info) is));
  rest_is = rest_is ∙ ap (λ (i : ParseInfo). drop (span_of i) bytes) (sym (ap (λ (u : UnitText). u.info) is));
}

-- these are the first units of a stream, and what follows them are these bytes
pub record Completes (bytes : List ℕ) (units : List UnitText) (rest : List ℕ) : Type 0 where
  pub unit_place : UnitPlace
  pub whole : (more : List UnitText) (end : Option Fault) → IsCut unit_place rest more end → IsCut first_unit_place bytes (units ++ more) end

pub none_cut : (bytes : List ℕ) → Completes bytes [] bytes
none_cut bytes = record { unit_place = first_unit_place; whole = λ more end cut. cut }

pub one_more_cut : (bytes : List ℕ) (units : List UnitText) (held : List ℕ) (unit : UnitText) (rest : List ℕ) → Completes bytes units held → IsBegun held unit rest → Completes bytes (units ++ unit ∷ []) rest
one_more_cut bytes units held unit rest so begun = record {
  unit_place = after so.unit_place unit.info;
  whole = λ more end cut.
      subst (λ (us : List UnitText). IsCut first_unit_place bytes us end) (sym (append_assoc units (unit ∷ []) more))
      (so.whole (unit ∷ more) end (begun.front so.unit_place, begun.payload, subst (λ (bs : List ℕ). IsCut (after so.unit_place unit.info) bs more end) begun.rest_is cut));
}

pub all_cut : (bytes : List ℕ) (units : List UnitText) (rest : List ℕ) → Completes bytes units rest → NoneIsBegun rest → IsCutInto bytes units
all_cut bytes units rest so none =
    let end : (end : Option Fault) × (front_of so.unit_place rest ≡ Err end) = none so.unit_place in
    (end.0, subst (λ (us : List UnitText). IsCut first_unit_place bytes us end.0) (append-nil units) (so.whole [] end.0 end.1))

-- behind it fewer bytes are left
pub fewer_left : (bytes : List ℕ) (unit : UnitText) (rest : List ℕ) → IsBegun bytes unit rest → length rest + 13 ≤ length bytes
fewer_left bytes unit rest begun =
    let P : List ℕ → Type 0 = λ bs. length bs + 13 ≤ length bytes in
    subst P (sym begun.rest_is) (fewer_behind first_unit_place bytes unit.info (begun.front first_unit_place))
