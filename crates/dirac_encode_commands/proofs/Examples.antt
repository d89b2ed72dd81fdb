-- What no stream delivers.
use Rattle.std.proofs.Common.{◌≡◌, ◌∙◌, List, [], ◌∷◌, Option, None, Some, Result, Ok, Err, ap}
use Rattle.dirac_common.specs.declared.faults.Cause.TheVariants.{MissingEnd}
use Rattle.dirac_common.specs.declared.faults.Fault.{Fault}
use Rattle.dirac_common.specs.declared.picture.Picture.{Picture}
use Rattle.dirac_units.specs.declared.info.ParseInfo.{ParseInfo}
use Rattle.dirac_units.specs.Cut.{IsCut, UnitText, first_unit_place}
use Rattle.dirac_content.specs.Shown.{Outcome, outcome}
use Rattle.dirac_content.specs.StreamState.{stream_begun}
use Rattle.dirac_encode_laws.specs.declared.answers.Encoded.{Encoded}
use Rattle.dirac_encode_commands.specs.Delivered.{DeliversShown}

-- nothing is delivered beside a stream of no byte: its end unit is missing
no_end_unit : (units : List UnitText) (end : Option Fault) (o : Outcome) → IsCut first_unit_place [] units end
    → outcome stream_begun first_unit_place units end ≡ o → o.end ≡ None → ⊥
unfolding outcome
no_end_unit [] end o cut same none =
    let missing : Option Fault = Some (record { unit = 0; at = 0; cause = MissingEnd }) in
    let front : Result ParseInfo (Option Fault) = Err missing in
    let is : front ≡ Err end = cut in
    let last : end ≡ None = ap (λ (x : Outcome). x.end) same ∙ none in
    cc
no_end_unit (unit ∷ units) end o cut same none =
    let front : Result ParseInfo (Option Fault) = Err (Some (record { unit = 0; at = 0; cause = MissingEnd })) in
    let is : front ≡ Ok unit.info = cut.0 in
    cc

no_empty_stream : (answer : Encoded) (shown : List Picture)
    → DeliversShown (record { answer = answer; stream = []; shown = shown }) → ⊥
no_empty_stream answer shown e = no_end_unit e.1.units e.1.end e.0 e.1.cut e.1.same e.2
