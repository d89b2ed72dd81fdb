-- The fault that a run answers lies in the bytes that the source held.
use Rattle.std.proofs.Common.{◌≡◌, ℕ, List, Option, None, Some, ap, subst}
use Rattle.std.specs.Prelude.{IfSome, option_map}
use Rattle.std.specs.Option.{option_or}
use Rattle.dirac_common.specs.declared.faults.Fault.{Fault}
use Rattle.dirac_units.specs.Cut.{IsCut, UnitText, first_unit_place}
use Rattle.dirac_decode.specs.declared.answers.Decoded.TheVariants as decoded
use Rattle.dirac_content.specs.declared.tally.Tally.{Tally}
use Rattle.dirac_decode.specs.Decoded.{IsDecodedStream}
use Rattle.dirac_edit.specs.declared.answers.Edited.{Edited}
use Rattle.dirac_edit.specs.declared.answers.Edited.TheVariants as edited
use Rattle.dirac_edit.specs.Edits.{IsCutBy, IsJoinedBy, cut_refusal, join_refusal}
use Rattle.dirac_edit_laws.specs.Cut.{end_point, open_cut, wrong_point}
use Rattle.dirac_edit_laws.specs.Texts.{points_of}
use Rattle.dirac_reading_laws.proofs.Faults.{cut_faults_lie, faults_lie}
use Rattle.dirac_command_line.specs.declared.ended.Ended.TheVariants as ended
use Rattle.dirac_stream_commands.specs.Cutting.{ended_of_edit}
use Rattle.dirac_stream_commands.specs.Inside.{IsFaultInside}
use Rattle.dirac_stream_commands.specs.Listing.{IsListed}

-- of a stream that is decoded
pub decoded_inside : (held out out' : Option (List ℕ)) (fault : Fault) (tally : Tally)
    → IfSome held (λ bytes. IsDecodedStream bytes (decoded.Fault fault tally) out out')
    → IfSome held (IsFaultInside (ended.Fault fault))
decoded_inside None out out' fault tally is = tt
decoded_inside (Some bytes) out out' fault tally is = faults_lie bytes is.0 fault is.1 is.2.0

-- of one that is listed
pub listed_inside : (held out out' : Option (List ℕ)) (fault : Fault)
    → IfSome held (λ bytes. IsListed bytes (ended.Fault fault) out out')
    → IfSome held (IsFaultInside (ended.Fault fault))
listed_inside None out out' fault is = tt
listed_inside (Some bytes) out out' fault is =
    cut_faults_lie bytes is.0 fault (subst (λ (end : Option Fault). IsCut first_unit_place bytes is.0 end) is.3.0 is.2)

-- of one that is cut
no_fault : (point unit : Option ℕ) (fault : Fault)
    → option_or (option_map edited.NoSuchPoint point) (option_map edited.OpenCut unit) ≡ Some (edited.Fault fault) → ⊥
no_fault (Some n) unit fault is = cc
no_fault None (Some n) fault is = cc
no_fault None None fault is = cc

cut_fault : (end : Option Fault) (units : List UnitText) (from : ℕ) (to : Option ℕ) (fault : Fault)
    → cut_refusal end units from to ≡ Some (edited.Fault fault) → end ≡ Some fault
cut_fault None units from to fault is =
    absurd (no_fault (wrong_point from to (points_of units)) (open_cut units from (end_point to (points_of units))) fault is)
cut_fault (Some own) units from to fault is =
    let same : own ≡ fault = cc in
    ap (λ (x : Fault). Some x) same

pub cut_inside : (held out out' : Option (List ℕ)) (from : ℕ) (to : Option ℕ) (how : Edited)
    → IfSome held (λ bytes. IsCutBy bytes from to how out out') → IfSome held (IsFaultInside (ended_of_edit how))
cut_inside None out out' from to how is = tt
cut_inside (Some bytes) out out' from to (edited.Fault fault) is =
    faults_lie bytes is.0 fault is.1 (cut_fault is.0.end is.1.units from to fault is.2.0)
cut_inside (Some bytes) out out' from to edited.Done is = tt
cut_inside (Some bytes) out out' from to (edited.NoSuchPoint n) is = tt
cut_inside (Some bytes) out out' from to (edited.OpenCut n) is = tt
cut_inside (Some bytes) out out' from to edited.ReadFault is = tt
cut_inside (Some bytes) out out' from to edited.WriteFault is = tt
cut_inside (Some bytes) out out' from to edited.NoMemory is = tt

-- of one that is joined
join_fault : (end : Option Fault) (fault : Fault) → join_refusal end ≡ Some (edited.Fault fault) → end ≡ Some fault
join_fault None fault is = absurd cc
join_fault (Some own) fault is =
    let same : own ≡ fault = cc in
    ap (λ (x : Fault). Some x) same

pub join_inside : (held out out' : Option (List ℕ)) (how : Edited)
    → IfSome held (λ bytes. IsJoinedBy bytes how out out') → IfSome held (IsFaultInside (ended_of_edit how))
join_inside None out out' how is = tt
join_inside (Some bytes) out out' (edited.Fault fault) is =
    faults_lie bytes is.0 fault is.1 (join_fault is.0.end fault is.2.0)
join_inside (Some bytes) out out' edited.Done is = tt
join_inside (Some bytes) out out' (edited.NoSuchPoint n) is = tt
join_inside (Some bytes) out out' (edited.OpenCut n) is = tt
join_inside (Some bytes) out out' edited.ReadFault is = tt
join_inside (Some bytes) out out' edited.WriteFault is = tt
join_inside (Some bytes) out out' edited.NoMemory is = tt
