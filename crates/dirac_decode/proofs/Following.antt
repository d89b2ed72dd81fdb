-- What a step gives holds whatever follows the bytes that the source holds, where the next unit is there.
use Rattle.std.proofs.Common.{◌≡◌, ◌∙◌, ℕ, ◌-◌, ◌≤◌, Bool, true, if◌then◌else◌, List, [], ◌++◌, length, take, drop, slice_range, Option, None, Some, Err, refl, sym, ap, subst, arith, append_assoc, length-drop}
use Rattle.std.specs.Prelude.{IfSome, ◌&&◌}
use Rattle.std.proofs.lemmas.List.{drop-append-le, take-append-le}
use Rattle.std.specs.Io.KnownBytes.{append_known, prepend_known}
use Rattle.dirac_common.specs.declared.faults.Fault.{Fault}
use Rattle.dirac_units.specs.declared.info.ParseInfo.{ParseInfo}
use Rattle.dirac_units.specs.declared.unit_place.UnitPlace.{UnitPlace}
use Rattle.dirac_units.specs.declared.unit.Unit.{Unit}
use Rattle.dirac_units.specs.declared.unit.StreamEnd.TheVariants as stream_end
use Rattle.dirac_units.specs.Info.{fields_are_read, span_of}
use Rattle.dirac_units.specs.Cut.{front_of}
use Rattle.dirac_units.specs.Progress.{Ends, GivesUnit, IsFirstUnit, CuttingProgress, kept_payload}
use Rattle.dirac_units.proofs.Fronts.{front_more, front_whole}
use Rattle.dirac_decode.specs.Stepping.{IsThere, IsWholeUnit}
use Rattle.dirac_content.specs.StreamState.{StreamState}
use Rattle.dirac_content.specs.Shown.{ends_with}
use Rattle.dirac_decode.specs.Advancing.{Brings}
use Rattle.dirac_content.proofs.Passing.{told_end}
use Rattle.dirac_decode.proofs.WholeUnits.{front_before}
use Rattle.dirac_decode.proofs.Leading.{end_alone, ended_outcome, fault_alone, not_ended, not_faulted}
use Rattle.dirac_decode.proofs.Alone.{part_taken_more}

-- bytes ahead of known ones, and more behind them
ahead_more : (ahead more : List ℕ) (known : Option (List ℕ)) → prepend_known ahead (append_known known more) ≡ append_known (prepend_known ahead known) more
ahead_more ahead more None = refl
ahead_more ahead more (Some bytes) = ap Some (sym (append_assoc ahead bytes more))

-- a part of bytes is the same with more behind them
part_more : (bytes more : List ℕ) (from to : ℕ) → from ≤ length bytes → to ≤ length bytes → slice_range (bytes ++ more) from to ≡ slice_range bytes from to
part_more bytes more from to starts fits =
    ap (take (to - from)) (drop-append-le from bytes more starts)
    ∙ take-append-le (to - from) (drop from bytes) more (omega (arith, length-drop from bytes))

kept_more : (keep : Bool) (info : ParseInfo) (bytes more : List ℕ) → 13 ≤ length bytes → span_of info ≤ length bytes → kept_payload keep info (bytes ++ more) ≡ kept_payload keep info bytes
kept_more keep info bytes more long fits = ap (λ part. if keep && fields_are_read info.code then part else []) (part_more bytes more 13 (span_of info) long fits)

-- the unit at the front of bytes, and at the front of longer ones
first_more : (unit : Unit) (unit_place : UnitPlace) (bytes more : List ℕ) (rest : Option (List ℕ)) → IsFirstUnit true unit unit_place bytes rest → IsFirstUnit true unit unit_place (bytes ++ more) (append_known rest more)
first_more unit unit_place bytes more rest is =
    let whole = front_whole unit_place bytes unit.info is.0 in (
      front_more unit_place bytes more unit.info is.0,
      is.1 ∙ sym (kept_more true unit.info bytes more whole.0 whole.2),
      ap (λ known. append_known known more) is.2 ∙ ap Some (sym (drop-append-le (span_of unit.info) bytes more whole.2)),
    )

told_more : (unit : Unit) (unit_place : UnitPlace) (more : List ℕ) (known rest : Option (List ℕ)) → IfSome known (λ bytes. IsFirstUnit true unit unit_place bytes rest) → IfSome (append_known known more) (λ bytes. IsFirstUnit true unit unit_place bytes (append_known rest more))
told_more unit unit_place more None rest is = tt
told_more unit unit_place more (Some bytes) rest is = first_more unit unit_place bytes more rest is

-- a unit given is given whatever follows the bytes held
pub unit_more : (unit : Unit) (units units' : CuttingProgress) (held held' : Option (List ℕ)) (more : List ℕ) → GivesUnit true unit units units' held held' → GivesUnit true unit units units' (append_known held more) (append_known held' more)
unit_more unit units units' held held' more gives =
    let P : Option (List ℕ) → Option (List ℕ) → Type 0 = λ known rest. IfSome known (λ bytes. IsFirstUnit true unit units.unit_place bytes rest) in
    let told : P (append_known (prepend_known units.ahead held) more) (append_known (prepend_known units'.ahead held') more) =
    told_more unit units.unit_place more (prepend_known units.ahead held) (prepend_known units'.ahead held') gives.told in
    let there : P (prepend_known units.ahead (append_known held more)) (append_known (prepend_known units'.ahead held') more) =
    subst (λ known. P known (append_known (prepend_known units'.ahead held') more)) (sym (ahead_more units.ahead more held)) told in
    record {
      going = gives.going;
      index = gives.index;
      at = gives.at;
      lawful = gives.lawful;
      short = gives.short;
      next = gives.next;
      told = subst (λ rest. P (prepend_known units.ahead (append_known held more)) rest) (sym (ahead_more units'.ahead more held')) there;
    }

end_more : (unit_place : UnitPlace) (more : List ℕ) (end : Option Fault) (known : Option (List ℕ)) → IfSome known IsWholeUnit → IfSome known (λ bytes. front_of unit_place bytes ≡ Err end) → IfSome (append_known known more) (λ bytes. front_of unit_place bytes ≡ Err end)
end_more unit_place more end None there is = tt
end_more unit_place more end (Some bytes) there is = front_before unit_place bytes more there ∙ is

-- what stands at the front stays, whatever follows the bytes held
front_told : (units : CuttingProgress) (held : Option (List ℕ)) (more : List ℕ) (end : Option Fault) → IsThere units held → IfSome (prepend_known units.ahead held) (λ bytes. front_of units.unit_place bytes ≡ Err end) → IfSome (prepend_known units.ahead (append_known held more)) (λ bytes. front_of units.unit_place bytes ≡ Err end)
front_told units held more end there is =
    subst (λ known. IfSome known (λ bytes. front_of units.unit_place bytes ≡ Err end)) (sym (ahead_more units.ahead more held))
    (end_more units.unit_place more end (prepend_known units.ahead held) there is)

-- the lawful end and a fault of the cutting, whatever follows the bytes held
pub brings_end_more : (units units' : CuttingProgress) (state : StreamState) (held held' : Option (List ℕ)) (more : List ℕ) → units'.ahead ≡ [] → IsThere units held → Ends units held held' None → Brings units units' state state (append_known held more) (append_known held' more) true stream_end.Ended []
brings_end_more units units' state held held' more none there ends given given' = record {
  comes = λ o comes. record {
    rest = ends_with state None;
    same = ended_outcome state None o comes.rest comes.same comes.remains;
    remains = told_end (prepend_known units.ahead (append_known held more)) units.unit_place state None (front_told units held more None there ends.told);
  };
  going = λ e. refl;
  passed = λ e. absurd (not_ended e);
  alone = end_alone units units' state (append_known held more) (append_known held' more) given given' none (part_taken_more units.ahead more held held' units.unit_place None ends.taken);
}

pub brings_fault_more : (units units' : CuttingProgress) (state : StreamState) (held held' : Option (List ℕ)) (more : List ℕ) (fault : Fault) → units'.ahead ≡ [] → IsThere units held → Ends units held held' (Some fault) → Brings units units' state state (append_known held more) (append_known held' more) true (stream_end.Faulted fault) []
brings_fault_more units units' state held held' more fault none there ends given given' = record {
  comes = λ o comes. record {
    rest = ends_with state (Some fault);
    same = ended_outcome state (Some fault) o comes.rest comes.same comes.remains;
    remains = told_end (prepend_known units.ahead (append_known held more)) units.unit_place state (Some fault) (front_told units held more (Some fault) there ends.told);
  };
  going = λ e. refl;
  passed = λ e. absurd (not_faulted fault e);
  alone = fault_alone units units' state (append_known held more) (append_known held' more) fault given given' none (part_taken_more units.ahead more held held' units.unit_place (Some fault) ends.taken);
}
