-- What the bytes that were read bring by themselves.
use Rattle.std.proofs.Common.{◌≡◌, ◌∙◌, ℕ, true, List, [], ◌++◌, take, drop, Option, None, Some, Err, refl, sym, ap, ap₂, subst, append_assoc, append-nil}
use Rattle.std.specs.Prelude.{IfSome}
use Rattle.std.specs.Io.KnownBytes.{Consumes, append_known, prepend_known}
use Rattle.std.proofs.KnownBytes.{Consumes-trans}
use Rattle.std.proofs.lemmas.List.{take-append-drop}
use Rattle.dirac_common.specs.declared.faults.Fault.{Fault}
use Rattle.dirac_common.specs.declared.picture.Picture.{Picture}
use Rattle.dirac_units.specs.declared.unit.StreamEnd.TheVariants as stream_end
use Rattle.dirac_units.specs.declared.unit.Unit.{Unit}
use Rattle.dirac_units.specs.declared.unit_place.UnitPlace.{UnitPlace}
use Rattle.dirac_units.specs.Cut.{front_of}
use Rattle.dirac_units.specs.Info.{span_of}
use Rattle.dirac_units.specs.Progress.{IsFirstUnit, IsPartTaken}
use Rattle.dirac_decode.specs.Decoding.{BringsAlone, ComesIn, Decoding}
use Rattle.dirac_content.specs.Shown.{Outcome, with_front}
use Rattle.dirac_decode.proofs.Passed.{first_behind}

-- nothing was read
pub alone_none : (known : Option (List ℕ)) (old new : Decoding) (given : List Picture) → ((bytes : List ℕ) (o : Outcome) → ComesIn new bytes o → ComesIn old bytes (with_front given o))
    → IfSome known (λ bytes. BringsAlone old new bytes known given)
alone_none None old new given brings = tt
alone_none (Some bytes) old new given brings = record {
  read = [];
  rest = bytes;
  parts = refl;
  holds = refl;
  still = λ ne. refl;
  alone = λ behind cond o comes. brings behind o comes;
}

-- a unit was read
pub alone_unit : (known known' : Option (List ℕ)) (unit : Unit) (unit_place : UnitPlace) (old new : Decoding) (given : List Picture) → old.stream_end ≡ stream_end.Going → IfSome known (λ bytes. IsFirstUnit true unit unit_place bytes known')
    → ((bytes behind : List ℕ) → IsFirstUnit true unit unit_place bytes (Some behind) → (o : Outcome) → ComesIn new behind o → ComesIn old bytes (with_front given o)) → IfSome known (λ bytes. BringsAlone old new bytes known' given)
alone_unit None known' unit unit_place old new given going first brings = tt
alone_unit (Some bytes) known' unit unit_place old new given going first brings = record {
  read = take (span_of unit.info) bytes;
  rest = drop (span_of unit.info) bytes;
  parts = sym (take-append-drop (span_of unit.info) bytes);
  holds = first.2;
  still = λ ne. absurd (ne going);
  alone = λ behind cond o comes. brings (take (span_of unit.info) bytes ++ behind) behind (first_behind unit unit_place bytes behind known' first) o comes;
}

-- the end or a fault of the cutting was read
pub alone_part : (known held' : Option (List ℕ)) (unit_place : UnitPlace) (end : Option Fault) (old new : Decoding) (given : List Picture) → old.stream_end ≡ stream_end.Going → (new.stream_end ≡ stream_end.Going → ⊥) → new.units.ahead ≡ []
    → IfSome known (λ bytes. IsPartTaken unit_place end bytes held') → ((part : List ℕ) → front_of unit_place part ≡ Err end → (o : Outcome) → ComesIn new [] o → ComesIn old part (with_front given o))
    → IfSome known (λ bytes. BringsAlone old new bytes (prepend_known new.units.ahead held') given)
alone_part None held' unit_place end old new given going ended none taken brings = tt
alone_part (Some bytes) held' unit_place end old new given going ended none taken brings = record {
  read = taken.part;
  rest = taken.rest;
  parts = taken.parts;
  holds = ap (λ (l : List ℕ). prepend_known l held') none ∙ ap (λ (k : Option (List ℕ)). prepend_known [] k) taken.holds;
  still = λ ne. absurd (ne going);
  alone = λ behind cond o comes.
      let last : behind ≡ [] = cond ended in
      subst (λ (l : List ℕ). ComesIn old l (with_front given o)) (sym (ap (λ (l : List ℕ). taken.part ++ l) last ∙ append-nil taken.part))
      (brings taken.part taken.no_unit o (subst (λ (l : List ℕ). ComesIn new l o) last comes));
}

-- what was taken is the same, whatever follows the bytes held
pub part_taken_more : (ahead more : List ℕ) (held held' : Option (List ℕ)) (unit_place : UnitPlace) (end : Option Fault) → IfSome (prepend_known ahead held) (λ bytes. IsPartTaken unit_place end bytes held')
    → IfSome (prepend_known ahead (append_known held more)) (λ bytes. IsPartTaken unit_place end bytes (append_known held' more))
part_taken_more ahead more None held' unit_place end taken = tt
part_taken_more ahead more (Some xs) held' unit_place end taken = record {
  part = taken.part;
  rest = taken.rest ++ more;
  no_unit = taken.no_unit;
  parts = sym (append_assoc ahead xs more) ∙ ap (λ (l : List ℕ). l ++ more) taken.parts ∙ append_assoc taken.part taken.rest more;
  holds = ap (λ (k : Option (List ℕ)). append_known k more) taken.holds;
}

-- one step and then another
pub alone_on : (known known' known'' : Option (List ℕ)) (a b c : Decoding) (given more : List Picture) → (b.stream_end ≡ stream_end.Going → a.stream_end ≡ stream_end.Going) → (c.stream_end ≡ stream_end.Going → b.stream_end ≡ stream_end.Going)
    → IfSome known (λ bytes. BringsAlone a b bytes known' given) → IfSome known' (λ bytes. BringsAlone b c bytes known'' more) → IfSome known (λ bytes. BringsAlone a c bytes known'' (given ++ more))
alone_on None known' known'' a b c given more going going' first second = tt
alone_on (Some bytes) known' known'' a b c given more going going' p second =
    let q : BringsAlone b c p.rest known'' more = subst (λ (k : Option (List ℕ)). IfSome k (λ rest. BringsAlone b c rest known'' more)) p.holds second in
    record {
      read = p.read ++ q.read;
      rest = q.rest;
      parts = p.parts ∙ ap (λ (l : List ℕ). p.read ++ l) q.parts ∙ sym (append_assoc p.read q.read q.rest);
      holds = q.holds;
      still = λ ne. ap₂ (λ (xs ys : List ℕ). xs ++ ys) (p.still ne) (q.still (λ e. ne (going e)));
      alone = λ behind cond o comes.
          let none : (b.stream_end ≡ stream_end.Going → ⊥) → q.read ++ behind ≡ [] =
          λ ne. ap₂ (λ (xs ys : List ℕ). xs ++ ys) (q.still ne) (cond (λ e. ne (going' e))) in
          let later : ComesIn a (p.read ++ (q.read ++ behind)) (with_front given (with_front more o)) =
          p.alone (q.read ++ behind) none (with_front more o) (q.alone behind cond o comes) in
          let make : List Picture → Outcome = λ shown. record { shown = shown; most = o.most; end = o.end } in
          subst (λ (l : List ℕ). ComesIn a l (with_front (given ++ more) o)) (sym (append_assoc p.read q.read behind))
          (subst (λ (x : Outcome). ComesIn a (p.read ++ (q.read ++ behind)) x) (ap make (sym (append_assoc given more o.shown))) later);
    }

-- some bytes more were taken
pub taken_on : (known known' held' : Option (List ℕ)) (a b : Decoding) (given : List Picture) → IfSome known (λ bytes. BringsAlone a b bytes known' given) → (part : List ℕ) × Consumes known' held' part → (part : List ℕ) × Consumes known held' part
taken_on None known' held' a b given first part = ([], tt)
taken_on (Some bytes) known' held' a b given p part =
    let more : Consumes (Some p.rest) held' part.0 = subst (λ (k : Option (List ℕ)). Consumes k held' part.0) p.holds part.1 in
    (p.read ++ part.0, Consumes-trans (Some bytes) (Some p.rest) held' p.read part.0 p.parts more)

-- a unit was taken, whatever came of its content
pub unit_taken : (known held' : Option (List ℕ)) (span : ℕ) → IfSome known (λ bytes. held' ≡ Some (drop span bytes)) → (part : List ℕ) × Consumes known held' part
unit_taken None held' span holds = ([], tt)
unit_taken (Some bytes) held' span holds =
    (take span bytes, subst (λ (k : Option (List ℕ)). Consumes (Some bytes) k (take span bytes)) (sym holds) (sym (take-append-drop span bytes)))
