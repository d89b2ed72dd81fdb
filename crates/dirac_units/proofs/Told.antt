-- What was taken of a source is what it began with.
use Rattle.std.proofs.Common.{◌≡◌, ℕ, ◌+◌, ◌-◌, ◌≤◌, ◌<◌, List, [], ◌++◌, length, take, drop, sym, ap, ◌∙◌, refl, arith, Option, None, Some, IfSome, Result, Ok, Err, append_assoc, append-nil, length-append, Bool, true, false, if◌then◌else◌, nat_lt, ◌==◌, subst, inl, inr}
use Rattle.std.proofs.lemmas.Bool.{le-ltb, ne_eqb, lt-ltb}
use Rattle.std.proofs.lemmas.List.{length-take-le, take_at}
use Rattle.std.proofs.Math.Seq.{drop-append_seam}
use Rattle.std.proofs.KnownBytes.{Consumes-trans}
use Rattle.std.specs.Prelude.{slice_range, ◌&&◌}
use Rattle.std.specs.Io.KnownBytes.{Consumes, IsAtEnd}
use Rattle.dirac_common.specs.declared.faults.Cause.TheVariants.{MissingEnd, Truncated}
use Rattle.dirac_common.specs.declared.faults.Fault.{Fault}
use Rattle.dirac_common.specs.declared.faults.Refusal.{Refusal}
use Rattle.dirac_units.specs.declared.info.ParseInfo.{ParseInfo}
use Rattle.dirac_units.specs.declared.unit_place.UnitPlace.{UnitPlace}
use Rattle.dirac_units.specs.declared.unit.Unit.{Unit}
use Rattle.dirac_units.specs.Info.{info_read, span_of, fields_are_read}
use Rattle.dirac_units.specs.Cut.{front_of, unit_front, fault_at, IsEndOfBytes}
use Rattle.dirac_units.specs.Progress.{IsFirstUnit, IsPartTaken}
use Rattle.dirac_units.specs.Taking.{CutsPayload, TakesInfo, TakesNone, TakesPayload}
use Rattle.dirac_units.specs.declared.take.NoUnit.{NoUnit}
use Rattle.dirac_units.specs.declared.take.NoUnit.TheVariants as none
use Rattle.dirac_units.proofs.Fronts.{front_is, not_chosen}

chosen_so : {A : Type 0} (b : Bool) (x y : A) → b ≡ true → (if b then x else y) ≡ x
chosen_so true x y is = refl
chosen_so false x y is = cc

-- where 13 bytes stand at the front, they decide
pub behind_header : (unit_place : UnitPlace) (all : List ℕ) → 13 ≤ length all → front_of unit_place all ≡ unit_front unit_place all (info_read (take 13 all))
behind_header unit_place all long =
    not_chosen (length all == 0) _ _ (ne_eqb (length all) 0 (λ e. omega arith)) ∙ not_chosen (nat_lt (length all) 13) _ _ (le-ltb (length all) 13 long)

short_front : (unit_place : UnitPlace) (all : List ℕ) (info : ParseInfo) → 13 ≤ length all → info_read (take 13 all) ≡ Ok info → length all < span_of info
    → front_of unit_place all ≡ Err (Some (fault_at unit_place (length all) Truncated))
short_front unit_place all info long read short =
    behind_header unit_place all long ∙ ap (unit_front unit_place all) read ∙ chosen_so (nat_lt (length all) (span_of info)) _ _ (lt-ltb (length all) (span_of info) short)

-- at the end of the source all was taken
pub told_end : (unit_place : UnitPlace) (bytes : List ℕ) (held held' : Option (List ℕ)) (end : Option Fault) → Consumes held held' bytes → IsAtEnd held'
    → front_of unit_place bytes ≡ Err end → IfSome held (λ all. front_of unit_place all ≡ Err end)
told_end unit_place bytes None held' end taken at is = tt
told_end unit_place bytes (Some xs) None end taken at is = absurd taken
told_end unit_place bytes (Some xs) (Some ys) end taken at is =
    ap (front_of unit_place) (taken ∙ ap (λ l. bytes ++ l) at ∙ append-nil bytes) ∙ is

-- a parse info that is refused, whatever follows it
pub told_refusal : (unit_place : UnitPlace) (header : List ℕ) (held held' : Option (List ℕ)) (refusal : Refusal) → Consumes held held' header → length header ≡ 13
    → info_read header ≡ Err refusal → IfSome held (λ all. front_of unit_place all ≡ Err (Some (fault_at unit_place refusal.at refusal.cause)))
told_refusal unit_place header None held' refusal taken len read = tt
told_refusal unit_place header (Some xs) None refusal taken len read = absurd taken
told_refusal unit_place header (Some xs) (Some ys) refusal taken len read =
    ap (front_of unit_place) taken ∙ behind_header unit_place (header ++ ys) (omega (arith, length-append header ys))
    ∙ ap (unit_front unit_place (header ++ ys)) (ap info_read (take_at header ys 13 len) ∙ read)

-- a parse info whose payload is cut
pub told_cut : (unit_place : UnitPlace) (info : ParseInfo) (header more : List ℕ) (held mid held' : Option (List ℕ)) → Consumes held mid header → length header ≡ 13
    → info_read header ≡ Ok info → Consumes mid held' more → IsAtEnd held' → length more + 13 < span_of info
    → IfSome held (λ all. front_of unit_place all ≡ Err (Some (fault_at unit_place (13 + length more) Truncated)))
told_cut unit_place info header more held mid held' first len read rest at short =
    let size : length (header ++ more) ≡ 13 + length more = length-append header more ∙ omega (arith, len) in
    subst (λ n. IfSome held (λ all. front_of unit_place all ≡ Err (Some (fault_at unit_place n Truncated)))) size
    (told_end unit_place (header ++ more) held held' (Some (fault_at unit_place (length (header ++ more)) Truncated)) (Consumes-trans held mid held' header more first rest) at
    (short_front unit_place (header ++ more) info (omega (arith, size)) (ap info_read (take_at header more 13 len) ∙ read) (omega (arith, size, short))))

-- a parse info and its payload
pub told_unit : (keep : Bool) (unit : Unit) (unit_place : UnitPlace) (header more : List ℕ) (held mid held' : Option (List ℕ)) → Consumes held mid header → length header ≡ 13
    → info_read header ≡ Ok unit.info → Consumes mid held' more → length more + 13 ≡ span_of unit.info
    → unit.payload ≡ (if keep && fields_are_read unit.info.code then more else []) → IfSome held (λ all. IsFirstUnit keep unit unit_place all held')
told_unit keep unit unit_place header more None mid held' first len read rest size is = tt
told_unit keep unit unit_place header more (Some xs) None held' first len read rest size is = absurd first
told_unit keep unit unit_place header more (Some xs) (Some ys) None first len read rest size is = absurd rest
told_unit keep unit unit_place header more (Some xs) (Some ys) (Some zs) first len read rest size is =
    let span = span_of unit.info in
    let parts : xs ≡ header ++ (more ++ zs) = first ∙ ap (λ l. header ++ l) rest in
    let whole : xs ≡ (header ++ more) ++ zs = parts ∙ sym (append_assoc header more zs) in
    let long : length (header ++ more) ≡ span = length-append header more ∙ omega (arith, len, size) in
    let part : slice_range xs 13 span ≡ more =
    ap (λ l. slice_range l 13 span) parts ∙ ap (take (span - 13)) (ap (λ n. drop n (header ++ (more ++ zs))) (sym len) ∙ drop-append_seam header (more ++ zs))
    ∙ take_at more zs (span - 13) (omega (arith, size)) in
    let reads : info_read (take 13 xs) ≡ Ok unit.info = ap info_read (ap (take 13) parts ∙ take_at header (more ++ zs) 13 len) ∙ read in (
      front_is unit_place xs unit.info (omega (arith, ap length whole, length-append (header ++ more) zs, long, size)) reads (omega (arith, ap length whole, length-append (header ++ more) zs, long)),
      is ∙ ap (λ l. if keep && fields_are_read unit.info.code then l else []) (sym part),
      ap Some (sym (ap (drop span) whole ∙ ap (λ n. drop n ((header ++ more) ++ zs)) (sym long) ∙ drop-append_seam (header ++ more) zs)),
    )

-- where fewer bytes were taken than a parse info has, no unit stands in them, and they end there
no_unit_first : {A B : Type 0} (P : B → Type 0) (b : Bool) (x : B) (y : Result A B) → P x
    → ((b ≡ false) → (e : B) × (y ≡ Err e) × P e) → (e : B) × ((if b then Err x else y) ≡ Err e) × P e
no_unit_first P true x y now later = (x, refl, now)
no_unit_first P false x y now later = later refl

end_of_none : (closed : Bool) (fault : Fault) → fault.cause ≡ MissingEnd
    → IsEndOfBytes (if closed then None else Some fault)
end_of_none true fault is = tt
end_of_none false fault is = inl is

short_stands : (unit_place : UnitPlace) (bytes : List ℕ) → length bytes < 13
    → (end : Option Fault) × (front_of unit_place bytes ≡ Err end) × IsEndOfBytes end
short_stands unit_place bytes short =
    let header : nat_lt (length bytes) 13 ≡ true = lt-ltb (length bytes) 13 short in
    no_unit_first IsEndOfBytes (length bytes == 0) _ _
    (end_of_none unit_place.closed (fault_at unit_place 0 MissingEnd) refl)
    (λ some. (
      Some (fault_at unit_place (length bytes) Truncated),
      chosen_so (nat_lt (length bytes) 13) _ _ header,
      inr refl,
    ))

pub told_part : (unit_place : UnitPlace) (part : List ℕ) (held held' : Option (List ℕ)) (end : Option Fault) → Consumes held held' part → front_of unit_place part ≡ Err end → IfSome held (λ all. IsPartTaken unit_place end all held')
told_part unit_place part None held' end taken is = tt
told_part unit_place part (Some xs) None end taken is = absurd taken
told_part unit_place part (Some xs) (Some ys) end taken is = record { part = part; rest = ys; no_unit = is; parts = taken; holds = refl }

some_part : (unit_place : UnitPlace) (held held' : Option (List ℕ)) (end : Option Fault) → IsEndOfBytes end
    → IfSome held (λ all. IsPartTaken unit_place end all held')
    → IfSome held (λ all. (e : Option Fault) × IsPartTaken unit_place e all held' × IsEndOfBytes e)
some_part unit_place None held' end last is = tt
some_part unit_place (Some xs) held' end last is = (end, is, last)

-- a parse info that is refused, as what was taken
pub told_part_of_refusal : (unit_place : UnitPlace) (header : List ℕ) (held held' : Option (List ℕ)) (refusal : Refusal) → Consumes held held' header → length header ≡ 13
    → info_read header ≡ Err refusal → IfSome held (λ all. IsPartTaken unit_place (Some (fault_at unit_place refusal.at refusal.cause)) all held')
told_part_of_refusal unit_place header held held' refusal taken len read =
    told_part unit_place header held held' (Some (fault_at unit_place refusal.at refusal.cause)) taken
    (told_refusal unit_place header (Some header) (Some []) refusal (sym (append-nil header)) len read)

-- a read failed in a parse info
pub told_part_of_info : (unit_place : UnitPlace) (buf : List ℕ) (n : ℕ) (held held' : Option (List ℕ)) → n < 13 → length buf ≡ 13 → Consumes held held' (take n buf)
    → IfSome held (λ all. (e : Option Fault) × IsPartTaken unit_place e all held' × IsEndOfBytes e)
told_part_of_info unit_place buf n held held' short size taken =
    let front = short_stands unit_place (take n buf) (omega (arith, length-take-le n buf (omega (arith, size, short)), short)) in
    some_part unit_place held held' front.0 front.2 (told_part unit_place (take n buf) held held' front.0 taken front.1)

-- what was taken of a unit whose payload is cut
told_part_of_payload : (unit_place : UnitPlace) (info : ParseInfo) (header more : List ℕ) (held mid held' : Option (List ℕ)) → Consumes held mid header → length header ≡ 13
    → info_read header ≡ Ok info → Consumes mid held' more → length more + 13 < span_of info → IfSome held (λ all. IsPartTaken unit_place (Some (fault_at unit_place (13 + length more) Truncated)) all held')
told_part_of_payload unit_place info header more held mid held' first len read rest short =
    let size : length (header ++ more) ≡ 13 + length more = length-append header more ∙ omega (arith, len) in
    subst (λ n. IfSome held (λ all. IsPartTaken unit_place (Some (fault_at unit_place n Truncated)) all held')) size
    (told_part unit_place (header ++ more) held held' (Some (fault_at unit_place (length (header ++ more)) Truncated)) (Consumes-trans held mid held' header more first rest)
    (short_front unit_place (header ++ more) info (omega (arith, size)) (ap info_read (take_at header more 13 len) ∙ read) (omega (arith, size, short))))

-- the piece in which a read failed
pub piece_failed : (count n size m : ℕ) (keep : Bool) (payload buf : List ℕ) (unit_place : UnitPlace) (held mid held' : Option (List ℕ))
    → TakesPayload n keep payload held mid → Consumes mid held' (take m buf) → m < size → length buf ≡ size → n + size ≤ count → CutsPayload none.ReadFault unit_place count held held'
piece_failed count n size m keep payload buf unit_place held mid held' so got few long fits =
    let part : length (take m buf) ≡ m = length-take-le m buf (omega (arith, few, long)) in (
      so.0 ++ take m buf,
      omega (arith, length-append so.0 (take m buf), so.1, part, few, fits),
      Consumes-trans held mid held' so.0 (take m buf) so.3 got,
    )

-- the piece for which memory was wanting
pub piece_lost : (n : ℕ) (keep : Bool) (payload piece : List ℕ) (held mid held' : Option (List ℕ)) → TakesPayload n keep payload held mid → Consumes mid held' piece → (bytes : List ℕ) × Consumes held held' bytes
piece_lost n keep payload piece held mid held' so got = (so.0 ++ piece, Consumes-trans held mid held' so.0 piece so.3 got)

-- the unit whose payload was taken
pub told_taken : (keep kept : Bool) (unit : Unit) (unit_place : UnitPlace) (held mid held' : Option (List ℕ)) → TakesInfo unit.info held mid
    → TakesPayload (span_of unit.info - 13) kept unit.payload mid held' → 13 ≤ span_of unit.info → kept ≡ (keep && fields_are_read unit.info.code)
    → IfSome held (λ all. IsFirstUnit keep unit unit_place all held')
told_taken keep kept unit unit_place held mid held' info payload long is =
    told_unit keep unit unit_place info.0 payload.0 held mid held' info.3 info.1 info.2 payload.3 (omega (arith, payload.1))
    (payload.2 ∙ ap (λ (b : Bool). if b then payload.0 else []) is)

-- no more is kept than was taken
pub payload_fits : (n : ℕ) (keep : Bool) (payload : List ℕ) (held held' : Option (List ℕ)) → TakesPayload n keep payload held held' → length payload ≤ n
payload_fits n true payload held held' so = omega (arith, ap length so.2, so.1)
payload_fits n false payload held held' so = omega (arith, ap length so.2)

-- and the one whose payload was cut
pub told_none : (why : NoUnit) (info : ParseInfo) (unit_place : UnitPlace) (held mid held' : Option (List ℕ)) → TakesInfo info held mid
    → CutsPayload why unit_place (span_of info - 13) mid held' → TakesNone why unit_place held held'
told_none (none.End end) info unit_place held mid held' taken cut = (
  subst (λ (e : Option Fault). IfSome held (λ all. front_of unit_place all ≡ Err e)) (sym cut.2)
      (told_cut unit_place info taken.0 cut.0 held mid held' taken.3 taken.1 taken.2 cut.3 cut.4 (omega (arith, cut.1))),
  λ e. cut.4,
  subst (λ (e : Option Fault). IfSome held (λ all. IsPartTaken unit_place e all held')) (sym cut.2)
      (told_part_of_payload unit_place info taken.0 cut.0 held mid held' taken.3 taken.1 taken.2 cut.3 (omega (arith, cut.1))),
)
told_none none.ReadFault info unit_place held mid held' taken cut =
    some_part unit_place held held' (Some (fault_at unit_place (13 + length cut.0) Truncated)) (inr refl) (told_part_of_payload unit_place info taken.0 cut.0 held mid held' taken.3 taken.1 taken.2 cut.2 (omega (arith, cut.1)))
told_none none.NoMemory info unit_place held mid held' taken cut = (taken.0 ++ cut.0, Consumes-trans held mid held' taken.0 cut.0 taken.3 cut.1)

-- one more piece of a payload
pub piece_taken : (n k m : ℕ) (keep : Bool) (payload payload' piece : List ℕ) (held mid held' : Option (List ℕ)) → TakesPayload n keep payload held mid
    → Consumes mid held' piece → length piece ≡ k → m ≡ n + k → payload' ≡ (if keep then payload ++ piece else payload) → TakesPayload m keep payload' held held'
piece_taken n k m true payload payload' piece held mid held' so got len sum is = (
  so.0 ++ piece,
  length-append so.0 piece ∙ omega (arith, so.1, len, sum),
  is ∙ ap (λ l. l ++ piece) so.2,
  Consumes-trans held mid held' so.0 piece so.3 got,
)
piece_taken n k m false payload payload' piece held mid held' so got len sum is = (
  so.0 ++ piece,
  length-append so.0 piece ∙ omega (arith, so.1, len, sum),
  is ∙ so.2,
  Consumes-trans held mid held' so.0 piece so.3 got,
)

-- the piece in which the input ends
pub piece_cut : (unit_place : UnitPlace) (count n k at : ℕ) (keep : Bool) (payload piece : List ℕ) (held mid held' : Option (List ℕ)) (fault : Fault)
    → TakesPayload n keep payload held mid → Consumes mid held' piece → length piece ≡ k → IsAtEnd held' → n + k < count → at ≡ 13 + n + k
    → fault ≡ fault_at unit_place at Truncated → CutsPayload (none.End (Some fault)) unit_place count held held'
piece_cut unit_place count n k at keep payload piece held mid held' fault so got len end few place is =
    let size : length (so.0 ++ piece) ≡ n + k = length-append so.0 piece ∙ omega (arith, so.1, len) in (
      so.0 ++ piece,
      omega (arith, size, few),
      ap Some (is ∙ ap (λ a. fault_at unit_place a Truncated) (omega (arith, place, size))),
      Consumes-trans held mid held' so.0 piece so.3 got,
      end,
    )
