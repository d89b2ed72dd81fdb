-- What a block carries of a table is read to it: unit by unit, since predictions read units that were read before.
use Rattle.std.proofs.Common.{◌≡◌, ℕ, ℤ, ◌+ℤ◌, ◌-ℤ◌, inl, inr, Bool, true, false, not, List, [], ◌∷◌, Result, Ok, refl, sym, ap, ap₂, ◌∙◌, arith, subst}
use Rattle.std.specs.Prelude.{◌==◌, if◌then◌else◌}
use Rattle.std.proofs.lemmas.Bool.{cases_eq, eq-eqb, ne_eqb}
use Rattle.std.proofs.lemmas.Int.{ints}
use Rattle.dirac_common.specs.declared.faults.Cause.{Cause}
use Rattle.dirac_arith.specs.Coded.{Coded, done, read_coded}
use Rattle.dirac_arith.specs.Interval.{Decision}
use Rattle.dirac_arith.specs.Reading.{Reading, DecisionsAreRead}
use Rattle.dirac_arith.specs.Spelling.{signed_spelling}
use Rattle.dirac_arith.proofs.Carrieds.{IsLed}
use Rattle.dirac_arith.proofs.CodedValues.{then_is_read}
use Rattle.dirac_arith.proofs.Led.{led_more, reads_parted, decision_led, signed_led}
use Rattle.dirac_vectors.specs.Neighbours.{IsShort}
use Rattle.dirac_vectors.specs.Predictions.{mode_of}
use Rattle.dirac_block_table.specs.declared.block.Block.{Block}
use Rattle.dirac_blocks.specs.declared.parts.ListKind.{ListKind}
use Rattle.dirac_blocks.specs.declared.parts.ListKind.TheVariants as parts
use Rattle.dirac_blocks.specs.Carried.{with_list_part}
use Rattle.dirac_blocks.specs.Decisions.{counted, differ, predicted, ref1_at, ref2_at, mode_part}
use Rattle.dirac_blocks.specs.Grammar.{block_using, mode_coded, second_use, has_16_bits, coded_into, unit_coded}
use Rattle.dirac_blocks.specs.Parts.{part_at}
use Rattle.dirac_block_table.specs.Tables.{BlockTable, IsBlock, IsBlockTable, block_at}
use Rattle.dirac_blocks.proofs.Nearby.{Near, ref1_near, ref2_near, block_lawful}
use Rattle.dirac_blocks.proofs.UnitValues.{short_difference, value_found}
use Rattle.dirac_blocks.proofs.Valued.{ByDifference, Tells, told_coded, telling, has_same, put_none, across_tells, down_tells, dc_tells}

-- a value of 16 bits passes
pub is_short_from : (v : ℤ) → IsShort v → has_16_bits v ≡ true
is_short_from v h = let low = h.least in let high = h.most in grind (arith, ints)

back : (v p : ℤ) → v ≡ (v -ℤ p) +ℤ p
back v p = omega (arith, ints)

-- a bit against its prediction, and again
pub differ_twice : (a b : Bool) → differ (differ a b) b ≡ a
differ_twice true true = refl
differ_twice true false = refl
differ_twice false true = refl
differ_twice false false = refl

-- a value whose difference is carried is read
value_forward : (t : ByDifference) (v : ℤ) (r s : Reading) → IsLed r → IsShort t.prediction → IsShort v → DecisionsAreRead r (signed_spelling t.follow t.bits t.sign (v -ℤ t.prediction)) s
    → read_coded (told_coded t) r ≡ Ok (v, s)
value_forward t v r s led short_p short_v reads =
    let p = t.prediction in
    let found = signed_led r s t.follow t.bits t.sign (v -ℤ p) led (short_difference v p short_v short_p) reads in
    let fits : has_16_bits ((v -ℤ p) +ℤ p) ≡ true = subst (λ (w : ℤ). has_16_bits w ≡ true) (back v p) (is_short_from v short_v) in
    value_found t.range t.follow t.bits t.sign p (v -ℤ p) v r s found (back v p) fits

-- a value that a unit has is read, and nothing is where it has none
into_forward : (has : Bool) (bm bu : Block) (put : Block → ℤ → Block) (v : ℤ) (t : ByDifference) (r s : Reading) → IsLed r → IsShort t.prediction → IsShort v
    → put bm v ≡ bu → (has ≡ false → bm ≡ bu) → DecisionsAreRead r (telling t (counted has v)) s → read_coded (coded_into has bm put (told_coded t)) r ≡ Ok (bu, s)
into_forward true bm bu put v t r s led short_p short_v is none reads =
    then_is_read (told_coded t) (λ w. done (put bm w)) r
    ∙ rw (value_forward t v r s led short_p short_v reads) (ap (λ (b : Block). let x : Result (Block × Reading) Cause = Ok (b, s) in x) is)
into_forward false bm bu put v t r s led short_p short_v is none reads =
    ap₂ (λ (b : Block) (q : Reading). let x : Result (Block × Reading) Cause = Ok (b, q) in x) (none refl) (sym reads.moved)

-- the decision for reference 2, where there is one
abbrev pub second_part : BlockTable → ℕ → ℕ → List Decision
second_part u i j = if u.refs == 2 then (26, differ (block_at u i j).ref2 (predicted mode_of (ref2_at u) i j)) ∷ [] else []

second_forward : (m u : BlockTable) (i j : ℕ) (r s : Reading) → IsBlockTable u → m.refs ≡ u.refs → Near m u i j → IsLed r → DecisionsAreRead r (second_part u i j) s
    → read_coded (second_use m i j) r ≡ Ok ((block_at u i j).ref2, s)
second_forward m u i j r s inv same near led reads =
    let b = (block_at u i j).ref2 in
    let p = predicted mode_of (ref2_at u) i j in
    let d : Decision = (26, differ b p) in
    let P : Bool → Type 0 = λ t. DecisionsAreRead r (if t then d ∷ [] else []) s in
    elim (cases_eq u.refs 2) [
      | inl two ↦
          let bit : differ (differ b p) (predicted mode_of (ref2_at m) i j) ≡ b = ap (differ (differ b p)) (ref2_near m u i j near) ∙ differ_twice b p in
          rw (eq-eqb m.refs 2 (same ∙ two), decision_led r s 26 (differ b p) led (subst P (eq-eqb u.refs 2 two) reads))
          (ap (λ (t : Bool). let x : Result (Bool × Reading) Cause = Ok (t, s) in x) bit)
      | inr not ↦
          let none : b ≡ false = (block_lawful u i j inv).second (omega (arith, inv.size.some_refs, inv.size.most_refs)) in
          let moved = (subst P (ne_eqb u.refs 2 not) reads).moved in
          rw (ne_eqb m.refs 2 (λ two. not (sym same ∙ two))) (ap₂ (λ (t : Bool) (q : Reading). let x : Result (Bool × Reading) Cause = Ok (t, q) in x) (sym none) (sym moved))
    ]

modes_forward : (m u : BlockTable) (i j : ℕ) (r s : Reading) → IsBlockTable u → m.refs ≡ u.refs → Near m u i j → IsLed r → DecisionsAreRead r (mode_part u i j) s
    → read_coded (mode_coded m i j) r ≡ Ok (block_using (block_at u i j).ref1 (block_at u i j).ref2, s)
modes_forward m u i j r s inv same near led reads =
    let a = (block_at u i j).ref1 in
    let p = predicted mode_of (ref1_at u) i j in
    let d : Decision = (25, differ a p) in
    let bit : differ (differ a p) (predicted mode_of (ref1_at m) i j) ≡ a = ap (differ (differ a p)) (ref1_near m u i j near) ∙ differ_twice a p in
    let parted = reads_parted r s (d ∷ []) (second_part u i j) led reads in
    let told : Bool → Bool → Coded Block = λ first second. done (block_using (differ first (predicted mode_of (ref1_at m) i j)) second) in
    rw (decision_led r parted.mid 25 (differ a p) led parted.first)
    (then_is_read (second_use m i j) (told (differ a p)) parted.mid
    ∙ rw (second_forward m u i j parted.mid s inv same near (led_more r parted.mid (d ∷ []) led parted.first) parted.then)
    (ap (λ (t : Bool). let x : Result (Block × Reading) Cause = Ok (block_using t (block_at u i j).ref2, s) in x) bit))

-- what is known of a place: both blocks, the second being the first with this part of it
pub record Meets (part : ListKind) (m u : BlockTable) (i j : ℕ) : Type 0 where
  pub former : IsBlockTable m
  pub lawful : IsBlockTable u
  pub refs : m.refs ≡ u.refs
  pub near : Near m u i j
  pub is : with_list_part part (block_at m i j) (block_at u i j) ≡ block_at u i j

-- a value
told_forward : (part : ListKind) (k : Tells part) (m u : BlockTable) (i j : ℕ) (r s : Reading) → Meets part m u i j → IsLed r → DecisionsAreRead r (part_at part u i j) s
    → read_coded (unit_coded part m i j) r ≡ Ok (block_at u i j, s)
told_forward part k m u i j r s meets led reads =
    let bm = block_at m i j in
    let bu = block_at u i j in
    let old : IsBlock u.refs bm = subst (λ (n : ℕ). IsBlock n bm) meets.refs (block_lawful m i j meets.former) in
    let new = block_lawful u i j meets.lawful in
    let has : k.has bm ≡ k.has bu = has_same part k bm bu meets.is in
    let none : k.has bm ≡ false → bm ≡ bu = λ no. put_none part k u.refs bm bu old new has no ∙ meets.is in
    let told : DecisionsAreRead r (telling (k.told u i j) (counted (k.has bm) (k.value bu))) s =
    subst (λ (ds : List Decision). DecisionsAreRead r ds s) (k.carried u i j ∙ ap (λ (b : Bool). telling (k.told u i j) (counted b (k.value bu))) (sym has)) reads in
    ap (λ (c : Coded Block). read_coded c r) (k.coded m i j ∙ ap (λ (t : ByDifference). coded_into (k.has bm) bm k.put (told_coded t)) (k.near m u i j meets.near))
    ∙ into_forward (k.has bm) bm bu k.put (k.value bu) (k.told u i j) r s led (k.short u i j meets.lawful) (k.is.short u.refs bu new) (sym (k.is.with_is bm bu) ∙ meets.is) none told

-- what a block carries of a unit is read
pub unit_forward : (part : ListKind) (m u : BlockTable) (i j : ℕ) (r s : Reading) → Meets part m u i j → IsLed r → DecisionsAreRead r (part_at part u i j) s
    → read_coded (unit_coded part m i j) r ≡ Ok (block_at u i j, s)
unit_forward parts.Modes m u i j r s k led reads =
    modes_forward m u i j r s k.lawful k.refs k.near led reads ∙ ap (λ (b : Block). let x : Result (Block × Reading) Cause = Ok (b, s) in x) k.is
unit_forward (parts.Across k) m u i j r s meets led reads = told_forward (parts.Across k) (across_tells k) m u i j r s meets led reads
unit_forward (parts.Down k) m u i j r s meets led reads = told_forward (parts.Down k) (down_tells k) m u i j r s meets led reads
unit_forward (parts.Dc c) m u i j r s meets led reads = told_forward (parts.Dc c) (dc_tells c) m u i j r s meets led reads
