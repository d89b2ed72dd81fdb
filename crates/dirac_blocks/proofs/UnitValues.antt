-- What is read of a unit.
use Rattle.std.proofs.Common.{arith, ◌≡◌, ℕ, ℤ, ◌-◌, ◌^◌, ◌<◌, ◌+ℤ◌, ◌-ℤ◌, of_z, to_z, w32, w64, Bool, true, false, ◌||◌, not, List, [], ◌∷◌, Option, Some, None, Result, Ok, Err, refl, sym, ap, ap₂, ◌∙◌, subst}
use Rattle.std.specs.Prelude.{if◌then◌else◌, nat_abs}
use Rattle.std.specs.Int.RustNames.{FitsSigned}
use Rattle.std.proofs.lemmas.Bool.{both_ways, eq-eqb, ne_eqb}
use Rattle.std.proofs.lemmas.Int.{ints, to_z-of_z}
use Rattle.dirac_common.specs.declared.faults.Cause.{Cause}
use Rattle.dirac_arith.specs.Coded.{Coded, decide, done, refuse, read_coded}
use Rattle.dirac_arith.specs.declared.contexts.TheConstants.{REFERENCE_1, REFERENCE_2}
use Rattle.dirac_arith.specs.Deciding.{decision_read, signed_read}
use Rattle.dirac_arith.proofs.CodedValues.{then_is_read}
use Rattle.dirac_arith.specs.Interval.{Interval, narrowed, narrowed_by}
use Rattle.dirac_arith.specs.Reading.{Reading}
use Rattle.dirac_arith.specs.Spelling.{signed_spelling}
use Rattle.dirac_vectors.proofs.Means.{passed}
use Rattle.dirac_vectors.specs.Neighbours.{IsShort}
use Rattle.dirac_block_table.specs.declared.block.Block.{Block}
use Rattle.dirac_block_table.proofs.Empty.{grey_lawful}
use Rattle.dirac_common.specs.declared.formats.Component.{Component}
use Rattle.dirac_common.specs.declared.formats.Component.TheVariants as components
use Rattle.dirac_block_table.specs.declared.reference.Reference.{Reference}
use Rattle.dirac_block_table.specs.declared.reference.Reference.TheVariants as references
use Rattle.dirac_vectors.specs.Predictions.{mode_of, vector_of}
use Rattle.dirac_blocks.specs.declared.parts.Axis.{Axis}
use Rattle.dirac_blocks.specs.declared.parts.Axis.TheVariants as axes
use Rattle.dirac_blocks.specs.Decisions.{differ, less_prediction, mode_part, predicted, ref1_at, ref2_at, vector_part}
use Rattle.dirac_blocks.specs.Parts.{component_list, component_along, part_at, vector_at}
use Rattle.dirac_blocks.specs.Grammar.{block_using, coded_into, component_coded, is_dc, has_16_bits, mode_coded, second_use, unit_coded, uses, value_coded, with_component, with_dc}
use Rattle.dirac_block_table.specs.Tables.{BlockTable, IsBlock, block_at}

-- a value that has 16 bits is found
pub value_found : (cause : Cause) (follow : List ℕ) (bits sign : ℕ) (prediction number v : ℤ) (old new : Reading)
    → signed_read follow bits sign old ≡ Ok (number, new) → v ≡ number +ℤ prediction → has_16_bits (number +ℤ prediction) ≡ true
    → read_coded (value_coded cause follow bits sign prediction) old ≡ Ok (v, new)
value_found cause follow bits sign prediction number v old new here is short =
    let P : Bool → Type 0 = λ b. read_coded (if b then done (number +ℤ prediction) else refuse cause) new ≡ Ok (v, new) in
    rw here (subst P (sym short) (ap (λ (w : ℤ). let x : Result (ℤ × Reading) Cause = Ok (w, new) in x) (sym is)))

pub value_refused : (cause : Cause) (follow : List ℕ) (bits sign : ℕ) (prediction number : ℤ) (old new : Reading)
    → signed_read follow bits sign old ≡ Ok (number, new) → has_16_bits (number +ℤ prediction) ≡ false
    → read_coded (value_coded cause follow bits sign prediction) old ≡ Err cause
value_refused cause follow bits sign prediction number old new here long =
    let P : Bool → Type 0 = λ b. read_coded (if b then done (number +ℤ prediction) else refuse cause) new ≡ Err cause in
    rw here (subst P (sym long) refl)

-- a block's value is read where the block has it
pub into_found : (has : Bool) (b : Block) (put : Block → ℤ → Block) (value : Coded ℤ) (old new : Reading) (v : ℤ)
    → has ≡ true → read_coded value old ≡ Ok (v, new) → read_coded (coded_into has b put value) old ≡ Ok (put b v, new)
into_found true b put value old new v is found = then_is_read value (λ w. done (put b w)) old ∙ rw found refl
into_found false b put value old new v is found = absurd (both_ways false refl is)

pub into_refused : (has : Bool) (b : Block) (put : Block → ℤ → Block) (value : Coded ℤ) (old : Reading) (e : Cause)
    → has ≡ true → read_coded value old ≡ Err e → read_coded (coded_into has b put value) old ≡ Err e
into_refused true b put value old e is shut = then_is_read value (λ w. done (put b w)) old ∙ rw shut refl
into_refused false b put value old e is shut = absurd (both_ways false refl is)

pub component_lawful : (refs : ℕ) (a : Axis) (k : Reference) (b : Block) (v : ℤ) → IsBlock refs b → uses k b ≡ true → IsShort v → IsBlock refs (with_component a k b v)
component_lawful refs axes.Across references.First b v h is short =
    record { second = h.second; v1 = record { x = short; y = h.v1.y }; v2 = h.v2; dc_y = h.dc_y; dc_u = h.dc_u; dc_v = h.dc_v; no_v1 = λ e. absurd (both_ways b.ref1 e is); no_v2 = h.no_v2; no_dc = h.no_dc }
component_lawful refs axes.Across references.Second b v h is short =
    record { second = h.second; v1 = h.v1; v2 = record { x = short; y = h.v2.y }; dc_y = h.dc_y; dc_u = h.dc_u; dc_v = h.dc_v; no_v1 = h.no_v1; no_v2 = λ e. absurd (both_ways b.ref2 e is); no_dc = h.no_dc }
component_lawful refs axes.Down references.First b v h is short =
    record { second = h.second; v1 = record { x = h.v1.x; y = short }; v2 = h.v2; dc_y = h.dc_y; dc_u = h.dc_u; dc_v = h.dc_v; no_v1 = λ e. absurd (both_ways b.ref1 e is); no_v2 = h.no_v2; no_dc = h.no_dc }
component_lawful refs axes.Down references.Second b v h is short =
    record { second = h.second; v1 = h.v1; v2 = record { x = h.v2.x; y = short }; dc_y = h.dc_y; dc_u = h.dc_u; dc_v = h.dc_v; no_v1 = h.no_v1; no_v2 = λ e. absurd (both_ways b.ref2 e is); no_dc = h.no_dc }

-- one rule for both components of a vector
pub component_is : (a : Axis) (k : Reference) (t : BlockTable) (i j : ℕ) → unit_coded (component_list a k) t i j
    ≡ coded_into (uses k (block_at t i j)) (block_at t i j) (with_component a k) (component_coded (component_along a (predicted vector_of (vector_at k t) i j)))
component_is axes.Across k t i j = refl
component_is axes.Down k t i j = refl

pub component_told : (a : Axis) (k : Reference) (t : BlockTable) (i j : ℕ) → part_at (component_list a k) t i j ≡ vector_part (vector_at k t) (component_along a) i j
component_told axes.Across k t i j = refl
component_told axes.Down k t i j = refl

pub dc_lawful : (refs : ℕ) (c : Component) (b : Block) (v : ℤ) → IsBlock refs b → (b.ref1 || b.ref2) ≡ false → IsShort v → IsBlock refs (with_dc c b v)
dc_lawful refs components.Y b v h is short =
    record { second = h.second; v1 = h.v1; v2 = h.v2; dc_y = short; dc_u = h.dc_u; dc_v = h.dc_v; no_v1 = h.no_v1; no_v2 = h.no_v2; no_dc = λ e. absurd (both_ways (b.ref1 || b.ref2) is e) }
dc_lawful refs components.U b v h is short =
    record { second = h.second; v1 = h.v1; v2 = h.v2; dc_y = h.dc_y; dc_u = short; dc_v = h.dc_v; no_v1 = h.no_v1; no_v2 = h.no_v2; no_dc = λ e. absurd (both_ways (b.ref1 || b.ref2) is e) }
dc_lawful refs components.V b v h is short =
    record { second = h.second; v1 = h.v1; v2 = h.v2; dc_y = h.dc_y; dc_u = h.dc_u; dc_v = short; no_v1 = h.no_v1; no_v2 = h.no_v2; no_dc = λ e. absurd (both_ways (b.ref1 || b.ref2) is e) }

pub is_dc_from : (b : Block) → (b.ref1 || b.ref2) ≡ false → is_dc b ≡ true
is_dc_from b e = ap not e

-- a block that hasn't the value stays
pub into_none : (has : Bool) (b : Block) (put : Block → ℤ → Block) (value : Coded ℤ) (old : Reading) → has ≡ false → read_coded (coded_into has b put value) old ≡ Ok (b, old)
into_none true b put value old is = absurd (both_ways true is refl)
into_none false b put value old is = refl

-- a number and a prediction have 64 bits together
pub sum_fits : (a b : ℤ) → nat_abs a < 2 ^ 39 - 1 → IsShort b → FitsSigned w64 (a +ℤ b)
sum_fits a b small short = omega (arith, ints)

-- a value of 16 bits has 32
pub short_fits : (v : ℤ) → IsShort v → FitsSigned w32 v
short_fits v short = omega (arith, ints)

-- the difference of two values of 16 bits has 64, and can be spelt
pub difference_fits : (v p : ℤ) → IsShort v → IsShort p → FitsSigned w64 (v -ℤ p)
difference_fits v p h k = omega (arith, ints)

-- what is stored in 64 bits stays
pub number_passed : (n : ℤ) → nat_abs n < 2 ^ 39 - 1 → to_z w64 (of_z w64 n) ≡ n
number_passed n small = to_z-of_z w64 n (omega (arith, ints))

pub widened : (x v : ℤ) → x ≡ to_z w32 (of_z w32 v) → IsShort v → to_z w64 (of_z w64 x) ≡ v
widened x v is short = ap (λ (z : ℤ). to_z w64 (of_z w64 z)) (is ∙ passed v short) ∙ to_z-of_z w64 v (omega (arith, ints))

pub sum_passed : (n x v : ℤ) → nat_abs n < 2 ^ 39 - 1 → x ≡ to_z w32 (of_z w32 v) → IsShort v → to_z w64 (of_z w64 (to_z w64 (of_z w64 n) +ℤ to_z w64 (of_z w64 x))) ≡ n +ℤ v
sum_passed n x v small is short = rw (number_passed n small, widened x v is short) (to_z-of_z w64 (n +ℤ v) (sum_fits n v small short))

pub difference_passed : (x y v p : ℤ) → x ≡ to_z w32 (of_z w32 v) → y ≡ to_z w32 (of_z w32 p) → IsShort v → IsShort p → to_z w64 (of_z w64 (to_z w64 (of_z w64 x) -ℤ to_z w64 (of_z w64 y))) ≡ v -ℤ p
difference_passed x y v p a b h k = rw (widened x v a h, widened y p b k) (to_z-of_z w64 (v -ℤ p) (difference_fits v p h k))

pub short_difference : (v p : ℤ) → IsShort v → IsShort p → nat_abs (v -ℤ p) < 2 ^ 39 - 1
short_difference v p h k = let a = h.least in let b = h.most in let c = k.least in let d = k.most in omega (arith, ints)

-- what is written of a value, where there is one
pub none_told : (follow : List ℕ) (bits sign : ℕ) (p : ℤ) (o : Option ℤ) (s : Interval) → o ≡ None → s ≡ narrowed_by s (less_prediction follow bits sign p o)
none_told follow bits sign p o s none = rw none refl

pub some_told : (follow : List ℕ) (bits sign : ℕ) (p v : ℤ) (o : Option ℤ) → o ≡ Some v → signed_spelling follow bits sign (v -ℤ p) ≡ less_prediction follow bits sign p o
some_told follow bits sign p v o some = rw some refl

-- which references a unit uses
pub mode_found : (t : BlockTable) (i j : ℕ) (bit second : Bool) (old mid new : Reading) → decision_read REFERENCE_1 old ≡ Ok (bit, mid) → read_coded (second_use t i j) mid ≡ Ok (second, new)
    → read_coded (mode_coded t i j) old ≡ Ok (block_using (differ bit (predicted mode_of (ref1_at t) i j)) second, new)
mode_found t i j bit second old mid new one two =
    rw one (then_is_read (second_use t i j) (λ s. done (block_using (differ bit (predicted mode_of (ref1_at t) i j)) s)) mid ∙ rw two refl)

pub mode_stops : (t : BlockTable) (i j : ℕ) (bit : Bool) (old mid : Reading) (e : Cause) → decision_read REFERENCE_1 old ≡ Ok (bit, mid) → read_coded (second_use t i j) mid ≡ Err e → read_coded (mode_coded t i j) old ≡ Err e
mode_stops t i j bit old mid e one two =
    rw one (then_is_read (second_use t i j) (λ s. done (block_using (differ bit (predicted mode_of (ref1_at t) i j)) s)) mid ∙ rw two refl)

pub mode_refused : (t : BlockTable) (i j : ℕ) (old : Reading) (e : Cause) → decision_read REFERENCE_1 old ≡ Err e → read_coded (mode_coded t i j) old ≡ Err e
mode_refused t i j old e one = rw one refl

-- whether a unit uses reference 2
pub second_absent : (t : BlockTable) (i j : ℕ) (r : Reading) → (t.refs ≡ 2 → ⊥) → read_coded (second_use t i j) r ≡ Ok (false, r)
second_absent t i j r one = rw (ne_eqb t.refs 2 one) refl

pub second_found : (t : BlockTable) (i j : ℕ) (bit second : Bool) (old new : Reading) → t.refs ≡ 2 → second ≡ differ bit (predicted mode_of (ref2_at t) i j) → decision_read REFERENCE_2 old ≡ Ok (bit, new)
    → read_coded (second_use t i j) old ≡ Ok (second, new)
second_found t i j bit second old new two is found =
    let P : Bool → Type 0 = λ b. read_coded (if b then decide REFERENCE_2 (λ x. done (differ x (predicted mode_of (ref2_at t) i j))) else done false) old ≡ Ok (second, new) in
    subst P (sym (eq-eqb t.refs 2 two)) (rw found (ap (λ (b : Bool). let x : Result (Bool × Reading) Cause = Ok (b, new) in x) (sym is)))

pub second_refused : (t : BlockTable) (i j : ℕ) (old : Reading) (e : Cause) → t.refs ≡ 2 → decision_read REFERENCE_2 old ≡ Err e → read_coded (second_use t i j) old ≡ Err e
second_refused t i j old e two shut =
    let P : Bool → Type 0 = λ b. read_coded (if b then decide REFERENCE_2 (λ x. done (differ x (predicted mode_of (ref2_at t) i j))) else done false) old ≡ Err e in
    subst P (sym (eq-eqb t.refs 2 two)) (rw shut refl)

-- which references a unit uses, as it is written
pub first_told : (t : BlockTable) (i j : ℕ) (bit : Bool) (old new : Interval) → (t.refs ≡ 2 → ⊥) → bit ≡ differ (block_at t i j).ref1 (predicted mode_of (ref1_at t) i j) → new ≡ narrowed old (REFERENCE_1, bit)
    → new ≡ narrowed_by old (mode_part t i j)
first_told t i j bit old new one is written =
    let P : Bool → Type 0 = λ b.
    new ≡ narrowed_by (narrowed old (REFERENCE_1, differ (block_at t i j).ref1 (predicted mode_of (ref1_at t) i j))) (if b then (REFERENCE_2, differ (block_at t i j).ref2 (predicted mode_of (ref2_at t) i j)) ∷ [] else []) in
    subst P (sym (ne_eqb t.refs 2 one)) (written ∙ ap (λ (b : Bool). narrowed old (REFERENCE_1, b)) is)

pub both_told : (t : BlockTable) (i j : ℕ) (bit bit' : Bool) (old mid new : Interval) → t.refs ≡ 2
    → bit ≡ differ (block_at t i j).ref1 (predicted mode_of (ref1_at t) i j) → bit' ≡ differ (block_at t i j).ref2 (predicted mode_of (ref2_at t) i j)
    → mid ≡ narrowed old (REFERENCE_1, bit) → new ≡ narrowed mid (REFERENCE_2, bit') → new ≡ narrowed_by old (mode_part t i j)
both_told t i j bit bit' old mid new two is is' first second =
    let P : Bool → Type 0 = λ b.
    new ≡ narrowed_by (narrowed old (REFERENCE_1, differ (block_at t i j).ref1 (predicted mode_of (ref1_at t) i j))) (if b then (REFERENCE_2, differ (block_at t i j).ref2 (predicted mode_of (ref2_at t) i j)) ∷ [] else []) in
    subst P (sym (eq-eqb t.refs 2 two))
    (second ∙ ap₂ (λ (s : Interval) (b : Bool). narrowed s (REFERENCE_2, b)) (first ∙ ap (λ (b : Bool). narrowed old (REFERENCE_1, b)) is) is')

-- a block that uses these references is lawful, where the second one is used of two alone
pub mode_lawful : (refs : ℕ) (first second : Bool) → (refs ≡ 1 → second ≡ false) → IsBlock refs (block_using first second)
mode_lawful refs first second single =
    let g = grey_lawful refs in
    record { second = single; v1 = g.v1; v2 = g.v2; dc_y = g.dc_y; dc_u = g.dc_u; dc_v = g.dc_v; no_v1 = λ e. refl; no_v2 = λ e. refl; no_dc = λ e. (refl, refl, refl) }
