-- What is read is carried: each unit's part is one of the table that comes out, since later units change none before.
use Rattle.std.proofs.Common.{◌≡◌, ℕ, ℤ, pos, negsuc, ◌+ℤ◌, ◌-ℤ◌, inl, inr, Bool, true, false, not, List, [], ◌∷◌, Result, Ok, Err, refl, sym, ap, ap₂, ◌∙◌, arith, subst}
use Rattle.std.specs.Prelude.{◌≤ℤ◌, int_le, if◌then◌else◌}
use Rattle.std.proofs.lemmas.Bool.{cases_Bool, cases_eq, eq-eqb, ne_eqb, and_parts}
use Rattle.std.proofs.lemmas.Int.{ints}
use Rattle.dirac_common.specs.declared.faults.Cause.{Cause}
use Rattle.dirac_common.specs.Chain.{◌>>=◌}
use Rattle.dirac_arith.specs.Coded.{Coded, done, decide, read_coded, and_then}
use Rattle.dirac_arith.specs.Deciding.{decision_read, signed_read}
use Rattle.dirac_arith.specs.Interval.{Decision}
use Rattle.dirac_arith.specs.Reading.{Reading, DecisionsAreRead}
use Rattle.dirac_arith.specs.Spelling.{signed_spelling}
use Rattle.dirac_arith.proofs.Carrieds.{IsLed}
use Rattle.dirac_arith.proofs.CodedValues.{then_is_read}
use Rattle.dirac_arith.proofs.Led.{reads_nothing, led_more, decision_leads, signed_leads}
use Rattle.dirac_arith.proofs.Spellings.{reads_more}
use Rattle.dirac_vectors.specs.Neighbours.{IsShort}
use Rattle.dirac_vectors.specs.Predictions.{mode_of}
use Rattle.dirac_block_table.specs.declared.block.Block.{Block}
use Rattle.dirac_blocks.specs.declared.parts.ListKind.{ListKind}
use Rattle.dirac_blocks.specs.declared.parts.ListKind.TheVariants as parts
use Rattle.dirac_blocks.specs.Carried.{with_list_part}
use Rattle.dirac_blocks.specs.Decisions.{counted, differ, predicted, ref1_at, ref2_at}
use Rattle.dirac_blocks.specs.Grammar.{block_using, mode_coded, second_use, has_16_bits, value_from, coded_into, unit_coded}
use Rattle.dirac_blocks.specs.Parts.{part_at}
use Rattle.dirac_block_table.specs.Tables.{BlockTable, IsBlock, IsBlockTable, block_at}
use Rattle.dirac_blocks.proofs.Nearby.{Near, ref1_near, ref2_near, block_lawful, using_lawful}
use Rattle.dirac_blocks.proofs.Valued.{ByDifference, Tells, told_coded, telling, has_same, across_tells, down_tells, dc_tells}
use Rattle.dirac_blocks.proofs.Forwards.{differ_twice, second_part}

-- steps that led to an answer
pub record Passed {A B E : Type 0} (x : Result A E) (g : A → Result B E) (y : B) : Type 0 where
  pub value : A
  pub first : x ≡ Ok value
  pub next : g value ≡ Ok y

pub passed : {A B E : Type 0} (x : Result A E) (g : A → Result B E) (y : B) → (x >>= g) ≡ Ok y → Passed x g y
passed (Ok a) g y e = record { value = a; first = refl; next = e }
passed (Err c) g y e = absurd (apart c y e)
  where
    apart : {B E : Type 0} (c : E) (y : B) → (let x : Result B E = Err c in x ≡ Ok y) → ⊥
    apart c y e = cc

-- one answer
pub same_answer : {A : Type 0} (x y : A) → (let r : Result A Cause = Ok x in r ≡ Ok y) → x ≡ y
same_answer x y e = ap (or_else x) e
  where
    or_else : {A : Type 0} → A → Result A Cause → A
    or_else d (Ok x) = x
    or_else d (Err e) = d

-- what holds of where steps led
pub moved_to : (P : BlockTable → Reading → Type 0) {a b : BlockTable} {r s : Reading} → (let x : Result (BlockTable × Reading) Cause = Ok (a, r) in x ≡ Ok (b, s)) → P a r → P b s
moved_to P {a = a} {b = b} {r = r} {s = s} e here =
    subst (λ (x : BlockTable × Reading). P x.0 x.1) (same_answer (a, r) (b, s) e) here

pub short_from : (v : ℤ) → has_16_bits v ≡ true → IsShort v
short_from v e = record { least = low v e; most = high v e }
  where
    at_least : (a b : ℤ) → int_le a b ≡ true → a ≤ℤ b
    at_least a b e = grind (arith, ints)

    low : (v : ℤ) → has_16_bits v ≡ true → negsuc 32767 ≤ℤ v
    low v e = at_least (negsuc 32767) v (and_parts (int_le (negsuc 32767) v) (int_le v (pos 32767)) e).0

    high : (v : ℤ) → has_16_bits v ≡ true → v ≤ℤ pos 32767
    high v e = at_least v (pos 32767) (and_parts (int_le (negsuc 32767) v) (int_le v (pos 32767)) e).1

difference : (n p : ℤ) → (n +ℤ p) -ℤ p ≡ n
difference n p = omega (arith, ints)

-- a value that is read: its difference was carried, and it has 16 bits
pub record ValueCame (t : ByDifference) (v : ℤ) (r s : Reading) : Type 0 where
  pub short : IsShort v
  pub reads : DecisionsAreRead r (signed_spelling t.follow t.bits t.sign (v -ℤ t.prediction)) s

value_came : (t : ByDifference) (v : ℤ) (r s : Reading) → IsLed r → read_coded (told_coded t) r ≡ Ok (v, s) → ValueCame t v r s
value_came t v r s led e =
    let p = t.prediction in
    let q = passed (signed_read t.follow t.bits t.sign r) (λ z. read_coded (value_from t.range p z.0) z.1) (v, s) e in
    let n = q.value.0 in
    let mid = q.value.1 in
    let led_to = signed_leads r mid t.follow t.bits t.sign n led q.first in
    elim (cases_Bool (has_16_bits (n +ℤ p))) [
      | inl is ↦
          let told = rw is at q.next in
          let one = same_answer (n +ℤ p, mid) (v, s) told in
          let value : n +ℤ p ≡ v = ap (λ x. x.0) one in
          let place : mid ≡ s = ap (λ x. x.1) one in
          let n_is : n ≡ v -ℤ p = sym (difference n p) ∙ ap (λ (w : ℤ). w -ℤ p) value in
          record {
            short = subst IsShort value (short_from (n +ℤ p) is);
            reads = subst (λ (x : Reading). DecisionsAreRead r (signed_spelling t.follow t.bits t.sign (v -ℤ p)) x) place
                (subst (λ (w : ℤ). DecisionsAreRead r (signed_spelling t.follow t.bits t.sign w) mid) n_is led_to.1);
          }
      | inr is ↦ let told = rw is at q.next in absurd (bad t.range (v, s) told)
    ]
  where
    bad : {A : Type 0} (c : Cause) (x : A) → (let r : Result A Cause = Err c in r ≡ Ok x) → ⊥
    bad c x e = cc

-- a block with a value that is read into it, where it has one
pub record IntoCame (has : Bool) (refs : ℕ) (bm b : Block) (put : Block → ℤ → Block) (t : ByDifference) (r s : Reading) : Type 0 where
  pub value : ℤ
  pub is : b ≡ put bm value
  pub lawful : IsBlock refs b
  pub reads : DecisionsAreRead r (telling t (counted has value)) s

into_came : (has : Bool) (refs : ℕ) (bm b : Block) (put : Block → ℤ → Block) (w : ℤ) (t : ByDifference) (r s : Reading) → IsBlock refs bm → put bm w ≡ bm
    → ((v : ℤ) → has ≡ true → IsShort v → IsBlock refs (put bm v)) → IsLed r → read_coded (coded_into has bm put (told_coded t)) r ≡ Ok (b, s) → IntoCame has refs bm b put t r s
into_came true refs bm b put w t r s old own lawful led e =
    let q = passed (read_coded (told_coded t) r) (λ v. let x : Result (Block × Reading) Cause = Ok (put bm v.0, v.1) in x) (b, s) (sym (then_is_read (told_coded t) (λ v. done (put bm v)) r) ∙ e) in
    let v = q.value.0 in
    let one = same_answer (put bm v, q.value.1) (b, s) q.next in
    let came = value_came t v r q.value.1 led q.first in
    record {
      value = v;
      is = sym (ap (λ x. x.0) one);
      lawful = subst (IsBlock refs) (ap (λ x. x.0) one) (lawful v refl came.short);
      reads = subst (λ (x : Reading). DecisionsAreRead r (signed_spelling t.follow t.bits t.sign (v -ℤ t.prediction)) x) (ap (λ x. x.1) one) came.reads;
    }
into_came false refs bm b put w t r s old own lawful led e =
    let one = same_answer (bm, r) (b, s) e in
    record {
      value = w;
      is = sym (own ∙ ap (λ x. x.0) one);
      lawful = subst (IsBlock refs) (ap (λ x. x.0) one) old;
      reads = subst (λ (x : Reading). DecisionsAreRead r [] x) (ap (λ x. x.1) one) (reads_nothing r);
    }

-- the block of a unit that is read
pub record UnitCame (part : ListKind) (m : BlockTable) (i j : ℕ) (b : Block) (r s : Reading) : Type 0 where
  pub lawful : IsBlock m.refs b
  pub is : with_list_part part (block_at m i j) b ≡ b
  pub reads : (u : BlockTable) → u.refs ≡ m.refs → Near m u i j → block_at u i j ≡ b → DecisionsAreRead r (part_at part u i j) s

-- whether a unit uses reference 2, as it was read
record SecondCame (m : BlockTable) (i j : ℕ) (b : Bool) (r s : Reading) : Type 0 where
  single : m.refs ≡ 1 → b ≡ false
  reads : (u : BlockTable) → u.refs ≡ m.refs → Near m u i j → (block_at u i j).ref2 ≡ b → DecisionsAreRead r (second_part u i j) s

second_came : (m : BlockTable) (i j : ℕ) (b : Bool) (r s : Reading) → IsLed r → read_coded (second_use m i j) r ≡ Ok (b, s) → SecondCame m i j b r s
second_came m i j b r s led e =
    let p = predicted mode_of (ref2_at m) i j in
    let k : Bool × Reading → Result (Bool × Reading) Cause = λ bit. Ok (differ bit.0 p, bit.1) in
    let c : Bool → Coded Bool = λ bit. done (differ bit p) in
    let P : Bool → Type 0 = λ t. read_coded (if t then decide 26 c else done false) r ≡ Ok (b, s) in
    let Q : BlockTable → Bool → Bool → Type 0 = λ u t g. let d : Decision = (26, g) in DecisionsAreRead r (if t then d ∷ [] else []) s in
    elim (cases_eq m.refs 2) [
      | inl two ↦
          let q = passed (decision_read 26 r) k (b, s) (subst P (eq-eqb m.refs 2 two) e) in
          let g = q.value.0 in
          let d : Decision = (26, g) in
          let one = same_answer (differ g p, q.value.1) (b, s) q.next in
          let reads : DecisionsAreRead r (d ∷ []) s = subst (DecisionsAreRead r (d ∷ [])) (ap (λ x. x.1) one) (decision_leads r q.value.1 26 g led q.first) in
          record {
            single = λ one. absurd (omega arith);
            reads = λ u refs near here.
                let bit : differ (block_at u i j).ref2 (predicted mode_of (ref2_at u) i j) ≡ g =
                ap₂ differ (here ∙ sym (ap (λ x. x.0) one)) (sym (ref2_near m u i j near)) ∙ differ_twice g p in
                subst (λ (t : Bool). Q u t (differ (block_at u i j).ref2 (predicted mode_of (ref2_at u) i j))) (sym (eq-eqb u.refs 2 (refs ∙ two))) (subst (Q u true) (sym bit) reads);
          }
      | inr not ↦
          let one = same_answer (false, r) (b, s) (subst P (ne_eqb m.refs 2 not) e) in
          record {
            single = λ e. sym (ap (λ x. x.0) one);
            reads = λ u refs near here.
                subst (λ (t : Bool). Q u t (differ (block_at u i j).ref2 (predicted mode_of (ref2_at u) i j))) (sym (ne_eqb u.refs 2 (λ two. not (sym refs ∙ two)))) (subst (DecisionsAreRead r []) (ap (λ x. x.1) one) (reads_nothing r));
          }
    ]

-- the bits of a unit
modes_came : (m : BlockTable) (i j : ℕ) (b : Block) (r s : Reading) → IsLed r → read_coded (mode_coded m i j) r ≡ Ok (b, s) → UnitCame parts.Modes m i j b r s
modes_came m i j b r s led e =
    let p = predicted mode_of (ref1_at m) i j in
    let k : Bool → Bool → Coded Block = λ first second. done (block_using (differ first p) second) in
    let q = passed (decision_read 25 r) (λ first. read_coded (and_then (second_use m i j) (k first.0)) first.1) (b, s) e in
    let f = q.value.0 in
    let mid = q.value.1 in
    let t = passed (read_coded (second_use m i j) mid) (λ x. read_coded (k f x.0) x.1) (b, s) (sym (then_is_read (second_use m i j) (k f) mid) ∙ q.next) in
    let end = same_answer (block_using (differ f p) t.value.0, t.value.1) (b, s) t.next in
    let d : Decision = (25, f) in
    let first : DecisionsAreRead r (d ∷ []) mid = decision_leads r mid 25 f led q.first in
    let second = second_came m i j t.value.0 mid t.value.1 (led_more r mid (d ∷ []) led first) t.first in
    let block : b ≡ block_using (differ f p) t.value.0 = sym (ap (λ x. x.0) end) in
    record {
      lawful = subst (IsBlock m.refs) (sym block) (using_lawful m.refs (differ f p) t.value.0 second.single);
      is = subst (λ (c : Block). with_list_part parts.Modes (block_at m i j) c ≡ c) (sym block) refl;
      reads = λ u refs near here.
          let bit : differ (block_at u i j).ref1 (predicted mode_of (ref1_at u) i j) ≡ f =
          ap₂ differ (ap (λ (c : Block). c.ref1) (here ∙ block)) (sym (ref1_near m u i j near)) ∙ differ_twice f p in
          let rest = second.reads u refs near (ap (λ (c : Block). c.ref2) (here ∙ block)) in
          subst (λ (g : Bool). let d : Decision = (25, g) in DecisionsAreRead r (d ∷ second_part u i j) s) (sym bit)
          (subst (DecisionsAreRead r (d ∷ second_part u i j)) (ap (λ x. x.1) end) (reads_more r mid t.value.1 (d ∷ []) (second_part u i j) first rest));
    }

-- a value of a unit
told_came : (part : ListKind) (k : Tells part) (m : BlockTable) (i j : ℕ) (b : Block) (r s : Reading) → IsBlockTable m → IsLed r → read_coded (unit_coded part m i j) r ≡ Ok (b, s) → UnitCame part m i j b r s
told_came part k m i j b r s inv led e =
    let bm = block_at m i j in
    let old = block_lawful m i j inv in
    let c = into_came (k.has bm) m.refs bm b k.put (k.value bm) (k.told m i j) r s old (k.is.own bm) (λ v has short. k.is.lawful m.refs bm v old has short) led (ap (λ (c : Coded Block). read_coded c r) (sym (k.coded m i j)) ∙ e) in
    let value : k.value b ≡ c.value = ap k.value c.is ∙ k.is.value_put bm c.value in
    let is : with_list_part part bm b ≡ b = k.is.with_is bm b ∙ ap (λ (v : ℤ). k.put bm v) value ∙ sym c.is in
    record {
      lawful = c.lawful;
      is = is;
      reads = λ u refs near here.
          let counts = ap₂ (λ (x : Bool) (v : ℤ). counted x v) (has_same part k bm b is ∙ ap k.has (sym here)) (sym value ∙ ap k.value (sym here)) in
          subst (λ (ds : List Decision). DecisionsAreRead r ds s) (ap₂ telling (k.near m u i j near) counts ∙ sym (k.carried u i j)) c.reads;
    }

-- what is read of a unit is carried
pub unit_came : (part : ListKind) (m : BlockTable) (i j : ℕ) (b : Block) (r s : Reading) → IsBlockTable m → IsLed r → read_coded (unit_coded part m i j) r ≡ Ok (b, s) → UnitCame part m i j b r s
unit_came parts.Modes m i j b r s inv led e = modes_came m i j b r s led e
unit_came (parts.Across k) m i j b r s inv led e = told_came (parts.Across k) (across_tells k) m i j b r s inv led e
unit_came (parts.Down k) m i j b r s inv led e = told_came (parts.Down k) (down_tells k) m i j b r s inv led e
unit_came (parts.Dc c) m i j b r s inv led e = told_came (parts.Dc c) (dc_tells c) m i j b r s inv led e
