-- Lists that tell a value of each unit: components of vectors and DC values are told alike.
use Rattle.std.proofs.Common.{◌≡◌, ℕ, ℤ, pos, Bool, true, false, not, ◌||◌, List, Option, refl, sym, ap, ap₂, ◌∙◌}
use Rattle.std.specs.Prelude.{option_map}
use Rattle.std.proofs.lemmas.Bool.{not-false, not-true}
use Rattle.dirac_common.specs.declared.faults.Cause.{Cause}
use Rattle.dirac_common.specs.declared.formats.Vector.{Vector}
use Rattle.dirac_common.specs.declared.faults.Cause.TheVariants.{VectorRange, DcRange}
use Rattle.dirac_arith.specs.Coded.{Coded}
use Rattle.dirac_arith.specs.Interval.{Decision}
use Rattle.dirac_arith.specs.declared.contexts.TheConstants.{DC_DIGITS, DC_FOLLOW, DC_SIGN, VECTOR_DIGITS, VECTOR_FOLLOW, VECTOR_SIGN}
use Rattle.dirac_vectors.specs.Neighbours.{IsShort}
use Rattle.dirac_vectors.specs.Predictions.{vector_of, dc_of}
use Rattle.dirac_block_table.specs.declared.block.Block.{Block}
use Rattle.dirac_common.specs.declared.formats.Component.{Component}
use Rattle.dirac_common.specs.declared.formats.Component.TheVariants as components
use Rattle.dirac_blocks.specs.declared.parts.ListKind.{ListKind}
use Rattle.dirac_blocks.specs.declared.parts.ListKind.TheVariants as parts
use Rattle.dirac_block_table.specs.declared.reference.Reference.{Reference}
use Rattle.dirac_block_table.specs.declared.reference.Reference.TheVariants as references
use Rattle.dirac_blocks.specs.Carried.{with_list_part}
use Rattle.dirac_blocks.specs.Decisions.{counted, less_prediction, predicted}
use Rattle.dirac_blocks.specs.Grammar.{value_coded, coded_into, unit_coded, uses, is_dc, with_across, with_down, with_dc}
use Rattle.dirac_blocks.specs.Parts.{vector_at, dc_at, part_at}
use Rattle.dirac_block_table.specs.Tables.{BlockTable, IsBlock, IsBlockTable, block_at}
use Rattle.dirac_blocks.specs.declared.parts.Axis.TheVariants as axes
use Rattle.dirac_blocks.proofs.UnitValues.{component_lawful, dc_lawful}
use Rattle.dirac_blocks.proofs.Nearby.{Near, vector_near, dc_near, vector_short, dc_short}

-- a value that is told by its difference: the contexts of that, the prediction, and the cause where the sum hasn't 16
-- bits
pub record ByDifference : Type 0 where
  pub follow : List ℕ
  pub bits : ℕ
  pub sign : ℕ
  pub prediction : ℤ
  pub range : Cause

-- a component of a vector
abbrev pub component_told : ℤ → ByDifference
component_told p = record { follow = VECTOR_FOLLOW; bits = VECTOR_DIGITS; sign = VECTOR_SIGN; prediction = p; range = VectorRange }

-- a DC value
abbrev pub dc_told : ℤ → ByDifference
dc_told p = record { follow = DC_FOLLOW; bits = DC_DIGITS; sign = DC_SIGN; prediction = p; range = DcRange }

-- the value that is told so
abbrev pub told_coded : ByDifference → Coded ℤ
told_coded v = value_coded v.range v.follow v.bits v.sign v.prediction

-- the decisions that tell a value, where there is one
abbrev pub telling : ByDifference → Option ℤ → List Decision
telling v o = less_prediction v.follow v.bits v.sign v.prediction o

-- what a block has as a value: whether it has it, which it is, and the block with another one
pub record IsValue (part : ListKind) (has : Block → Bool) (value : Block → ℤ) (put : Block → ℤ → Block) : Type 0 where
  pub has_put : (b : Block) (v : ℤ) → has (put b v) ≡ has b
  pub value_put : (b : Block) (v : ℤ) → value (put b v) ≡ v
  pub own : (b : Block) → put b (value b) ≡ b
  pub with_is : (b c : Block) → with_list_part part b c ≡ put b (value c)
  pub short : (refs : ℕ) (b : Block) → IsBlock refs b → IsShort (value b)
  pub alike : (b c : Block) → b.ref1 ≡ c.ref1 → b.ref2 ≡ c.ref2 → has b ≡ has c
  pub none : (refs : ℕ) (b : Block) → IsBlock refs b → has b ≡ false → value b ≡ pos 0
  pub lawful : (refs : ℕ) (b : Block) (v : ℤ) → IsBlock refs b → has b ≡ true → IsShort v → IsBlock refs (put b v)

-- a list that tells a value of each unit
pub record Tells (part : ListKind) : Type 0 where
  pub has : Block → Bool
  pub value : Block → ℤ
  pub put : Block → ℤ → Block
  pub told : BlockTable → ℕ → ℕ → ByDifference
  pub is : IsValue part has value put
  pub coded : (m : BlockTable) (i j : ℕ) → unit_coded part m i j ≡ coded_into (has (block_at m i j)) (block_at m i j) put (told_coded (told m i j))
  pub carried : (u : BlockTable) (i j : ℕ) → part_at part u i j ≡ telling (told u i j) (counted (has (block_at u i j)) (value (block_at u i j)))
  pub near : (m u : BlockTable) (i j : ℕ) → Near m u i j → told m i j ≡ told u i j
  pub short : (u : BlockTable) (i j : ℕ) → IsBlockTable u → IsShort (told u i j).prediction

-- blocks that differ in the value alone have it or don't alike
pub has_same : (part : ListKind) (k : Tells part) (b c : Block) → with_list_part part b c ≡ c → k.has b ≡ k.has c
has_same part k b c is = sym (k.is.has_put b (k.value c)) ∙ ap k.has (sym (k.is.with_is b c) ∙ is)

-- a block that hasn't the value is as another with the other's value
pub put_none : (part : ListKind) (k : Tells part) (refs : ℕ) (b c : Block) → IsBlock refs b → IsBlock refs c → k.has b ≡ k.has c → k.has b ≡ false → b ≡ with_list_part part b c
put_none part k refs b c h g has lacks =
    sym (k.is.own b) ∙ ap (λ (v : ℤ). k.put b v) (k.is.none refs b h lacks ∙ sym (k.is.none refs c g (sym has ∙ lacks))) ∙ sym (k.is.with_is b c)

-- the vector of a reference
abbrev pub vector_in : Reference → Block → Vector
vector_in references.First b = b.v1
vector_in references.Second b = b.v2

-- a DC value
abbrev pub dc_in : Component → Block → ℤ
dc_in components.Y b = b.dc_y
dc_in components.U b = b.dc_u
dc_in components.V b = b.dc_v

pub across_value : (k : Reference) → IsValue (parts.Across k) (uses k) (λ b. (vector_in k b).x) (with_across k)
across_value references.First =
    record {
      has_put = λ b v. refl;
      value_put = λ b v. refl;
      own = λ b. refl;
      with_is = λ b c. refl;
      short = λ refs b h. h.v1.x;
      alike = λ b c p q. p;
      none = λ refs b h e. ap (λ (v : Vector). v.x) (h.no_v1 e);
      lawful = λ refs b v h is short. component_lawful refs axes.Across references.First b v h is short;
    }
across_value references.Second =
    record {
      has_put = λ b v. refl;
      value_put = λ b v. refl;
      own = λ b. refl;
      with_is = λ b c. refl;
      short = λ refs b h. h.v2.x;
      alike = λ b c p q. q;
      none = λ refs b h e. ap (λ (v : Vector). v.x) (h.no_v2 e);
      lawful = λ refs b v h is short. component_lawful refs axes.Across references.Second b v h is short;
    }

pub down_value : (k : Reference) → IsValue (parts.Down k) (uses k) (λ b. (vector_in k b).y) (with_down k)
down_value references.First =
    record {
      has_put = λ b v. refl;
      value_put = λ b v. refl;
      own = λ b. refl;
      with_is = λ b c. refl;
      short = λ refs b h. h.v1.y;
      alike = λ b c p q. p;
      none = λ refs b h e. ap (λ (v : Vector). v.y) (h.no_v1 e);
      lawful = λ refs b v h is short. component_lawful refs axes.Down references.First b v h is short;
    }
down_value references.Second =
    record {
      has_put = λ b v. refl;
      value_put = λ b v. refl;
      own = λ b. refl;
      with_is = λ b c. refl;
      short = λ refs b h. h.v2.y;
      alike = λ b c p q. q;
      none = λ refs b h e. ap (λ (v : Vector). v.y) (h.no_v2 e);
      lawful = λ refs b v h is short. component_lawful refs axes.Down references.Second b v h is short;
    }

pub dc_value : (c : Component) → IsValue (parts.Dc c) is_dc (dc_in c) (with_dc c)
dc_value components.Y =
    record {
      has_put = λ b v. refl;
      value_put = λ b v. refl;
      own = λ b. refl;
      with_is = λ b c. refl;
      short = λ refs b h. h.dc_y;
      alike = λ b c p q. ap₂ (λ (x y : Bool). not (x || y)) p q;
      none = λ refs b h e. (h.no_dc (not-false (b.ref1 || b.ref2) e)).0;
      lawful = λ refs b v h is short. dc_lawful refs components.Y b v h (not-true (b.ref1 || b.ref2) is) short;
    }
dc_value components.U =
    record {
      has_put = λ b v. refl;
      value_put = λ b v. refl;
      own = λ b. refl;
      with_is = λ b c. refl;
      short = λ refs b h. h.dc_u;
      alike = λ b c p q. ap₂ (λ (x y : Bool). not (x || y)) p q;
      none = λ refs b h e. (h.no_dc (not-false (b.ref1 || b.ref2) e)).1;
      lawful = λ refs b v h is short. dc_lawful refs components.U b v h (not-true (b.ref1 || b.ref2) is) short;
    }
dc_value components.V =
    record {
      has_put = λ b v. refl;
      value_put = λ b v. refl;
      own = λ b. refl;
      with_is = λ b c. refl;
      short = λ refs b h. h.dc_v;
      alike = λ b c p q. ap₂ (λ (x y : Bool). not (x || y)) p q;
      none = λ refs b h e. (h.no_dc (not-false (b.ref1 || b.ref2) e)).2;
      lawful = λ refs b v h is short. dc_lawful refs components.V b v h (not-true (b.ref1 || b.ref2) is) short;
    }

pub counted_map : (h : Vector → ℤ) (b : Bool) (v : Vector) → option_map h (counted b v) ≡ counted b (h v)
counted_map h true v = refl
counted_map h false v = refl

-- a component of what counts
pub component_at : (k : Reference) (h : Vector → ℤ) (t : BlockTable) (i j : ℕ) → option_map h (vector_at k t i j) ≡ counted (uses k (block_at t i j)) (h (vector_in k (block_at t i j)))
component_at references.First h t i j = counted_map h (block_at t i j).ref1 (block_at t i j).v1
component_at references.Second h t i j = counted_map h (block_at t i j).ref2 (block_at t i j).v2

pub dc_is_at : (c : Component) (t : BlockTable) (i j : ℕ) → dc_at c t i j ≡ counted (is_dc (block_at t i j)) (dc_in c (block_at t i j))
dc_is_at components.Y t i j = refl
dc_is_at components.U t i j = refl
dc_is_at components.V t i j = refl

abbrev pub across_tells : (k : Reference) → Tells (parts.Across k)
across_tells k =
    let told : BlockTable → ℕ → ℕ → ByDifference = λ t i j. component_told (predicted vector_of (vector_at k t) i j).x in
    record {
      has = uses k;
      value = λ b. (vector_in k b).x;
      put = with_across k;
      told = told;
      is = across_value k;
      coded = λ m i j. refl;
      carried = λ u i j. ap (telling (told u i j)) (component_at k (λ v. v.x) u i j);
      near = λ m u i j n. ap (λ (v : Vector). component_told v.x) (vector_near k m u i j n);
      short = λ u i j inv. (vector_short k u i j inv).x;
    }

abbrev pub down_tells : (k : Reference) → Tells (parts.Down k)
down_tells k =
    let told : BlockTable → ℕ → ℕ → ByDifference = λ t i j. component_told (predicted vector_of (vector_at k t) i j).y in
    record {
      has = uses k;
      value = λ b. (vector_in k b).y;
      put = with_down k;
      told = told;
      is = down_value k;
      coded = λ m i j. refl;
      carried = λ u i j. ap (telling (told u i j)) (component_at k (λ v. v.y) u i j);
      near = λ m u i j n. ap (λ (v : Vector). component_told v.y) (vector_near k m u i j n);
      short = λ u i j inv. (vector_short k u i j inv).y;
    }

abbrev pub dc_tells : (c : Component) → Tells (parts.Dc c)
dc_tells c =
    let told : BlockTable → ℕ → ℕ → ByDifference = λ t i j. dc_told (predicted dc_of (dc_at c t) i j) in
    record {
      has = is_dc;
      value = dc_in c;
      put = with_dc c;
      told = told;
      is = dc_value c;
      coded = λ m i j. refl;
      carried = λ u i j. ap (telling (told u i j)) (dc_is_at c u i j);
      near = λ m u i j n. ap (λ (p : ℤ). dc_told p) (dc_near c m u i j n);
      short = λ u i j inv. dc_short c u i j inv;
    }

-- a part that is told twice is as told last
pub part_again : (part : ListKind) (a b c : Block) → with_list_part part (with_list_part part a b) c ≡ with_list_part part a c
part_again parts.Modes a b c = refl
part_again (parts.Across references.First) a b c = refl
part_again (parts.Across references.Second) a b c = refl
part_again (parts.Down references.First) a b c = refl
part_again (parts.Down references.Second) a b c = refl
part_again (parts.Dc components.Y) a b c = refl
part_again (parts.Dc components.U) a b c = refl
part_again (parts.Dc components.V) a b c = refl
