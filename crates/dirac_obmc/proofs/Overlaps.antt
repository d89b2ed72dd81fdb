-- What the rules of block lengths and separations say of those of a plane.
use Rattle.std.proofs.Common.{◌≡◌, ℕ, zero, suc, ◌-◌, ◌*◌, ◌/◌, ◌%◌, ◌≤◌, ◌⊎◌, Bool, ◌&&◌, arith, inl, inr, refl, ap, sym, subst}
use Rattle.std.specs.Prelude.{IsTrue}
use Rattle.std.proofs.lemmas.Bool.{and_parts}
use Rattle.dirac_common.specs.declared.formats.Chroma.{Chroma}
use Rattle.dirac_common.specs.declared.formats.Chroma.TheVariants.{C444, C422, C420}
use Rattle.dirac_common.specs.Ratios.{ratio_across, ratio_down}
use Rattle.dirac_parameters.specs.Grids.{is_divisible, is_overlap}
use Rattle.dirac_common.specs.declared.formats.Component.{Component}
use Rattle.dirac_common.specs.declared.formats.Component.TheVariants as component
use Rattle.dirac_block_table.specs.Tables.{IsBlockTable}
use Rattle.dirac_obmc.specs.Compensation.{Compensation, IsCompensation, across_ratio, down_ratio, ratio_of, x_length, x_separation, y_length, y_separation}
use Rattle.dirac_obmc.specs.Directions.{IsAcross, IsDown}
use Rattle.dirac_obmc.specs.Weights.{IsOverlap}
use Rattle.std.proofs.lemmas.Bool.Decides.{nat_tests}

-- lengths and separations that may be divided by a ratio
record IsDivisible (ratio length separation : ℕ) : Type 0 where
  some : 1 ≤ separation
  least : separation ≤ length
  most : length ≤ 2 * separation
  small : length ≤ 64
  lengths : length % ratio ≡ 0
  separations : separation % ratio ≡ 0
  even : (length - separation) % (2 * ratio) ≡ 0

divisible : (ratio length separation : ℕ) → IsTrue (is_overlap length separation) → IsTrue (is_divisible ratio length separation) → IsDivisible ratio length separation
divisible ratio length separation o d = record {
  some = grind (arith, nat_tests);
  least = grind (arith, nat_tests);
  most = grind (arith, nat_tests);
  small = grind (arith, nat_tests);
  lengths = grind (arith, nat_tests);
  separations = grind (arith, nat_tests);
  even = grind (arith, nat_tests);
}

whole : (ratio length separation : ℕ) → 1 ≤ ratio → ratio ≤ 2 → IsDivisible ratio length separation → IsOverlap (length / 1) (separation / 1)
whole ratio length separation some few d = record {
  some = omega (arith, d.some);
  least = omega (arith, d.least);
  most = omega (arith, d.most);
  even = elim (one_or_two ratio some few) [
    | inl e ↦ omega (arith, even_of 2 (length - separation) (ap (λ r. 2 * r) e) d.even)
    | inr e ↦ omega (arith, even_of 4 (length - separation) (ap (λ r. 2 * r) e) d.even)
  ];
  small = omega (arith, d.small);
} where
  one_or_two : (n : ℕ) → 1 ≤ n → n ≤ 2 → (n ≡ 1) ⊎ (n ≡ 2)
  one_or_two n l h = grind arith

  even_of : (k n : ℕ) → 2 * ratio ≡ k → n % (2 * ratio) ≡ 0 → n % k ≡ 0
  even_of k n e h = rw (← e) h

divided : (ratio length separation : ℕ) → 1 ≤ ratio → ratio ≤ 2 → IsDivisible ratio length separation → IsOverlap (length / ratio) (separation / ratio)
divided zero length separation some few d = absurd (omega arith)
divided (suc zero) length separation some few d = record {
  some = omega (arith, d.some);
  least = omega (arith, d.least);
  most = omega (arith, d.most);
  even = omega (arith, d.even);
  small = omega (arith, d.small);
}
divided (suc (suc zero)) length separation some few d = record {
  some = omega (arith, d.some, d.separations);
  least = omega (arith, d.least);
  most = omega (arith, d.most, d.lengths, d.separations);
  even = omega (arith, d.even, d.lengths, d.separations);
  small = omega (arith, d.small);
}
divided (suc (suc (suc ratio))) length separation some few d = absurd (omega arith)

-- in luma and in chroma
of_part : (p : Component) (ratio length separation : ℕ) → 1 ≤ ratio → ratio ≤ 2 → IsDivisible ratio length separation → IsOverlap (length / ratio_of p ratio) (separation / ratio_of p ratio)
of_part component.Y ratio length separation some few d = whole ratio length separation some few d
of_part component.U ratio length separation some few d = divided ratio length separation some few d
of_part component.V ratio length separation some few d = divided ratio length separation some few d

some_across : (c : Chroma) → 1 ≤ ratio_across c
some_across C444 = omega arith
some_across C422 = omega arith
some_across C420 = omega arith

few_across : (c : Chroma) → ratio_across c ≤ 2
few_across C444 = omega arith
few_across C422 = omega arith
few_across C420 = omega arith

some_down : (c : Chroma) → 1 ≤ ratio_down c
some_down C444 = omega arith
some_down C422 = omega arith
some_down C420 = omega arith

few_down : (c : Chroma) → ratio_down c ≤ 2
few_down C444 = omega arith
few_down C422 = omega arith
few_down C420 = omega arith

-- the four rules of a grid
record AreRules (a b c d : Bool) : Type 0 where
  first : IsTrue a
  second : IsTrue b
  third : IsTrue c
  fourth : IsTrue d

rules_of : (a b c d : Bool) → IsTrue (a && b && c && d) → AreRules a b c d
rules_of a b c d h =
    let r = and_parts (a && b && c) d h in
    let q = and_parts (a && b) c r.0 in
    let p = and_parts a b q.0 in
    record { first = p.0; second = p.1; third = q.1; fourth = r.1 }

grid_rules : (m : Compensation) → IsCompensation m → AreRules (is_overlap m.prediction.grid.xblen m.prediction.grid.xbsep) (is_divisible (ratio_across m.chroma) m.prediction.grid.xblen m.prediction.grid.xbsep)
    (is_overlap m.prediction.grid.yblen m.prediction.grid.ybsep) (is_divisible (ratio_down m.chroma) m.prediction.grid.yblen m.prediction.grid.ybsep)
grid_rules m h = rules_of _ _ _ _ h.grid

pub overlap_across : (m : Compensation) → IsCompensation m → IsOverlap (x_length m) (x_separation m)
overlap_across m h =
    let g = grid_rules m h in
    of_part m.component (ratio_across m.chroma) m.prediction.grid.xblen m.prediction.grid.xbsep (some_across m.chroma) (few_across m.chroma)
    (divisible (ratio_across m.chroma) m.prediction.grid.xblen m.prediction.grid.xbsep g.first g.second)

pub overlap_down : (m : Compensation) → IsCompensation m → IsOverlap (y_length m) (y_separation m)
overlap_down m h =
    let g = grid_rules m h in
    of_part m.component (ratio_down m.chroma) m.prediction.grid.yblen m.prediction.grid.ybsep (some_down m.chroma) (few_down m.chroma)
    (divisible (ratio_down m.chroma) m.prediction.grid.yblen m.prediction.grid.ybsep g.third g.fourth)

-- the blocks of a plane along its directions
pub across_is : (m : Compensation) (count ratio : ℕ) → IsCompensation m → count ≡ m.blocks.across → IsBlockTable m.blocks → ratio ≡ across_ratio m
    → IsAcross m (record { count = 4 * count; length = m.prediction.grid.xblen / ratio; separation = m.prediction.grid.xbsep / ratio })
across_is m count ratio h ec table er =
    subst (λ (r : ℕ). IsAcross m (record { count = 4 * count; length = m.prediction.grid.xblen / r; separation = m.prediction.grid.xbsep / r })) (sym er)
    (subst (λ (n : ℕ). IsAcross m (record { count = 4 * n; length = x_length m; separation = x_separation m })) (sym ec)
    (record { count_is = refl; length_is = refl; separation_is = refl; overlap = overlap_across m h; covers = h.covers_across; few = omega (arith, table.size.most_across) }))

pub down_is : (m : Compensation) (count ratio : ℕ) → IsCompensation m → count ≡ m.blocks.down → IsBlockTable m.blocks → ratio ≡ down_ratio m
    → IsDown m (record { count = 4 * count; length = m.prediction.grid.yblen / ratio; separation = m.prediction.grid.ybsep / ratio })
down_is m count ratio h ec table er =
    subst (λ (r : ℕ). IsDown m (record { count = 4 * count; length = m.prediction.grid.yblen / r; separation = m.prediction.grid.ybsep / r })) (sym er)
    (subst (λ (n : ℕ). IsDown m (record { count = 4 * n; length = y_length m; separation = y_separation m })) (sym ec)
    (record { count_is = refl; length_is = refl; separation_is = refl; overlap = overlap_down m h; covers = h.covers_down; few = omega (arith, table.size.most_down) }))
