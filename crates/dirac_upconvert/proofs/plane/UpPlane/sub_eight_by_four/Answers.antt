use Rattle.std.proofs.Common.{◌≡◌, ◌+ℤ◌, ◌*◌, ◌+◌, ◌^◌, ◌<◌, ◌/◌, ◌%◌, ℕ, slice_index_or, pos, arith, refl, ap, ap₂, sym, subst, ◌∙◌}
use Rattle.std.specs.Int.{w64}
use Rattle.std.proofs.lemmas.Int.{to_z-of_z}
use Rattle.dirac_common.specs.Table.{Table}
use Rattle.dirac_upconvert.specs.Positions.{sample_from}
use Rattle.dirac_upconvert.specs.SubSamples.{Up, sub_sample}
use Rattle.dirac_upconvert.specs.WholeSamples.{all_in}
use Rattle.dirac_upconvert.proofs.plane.UpPlane.sub_eight_by_four.Goals as goal

place_of_eight : (j k : ℕ) → k < 8 → (8 * j + k) % 8 ≡ k
place_of_eight j k l = omega (arith, l)

row_of_eight : (j k : ℕ) → k < 8 → (8 * j + k) / 8 ≡ j
row_of_eight j k l = omega (arith, l)

pub returns-in-Alone : goal.returns-in-Alone
returns-in-Alone c =
    let up : Up = record { width = c.self.inside.width; height = c.self.inside.height; table = all_in c.self.inside.samples } in
    let out = c.rows_alone.new.out in
    record {
      value =
          subst (λ (u : Up). (j k : ℕ) → j < 4 → k < 8 → slice_index_or out (8 * j + k) (pos 0) ≡ sub_sample u c.args.precision (c.args.x +ℤ pos (2 ^ c.args.precision * k)) (c.args.y +ℤ pos (2 ^ c.args.precision * j))) c.self.view_is
          (λ j k a b. c.rows_alone.ensures up (ap all_in c.in-Alone.is) (8 * j + k) (omega (arith, a, b, c.rows_alone.auto.out, c.requires.four_rows_of_eight)) ∙ rw (to_z-of_z w64 c.args.x c.ranges.x, to_z-of_z w64 c.args.y c.ranges.y) refl
          ∙ ap₂ (λ (p q : ℕ). sub_sample up c.args.precision (c.args.x +ℤ pos (2 ^ c.args.precision * p)) (c.args.y +ℤ pos (2 ^ c.args.precision * q))) (place_of_eight j k b) (row_of_eight j k b));
    }

pub returns-in-Doubled : goal.returns-in-Doubled
returns-in-Doubled c =
    let up : Up = record { width = c.self.inside.width; height = c.self.inside.height; table = all_in c.self.inside.samples } in
    let out = c.eight_by_four.new.out in
    record {
      value =
          subst (λ (u : Up). (j k : ℕ) → j < 4 → k < 8 → slice_index_or out (8 * j + k) (pos 0) ≡ sub_sample u c.args.precision (c.args.x +ℤ pos (2 ^ c.args.precision * k)) (c.args.y +ℤ pos (2 ^ c.args.precision * j))) c.self.view_is
          (λ j k a b. c.eight_by_four.ensures j k a b ∙ ap (λ (t : Table). sample_from t c.position_of.result k j) (sym (ap all_in c.in-Doubled.is))
          ∙ c.position_of.ensures.samples up j k ∙ rw (to_z-of_z w64 c.args.x c.ranges.x, to_z-of_z w64 c.args.y c.ranges.y) refl);
    }
