use Rattle.std.proofs.Common.{◌%◌, ◌/◌, refl, ap, sym, ◌∙◌}
use Rattle.std.specs.Int.{w64}
use Rattle.std.proofs.lemmas.Int.{to_z-of_z}
use Rattle.dirac_common.specs.Table.{Table}
use Rattle.dirac_upconvert.specs.Positions.{sample_from}
use Rattle.dirac_upconvert.proofs.Wholes.{whole_rows_sub}
use Rattle.dirac_upconvert.proofs.plane.rows_alone.Goals as goal

pub returns-then-precision-eq0 : goal.returns-then-precision-eq0
returns-then-precision-eq0 c u e n l =
    c.samples_of_rows.ensures.value n l ∙ rw (to_z-of_z w64 c.args.x c.ranges.x, to_z-of_z w64 c.args.y c.ranges.y) refl
    ∙ whole_rows_sub u c.args.samples.now c.args.precision c.args.x c.args.y (n % c.args.width) (n / c.args.width) c.samples_of_rows.ensures.not_empty.0 c.samples_of_rows.ensures.not_empty.1 e c.if-precision-eq0.true

pub returns-else-precision-eq0 : goal.returns-else-precision-eq0
returns-else-precision-eq0 c u e n l =
    c.rows_of_parts.ensures n l ∙ ap (λ (t : Table). sample_from t c.position_of.result (n % c.args.width) (n / c.args.width)) (sym e)
    ∙ c.position_of.ensures.samples u (n / c.args.width) (n % c.args.width) ∙ rw (to_z-of_z w64 c.args.x c.ranges.x, to_z-of_z w64 c.args.y c.ranges.y) refl
