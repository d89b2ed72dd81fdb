use Rattle.std.proofs.Common.{List, ℤ, length, refl, subst}
use Rattle.dirac_lift.specs.Halves.{AreHalvesOfLine}
use Rattle.dirac_lift.proofs.HalfBounds.{column_alone}
use Rattle.dirac_lift.proofs.NarrowLevels.{line_narrow}
use Rattle.dirac_lift.proofs.narrow_levels.finish_line.Goals as goal

pub finish_half_line-requires-clause-narrow : goal.finish_half_line-requires-clause-narrow
finish_half_line-requires-clause-narrow c =
    line_narrow _ _ _ _ (subst (λ (l : List ℤ). AreHalvesOfLine 0 c.take_column.new.low c.take_column.new.high l) (column_alone c.args.line.now (length c.args.line.now) refl) c.take_column.ensures) c.requires.narrow

pub returns : goal.returns
returns c =
    c.finish_half_line.ensures _ (subst (λ (l : List ℤ). AreHalvesOfLine 0 c.take_column.new.low c.take_column.new.high l) (column_alone c.args.line.now (length c.args.line.now) refl) c.take_column.ensures)
