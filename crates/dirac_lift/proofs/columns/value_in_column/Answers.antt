use Rattle.std.proofs.Common.{rules, ◌+◌, ◌*◌, pos, slice_index_or, sym, ◌∙◌}
use Rattle.std.specs.Int.{w128}
use Rattle.std.proofs.lemmas.Int.{to_z-of_z}
use mir.Val.{SFits}
use Rattle.dirac_lift.proofs.ColumnLemmas.{column_at}
use Rattle.dirac_lift.proofs.columns.value_in_column.Goals as goal

pub returns : goal.returns
returns c =
    let fits : SFits w128 (slice_index_or c.args.values.now (c.args.y * c.args.width + c.args.x) (pos 0)) = search rules in
    to_z-of_z w128 _ fits ∙ sym (column_at c.args.values.now c.args.width c.args.height c.args.x c.args.y c.requires.down)
