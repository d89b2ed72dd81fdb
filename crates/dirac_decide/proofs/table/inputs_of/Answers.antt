use Rattle.std.proofs.Common.{arith, sym, ◌∙◌, subst}
use Rattle.dirac_decide.specs.Given.{view_of}
use Rattle.dirac_decide.proofs.Accepted.{IsGrid, across_within, bias_within, blocks_within, down_within, grid_within, precision_within, ratio_as, view_found}
use Rattle.dirac_decide.proofs.table.inputs_of.Goals as goal

pub block_grid-requires : goal.block_grid-requires
block_grid-requires c =
    let within = blocks_within c.args.settings.now c.requires.settings in
    (omega (arith, within.0, c.from.ensures), omega (arith, within.1, c.from.ensures))

pub overflow_cast-result : goal.overflow_cast-result
overflow_cast-result c = omega (arith, precision_within c.args.settings.now c.requires.settings)

pub returns-clause-deciding : goal.returns-clause-deciding
returns-clause-deciding c =
    let s = c.args.settings.now in
    let p = c.args.source.now in
    let grid : IsGrid c.block_grid.result = subst IsGrid (sym c.block_grid.ensures.value) (grid_within c.from.result) in
    let across = ratio_as c.ratio_across.result _ c.ratio_across.ensures (across_within c.sequence_of-chroma.result.chroma) in
    let down = ratio_as c.ratio_down.result _ c.ratio_down.ensures (down_within c.sequence_of-chroma.result.chroma) in
    let first_across = c.across.ensures.value ∙ c.requires.first.same_across in
    let first_down = c.down.ensures.value ∙ c.requires.first.same_down in
    record {
      y = c.requires.source.y;
      u = c.requires.source.u;
      v = c.requires.source.v;
      columns = (omega (arith, grid.columns.0), grid.columns.1);
      rows = (omega (arith, grid.rows.0), grid.rows.1);
      across_ratio = across;
      down_ratio = down;
      precision = precision_within s c.requires.settings;
      bias = bias_within s c.requires.settings;
      first = view_found s p (view_of c.args.first) c.across.result c.down.result c.requires.first c.field_size.ensures first_across first_down;
      second = λ r e. view_found s p r c.across.result c.down.result (c.requires.second r e) (c.second_field_size.ensures r e) first_across first_down;
    }
