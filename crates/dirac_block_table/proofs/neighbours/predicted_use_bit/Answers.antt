use Rattle.std.proofs.Common.{◌∙◌}
use Rattle.dirac_vectors.specs.Predictions.{mode_of}
use Rattle.dirac_block_table.specs.Neighbours.{use_at}
use Rattle.dirac_block_table.proofs.Beside.{predicted_from}
use Rattle.dirac_block_table.proofs.neighbours.predicted_use_bit.Goals as goal

pub returns : goal.returns
returns c =
    record {
      value =
          c.predict_mode.ensures ∙ predicted_from mode_of (use_at c.args.reference c.args.table.now) c.args.i c.args.j _ _ _ c.near_use_bit-left.ensures.value c.near_use_bit-above.ensures.value c.near_use_bit-corner.ensures.value;
    }
