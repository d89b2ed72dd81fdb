-- What the code holds behind its references.
use Rattle.std.specs.Prelude.{Option, option_map}
use Rattle.dirac_types.specs.declared.settings.Settings.{Settings}
use Rattle.dirac_common.specs.declared.picture.Picture.{Picture}
use Rattle.dirac_block_table.specs.Tables.{BlockTable}
use Rattle.dirac_decide.specs.Deciding.{Deciding, View}
use Rattle.dirac_decide.specs.Splits.{decided_by}
use Rattle.dirac_decide.specs.declared.inputs.Inputs.{Inputs}
use Rattle.dirac_decide.specs.declared.inputs.RefView.{RefView}

-- the data behind a view's references
abbrev pub view_of : RefView → View
view_of r = record { up = r.up.now; field = r.field.now }

-- the data behind the references of a second view, where there is one
abbrev pub views_of : Option RefView → Option View
views_of second = option_map view_of second

-- the data behind the references of what is decided from
abbrev pub deciding_of : Inputs → Deciding
deciding_of n = record {
  y = n.source.now.y;
  u = n.source.now.u;
  v = n.source.now.v;
  first = view_of n.first;
  second = views_of n.second;
  grid = n.grid;
  across = n.across;
  down = n.down;
  across_ratio = n.across_ratio;
  down_ratio = n.down_ratio;
  precision = n.precision;
  bias = n.bias;
  alike = n.alike;
}

-- the table that is decided by the settings, from what these references lend
abbrev pub decided_from : Settings → Picture → RefView → Option RefView → BlockTable
decided_from s p first second = decided_by s p (view_of first) (views_of second)
