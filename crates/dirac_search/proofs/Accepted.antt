-- What accepted settings give to a search.
use Rattle.std.proofs.Common.{◌≡◌, ◌+◌, ◌≤◌, length}
use Rattle.dirac_types.specs.Settings.{IsAccepted}
use Rattle.dirac_types.proofs.Accepted.{in_range}
use Rattle.dirac_types.specs.declared.settings.Settings.{Settings}
use Rattle.dirac_search.specs.Fields.{IsSearch}
use Rattle.dirac_search.specs.Given.{Searched}

-- pyramids of their levels can be searched with them
pub search_accepted : (g : Searched) (s : Settings) → IsAccepted s → length g.source ≡ s.pyramid + 1 → length g.reference ≡ s.pyramid + 1
    → g.grid.xbsep ≤ 16 → g.grid.ybsep ≤ 16 → g.across ≤ 1024 → g.down ≤ 1024 → IsSearch g s
search_accepted g s is source reference x y across down = let range = in_range s is in record {
  precision = range.precision;
  range = range.range;
  pyramid = range.pyramid;
  bias = range.bias;
  workers = range.workers;
  source = source;
  reference = reference;
  x_separation = x;
  y_separation = y;
  across = across;
  down = down;
}
