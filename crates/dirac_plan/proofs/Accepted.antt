-- What accepted settings say of groups.
use Rattle.std.proofs.Common.{◌≤◌}
use Rattle.dirac_types.specs.declared.settings.Settings.{Settings}
use Rattle.dirac_types.specs.Settings.{IsAccepted}
use Rattle.dirac_types.proofs.Accepted.{in_range}

pub record IsPaced (s : Settings) : Type 0 where
  pub gop_least : 1 ≤ s.gop
  pub gop_most : s.gop ≤ 65535
  pub between_most : s.between ≤ 3

pub paced : (s : Settings) → IsAccepted s → IsPaced s
paced s is = let range = in_range s is in record {
  gop_least = range.gop.0;
  gop_most = range.gop.1;
  between_most = range.between;
}
