use Rattle.std.proofs.Common.{◌≡◌, length}
use Rattle.dirac_picture.specs.Chains.{AreBandsOfOrientation, IsChain}
use Rattle.dirac_picture.proofs.chain.read_chain.Given as goal

abbrev pub invariant-levels : goal.invariant-levels
invariant-levels l = record {
  count : length l.bands.items ≡ l.k;
  lawful : AreBandsOfOrientation l.transform l.size.width l.size.height l.first l.bands.items;
  read : IsChain l.transform l.size.width l.size.height l.sites l.first l.bands.items;
}
