use Rattle.std.proofs.Common.{◌≡◌, length}
use Rattle.dirac_picture.specs.Chains.{AreSites}
use Rattle.dirac_picture.proofs.Finding.{AreIndexed}
use Rattle.dirac_picture.proofs.sites.find_sites.Given as goal

abbrev pub invariant-bands : goal.invariant-bands
invariant-bands l = record {
  count : length l.sites.items ≡ l._n;
  kept : l.r.bytes ≡ l.fn.r.bytes;
  indices : AreIndexed l.sites.items;
  sites : AreSites l.fn.r l.sites.items l.r;
}
