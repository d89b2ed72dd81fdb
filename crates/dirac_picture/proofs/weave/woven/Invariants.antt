use Rattle.std.proofs.Common.{◌≡◌, ◌+◌, ◌++◌, length}
use Rattle.dirac_picture.specs.Chains as chains
use Rattle.dirac_picture.proofs.weave.woven.Given as goal

abbrev pub invariant-levels : goal.invariant-levels
invariant-levels l = record {
  across : length l.across.items + l._k ≡ length l.fn.hl;
  down : length l.down.items ≡ length l.across.items;
  both : length l.both.items ≡ length l.across.items;
  same : l.bands.items ++ chains.woven l.across.items l.down.items l.both.items
      ≡ l.fn.lowest ++ chains.woven l.fn.hl l.fn.lh l.fn.hh;
}
