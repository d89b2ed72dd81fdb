use Rattle.std.proofs.Common.{◌+◌, ◌≤◌, ◌/◌, arith, subst, ℕ, Option}
use Rattle.dirac_picture.specs.Bands.{counts_among}
use Rattle.dirac_picture.specs.Fits.{IsCount}
use Rattle.dirac_picture.proofs.Lengths.{band_some}
use Rattle.dirac_picture.proofs.layouts.layout.Goals as goal

pub returns-clause-lawful : goal.returns-clause-lawful
returns-clause-lawful c =
    let t = c.args.transform.now in
    let level = (c.args.n + 2) / 3 in
    let low : level ≤ t.depth = omega arith in
    let across : IsCount c.at-across.result.0 8192 = subst (λ (o : Option (ℕ × ℕ)). IsCount (counts_among o).0 8192) c.at-across.ensures (c.requires.layout.across level low) in
    let down : IsCount c.at-across.result.1 8192 = subst (λ (o : Option (ℕ × ℕ)). IsCount (counts_among o).1 8192) c.at-across.ensures (c.requires.layout.down level low) in
    record {
      width = (rw (c.band_size.ensures.value, c.padded.ensures.value) (band_some c.args.width t.depth level c.requires.size.across.0 c.requires.layout.depth.0 low), omega arith);
      height = (rw (c.band_size-2.ensures.value, c.padded-2.ensures.value) (band_some c.args.height t.depth level c.requires.size.down.0 c.requires.layout.depth.0 low), omega arith);
      across = across;
      down = down;
      mode = c.requires.layout.mode;
    }
