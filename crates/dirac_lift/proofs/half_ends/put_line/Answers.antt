use Rattle.std.proofs.Common.{◌≡◌, ◌∙◌, true, false, sym}
use Rattle.dirac_lift.specs.Wavelets.{has_shift}
use Rattle.dirac_lift.proofs.PairLemmas.{all_rounded_by_none}
use Rattle.dirac_lift.proofs.half_ends.put_line.Goals as goal

pub returns-then-halves : goal.returns-then-halves
returns-then-halves c whole a =
    let shift : has_shift c.args.wavelet ≡ true = sym c.halves.ensures ∙ c.if-halves.true in
    rw shift (c.put_pairs.ensures whole a)

pub returns-else-halves : goal.returns-else-halves
returns-else-halves c whole a =
    let shift : has_shift c.args.wavelet ≡ false = sym c.halves.ensures ∙ c.if-halves.false in
    rw shift (c.put_pairs-else-halves.ensures whole a ∙ all_rounded_by_none whole)
