use Rattle.std.proofs.Common.{◌≡◌, ℤ, List, ◌/◌, ◌%◌, take, drop, sym, subst}
use Rattle.dirac_lift.specs.HalfRuns.{AreNarrow}
use Rattle.dirac_lift.specs.Halves.{AreHalvesOfLine}
use Rattle.dirac_lift.specs.Level.{row_in}
use Rattle.dirac_lift.specs.Wavelets.{steps_of}
use Rattle.dirac_lift.proofs.half_levels.finish_from_ring.Goals as goal

pub finish_row-requires-clause-narrow : goal.finish_row-requires-clause-narrow
finish_row-requires-clause-narrow c =
    let half = c.args.width / 2 in
    let copied : c.copy_from_slice.new.self ≡ row_in c.args.ring.now c.args.width (c.args.n % 16) = c.copy_from_slice.ensures.after in
    subst (λ (row : List ℤ). AreNarrow (steps_of c.args.wavelet) 1 half (take half row) (drop half row)) (sym copied) c.requires.narrow

pub returns : goal.returns
returns c whole a =
    let half = c.args.width / 2 in
    let copied : c.copy_from_slice.new.self ≡ row_in c.args.ring.now c.args.width (c.args.n % 16) = c.copy_from_slice.ensures.after in
    c.finish_row.ensures whole (subst (λ (row : List ℤ). AreHalvesOfLine 0 (take half row) (drop half row) whole) (sym copied) a)
