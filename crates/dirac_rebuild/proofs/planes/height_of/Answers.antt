use Rattle.std.proofs.Common.{ℕ, ◌≤◌, subst, sym}
use Rattle.dirac_picture.proofs.Chroma.{part_size}
use Rattle.dirac_rebuild.proofs.planes.height_of.Goals as goal

pub returns-clause-at_least_1 : goal.returns-clause-at_least_1
returns-clause-at_least_1 c =
    subst (λ (k : ℕ). 1 ≤ k) (sym c.plane_height.ensures) (part_size c.args.sequence.now c.args.component c.requires).down.0

pub returns-clause-at_most_4096 : goal.returns-clause-at_most_4096
returns-clause-at_most_4096 c =
    subst (λ (k : ℕ). k ≤ 4096) (sym c.plane_height.ensures) (part_size c.args.sequence.now c.args.component c.requires).down.1
