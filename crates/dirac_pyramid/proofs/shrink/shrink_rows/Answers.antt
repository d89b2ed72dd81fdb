use Rattle.std.proofs.Common.{◌/◌, ◌+◌, length, arith, ◌∙◌, refl}
use Rattle.std.proofs.lemmas.Int.{to_z-of_z}
use Rattle.std.specs.Int.{w16}
use Rattle.dirac_pyramid.specs.Pyramid.{half_row}
use Rattle.dirac_pyramid.proofs.Levels.{written_more, last_column}
use Rattle.dirac_pyramid.proofs.shrink.shrink_rows.Goals as goal

pub returns-then-pairs-out : goal.returns-then-pairs-out
returns-then-pairs-out c x l =
    let n = length c.args.above.now / 2 in
    written_more (half_row c.args.above.now c.args.below.now) c.pairs.out n (n + 1) _
    (λ k h. c.pairs.invariant k (omega arith)) (omega arith) refl
    (to_z-of_z w16 _ (record { sfits = c.mean_of_columns-then-pairs-out.type_inv })
    ∙ c.mean_of_columns-then-pairs-out.ensures
    ∙ last_column c.args.above.now c.args.below.now n (omega arith))
    x (omega arith)
