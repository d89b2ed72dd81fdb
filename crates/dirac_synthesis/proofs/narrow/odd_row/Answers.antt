use Rattle.std.proofs.Common.{◌≡◌, ◌+◌, pos, get_or, arith, ap, ◌∙◌}
use Rattle.dirac_synthesis.specs.Codeblocks.{restored_by_one}
use Rattle.dirac_synthesis.proofs.BesideRows.{is_beside_row, restored_place}
use Rattle.dirac_synthesis.proofs.narrow.odd_row.Goals as goal

pub restore_row_from-requires-clause-restorable : goal.restore_row_from-requires-clause-restorable
restore_row_from-requires-clause-restorable c =
    rw (c.scale_of-left_scale.ensures.factor, c.scale_of-left_scale.ensures.offset) c.requires.left.restorable

pub restore_row_from-requires-2-clause-restorable : goal.restore_row_from-requires-2-clause-restorable
restore_row_from-requires-2-clause-restorable c =
    rw (c.scale_of-right_scale.ensures.factor, c.scale_of-right_scale.ensures.offset) c.requires.right.restorable

pub returns : goal.returns
returns c =
    is_beside_row (restored_by_one c.args.kind c.args.lh.now) (restored_by_one c.args.kind c.args.hh.now) c.args.y _ (omega arith) c.requires.inside
    (λ n k.
    let place : n ≡ 0 + n = omega arith in
    c.restore_row_from-2.ensures.before n (omega (arith, k))
    ∙ ap (λ i. get_or c.restore_row_from.new.line i (pos 0)) place
    ∙ c.restore_row_from.ensures.written n k
    ∙ restored_place c.args.kind c.args.lh.now n c.args.y _ _ c.scale_of-left_scale.ensures.factor c.scale_of-left_scale.ensures.offset
    k c.requires.inside c.restore_row_from.ensures.whole)
    (λ n k.
    ap (λ w. get_or c.restore_row_from-2.new.line (w + n) (pos 0)) (omega arith)
    ∙ c.restore_row_from-2.ensures.written n (omega (arith, k, c.requires.hh.across))
    ∙ restored_place c.args.kind c.args.hh.now n c.args.y _ _ c.scale_of-right_scale.ensures.factor c.scale_of-right_scale.ensures.offset
    (omega (arith, k, c.requires.hh.across)) (omega (arith, c.requires.inside, c.requires.hh.down)) c.restore_row_from-2.ensures.whole)
