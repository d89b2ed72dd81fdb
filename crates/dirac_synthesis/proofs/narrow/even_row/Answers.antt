use Rattle.std.proofs.Common.{◌+◌, pos, get_or, arith, ap, ◌∙◌}
use Rattle.dirac_common.proofs.Rows.{row_at}
use Rattle.dirac_synthesis.specs.Codeblocks.{restored_by_one}
use Rattle.dirac_synthesis.proofs.BesideRows.{is_beside_row, restored_place}
use Rattle.dirac_synthesis.proofs.narrow.even_row.Goals as goal

pub restore_row_from-requires-clause-restorable : goal.restore_row_from-requires-clause-restorable
restore_row_from-requires-clause-restorable c =
    rw (c.scale_of-scale.ensures.factor, c.scale_of-scale.ensures.offset) c.requires.narrow.restorable

pub returns : goal.returns
returns c =
    is_beside_row c.args.low.now (restored_by_one c.args.kind c.args.hl.now) c.args.y _ (omega arith) c.requires.inside
    (λ n k.
    c.restore_row_from.ensures.before n (omega (arith, k))
    ∙ c.copy_to_front.ensures n (omega (arith, k))
    ∙ ap (λ zs. get_or zs n (pos 0)) c.row.ensures.value
    ∙ row_at c.args.low.now n c.args.y k)
    (λ n k.
    ap (λ w. get_or c.restore_row_from.new.line (w + n) (pos 0)) (omega arith)
    ∙ c.restore_row_from.ensures.written n (omega (arith, k, c.requires.hl.across))
    ∙ restored_place c.args.kind c.args.hl.now n c.args.y _ _ c.scale_of-scale.ensures.factor c.scale_of-scale.ensures.offset
    (omega (arith, k, c.requires.hl.across)) (omega (arith, c.requires.inside, c.requires.hl.down)) c.restore_row_from.ensures.whole)
