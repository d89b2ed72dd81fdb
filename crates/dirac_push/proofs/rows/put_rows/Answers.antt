use Rattle.std.proofs.Common.{◌*◌, ℕ, arith, subst}
use Rattle.dirac_push.specs.Laid.{CopiesSamples}
use Rattle.dirac_push.proofs.Laying.{rows_next}
use Rattle.dirac_push.proofs.rows.put_rows.Goals as goal

pub loop-y-preserved : goal.loop-y-preserved
loop-y-preserved c =
    rows_next c.args.plane.now c.values.result.now c.loop-y.y c.args.stride c.args.out.now c.loop-y.out c.put_row.new.out
    c.values.ensures.value (omega (arith, c.if-not-has_room.ensures.0, c.width-width.ensures.value)) c.loop-y.invariant
    (subst (λ (w : ℕ). CopiesSamples c.values.result.now (c.loop-y.y * w) (c.loop-y.y * c.args.stride) w c.loop-y.out c.put_row.new.out) c.width-width.ensures.value c.put_row.ensures)
