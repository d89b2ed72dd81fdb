use Rattle.std.proofs.Common.{◌∷◌, [], ◌++◌, false}
use Rattle.dirac_common.specs.Numbers.{uint}
use Rattle.dirac_bits.specs.Writing.{gap}
use Rattle.dirac_bits.proofs.Fronts.{on_err, none_stand, both_written, first_stand, others_stand}
use Rattle.dirac_header.proofs.write.write_choices.Goals as goal

pub returns-in_err-uint-clause-front : goal.returns-in_err-uint-clause-front
returns-in_err-uint-clause-front c =
    on_err _ (first_stand _ _ (first_stand _ _ (first_stand _ _ (first_stand _ _ (others_stand _ _ c.in_ok-align.ensures.ok (none_stand _ c.in_err-uint.ensures.err))))))

pub returns-in_err-uint-2-clause-front : goal.returns-in_err-uint-2-clause-front
returns-in_err-uint-2-clause-front c =
    let start = c.args.w.now in
    let blocks = both_written start (gap start) (uint c.args.blocks) c.in_ok-align.ensures.ok (rw c.from.ensures at c.in_ok-uint.ensures.ok) in
    on_err _ (first_stand _ _ (first_stand _ _ (first_stand _ _ (others_stand _ _ blocks (none_stand _ c.in_err-uint-2.ensures.err)))))

pub returns-in_err-bit-clause-front : goal.returns-in_err-bit-clause-front
returns-in_err-bit-clause-front c =
    let start = c.args.w.now in
    let blocks = both_written start (gap start) (uint c.args.blocks) c.in_ok-align.ensures.ok (rw c.from.ensures at c.in_ok-uint.ensures.ok) in
    let precision = both_written start (gap start ++ uint c.args.blocks) (uint c.args.precision) blocks (rw c.from-2.ensures at c.in_ok-uint-2.ensures.ok) in
    on_err _ (first_stand _ _ (first_stand _ _ (others_stand _ _ precision (none_stand _ c.in_err-bit.ensures.err))))

pub returns-in_err-uint-3-clause-front : goal.returns-in_err-uint-3-clause-front
returns-in_err-uint-3-clause-front c =
    let start = c.args.w.now in
    let blocks = both_written start (gap start) (uint c.args.blocks) c.in_ok-align.ensures.ok (rw c.from.ensures at c.in_ok-uint.ensures.ok) in
    let precision = both_written start (gap start ++ uint c.args.blocks) (uint c.args.precision) blocks (rw c.from-2.ensures at c.in_ok-uint-2.ensures.ok) in
    let motion = both_written start (gap start ++ uint c.args.blocks ++ uint c.args.precision) (false ∷ []) precision c.in_ok-bit.ensures.ok in
    on_err _ (first_stand _ _ (others_stand _ _ motion (none_stand _ c.in_err-uint-3.ensures.err)))
