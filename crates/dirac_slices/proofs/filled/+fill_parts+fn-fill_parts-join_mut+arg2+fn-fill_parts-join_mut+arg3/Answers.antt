use Rattle.std.proofs.Common.{IfOk, rules, subst}
use Rattle.dirac_synthesis.proofs.Maps.{ok_weaker}
use Rattle.dirac_slices.specs.declared.filled.Parts.{Parts}
use Rattle.dirac_slices.specs.Basis.{planes_of, basis_sequence}
use Rattle.dirac_slices.specs.Parts.{AreFilled}
use Rattle.dirac_slices.proofs.Between.{basis_lawful, filled_halves}
use Rattle.dirac_slices.proofs.filled.+fill_parts+fn-fill_parts-join_mut+arg2+fn-fill_parts-join_mut+arg3.Goals as goal

pub returns : goal.returns
returns g t c =
    let b = c.args.making.now.basis in
    let s = basis_sequence b in
    let planes = planes_of b in
    let front : IfOk c.join_mut-ours.result.0 (λ u. AreFilled s planes c.halves.result.0 c.y_front-1.given.0 c.u_front-1.given.0 c.v_front-1.given.0) = search rules in
    let back : IfOk c.join_mut-ours.result.1 (λ u. AreFilled s planes c.halves.result.1 c.y_back-1.given.0 c.u_back-1.given.0 c.v_back-1.given.0) = search rules in
    let ours = subst (λ o. IfOk o (λ u. AreFilled s planes c.halves.result.0 c.y_front-1.given.0 c.u_front-1.given.0 c.v_front-1.given.0)) c.in_ok-ours.was front in
    let moved = subst (λ (p : Parts). AreFilled s planes p c.y_front-1.given.0 c.u_front-1.given.0 c.v_front-1.given.0) c.halves.ensures.front ours in
    ok_weaker c.join_mut-ours.result.1
    (λ u e. filled_halves s planes c.args.parts c.y_front-1.given.0 c.u_front-1.given.0 c.v_front-1.given.0 c.y_back-1.given.0 c.u_back-1.given.0 c.v_back-1.given.0 (basis_lawful b c.requires.basis) c.requires.parts moved
    (subst (λ (p : Parts). AreFilled s planes p c.y_back-1.given.0 c.u_back-1.given.0 c.v_back-1.given.0) c.halves.ensures.back e)) back
