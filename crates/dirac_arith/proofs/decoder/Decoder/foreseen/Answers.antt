use Rattle.std.proofs.Common.{◌≡◌, Bool, Result, Ok, ap, sym, subst, arith}
use Rattle.dirac_arith.specs.Carried.{Lies}
use Rattle.dirac_arith.specs.Front.{front}
use Rattle.dirac_arith.specs.Deciding.{decision_read}
use Rattle.dirac_arith.specs.Interval.{narrowed}
use Rattle.dirac_arith.specs.Reading.{Reading}
use Rattle.dirac_arith.specs.Decoding.{reading, reading_at}
use Rattle.dirac_common.specs.declared.faults.Cause.{Cause}
use Rattle.dirac_arith.proofs.Carrieds.{decided_after}
use Rattle.dirac_arith.proofs.Decidings.{decided_shut}
use Rattle.dirac_arith.proofs.Intervals.{one_truth, lies_kept}
use Rattle.dirac_arith.proofs.Windows.{lies_from_window, window_from_lies}
use Rattle.dirac_arith.proofs.decoder.Decoder.foreseen.Goals as goal

pub returns-then-self-clause-no_other_truth : goal.returns-then-self-clause-no_other_truth
returns-then-self-clause-no_other_truth c =
    λ truth h.
    let a = c.self.inside in
    let sound = c.self.invariant in
    let P : Reading → Type 0 = λ x. Lies x.block (narrowed x.at (c.args.ctx, truth)) in
    let here = subst P (sym c.self.view_is) h in
    let s = (reading a).at in
    let fits = sound.probabilities c.args.ctx c.requires.context in
    let inside = window_from_lies a.block.now a.registers s sound.stands (lies_kept a.block.now s c.args.ctx truth (omega arith) here) in
    let past = sound.refused c.if-self.true in
    absurd (omega arith)

pub returns-clause-narrows : goal.returns-clause-narrows
returns-clause-narrows c =
    let a = c.self.inside in
    let sound = c.self.invariant in
    let open' = sound.inside c.if-self.false in
    let call = c.foreseen_from-decided in
    let told = subst (λ (x : Reading). let y : Result (Bool × Reading) Cause = Ok (call.result.truth, reading_at call.new.self call.result.registers) in decision_read c.args.ctx (reading_at x a.registers) ≡ y) (sym c.self.view_is) call.ensures.read in
    let here = subst (λ (x : Reading). let y : Result (Bool × Reading) Cause = Ok (call.result.truth, reading_at x call.result.registers) in decision_read c.args.ctx (reading a) ≡ y) (sym c.self-2.view_is) told in
    let after = decided_after c.args.ctx call.result.truth (reading a) _ open'.0 (lies_from_window a.block.now a.registers (reading a).at sound.stands open'.1) here in
    let new : Reading = reading (record { block = c.self-2.inside.block; registers = call.result.registers; contexts = c.self-2.inside.contexts; refused = c.self-2.inside.refused }) in
    subst (λ (x : Reading). new ≡ record { block = x.block; at = narrowed x.at (c.args.ctx, call.result.truth) }) c.self.view_is after.0

pub returns-clause-lies_inside : goal.returns-clause-lies_inside
returns-clause-lies_inside c =
    let a = c.self.inside in
    let sound = c.self.invariant in
    let open' = sound.inside c.if-self.false in
    let call = c.foreseen_from-decided in
    let told = subst (λ (x : Reading). let y : Result (Bool × Reading) Cause = Ok (call.result.truth, reading_at call.new.self call.result.registers) in decision_read c.args.ctx (reading_at x a.registers) ≡ y) (sym c.self.view_is) call.ensures.read in
    let after = decided_after c.args.ctx call.result.truth (reading a) _ open'.0 (lies_from_window a.block.now a.registers (reading a).at sound.stands open'.1) told in
    subst (λ (x : Reading). Lies x.block (narrowed x.at (c.args.ctx, call.result.truth))) c.self.view_is after.1

pub returns-clause-no_other_truth : goal.returns-clause-no_other_truth
returns-clause-no_other_truth c =
    λ truth h.
    let lies = returns-clause-lies_inside c in
    ap Ok (one_truth c.args.self.now.block c.args.self.now.at c.args.ctx c.foreseen_from-decided.result.truth truth lies h)

pub returns-then-self-clause-read : goal.returns-then-self-clause-read
returns-then-self-clause-read c =
    let P : Reading → Type 0 = λ x. front x.block 16 ≡ 0xFFFF in
    decided_shut c.args.ctx c.args.self.now (subst P c.self.view_is (c.self.invariant.refused c.if-self.true).0)
