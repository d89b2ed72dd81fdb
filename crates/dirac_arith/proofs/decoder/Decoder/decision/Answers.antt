use Rattle.std.proofs.Common.{◌≡◌, ◌≢◌, Bool, Result, Ok, slice_set, ap, sym, subst, arith, ◌∙◌, ◌+◌, ◌≤◌}
use Rattle.dirac_arith.specs.Carried.{Lies}
use Rattle.dirac_arith.specs.Front.{front}
use Rattle.dirac_arith.specs.Interval.{narrowed}
use Rattle.dirac_arith.specs.Reading.{Reading}
use Rattle.dirac_arith.specs.Decoding.{reading}
use Rattle.dirac_arith.specs.Registers.{doublings_of}
use Rattle.dirac_common.specs.declared.faults.Cause.{Cause}
use Rattle.dirac_arith.proofs.Decidings.{decided_is, decided_shut}
use Rattle.dirac_arith.proofs.Intervals.{one_truth, lies_kept}
use Rattle.dirac_arith.proofs.Windows.{window_from_lies}
use Rattle.dirac_arith.proofs.Decisions.{probabilities_set, runs_of, sound_with, taken}
use Rattle.dirac_arith.proofs.decoder.Decoder.decision.Goals as goal

pub returns-then-self-clause-no_other_truth : goal.returns-then-self-clause-no_other_truth
returns-then-self-clause-no_other_truth c =
    λ truth h.
    let a = c.self.inside in
    let sound = c.self.invariant in
    let P : Reading → Type 0 = λ x. Lies x.block (narrowed x.at (c.args.ctx, truth)) in
    let here = subst P (sym c.self.view_is) h in
    let s = (reading a).at in
    let fits = sound.probabilities c.args.ctx c.requires.context in
    let inside = window_from_lies a.block.now a.registers s sound.stands (lies_kept a.block.now s c.args.ctx truth (omega arith) here) in
    let past = sound.refused c.if-self.true in
    absurd (omega arith)

pub invariant_of-self : goal.invariant_of-self
invariant_of-self c =
    let a = c.self.inside in
    let filled = c.fill-self-inside.ensures in
    let adapted = c.adapt.ensures in
    let runs = runs_of a c.self.invariant c.if-self.false in
    let done = taken a c.args.ctx c.decide-decided.result.truth c.decide-decided.result.registers c.fill-self-inside.result c.adapt.result
    runs c.decide-decided.ensures filled.stands filled.range filled.some_ahead filled.most_ahead filled.inside adapted.exact in
    sound_with a c.fill-self-inside.result _ c.if-self.false done.runs
    (probabilities_set a.contexts c.args.ctx c.adapt.result adapted.at_least_254_result adapted.at_most_65281_result c.self.invariant.probabilities)

pub returns-clause-narrows : goal.returns-clause-narrows
returns-clause-narrows c =
    let a = c.self.inside in
    let filled = c.fill-self-inside.ensures in
    let truth = c.decide-decided.result.truth in
    let done = taken a c.args.ctx truth c.decide-decided.result.registers c.fill-self-inside.result c.adapt.result
    (runs_of a c.self.invariant c.if-self.false) c.decide-decided.ensures
    filled.stands filled.range filled.some_ahead filled.most_ahead filled.inside c.adapt.ensures.exact in
    let new : Reading = reading (record { block = a.block; registers = c.fill-self-inside.result; contexts = slice_set a.contexts c.args.ctx c.adapt.result; refused = a.refused }) in
    let P : Reading → Type 0 = λ x. new ≡ record { block = x.block; at = narrowed x.at (c.args.ctx, truth) } in
    subst P c.self.view_is done.moved

pub returns-clause-lies_inside : goal.returns-clause-lies_inside
returns-clause-lies_inside c =
    let a = c.self.inside in
    let filled = c.fill-self-inside.ensures in
    let truth = c.decide-decided.result.truth in
    let done = taken a c.args.ctx truth c.decide-decided.result.registers c.fill-self-inside.result c.adapt.result
    (runs_of a c.self.invariant c.if-self.false) c.decide-decided.ensures
    filled.stands filled.range filled.some_ahead filled.most_ahead filled.inside c.adapt.ensures.exact in
    let P : Reading → Type 0 = λ x. Lies x.block (narrowed x.at (c.args.ctx, truth)) in
    subst P c.self.view_is done.lies

pub returns-clause-no_other_truth : goal.returns-clause-no_other_truth
returns-clause-no_other_truth c =
    λ truth h.
    let lies = returns-clause-lies_inside c in
    ap Ok (one_truth c.args.self.now.block c.args.self.now.at c.args.ctx c.decide-decided.result.truth truth lies h)

pub returns-clause-few_doublings : goal.returns-clause-few_doublings
returns-clause-few_doublings c =
    let a = c.self.inside in
    let filled = c.fill-self-inside.ensures in
    let done = taken a c.args.ctx c.decide-decided.result.truth c.decide-decided.result.registers c.fill-self-inside.result c.adapt.result
    (runs_of a c.self.invariant c.if-self.false) c.decide-decided.ensures
    filled.stands filled.range filled.some_ahead filled.most_ahead filled.inside c.adapt.ensures.exact in
    let P : Reading → Type 0 = λ x. doublings_of c.fill-self-inside.result ≤ x.at.doublings + 9 in
    subst P c.self.view_is done.few_doublings

pub returns-then-self-clause-read : goal.returns-then-self-clause-read
returns-then-self-clause-read c =
    let P : Reading → Type 0 = λ x. front x.block 16 ≡ 0xFFFF in
    decided_shut c.args.ctx c.args.self.now (subst P c.self.view_is (c.self.invariant.refused c.if-self.true).0)

pub returns-clause-read : goal.returns-clause-read
returns-clause-read c =
    let truth = c.decide-decided.result.truth in
    let P : Reading → Type 0 = λ x. front x.block 16 ≢ 0xFFFF in
    let some = subst P c.self.view_is (c.self.invariant.inside c.if-self.false).0 in
    decided_is c.args.ctx truth c.args.self.now some (returns-clause-lies_inside c)
    ∙ ap (λ (s : Reading). let y : Result (Bool × Reading) Cause = Ok (truth, s) in y) (sym (returns-clause-narrows c))
