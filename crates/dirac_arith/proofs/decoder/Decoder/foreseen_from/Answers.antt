use Rattle.std.proofs.Common.{◌≡◌, Bool, true, false, Result, Ok, slice_set, subst, sym}
use Rattle.dirac_arith.specs.declared.decoder.Decoder.TheInside.{Inside}
use Rattle.dirac_arith.specs.Deciding.{decision_read}
use Rattle.dirac_arith.specs.Decoding.{reading, reading_at}
use Rattle.dirac_arith.specs.Reading.{Reading}
use Rattle.dirac_arith.specs.Registers.{Runs}
use Rattle.dirac_common.specs.declared.faults.Cause.{Cause}
use Rattle.dirac_arith.proofs.Decisions.{taken_from}
use Rattle.dirac_arith.proofs.decoder.Decoder.foreseen_from.Goals as goal

pub returns-then-decided-clause-read : goal.returns-then-decided-clause-read
returns-then-decided-clause-read c =
    let a = c.self.inside in
    let filled = c.fill.ensures in
    let runs = subst (λ (x : Reading). Runs x.block c.args.registers) (sym c.self.view_is) c.requires.runs in
    let done = taken_from a c.args.registers c.args.ctx c.foresee-decided.result.truth true c.foresee-decided.result.registers c.fill.result c.adapt.result
    c.if-decided.true runs c.foresee-decided.ensures filled.stands filled.range filled.some_ahead filled.most_ahead filled.inside c.adapt.ensures.exact in
    let new : Inside = record { block = a.block; registers = c.fill.result; contexts = slice_set a.contexts c.args.ctx c.adapt.result; refused = a.refused } in
    let P : Reading → Type 0 = λ x. let y : Result (Bool × Reading) Cause = Ok (true, reading new) in decision_read c.args.ctx (reading_at x c.args.registers) ≡ y in
    subst P c.self.view_is done.read

pub returns-then-decided-clause-runs : goal.returns-then-decided-clause-runs
returns-then-decided-clause-runs c =
    let a = c.self.inside in
    let filled = c.fill.ensures in
    let runs = subst (λ (x : Reading). Runs x.block c.args.registers) (sym c.self.view_is) c.requires.runs in
    let done = taken_from a c.args.registers c.args.ctx c.foresee-decided.result.truth true c.foresee-decided.result.registers c.fill.result c.adapt.result
    c.if-decided.true runs c.foresee-decided.ensures filled.stands filled.range filled.some_ahead filled.most_ahead filled.inside c.adapt.ensures.exact in
    done.runs

pub returns-then-decided-clause-few_doublings : goal.returns-then-decided-clause-few_doublings
returns-then-decided-clause-few_doublings c =
    let a = c.self.inside in
    let filled = c.fill.ensures in
    let runs = subst (λ (x : Reading). Runs x.block c.args.registers) (sym c.self.view_is) c.requires.runs in
    let done = taken_from a c.args.registers c.args.ctx c.foresee-decided.result.truth true c.foresee-decided.result.registers c.fill.result c.adapt.result
    c.if-decided.true runs c.foresee-decided.ensures filled.stands filled.range filled.some_ahead filled.most_ahead filled.inside c.adapt.ensures.exact in
    done.few_doublings

pub returns-else-decided-clause-read : goal.returns-else-decided-clause-read
returns-else-decided-clause-read c =
    let a = c.self.inside in
    let filled = c.fill-else-decided.ensures in
    let runs = subst (λ (x : Reading). Runs x.block c.args.registers) (sym c.self.view_is) c.requires.runs in
    let done = taken_from a c.args.registers c.args.ctx c.foresee-decided.result.truth false c.foresee-decided.result.registers c.fill-else-decided.result c.adapt-else-decided.result
    c.if-decided.false runs c.foresee-decided.ensures filled.stands filled.range filled.some_ahead filled.most_ahead filled.inside c.adapt-else-decided.ensures.exact in
    let new : Inside = record { block = a.block; registers = c.fill-else-decided.result; contexts = slice_set a.contexts c.args.ctx c.adapt-else-decided.result; refused = a.refused } in
    let P : Reading → Type 0 = λ x. let y : Result (Bool × Reading) Cause = Ok (false, reading new) in decision_read c.args.ctx (reading_at x c.args.registers) ≡ y in
    subst P c.self.view_is done.read

pub returns-else-decided-clause-runs : goal.returns-else-decided-clause-runs
returns-else-decided-clause-runs c =
    let a = c.self.inside in
    let filled = c.fill-else-decided.ensures in
    let runs = subst (λ (x : Reading). Runs x.block c.args.registers) (sym c.self.view_is) c.requires.runs in
    let done = taken_from a c.args.registers c.args.ctx c.foresee-decided.result.truth false c.foresee-decided.result.registers c.fill-else-decided.result c.adapt-else-decided.result
    c.if-decided.false runs c.foresee-decided.ensures filled.stands filled.range filled.some_ahead filled.most_ahead filled.inside c.adapt-else-decided.ensures.exact in
    done.runs

pub returns-else-decided-clause-few_doublings : goal.returns-else-decided-clause-few_doublings
returns-else-decided-clause-few_doublings c =
    let a = c.self.inside in
    let filled = c.fill-else-decided.ensures in
    let runs = subst (λ (x : Reading). Runs x.block c.args.registers) (sym c.self.view_is) c.requires.runs in
    let done = taken_from a c.args.registers c.args.ctx c.foresee-decided.result.truth false c.foresee-decided.result.registers c.fill-else-decided.result c.adapt-else-decided.result
    c.if-decided.false runs c.foresee-decided.ensures filled.stands filled.range filled.some_ahead filled.most_ahead filled.inside c.adapt-else-decided.ensures.exact in
    done.few_doublings
