use Rattle.std.proofs.Common.{◌≡◌, ◌+◌, ◌*◌, arith, ap, ◌∙◌}
use Rattle.dirac_costs.specs.Bits.{bits_of_vector}
use Rattle.dirac_decide.specs.Given.{deciding_of, view_of}
use Rattle.dirac_decide.specs.Modes.{means_of_samples, both_cost}
use Rattle.dirac_decide.specs.Units.{unit_distortion, samples_led_to}
use Rattle.dirac_decide.proofs.Choices.{both_is}
use Rattle.dirac_decide.proofs.Told.{told_as}
use Rattle.dirac_decide.proofs.modes.with_both.Goals as goal

pub returns-clause-value : goal.returns-clause-value
returns-clause-value c =
    let n = c.args.inputs.now in
    let d = deciding_of n in
    let r = view_of c.args.view.now in
    let u = c.args.unit in
    let f = means_of_samples (samples_led_to n.precision n.first.up.now c.args.v) (samples_led_to n.precision c.args.view.now.up.now c.args.w) in
    let bits : c.vector_bits-v_bits.result + c.vector_bits-w_bits.result ≡ bits_of_vector c.args.v + bits_of_vector c.args.w =
    omega (arith, c.vector_bits-v_bits.ensures.value, c.vector_bits-w_bits.ensures.value) in
    let told = told_as c.args.choice.cost (unit_distortion d u f + c.price-priced.result) (both_cost d r u c.args.v c.args.w)
    c.unit_cost_below-told.result c.unit_cost_below-told.ensures.told
    (ap (λ m. unit_distortion d u f + m) (c.price-priced.ensures.value ∙ ap (λ m. n.bias * m) bits)) in
    c.unless_cheaper.ensures.value (both_cost d r u c.args.v c.args.w) told
    ∙ both_is d r u c.args.v c.args.w c.from_both-block.result c.requires.v c.requires.w c.from_both-block.ensures.value c.args.choice

pub returns-clause-block : goal.returns-clause-block
returns-clause-block c = c.unless_cheaper.ensures.block 2 c.requires.block c.from_both-block.ensures.block
