use Rattle.std.proofs.Common.{◌≡◌, ◌+◌, ◌*◌, ap, to_z, of_z, subst, sym, ◌∙◌}
use Rattle.std.specs.Int.{w16}
use Rattle.std.proofs.lemmas.Int.{to_z-of_z}
use Rattle.dirac_decide.specs.Given.{deciding_of}
use Rattle.dirac_decide.specs.Modes.{bits_of_dc, dc_block, dc_cost, count_of_references}
use Rattle.dirac_decide.specs.Predictors.{IsChromaSource}
use Rattle.dirac_decide.specs.Units.{unit_distortion}
use Rattle.dirac_decide.proofs.DcValues.{unit_has_chroma}
use Rattle.dirac_decide.proofs.Choices.{dc_is}
use Rattle.dirac_decide.proofs.Told.{told_as}
use Rattle.dirac_decide.proofs.modes.with_dc.Goals as goal

pub dc_block-block-requires-clause-chroma : goal.dc_block-block-requires-clause-chroma
dc_block-block-requires-clause-chroma c =
    subst IsChromaSource (sym c.unit_window-window.ensures.value) (unit_has_chroma (deciding_of c.args.inputs.now) c.args.unit c.requires.inputs c.requires.unit.size.0)

pub returns-clause-value : goal.returns-clause-value
returns-clause-value c =
    let n = c.args.inputs.now in
    let d = deciding_of n in
    let u = c.args.unit in
    let b = c.dc_block-block.result in
    let y : to_z w16 (of_z w16 c.luma-value.result) ≡ b.dc_y = to_z-of_z w16 _ (record { sfits = c.luma-value.type_inv }) ∙ c.luma-value.ensures in
    let bits : c.price-priced.result ≡ n.bias * bits_of_dc b = c.price-priced.ensures.value ∙ ap (λ m. n.bias * m) c.dc_bits.ensures.value in
    let told = told_as c.args.choice.cost (unit_distortion d u (λ i j. to_z w16 (of_z w16 c.luma-value.result)) + c.price-priced.result) (dc_cost d u b)
    c.unit_cost_below-told.result c.unit_cost_below-told.ensures.told
    (ap (λ z. unit_distortion d u (λ i j. z) + c.price-priced.result) y ∙ ap (λ m. unit_distortion d u (λ i j. b.dc_y) + m) bits) in
    c.unless_cheaper.ensures.value (dc_cost d u b) told
    ∙ dc_is d u b (c.dc_block-block.ensures.value ∙ ap (dc_block d) c.unit_window-window.ensures.value) c.args.choice

pub returns-clause-block : goal.returns-clause-block
returns-clause-block c =
    c.unless_cheaper.ensures.block (count_of_references (deciding_of c.args.inputs.now).second) c.requires.block (c.dc_block-block.ensures.block (count_of_references (deciding_of c.args.inputs.now).second))
