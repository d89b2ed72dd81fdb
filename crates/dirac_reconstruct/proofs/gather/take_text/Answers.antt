use Rattle.std.proofs.Common.{◌+◌, ◌-◌, ◌<◌, ◌++◌, length, ap, ◌∙◌, arith}
use Rattle.dirac_reconstruct.specs.Parts.{bands_each, bands_per_plane}
use Rattle.dirac_reconstruct.proofs.InOrder.{but_last, taken_text, text_whole}
use Rattle.dirac_reconstruct.proofs.gather.take_text.Goals as goal

pub bands-preserved : goal.bands-preserved
bands-preserved c =
    let xs = c.args.parts.now.items in
    let n = c.bands._n in
    let below : n < bands_per_plane c.args.from.now = omega (arith, c.bands-test.true, c.bands_each-n-end.ensures.value) in (
      but_last xs c.bands.parts.items c.take_last-part.new.parts.items (length xs - n) (length xs - (n + 1)) (omega arith) c.bands.invariant.0 c.take_last-part.ensures.rest (omega arith),
      λ o ends. taken_text c.args.from.now o xs c.bands.parts.items n c.take_last-part.result c.bands.text.items c.extend_from_slice.new.self.items c.requires.finishing c.requires.count below
          c.bands.invariant.0 c.take_last-part.ensures.value ends (c.bands.invariant.1 o ends) (c.in_ok-extend_from_slice.ensures.items ∙ ap (λ l. c.bands.text.items ++ l) c.as_slice.ensures.value),
      λ none. absurd (omega (arith, below, none)),
    )

pub returns-clause-text : goal.returns-clause-text
returns-clause-text c = λ o ends.
    text_whole c.args.from.now o c.bands._n c.bands.text.items c.requires.finishing.written (omega (arith, c.bands-test.false, c.bands_each-n-end.ensures.value)) (c.bands.invariant.1 o ends)

pub returns-clause-none : goal.returns-clause-none
returns-clause-none c = λ none. c.bands.invariant.2 (ap bands_each none)
