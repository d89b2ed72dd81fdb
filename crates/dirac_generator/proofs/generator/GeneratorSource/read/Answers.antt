use Rattle.std.proofs.Common.{ap, ◌∙◌, arith, drop}
use Rattle.std.proofs.lemmas.Grind.{common_steps}
use Rattle.std.proofs.lemmas.List.{take_rest}
use Rattle.dirac_generator.specs.Reading.{held_by}
use Rattle.dirac_generator.proofs.Reading.{gives, held_bounded}
use Rattle.dirac_generator.proofs.generator.GeneratorSource.read.Goals as goal

pub returns-clause-bytes : goal.returns-clause-bytes
returns-clause-bytes c =
    let g = c.self.inside in
    gives c.min-n.result g.from g.bytes.items _ _ _ _ c.args.buf.now
    (ap held_by c.self.view_is ∙ c.refill.ensures.held)
    (take_rest c.deref.result.now g.from ∙ ap (drop g.from) c.deref.ensures.value)
    c.requires (grind (arith, common_steps, c.if-is_empty.ensures))
    (held_bounded g.settings g.bytes.items g.from g.count g.number c.self.invariant.0 (omega arith) c.self.invariant.3)
    (omega arith)
    c.copy_from_slice.ensures.after
