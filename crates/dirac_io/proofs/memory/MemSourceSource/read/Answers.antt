use Rattle.std.proofs.Common.{ap, ◌∙◌, arith, drop}
use Rattle.std.proofs.lemmas.Grind.{common_steps}
use Rattle.std.proofs.lemmas.List.{take_rest}
use Rattle.dirac_io.specs.Memory.{Feed}
use Rattle.dirac_io.proofs.Parts.{gives_front}
use Rattle.dirac_io.proofs.memory.MemSourceSource.read.Goals as goal

pub returns-clause-bytes : goal.returns-clause-bytes
returns-clause-bytes c =
    gives_front c.min-n.result c.self.inside.from c.self.inside.most c.self.inside.bytes.items _ _ _ c.args.buf.now
    (ap (λ (f : Feed). f.bytes) c.self.view_is)
    (take_rest c.deref.result.now c.self.inside.from ∙ ap (drop c.self.inside.from) c.deref.ensures.value)
    c.self.invariant.1 c.requires (grind (arith, common_steps, c.if-is_empty.ensures)) (omega arith)
    (omega arith)
    c.copy_from_slice.ensures.after
