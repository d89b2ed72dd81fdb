use Rattle.std.proofs.Common.{◌≤◌, ◌∙◌, ap, arith, drop, length, sym, take}
use Rattle.std.proofs.lemmas.List.{take_rest}
use Rattle.dirac_io.proofs.Parts.{copied_front}
use Rattle.dirac_ahead.proofs.held.HeldBytes.give.Goals as goal

pub returns-clause-front : goal.returns-clause-front
returns-clause-front c =
    let from = c.self.inside.from in
    let items = c.self.inside.bytes.items in
    let n = c.min-n.result in
    let rest = take_rest c.deref.result.now from ∙ ap (drop from) c.deref.ensures.value in
    let fits : n ≤ length (drop from items) = omega (arith, ap length rest) in
    sym c.self.view_is ∙ copied_front n from items c.copy_from_slice.new.self (drop n c.args.buf.now) fits (c.copy_from_slice.ensures.after ∙ ap (take n) rest)
