use Rattle.std.proofs.Common.{◌+◌, ap, ◌∙◌, arith, drop, length, length-drop}
use Rattle.std.proofs.lemmas.Grind.{common_steps}
use Rattle.std.proofs.lemmas.List.{take_rest}
use Rattle.dirac_io.proofs.Parts.{gives_front}
use Rattle.dirac_push.proofs.queue.QueueSource.read.Goals as goal

pub returns-clause-bytes : goal.returns-clause-bytes
returns-clause-bytes c =
    let n = c.min-n.result in
    let from = c.self.inside.from in
    let items = c.self.inside.bytes.items in
    let same = c.self.view_is in
    let gives =
    gives_front n from (length c.args.buf.now) items _ _ _ c.args.buf.now
    same
    (take_rest c.deref.result.now from ∙ ap (drop from) c.deref.ensures.value)
    (omega (arith, c.requires)) c.requires (grind (arith, common_steps, c.if-is_empty.ensures)) (omega arith)
    (omega arith)
    c.copy_from_slice.ensures.after in
    record {
      some = gives.some;
      room = gives.room;
      given = gives.given;
      lower = omega (arith, ap length same, c.self.invariant.0, c.self.invariant.1, length-drop from items, length-drop (from + n) items);
    }
