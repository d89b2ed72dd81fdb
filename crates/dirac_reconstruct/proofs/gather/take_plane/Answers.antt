use Rattle.std.proofs.Common.{◌-◌, length, arith}
use Rattle.dirac_reconstruct.proofs.InOrder.{but_last, ends_with_texts, plane_taken, some_at_end}
use Rattle.dirac_reconstruct.specs.Parts.{bands_per_plane}
use Rattle.dirac_reconstruct.proofs.gather.take_plane.Goals as goal

pub unreachable-requires : goal.unreachable-requires
unreachable-requires c =
    some_at_end c.args.from.now c.args.parts.now.items c.take_text.new.parts.items c.take_last-part.result c.requires.count c.in_ok-text.ensures.rest c.take_last-part.ensures.value c.requires.shown c.in-None.is

pub returns-clause-plane : goal.returns-clause-plane
returns-clause-plane c = λ o are.
    let it =
    plane_taken c.args.from.now o c.args.parts.now.items c.take_text.new.parts.items c.take_last-part.result c.in_ok-text.text.items c.in-Some.shown c.requires.count
    c.in_ok-text.ensures.rest c.take_last-part.ensures.value are (c.in_ok-text.ensures.text o (ends_with_texts c.args.from.now o c.args.parts.now.items c.requires.count are)) c.in-Some.is in
    record { text = it.0; shown = it.1 }

pub returns-clause-rest : goal.returns-clause-rest
returns-clause-rest c =
    but_last c.args.parts.now.items c.take_text.new.parts.items c.take_last-part.new.parts.items (length c.args.parts.now.items - bands_per_plane c.args.from.now) _ (omega arith)
    c.in_ok-text.ensures.rest c.take_last-part.ensures.rest (omega arith)
