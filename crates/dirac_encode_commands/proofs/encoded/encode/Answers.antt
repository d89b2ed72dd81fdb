use Rattle.std.proofs.Common.{◌∙◌, None, sym}
use Rattle.dirac_encode_laws.specs.Coding.{own_index}
use Rattle.dirac_encode_commands.proofs.Delivered.{told_encoded}
use Rattle.dirac_encode_commands.proofs.Endings.{is_answer, is_encoded, of_done, of_partial, of_read, of_side, of_write}
use Rattle.dirac_encode_commands.proofs.encoded.encode.Goals as goal

pub returns-clause-answer : goal.returns-clause-answer
returns-clause-answer g c = is_answer c.encode_stream.result c.ended.result c.ended.ensures

pub returns-clause-encoded : goal.returns-clause-encoded
returns-clause-encoded g c =
    is_encoded c.args.settings.now c.encode_stream.result c.ended.result (g.S.Source.held c.args.source.now)
    (g.K.Sink.taken c.args.out.now) (g.K.Sink.taken c.encode_stream.new.out)
    (g.N.Sink.taken c.args.side.now) (g.N.Sink.taken c.encode_stream.new.side)
    c.ended.ensures c.encode_stream.ensures.encoded c.encode_stream.ensures.recovered

pub returns-clause-due : goal.returns-clause-due
returns-clause-due g c = λ is. c.encode_stream.ensures.due (of_read c.encode_stream.result (sym c.ended.ensures ∙ is))

pub returns-clause-whole : goal.returns-clause-whole
returns-clause-whole g c = λ is. c.encode_stream.ensures.whole (of_done c.encode_stream.result (sym c.ended.ensures ∙ is))

pub returns-clause-partial : goal.returns-clause-partial
returns-clause-partial g c =
    λ n is. c.encode_stream.ensures.partial n (of_partial n c.encode_stream.result (sym c.ended.ensures ∙ is))

pub returns-clause-shows : goal.returns-clause-shows
returns-clause-shows g c =
    told_encoded c.plans_can_be_coded.ensures c.args.settings.now c.ended.result (g.S.Source.held c.args.source.now)
    (g.K.Sink.taken c.args.out.now) (g.K.Sink.taken c.encode_stream.new.out)
    (g.N.Sink.taken c.args.side.now) (g.N.Sink.taken c.encode_stream.new.side)
    c.requires
    (is_encoded c.args.settings.now c.encode_stream.result c.ended.result (g.S.Source.held c.args.source.now)
    (g.K.Sink.taken c.args.out.now) (g.K.Sink.taken c.encode_stream.new.out)
    (g.N.Sink.taken c.args.side.now) (g.N.Sink.taken c.encode_stream.new.side)
    c.ended.ensures c.encode_stream.ensures.encoded c.encode_stream.ensures.recovered)

pub returns-clause-least : goal.returns-clause-least
returns-clause-least g c =
    λ bytes. c.inter_pictures_cost_least.ensures own_index c.args.settings.now bytes c.requires

pub returns-clause-workers : goal.returns-clause-workers
returns-clause-workers g c =
    λ workers bytes. c.workers_change_nothing.ensures.encoding None c.args.settings.now workers bytes

pub returns-clause-alike : goal.returns-clause-alike
returns-clause-alike g c =
    λ bytes alike. (
      c.encode_stream.ensures.alike bytes alike,
      c.coded_vectors_keep_inside.ensures own_index c.args.settings.now bytes c.requires alike,
    )

pub returns-clause-read : goal.returns-clause-read
returns-clause-read g c = λ is. c.encode_stream.ensures.read (of_read c.encode_stream.result (sym c.ended.ensures ∙ is))

pub returns-clause-write : goal.returns-clause-write
returns-clause-write g c = λ is. c.encode_stream.ensures.write (of_write c.encode_stream.result (sym c.ended.ensures ∙ is))

pub returns-clause-side : goal.returns-clause-side
returns-clause-side g c = λ is. c.encode_stream.ensures.side (of_side c.encode_stream.result (sym c.ended.ensures ∙ is))
