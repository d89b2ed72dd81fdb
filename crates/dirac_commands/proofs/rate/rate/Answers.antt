use Rattle.std.proofs.Common.{◌∙◌, Some, sym}
use Rattle.dirac_encode_laws.specs.Fit.{fit}
use Rattle.dirac_encode_commands.proofs.Delivered.{told_rated}
use Rattle.dirac_encode_commands.proofs.Endings.{is_answer, is_rated, of_done, of_partial, of_read, of_side, of_write}
use Rattle.dirac_commands.proofs.rate.rate.Goals as goal

pub returns-clause-answer : goal.returns-clause-answer
returns-clause-answer g c = is_answer c.rate_stream.result c.ended.result c.ended.ensures

pub returns-clause-rated : goal.returns-clause-rated
returns-clause-rated g c =
    is_rated c.args.settings.now c.args.budget c.rate_stream.result c.ended.result (g.S.Source.held c.args.source.now)
    (g.K.Sink.taken c.args.out.now) (g.K.Sink.taken c.rate_stream.new.out)
    (g.N.Sink.taken c.args.side.now) (g.N.Sink.taken c.rate_stream.new.side)
    c.ended.ensures c.rate_stream.ensures.encoded c.rate_stream.ensures.recovered

pub returns-clause-due : goal.returns-clause-due
returns-clause-due g c = λ is. c.rate_stream.ensures.due (of_read c.rate_stream.result (sym c.ended.ensures ∙ is))

pub returns-clause-whole : goal.returns-clause-whole
returns-clause-whole g c = λ is. c.rate_stream.ensures.whole (of_done c.rate_stream.result (sym c.ended.ensures ∙ is))

pub returns-clause-partial : goal.returns-clause-partial
returns-clause-partial g c =
    λ n is. c.rate_stream.ensures.partial n (of_partial n c.rate_stream.result (sym c.ended.ensures ∙ is))

pub returns-clause-shows : goal.returns-clause-shows
returns-clause-shows g c =
    told_rated c.plans_can_be_coded.ensures c.args.settings.now c.args.budget c.ended.result (g.S.Source.held c.args.source.now)
    (g.K.Sink.taken c.args.out.now) (g.K.Sink.taken c.rate_stream.new.out)
    (g.N.Sink.taken c.args.side.now) (g.N.Sink.taken c.rate_stream.new.side)
    c.requires
    (is_rated c.args.settings.now c.args.budget c.rate_stream.result c.ended.result (g.S.Source.held c.args.source.now)
    (g.K.Sink.taken c.args.out.now) (g.K.Sink.taken c.rate_stream.new.out)
    (g.N.Sink.taken c.args.side.now) (g.N.Sink.taken c.rate_stream.new.side)
    c.ended.ensures c.rate_stream.ensures.encoded c.rate_stream.ensures.recovered)

pub returns-clause-least : goal.returns-clause-least
returns-clause-least g c =
    λ bytes. c.inter_pictures_cost_least.ensures (fit c.args.budget) c.args.settings.now bytes c.requires

pub returns-clause-workers : goal.returns-clause-workers
returns-clause-workers g c =
    λ workers bytes. c.workers_change_nothing.ensures.encoding (Some c.args.budget) c.args.settings.now workers bytes

pub returns-clause-alike : goal.returns-clause-alike
returns-clause-alike g c =
    λ bytes alike. (
      c.rate_stream.ensures.alike bytes alike,
      c.coded_vectors_keep_inside.ensures (fit c.args.budget) c.args.settings.now bytes c.requires alike,
    )

pub returns-clause-read : goal.returns-clause-read
returns-clause-read g c = λ is. c.rate_stream.ensures.read (of_read c.rate_stream.result (sym c.ended.ensures ∙ is))

pub returns-clause-write : goal.returns-clause-write
returns-clause-write g c = λ is. c.rate_stream.ensures.write (of_write c.rate_stream.result (sym c.ended.ensures ∙ is))

pub returns-clause-side : goal.returns-clause-side
returns-clause-side g c = λ is. c.rate_stream.ensures.side (of_side c.rate_stream.result (sym c.ended.ensures ∙ is))
