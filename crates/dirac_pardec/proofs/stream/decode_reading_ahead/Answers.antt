use Rattle.std.proofs.Common.{ℕ, List, Option, subst}
use Rattle.std.specs.Prelude.{IfSome}
use Rattle.std.specs.Io.KnownBytes.{prepend_known}
use Rattle.dirac_decode.specs.Decoded.{IsFrontOfMore}
use Rattle.dirac_pardec.proofs.Sources.{done_at_end, front_of_read}
use Rattle.dirac_pardec.proofs.stream.decode_reading_ahead.Goals as goal

pub returns-clause-front_of_read : goal.returns-clause-front_of_read
returns-clause-front_of_read g c =
    let ahead = c.decode_by_crew-answer.new.source in
    let held' = g.S.Source.held ahead.source.now in
    let taken = g.K.Sink.taken c.args.out.now in
    let taken' = g.K.Sink.taken c.decode_by_crew-answer.new.out in
    rw c.into_source.ensures.same_source
    (front_of_read (g.S.Source.held c.args.lent.source.now) ahead.held held' taken taken'
    (subst (λ (known : Option (List ℕ)). IfSome known (λ bytes. IsFrontOfMore bytes (prepend_known ahead.held held') taken taken')) c.new-ahead.ensures.held
    c.decode_by_crew-answer.ensures.front_of_more))

pub returns-clause-whole : goal.returns-clause-whole
returns-clause-whole g c =
    let ahead = c.decode_by_crew-answer.new.source in
    rw c.into_source.ensures.same_source
    (done_at_end c.decode_by_crew-answer.result ahead.held (g.S.Source.held ahead.source.now) c.decode_by_crew-answer.ensures.whole)
