use Rattle.dirac_stream_commands.proofs.Decoded.{done_no_memory, fault_no_memory, fault_side, no_memory}
use Rattle.dirac_stream_commands.proofs.Inside.{decoded_inside}
use Rattle.dirac_stream_commands.proofs.decoding.decode.Goals as goal

pub returns-in-NoMemory-put_tally-clause-decoded : goal.returns-in-NoMemory-put_tally-clause-decoded
returns-in-NoMemory-put_tally-clause-decoded g c =
    done_no_memory (g.S.Source.held c.args.source.now) (g.K.Sink.taken c.args.out.now) (g.K.Sink.taken c.decoded_by.new.out)
    (g.N.Sink.taken c.args.side.now) (g.N.Sink.taken c.put_tally.new.side) c.in-Done.tally
    c.in-Done.ensures.decoded c.in-NoMemory-put_tally.ensures.front

pub returns-in-Failed-put_tally-clause-decoded : goal.returns-in-Failed-put_tally-clause-decoded
returns-in-Failed-put_tally-clause-decoded g c =
    fault_side (g.S.Source.held c.args.source.now) (g.K.Sink.taken c.args.out.now) (g.K.Sink.taken c.decoded_by.new.out)
    (g.N.Sink.taken c.args.side.now) (g.N.Sink.taken c.put_tally-in-Fault.new.side) c.in-Fault.fault c.in-Fault.tally
    c.in-Fault.ensures.decoded c.in-Failed-put_tally.ensures.front

pub returns-in-NoMemory-put_tally-2-clause-decoded : goal.returns-in-NoMemory-put_tally-2-clause-decoded
returns-in-NoMemory-put_tally-2-clause-decoded g c =
    fault_no_memory (g.S.Source.held c.args.source.now) (g.K.Sink.taken c.args.out.now) (g.K.Sink.taken c.decoded_by.new.out)
    (g.N.Sink.taken c.args.side.now) (g.N.Sink.taken c.put_tally-in-Fault.new.side) c.in-Fault.fault c.in-Fault.tally
    c.in-Fault.ensures.decoded c.in-NoMemory-put_tally-2.ensures.front

pub returns-in-NoMemory-clause-decoded : goal.returns-in-NoMemory-clause-decoded
returns-in-NoMemory-clause-decoded g c =
    no_memory (g.S.Source.held c.args.source.now) (g.K.Sink.taken c.args.out.now) (g.K.Sink.taken c.decoded_by.new.out)
    (g.N.Sink.taken c.args.side.now) c.in-NoMemory.ensures.decoded

pub returns-in-All-put_tally-clause-fault_inside : goal.returns-in-All-put_tally-clause-fault_inside
returns-in-All-put_tally-clause-fault_inside g c =
    decoded_inside (g.S.Source.held c.args.source.now) (g.K.Sink.taken c.args.out.now) (g.K.Sink.taken c.decoded_by.new.out) c.in-Fault.fault c.in-Fault.tally
    c.in-Fault.ensures.decoded
