use Rattle.dirac_decode.proofs.stream.decode_stream.Goals as goal

pub returns : goal.returns
returns g c =
    let written = c.write_pictures.ensures.written in
    let faults = c.write_pictures.ensures.faults in
    record {
      decoded = written.decoded;
      broken_off = written.broken_off;
      front_of_read = written.front_of_read;
      front_of_more = written.front_of_more;
      whole = written.at_the_end;
      at_most_8_references = written.at_most_8_references;
      read = faults.read;
      write = faults.write;
      reads = faults.reads_never_fall;
      writes = faults.writes_never_fall;
    }
