use Rattle.std.proofs.Common.{◌≤◌, drop}
use Rattle.dirac_edit_laws.specs.Texts.{with_pictures}
use Rattle.dirac_edit_laws.specs.Units.{sequences_bytes}
use Rattle.dirac_edit.proofs.Written.{IsWritten}
use Rattle.dirac_edit.proofs.writing.put_sequences.Given as goal

abbrev pub invariant-loop-sequence : goal.invariant-loop-sequence
invariant-loop-sequence g l = record {
  written : IsWritten (sequences_bytes 0 (with_pictures l.sequences)) (sequences_bytes l.previous (with_pictures (drop l.sequence-index l.sequences))) (g.K.Sink.taken l.initial.out) (g.K.Sink.taken l.out);
  count : g.K.Sink.faults l.initial.out ≤ g.K.Sink.faults l.out;
}
