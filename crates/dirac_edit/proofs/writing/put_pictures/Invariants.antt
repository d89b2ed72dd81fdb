use Rattle.std.proofs.Common.{◌≤◌, drop}
use Rattle.dirac_edit_laws.specs.Units.{pictures_bytes}
use Rattle.dirac_edit.proofs.Written.{IsWritten}
use Rattle.dirac_edit.proofs.writing.put_pictures.Given as goal

abbrev pub invariant-loop-picture : goal.invariant-loop-picture
invariant-loop-picture g l = record {
  written : IsWritten (pictures_bytes l.fn.previous l.pictures) (pictures_bytes l.previous (drop l.picture-index l.pictures)) (g.K.Sink.taken l.initial.out) (g.K.Sink.taken l.out);
  count : g.K.Sink.faults l.initial.out ≤ g.K.Sink.faults l.out;
}
