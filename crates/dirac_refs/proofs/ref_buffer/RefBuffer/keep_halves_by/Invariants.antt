use Rattle.std.proofs.Common.{◌≡◌, length}
use Rattle.dirac_refs.proofs.Turned.{turned}
use Rattle.dirac_refs.proofs.ref_buffer.RefBuffer.keep_halves_by.Given as goal

abbrev pub invariant-loop : goal.invariant-loop
invariant-loop g l = record {
  turned : l.self-inside.list ≡ turned l.initial.self-inside.list l.counter;
  all : l.end ≡ length l.initial.self-inside.list;
}
