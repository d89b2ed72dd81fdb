use Rattle.std.proofs.Common.{◌≡◌, drop}
use Rattle.dirac_refs.specs.References.{listed}
use Rattle.dirac_refs.proofs.ref_buffer.RefBuffer.find_reference.Given as goal

abbrev pub invariant-loop-place : goal.invariant-loop-place
invariant-loop-place l = listed l.self-inside.list l.number ≡ listed (drop l.place l.self-inside.list) l.number
