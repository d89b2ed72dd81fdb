use Rattle.std.proofs.Common.{◌≡◌, ◌≤◌, ◌-◌, length}
use Rattle.dirac_refs.specs.References.{without}
use Rattle.dirac_refs.proofs.Listed.{gone_through}
use Rattle.dirac_refs.proofs.ref_buffer.leave.Given as goal

abbrev pub invariant-loop-place : goal.invariant-loop-place
invariant-loop-place l = record {
  kept : without l.number l.initial.list ≡ gone_through l.number l.list l.place;
  inside : l.place ≤ length l.list;
}

abbrev pub decreases-loop-place : goal.decreases-loop-place
decreases-loop-place l = length l.list - l.place
