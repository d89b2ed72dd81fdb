use Rattle.std.proofs.Common.{◌≡◌, [], drop}
use Rattle.dirac_edit.specs.Open.{first_open}
use Rattle.dirac_edit.proofs.open.first_open_in.Given as goal

abbrev pub invariant-loop-picture : goal.invariant-loop-picture
invariant-loop-picture l = first_open [] l.pictures ≡ first_open l.refs (drop l.picture-index l.pictures)
