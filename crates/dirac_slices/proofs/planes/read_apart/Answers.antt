use Rattle.std.proofs.Common.{Ok, ap}
use Rattle.dirac_slices.proofs.Oriented.{apart_missing, apart_read, apart_refused, read_lawful}
use Rattle.dirac_slices.proofs.planes.read_apart.Goals as goal

pub returns-in_default-clause-none : goal.returns-in_default-clause-none
returns-in_default-clause-none g c = λ e.
    apart_missing c.args.sequence.now c.args.transform.now c.args.r.now c.again-behind.result c.again-behind.ensures (c.in_ok-found.ensures.none (ap Ok c.in_default.is))

pub returns-in_default-2-clause-none : goal.returns-in_default-2-clause-none
returns-in_default-2-clause-none g c = λ e.
    apart_refused c.args.sequence.now c.args.transform.now c.in_ok-found.field-0 c.in-Some.found c.args.r.now c.again-behind.result c.find_planes.new.r
    c.again-behind.ensures c.in-Some.is c.in_ok-found.ensures.found (c.in_ok-planes.ensures.none (ap Ok c.in_default-2.is))

pub returns-clause-value : goal.returns-clause-value
returns-clause-value g c =
    apart_read c.args.sequence.now c.args.transform.now c.in_ok-found.field-0 c.in-Some.found c.in_ok-planes.field-0 c.in-Some-2.planes c.args.r.now c.again-behind.result c.find_planes.new.r
    c.again-behind.ensures c.in-Some.is c.in-Some-2.is c.in_ok-found.ensures.found c.in_ok-planes.ensures.value

pub returns-clause-lawful : goal.returns-clause-lawful
returns-clause-lawful g c =
    (read_lawful c.args.sequence.now c.args.transform.now c.in-Some.found c.in_ok-planes.field-0 c.in-Some-2.planes c.in-Some-2.is c.in_ok-planes.ensures.value).lawful
