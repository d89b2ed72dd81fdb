use Rattle.std.proofs.Common.{Result, Ok, ap, arith, subst, sym}
use Rattle.std.proofs.lemmas.Nat.{mul-le}
use Rattle.dirac_common.specs.declared.faults.Refusal.{Refusal}
use Rattle.dirac_coeffs.specs.declared.layout.CodedBand.{CodedBand}
use Rattle.dirac_coeffs.specs.Grammar.{IsCodedBand}
use Rattle.dirac_coeffs.proofs.Sited.{zero_lawful, zeros_are}
use Rattle.dirac_coeffs.proofs.site_reader.read_zeros.Goals as goal

pub returns-in-Ok-clause-value : goal.returns-in-Ok-clause-value
returns-in-Ok-clause-value c =
    ap (λ (b : CodedBand). let r : Result CodedBand Refusal = Ok b in r) (sym (zeros_are c.args.layout c.in-Ok.indices c.zeros.result c.in-Ok.ensures c.zeros.ensures))

pub returns-in-Ok-clause-lawful : goal.returns-in-Ok-clause-lawful
returns-in-Ok-clause-lawful c =
    subst (λ (b : CodedBand). IsCodedBand c.args.layout b) (sym (zeros_are c.args.layout c.in-Ok.indices c.zeros.result c.in-Ok.ensures c.zeros.ensures)) (zero_lawful c.args.layout)

pub returns-in-Err-clause-value : goal.returns-in-Err-clause-value
returns-in-Err-clause-value c = tt

pub returns-in-Err-clause-lawful : goal.returns-in-Err-clause-lawful
returns-in-Err-clause-lawful c = tt

pub overflow_mul-layout : goal.overflow_mul-layout
overflow_mul-layout c = omega (arith, mul-le c.args.layout.across c.args.layout.down 8192 8192 c.requires.across.1 c.requires.down.1)

pub zeros-requires-clause-across : goal.zeros-requires-clause-across
zeros-requires-clause-across c = c.requires.width

pub zeros-requires-clause-down : goal.zeros-requires-clause-down
zeros-requires-clause-down c = c.requires.height
