use Rattle.dirac_bits.proofs.Read.{spelled_read, read_spelled}
use Rattle.dirac_bits.proofs.laws.headers_are_read_as_spelled.Goals as goal

pub returns-clause-read : goal.returns-clause-read
returns-clause-read g c = λ s x from behind begins. spelled_read s x from behind begins.bits begins.spells begins.passes

pub returns-clause-spelled : goal.returns-clause-spelled
returns-clause-spelled g c = λ s x from behind inside is. read_spelled s x from behind inside is
