use Rattle.std.proofs.Common.{rules, ◌≡◌, pos, ◌+ℤ◌, true, false, unsigned_abs}
use Rattle.dirac_coeffs.specs.Indices.{is_index}
use Rattle.dirac_coeffs.proofs.OffsetsRead.{index_found, index_refused, index_stops}
use Rattle.dirac_coeffs.proofs.offsets.read_index.Goals as goal

pub returns-then-is_index-clause-value : goal.returns-then-is_index-clause-value
returns-then-is_index-clause-value c =
    let sum : c.sum_of-sum.result ≡ pos c.args.former +ℤ c.in-Ok.offset = search rules in
    let fits : is_index c.sum_of-sum.result ≡ true = search rules in
    let is : c.as_index.result ≡ unsigned_abs c.sum_of-sum.result = search rules in
    index_found c.args.former c.as_index.result c.in-Ok.offset c.sum_of-sum.result c.args.decoder.now c.signed.new.self c.in-Ok.ensures.read sum fits is

pub returns-else-is_index-clause-value : goal.returns-else-is_index-clause-value
returns-else-is_index-clause-value c =
    let sum : c.sum_of-sum.result ≡ pos c.args.former +ℤ c.in-Ok.offset = search rules in
    let out : is_index c.sum_of-sum.result ≡ false = search rules in
    index_refused c.args.former c.in-Ok.offset c.sum_of-sum.result c.args.decoder.now c.signed.new.self c.in-Ok.ensures.read sum out

pub returns-in-Err-clause-value : goal.returns-in-Err-clause-value
returns-in-Err-clause-value c = index_stops c.args.former c.args.decoder.now c.in-Err.cause c.in-Err.ensures.read

pub signed-requires-clause-no_overflow : goal.signed-requires-clause-no_overflow
signed-requires-clause-no_overflow c = c.requires.no_overflow

pub returns-then-is_index-clause-few_doublings : goal.returns-then-is_index-clause-few_doublings
returns-then-is_index-clause-few_doublings c = c.signed.ensures.few_doublings

pub returns-else-is_index-clause-few_doublings : goal.returns-else-is_index-clause-few_doublings
returns-else-is_index-clause-few_doublings c = c.signed.ensures.few_doublings

pub returns-in-Err-clause-few_doublings : goal.returns-in-Err-clause-few_doublings
returns-in-Err-clause-few_doublings c = c.signed.ensures.few_doublings
