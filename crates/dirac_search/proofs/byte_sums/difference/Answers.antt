use Rattle.std.proofs.Common.{◌≡◌, pos, ◌-ℤ◌, unsigned_abs, ap, arith, ◌∙◌}
use Rattle.std.proofs.lemmas.Int.{ints}
use Rattle.dirac_search.proofs.byte_sums.difference.Goals as goal

pub returns-clause-value : goal.returns-clause-value
returns-clause-value c =
    let same : pos c.raised.result -ℤ pos c.raised-2.result ≡ c.args.a -ℤ c.args.b = omega (arith, ints, c.raised.ensures, c.raised-2.ensures) in
    c.bytes_apart.ensures.value ∙ ap unsigned_abs same
