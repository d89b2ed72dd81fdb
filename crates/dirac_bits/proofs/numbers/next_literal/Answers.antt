use Rattle.std.proofs.Common.{◌≡◌, ℕ, ◌+◌, ◌*◌, arith, ap, ◌∙◌, Result, Ok}
use Rattle.dirac_common.specs.declared.faults.Cause.{Cause}
use Rattle.dirac_bits.specs.Cursor.{Cursor}
use Rattle.dirac_bits.proofs.Literals.{literal_is, literal_short}
use Rattle.dirac_bits.proofs.numbers.next_literal.Goals as goal

pub returns-then-bytes-start-lt4-clause-value : goal.returns-then-bytes-start-lt4-clause-value
returns-then-bytes-start-lt4-clause-value c =
    literal_short c.args.first.byte (8 * c.args.first.byte + c.args.first.bit) c.args.bytes.now (omega arith) (omega arith)

pub returns-clause-value : goal.returns-clause-value
returns-clause-value c =
    let from : ℕ = 8 * c.args.first.byte + c.args.first.bit in
    let answer : ℕ → ℕ → Result (ℕ × Cursor) Cause = λ n at. Ok (n, record { bytes = c.args.bytes.now; at = at }) in
    let behind : from + 32 ≡ 8 * (c.args.first.byte + 4) + 0 = omega arith in
    literal_is c.args.first.byte from c.args.bytes.now (omega arith) (omega arith) (λ i. omega (arith, c.type_inv.bytes i))
    ∙ ap (λ n. answer n (from + 32)) (omega (arith, c.from_be_bytes.ensures))
    ∙ ap (λ at. answer c.from_be_bytes.result at) behind
