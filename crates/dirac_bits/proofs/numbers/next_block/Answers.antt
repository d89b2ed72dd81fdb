use Rattle.std.proofs.Common.{◌≡◌, ℕ, ◌+◌, ◌*◌, arith, ap, ◌∙◌, List, Result, Ok}
use Rattle.std.specs.Prelude.{slice_range}
use Rattle.dirac_common.specs.declared.faults.Cause.{Cause}
use Rattle.dirac_bits.specs.Cursor.{Cursor}
use Rattle.dirac_bits.proofs.Blocks.{bytes_are, bytes_short}
use Rattle.dirac_bits.proofs.numbers.next_block.Goals as goal

pub returns-then-bytes-start-clause-value : goal.returns-then-bytes-start-clause-value
returns-then-bytes-start-clause-value c =
    bytes_short c.args.len c.args.first.byte (8 * c.args.first.byte + c.args.first.bit) c.args.bytes.now (omega arith) (omega arith) (omega arith)
    (λ i. omega (arith, c.type_inv.bytes i))

pub returns-clause-value : goal.returns-clause-value
returns-clause-value c =
    let from : ℕ = 8 * c.args.first.byte + c.args.first.bit in
    let part = slice_range c.args.bytes.now c.args.first.byte (c.args.first.byte + c.args.len) in
    let answer : ℕ → Result (List ℕ × Cursor) Cause = λ at. Ok (part, record { bytes = c.args.bytes.now; at = at }) in
    let behind : from + 8 * c.args.len ≡ 8 * (c.args.first.byte + c.args.len) + 0 = omega arith in
    bytes_are c.args.len c.args.first.byte from c.args.bytes.now (omega arith) (omega arith) (λ i. omega (arith, c.type_inv.bytes i))
    ∙ ap answer behind
