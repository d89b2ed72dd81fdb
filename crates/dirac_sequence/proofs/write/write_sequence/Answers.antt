use Rattle.std.proofs.Common.{ℕ, ◌<◌, ◌^◌, List, subst}
use Rattle.std.specs.List.{AllByRecursion}
use Rattle.dirac_bits.specs.Writing.{gap, up_to_byte}
use Rattle.dirac_bits.proofs.Whole.{whole_read}
use Rattle.dirac_sequence_header.specs.Grammar.{sequence}
use Rattle.dirac_sequence.specs.Written.{sequence_bits, sequence_of, sequence_payload}
use Rattle.dirac_sequence.proofs.Accepted.{writable}
use Rattle.dirac_bits.proofs.Packed.{packed, starts}
use Rattle.dirac_sequence.proofs.Written.{sequence_spelled}
use Rattle.dirac_sequence.proofs.write.write_sequence.Goals as goal

pub header_bytes-requires : goal.header_bytes-requires
header_bytes-requires c = writable c.args.settings.now c.requires

pub returns-clause-exact : goal.returns-clause-exact
unfolding sequence_payload
returns-clause-exact c = packed (up_to_byte (sequence_bits c.args.settings.now)) c.in_ok-bytes.bytes.items (subst (λ (l : List ℕ). AllByRecursion (λ b. b < 2 ^ 8) l) c.as_slice.ensures.value c.are_bytes.ensures) c.in_ok-bytes.ensures.bits

pub returns-clause-spelled : goal.returns-clause-spelled
returns-clause-spelled c =
    let t = c.args.settings.now in
    starts sequence (sequence_of t) (sequence_bits t) (gap (sequence_bits t)) c.in_ok-bytes.bytes.items (sequence_spelled t 0 (writable t c.requires)) c.in_ok-bytes.ensures.bits

pub returns-clause-read : goal.returns-clause-read
returns-clause-read c =
    let t = c.args.settings.now in
    whole_read sequence (sequence_of t) c.in_ok-bytes.bytes.items
    (starts sequence (sequence_of t) (sequence_bits t) (gap (sequence_bits t)) c.in_ok-bytes.bytes.items (sequence_spelled t 0 (writable t c.requires)) c.in_ok-bytes.ensures.bits)
