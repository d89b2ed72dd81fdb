-- The bytes of a sequence header are few, and are read as the sequence of its settings.
use Rattle.std.proofs.Common.{Ok, ◌≡◌, ℕ, zero, suc, ◌+◌, ◌*◌, ◌/◌, ◌<◌, ◌≤◌, ◌^◌, Bool, true, false, List, [], ◌∷◌, ◌++◌, length, drop, refl, ap, arith, ◌-◌, ◌%◌, length-append}
use Rattle.std.proofs.lemmas.List.{length-replicate}
use Rattle.dirac_types.specs.Settings.{IsAccepted}
use Rattle.dirac_bits.proofs.Whole.{whole_read}
use Rattle.dirac_sequence_header.specs.Grammar.{sequence, sequence_read}
use Rattle.dirac_sequence.proofs.Accepted.{writable}
use Rattle.dirac_bits.proofs.Packed.{starts}
use Rattle.dirac_sequence.proofs.Written.{sequence_spelled}
use Rattle.dirac_types.specs.declared.settings.Settings.{Settings}
use Rattle.dirac_common.specs.Bytes.{bytes_in, bytes_of}
use Rattle.dirac_common.specs.Numbers.{digits_of, followed, uint}
use Rattle.dirac_bits.specs.Writing.{gap}
use Rattle.dirac_sequence.specs.Written.{base_bits, custom_bits, frames_bits, is_own_chroma, is_own_rate, is_own_signal, is_own_size, samples_bits, sequence_bits, sequence_of, sequence_payload, up_to_byte, whole_area_bits}
use Rattle.dirac_encode_laws.specs.Stream.{header_length}
use Rattle.dirac_encode_laws.proofs.InBytes.{bytes_again}
use Rattle.dirac_common.proofs.Digits.{length-digits_within}

length-followed : (bits : List Bool) → length (followed bits) ≡ 2 * length bits
length-followed [] = refl
length-followed (b ∷ bits) = omega (arith, length-followed bits)

uint_few : (v : ℕ) → length (uint v) ≤ 77
unfolding digits_of
uint_few v = omega (arith, length-append (followed (digits_of v)) (true ∷ []), length-followed (digits_of v), length-digits_within 38 (v + 1))

custom_few : (own : Bool) (bits : List Bool) → length (custom_bits own bits) ≤ 1 + length bits
custom_few true bits = omega arith
custom_few false bits = omega arith

-- two parts
both_few : (a b : List Bool) (m n most : ℕ) → length a ≤ m → length b ≤ n → m + n ≤ most → length (a ++ b) ≤ most
both_few a b m n most first second all = omega (arith, length-append a b, first, second, all)

pair_few : (a b : ℕ) → length (uint a ++ uint b) ≤ 154
pair_few a b = both_few (uint a) (uint b) 77 77 154 (uint_few a) (uint_few b) (omega arith)

base_few : (t : Settings) → length (base_bits t) ≤ 385
base_few t =
    both_few (uint 2 ++ uint 2 ++ uint t.profile ++ uint t.level) (uint t.base) 308 77 385
    (both_few (uint 2 ++ uint 2 ++ uint t.profile) (uint t.level) 231 77 308
    (both_few (uint 2 ++ uint 2) (uint t.profile) 154 77 231 (pair_few 2 2) (uint_few t.profile) (omega arith)) (uint_few t.level) (omega arith)) (uint_few t.base) (omega arith)

-- a custom flag and a number
flag_few : (own : Bool) (v : ℕ) → length (custom_bits own (uint v)) ≤ 78
flag_few own v = omega (arith, custom_few own (uint v), uint_few v)

frames_few : (t : Settings) → length (frames_bits t) ≤ 312
frames_few t =
    let size = custom_bits (is_own_size t) (uint t.width ++ uint t.height) in
    let chroma = custom_bits (is_own_chroma t) (uint t.chroma) in
    let rate = custom_bits (is_own_rate t) (uint t.rate) in
    let size_few : length size ≤ 155 = omega (arith, custom_few (is_own_size t) (uint t.width ++ uint t.height), pair_few t.width t.height) in
    both_few (size ++ chroma ++ (false ∷ [])) rate 234 78 312
    (both_few (size ++ chroma) (false ∷ []) 233 1 234 (both_few size chroma 155 78 233 size_few (flag_few (is_own_chroma t) t.chroma) (omega arith)) (omega arith) (omega arith))
    (flag_few (is_own_rate t) t.rate) (omega arith)

area_few : (t : Settings) → length (whole_area_bits t) ≤ 308
area_few t =
    both_few (uint t.width ++ uint t.height ++ uint 0) (uint 0) 231 77 308
    (both_few (uint t.width ++ uint t.height) (uint 0) 154 77 231 (pair_few t.width t.height) (uint_few 0) (omega arith)) (uint_few 0) (omega arith)

samples_few : (t : Settings) → length (samples_bits t) ≤ 388
samples_few t =
    let area = custom_bits (is_own_size t) (whole_area_bits t) in
    let signal = custom_bits (is_own_signal t) (uint t.signal) in
    let all_few : length area ≤ 309 = omega (arith, custom_few (is_own_size t) (whole_area_bits t), area_few t) in
    both_few ((false ∷ []) ++ area) signal 310 78 388
    (both_few (false ∷ []) area 1 309 310 (omega arith) all_few (omega arith)) (flag_few (is_own_signal t) t.signal) (omega arith)

bits_few : (t : Settings) → length (sequence_bits t) ≤ 1163
bits_few t =
    both_few (base_bits t ++ frames_bits t ++ samples_bits t ++ (false ∷ [])) (uint t.fields) 1086 77 1163
    (both_few (base_bits t ++ frames_bits t ++ samples_bits t) (false ∷ []) 1085 1 1086
    (both_few (base_bits t ++ frames_bits t) (samples_bits t) 697 388 1085
    (both_few (base_bits t) (frames_bits t) 385 312 697 (base_few t) (frames_few t) (omega arith)) (samples_few t) (omega arith)) (omega arith) (omega arith)) (uint_few t.fields) (omega arith)

pub length-bytes_in : (n : ℕ) (bits : List Bool) → length (bytes_in n bits) ≡ n
unfolding bytes_in
length-bytes_in zero bits = refl
length-bytes_in (suc n) bits = ap suc (length-bytes_in n (drop 8 bits))

pub header_few : (t : Settings) → length (sequence_payload t) ≤ 200
unfolding sequence_payload
header_few t =
    let bits = sequence_bits t in
    let all = up_to_byte bits in
    omega (arith, length-bytes_in (length all / 8) all, length-append bits (gap bits), length-replicate ((8 - length bits % 8) % 8) false, bits_few t)

pub header_short : (t : Settings) → header_length t < 2 ^ 32
header_short t = omega (arith, header_few t)

-- ---- the header is read

pub header_read : (t : Settings) → IsAccepted t → sequence_read (sequence_payload t) ≡ Ok (sequence_of t)
unfolding sequence_payload
header_read t accepted =
    let bits = sequence_bits t in
    let bytes = bytes_of (up_to_byte bits) in
    whole_read sequence (sequence_of t) bytes (starts sequence (sequence_of t) bits (gap bits) bytes (sequence_spelled t 0 (writable t accepted)) (bytes_again bits))
