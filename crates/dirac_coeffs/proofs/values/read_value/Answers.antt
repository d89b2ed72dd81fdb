use Rattle.std.proofs.Common.{◌≡◌, ◌&&◌, Bool, true, false, ℤ, Result, Ok, Err, arith, of_z, rules, to_z, w64, ap, ap₂, subst, sym, ◌∙◌}
use Rattle.std.proofs.lemmas.Int.{to_z-of_z}
use Rattle.dirac_common.specs.declared.faults.Cause.{Cause}
use Rattle.dirac_arith.specs.Deciding.{decision_read, signed_read}
use Rattle.dirac_arith.specs.Decoding.{reading_at}
use Rattle.dirac_arith.specs.Front.{front}
use Rattle.dirac_arith.specs.Reading.{Reading}
use Rattle.dirac_arith.specs.Spelling.{follow_at}
use Rattle.dirac_arith.proofs.Behind.{zero_is_read}
use Rattle.dirac_arith.proofs.Carrieds.{signed_block}
use Rattle.dirac_coeffs.specs.Contexts.{follow_among, bits_context, is_zero, sign_of, sign_neighbour}
use Rattle.dirac_coeffs.proofs.values.read_value.Goals as goal

pub returns-then-decided-clause-read : goal.returns-then-decided-clause-read
returns-then-decided-clause-read c =
    let n = c.args.place in
    let follow = follow_among n.left.value c.args.above n.corner c.args.parent in
    let sign = sign_of (sign_neighbour c.args.band n.left.value c.args.above) in
    let before = reading_at c.args.decoder.now c.args.place.left.registers in
    let taken = c.foreseen_from-decided in
    let parent : to_z w64 (of_z w64 c.args.parent) ≡ c.args.parent = to_z-of_z w64 _ c.ranges.parent in
    let left : to_z w64 (of_z w64 n.left.value) ≡ n.left.value = search rules in
    let above : to_z w64 (of_z w64 c.args.above) ≡ c.args.above = to_z-of_z w64 _ c.ranges.above in
    let corner : to_z w64 (of_z w64 n.corner) ≡ n.corner = search rules in
    let context : c.first_among-first.result ≡ follow_at follow 0 = rw (← parent, ← left, ← above, ← corner) c.first_among-first.ensures.value in
    let new = reading_at taken.new.self taken.result.registers in
    let is = taken.ensures.read ∙ ap (λ (t : Bool). let x : Result (Bool × Reading) Cause = Ok (t, new) in x) c.if-decided.true in
    zero_is_read follow bits_context sign before new (subst (λ x. decision_read x before ≡ Ok (true, new)) context is)

pub registers-requires : goal.registers-requires
registers-requires c =
    let n = c.args.place in
    let follow = follow_among n.left.value c.args.above n.corner c.args.parent in
    let before = reading_at c.args.decoder.now c.args.place.left.registers in
    let taken = c.foreseen_from-decided in
    let parent : to_z w64 (of_z w64 c.args.parent) ≡ c.args.parent = to_z-of_z w64 _ c.ranges.parent in
    let left : to_z w64 (of_z w64 n.left.value) ≡ n.left.value = search rules in
    let above : to_z w64 (of_z w64 c.args.above) ≡ c.args.above = to_z-of_z w64 _ c.ranges.above in
    let corner : to_z w64 (of_z w64 n.corner) ≡ n.corner = search rules in
    let context : c.first_among-first.result ≡ follow_at follow 0 = rw (← parent, ← left, ← above, ← corner) c.first_among-first.ensures.value in
    let told : decision_read c.first_among-first.result before ≡ Ok (false, c.resume.new.self) =
    taken.ensures.read
    ∙ ap (λ (t : Bool). let x : Result (Bool × Reading) Cause = Ok (t, reading_at taken.new.self taken.result.registers) in x) c.if-decided.false
    ∙ ap (λ (r : Reading). let x : Result (Bool × Reading) Cause = Ok (false, r) in x) (sym c.resume.ensures) in
    let read = c.in-Ok.ensures.read (is_zero c.args.parent) (is_zero n.left.value && (is_zero c.args.above && is_zero n.corner)) before context told in
    let same = signed_block follow bits_context _ before (c.in-Ok.value, c.read_further.new.decoder) c.requires.runs.some read in
    record { not_refused = λ ones. c.requires.runs.some (ap (λ b. front b 16) (sym same) ∙ ones) }

pub returns-in-Err-clause-refused : goal.returns-in-Err-clause-refused
returns-in-Err-clause-refused c =
    let n = c.args.place in
    let follow = follow_among n.left.value c.args.above n.corner c.args.parent in
    let before = reading_at c.args.decoder.now c.args.place.left.registers in
    let taken = c.foreseen_from-decided in
    let parent : to_z w64 (of_z w64 c.args.parent) ≡ c.args.parent = to_z-of_z w64 _ c.ranges.parent in
    let left : to_z w64 (of_z w64 n.left.value) ≡ n.left.value = search rules in
    let above : to_z w64 (of_z w64 c.args.above) ≡ c.args.above = to_z-of_z w64 _ c.ranges.above in
    let corner : to_z w64 (of_z w64 n.corner) ≡ n.corner = search rules in
    let context : c.first_among-first.result ≡ follow_at follow 0 = rw (← parent, ← left, ← above, ← corner) c.first_among-first.ensures.value in
    let told : decision_read c.first_among-first.result before ≡ Ok (false, c.resume.new.self) =
    taken.ensures.read
    ∙ ap (λ (t : Bool). let x : Result (Bool × Reading) Cause = Ok (t, reading_at taken.new.self taken.result.registers) in x) c.if-decided.false
    ∙ ap (λ (r : Reading). let x : Result (Bool × Reading) Cause = Ok (false, r) in x) (sym c.resume.ensures) in
    let S : ℤ → ℤ → Type 0 = λ l a. signed_read follow bits_context (sign_of (sign_neighbour c.args.band l a)) before ≡ Err c.in-Err.cause in
    subst (λ l. S l c.args.above) left
    (subst (λ a. S (to_z w64 (of_z w64 n.left.value)) a) above
    (c.in-Err.ensures.read (is_zero c.args.parent) (is_zero n.left.value && (is_zero c.args.above && is_zero n.corner)) before context told))

pub returns-in-Ok-clause-read : goal.returns-in-Ok-clause-read
returns-in-Ok-clause-read c =
    let n = c.args.place in
    let follow = follow_among n.left.value c.args.above n.corner c.args.parent in
    let before = reading_at c.args.decoder.now c.args.place.left.registers in
    let taken = c.foreseen_from-decided in
    let parent : to_z w64 (of_z w64 c.args.parent) ≡ c.args.parent = to_z-of_z w64 _ c.ranges.parent in
    let left : to_z w64 (of_z w64 n.left.value) ≡ n.left.value = search rules in
    let above : to_z w64 (of_z w64 c.args.above) ≡ c.args.above = to_z-of_z w64 _ c.ranges.above in
    let corner : to_z w64 (of_z w64 n.corner) ≡ n.corner = search rules in
    let context : c.first_among-first.result ≡ follow_at follow 0 = rw (← parent, ← left, ← above, ← corner) c.first_among-first.ensures.value in
    let told : decision_read c.first_among-first.result before ≡ Ok (false, c.resume.new.self) =
    taken.ensures.read
    ∙ ap (λ (t : Bool). let x : Result (Bool × Reading) Cause = Ok (t, reading_at taken.new.self taken.result.registers) in x) c.if-decided.false
    ∙ ap (λ (r : Reading). let x : Result (Bool × Reading) Cause = Ok (false, r) in x) (sym c.resume.ensures) in
    let S : ℤ → ℤ → Type 0 = λ l a. signed_read follow bits_context (sign_of (sign_neighbour c.args.band l a)) before ≡ Ok (c.in-Ok.value, c.read_further.new.decoder) in
    let read = subst (λ l. S l c.args.above) left
    (subst (λ a. S (to_z w64 (of_z w64 n.left.value)) a) above
    (c.in-Ok.ensures.read (is_zero c.args.parent) (is_zero n.left.value && (is_zero c.args.above && is_zero n.corner)) before context told)) in
    let value : to_z w64 (of_z w64 c.in-Ok.value) ≡ c.in-Ok.value = search rules in
    read ∙ ap₂ (λ (v : ℤ) (r : Reading). let x : Result (ℤ × Reading) Cause = Ok (v, r) in x) (sym value) (sym c.registers.ensures.stands)

pub read_further-requires : goal.read_further-requires
read_further-requires c =
    omega (arith, ap (λ (r : Reading). r.at.doublings) c.resume.ensures, c.foreseen_from-decided.ensures.few_doublings, c.requires.no_overflow)

pub returns-in-Ok-clause-few_doublings : goal.returns-in-Ok-clause-few_doublings
returns-in-Ok-clause-few_doublings c =
    omega (arith, ap (λ (r : Reading). r.at.doublings) c.registers.ensures.stands, ap (λ (r : Reading). r.at.doublings) c.resume.ensures, c.read_further.ensures.few_doublings, c.foreseen_from-decided.ensures.few_doublings)

pub returns-in-Err-clause-few_then : goal.returns-in-Err-clause-few_then
returns-in-Err-clause-few_then c =
    omega (arith, ap (λ (r : Reading). r.at.doublings) c.resume.ensures, c.read_further.ensures.few_doublings, c.foreseen_from-decided.ensures.few_doublings)

pub foreseen_from-decided-requires-clause-context : goal.foreseen_from-decided-requires-clause-context
foreseen_from-decided-requires-clause-context c = c.first_among-first.ensures.context

pub foreseen_from-decided-requires-clause-runs : goal.foreseen_from-decided-requires-clause-runs
foreseen_from-decided-requires-clause-runs c = c.requires.runs

pub foreseen_from-decided-requires-clause-no_overflow : goal.foreseen_from-decided-requires-clause-no_overflow
foreseen_from-decided-requires-clause-no_overflow c = omega (arith, c.requires.no_overflow)

pub resume-requires : goal.resume-requires
resume-requires c = record { runs = c.foreseen_from-decided.ensures.runs }

pub returns-then-decided-clause-runs : goal.returns-then-decided-clause-runs
returns-then-decided-clause-runs c = c.foreseen_from-decided.ensures.runs

pub returns-then-decided-clause-few_doublings : goal.returns-then-decided-clause-few_doublings
returns-then-decided-clause-few_doublings c = omega (arith, c.foreseen_from-decided.ensures.few_doublings)

pub returns-then-decided-clause-refused : goal.returns-then-decided-clause-refused
returns-then-decided-clause-refused c = tt

pub returns-then-decided-clause-few_then : goal.returns-then-decided-clause-few_then
returns-then-decided-clause-few_then c = tt

pub returns-in-Ok-clause-runs : goal.returns-in-Ok-clause-runs
returns-in-Ok-clause-runs c = c.registers.ensures.runs

pub returns-in-Ok-clause-refused : goal.returns-in-Ok-clause-refused
returns-in-Ok-clause-refused c = tt

pub returns-in-Ok-clause-few_then : goal.returns-in-Ok-clause-few_then
returns-in-Ok-clause-few_then c = tt

pub returns-in-Err-clause-read : goal.returns-in-Err-clause-read
returns-in-Err-clause-read c = tt

pub returns-in-Err-clause-runs : goal.returns-in-Err-clause-runs
returns-in-Err-clause-runs c = tt

pub returns-in-Err-clause-few_doublings : goal.returns-in-Err-clause-few_doublings
returns-in-Err-clause-few_doublings c = tt
