use Rattle.std.proofs.Common.{arith, sym, ap, ◌∙◌, ◌≡◌, ◌≤◌, ℕ, drop, slice_range, length}
use Rattle.std.proofs.lemmas.List.{take_rest}
use Rattle.dirac_units.specs.Info.{span_of}
use Rattle.dirac_edit.proofs.Beginning.{not_read, too_few, too_long, whole_unit}
use Rattle.dirac_edit.proofs.units.first_unit.Goals as goal

pub returns-then-bytes-lt-PARSE_INFO_LENGTH : goal.returns-then-bytes-lt-PARSE_INFO_LENGTH
returns-then-bytes-lt-PARSE_INFO_LENGTH c = too_few c.args.bytes.now (omega arith)

pub returns-in_default : goal.returns-in_default
returns-in_default c =
    not_read c.args.bytes.now c.in_default.field-0 c.if-bytes-lt-PARSE_INFO_LENGTH.false (sym c.in_default.ensures.read)

pub returns-then-bytes-span : goal.returns-then-bytes-span
returns-then-bytes-span c =
    too_long c.args.bytes.now c.in-Ok.info c.if-bytes-lt-PARSE_INFO_LENGTH.false (sym c.in-Ok.ensures.read)
    (omega (arith, c.span-span.ensures.span))

pub returns : goal.returns
returns c =
    let bytes = c.args.bytes.now in
    let span : c.span-span.result ≡ span_of c.in-Ok.info = c.span-span.ensures.span in
    let whole : span_of c.in-Ok.info ≤ length bytes = omega arith in
    whole_unit bytes c.in-Ok.info _ _ c.if-bytes-lt-PARSE_INFO_LENGTH.false (sym c.in-Ok.ensures.read) whole
    (c.of-unit.ensures ∙ ap (λ (n : ℕ). record { info = c.in-Ok.info; payload = slice_range bytes 13 n }) span)
    (take_rest bytes c.span-span.result ∙ ap (λ (n : ℕ). drop n bytes) span)
