use Rattle.std.proofs.Common.{◌≡◌, ◌++◌, Bool, List, ap, rules, ◌∙◌, subst}
use Rattle.dirac_bits.specs.Writing.{up_to_byte}
use Rattle.dirac_header.specs.Written.{header_bits}
use Rattle.dirac_picture.proofs.Apart.{up_is_whole}
use Rattle.dirac_picture.proofs.write.payload_bytes.Goals as goal
use Rattle.dirac_picture.specs.Written.{HasSpelledTable, with_coded}

pub finish-requires : goal.finish-requires
finish-requires c =
    let written : c.write_coefficients.new.w ≡ up_to_byte (with_coded c.args.sequence.now c.args.index c.args.precision c.args.coded.now c.new-w.result) = search rules in
    up_is_whole (with_coded c.args.sequence.now c.args.index c.args.precision c.args.coded.now c.new-w.result) c.write_coefficients.new.w written

pub returns-clause-value : goal.returns-clause-value
returns-clause-value c =
    let written : c.write_coefficients.new.w ≡ up_to_byte (with_coded c.args.sequence.now c.args.index c.args.precision c.args.coded.now c.new-w.result) = search rules in
    c.in_ok-bytes.ensures ∙ written
    ∙ ap (λ (l : List Bool). up_to_byte (with_coded c.args.sequence.now c.args.index c.args.precision c.args.coded.now l)) c.new-w.ensures

pub returns-clause-spelled : goal.returns-clause-spelled
returns-clause-spelled c =
    let spelled : HasSpelledTable c.args.index c.args.precision c.args.coded.now.motion (c.new-w.result ++ header_bits c.new-w.result c.args.coded.now.code c.args.coded.now.header) = search rules in
    subst (λ (l : List Bool). HasSpelledTable c.args.index c.args.precision c.args.coded.now.motion (l ++ header_bits l c.args.coded.now.code c.args.coded.now.header)) c.new-w.ensures spelled
