use Rattle.std.proofs.Common.{◌≡◌, ◌++◌, ◌-ℤ◌, ℕ, ap, ap₂, arith, of_z, pos, refl, to_z, w64, ◌∙◌}
use Rattle.std.proofs.lemmas.Int.{to_z-of_z}
use Rattle.std.proofs.lemmas.Result.{on_ok_weaker}
use Rattle.dirac_arith.proofs.Spellings.{narrowed_more}
use Rattle.dirac_coeffs.specs.Indices.{index_at, index_before, offset_part, place_of}
use Rattle.dirac_coeffs.specs.WrittenBand.{marks_in, values_of_block}
use Rattle.dirac_coeffs.proofs.Writing.{no_offset_written, offset_written}
use Rattle.dirac_coeffs.proofs.codeblock_writer.write_unskipped.Goals as goal

pub returns-then-band-eq0 : goal.returns-then-band-eq0
returns-then-band-eq0 c =
    let band = c.args.band in
    let offset = (marks_in band c.args.codeblock.row c.args.codeblock.column).offset in
    let ds = offset_part band.layout.mode offset in
    let es = values_of_block band c.args.codeblock.row c.args.codeblock.column in
    on_ok_weaker c.write_block_values.result (λ e. narrowed_more _ _ _ ds es (ds ++ es) (no_offset_written c.args.encoder.now band.layout.mode offset c.if-band-eq0.true) e refl) c.write_block_values.ensures

pub signed-requires-clause-value : goal.signed-requires-clause-value
signed-requires-clause-value c =
    let offset : to_z w64 (of_z w64 c.difference_of-offset.result) ≡ c.difference_of-offset.result = to_z-of_z w64 _ (record { sfits = c.difference_of-offset.type_inv }) in
    rw offset c.difference_of-offset.ensures.magnitude_can_be_spelt

pub returns-in-Ok : goal.returns-in-Ok
returns-in-Ok c =
    let band = c.args.band in
    let indices = band.indices.now in
    let place : c.codeblock_place-c.result ≡ place_of band.layout c.args.codeblock.row c.args.codeblock.column = c.codeblock_place-c.ensures.value in
    let offset : to_z w64 (of_z w64 c.difference_of-offset.result) ≡ c.difference_of-offset.result = to_z-of_z w64 _ (record { sfits = c.difference_of-offset.type_inv }) in
    let both = ap₂ (λ (a b : ℕ). pos a -ℤ pos b) (c.at.ensures ∙ ap (λ (p : ℕ). index_at indices p) place) (c.former_index.ensures ∙ ap (λ (p : ℕ). index_before band.index indices p) place) in
    let written = c.in-Ok.ensures ∙ offset_written c.args.encoder.now band.layout.mode c.if-band-eq0.false (offset ∙ c.difference_of-offset.ensures.value ∙ both) in
    let ds = offset_part band.layout.mode (marks_in band c.args.codeblock.row c.args.codeblock.column).offset in
    let es = values_of_block band c.args.codeblock.row c.args.codeblock.column in
    on_ok_weaker c.write_block_values-in-Ok.result (λ e. narrowed_more _ _ _ ds es (ds ++ es) written e refl) c.write_block_values-in-Ok.ensures

pub codeblock_place-c-requires-clause-layout : goal.codeblock_place-c-requires-clause-layout
codeblock_place-c-requires-clause-layout c = c.requires.writable.layout

pub codeblock_place-c-requires-clause-row : goal.codeblock_place-c-requires-clause-row
codeblock_place-c-requires-clause-row c = c.requires.row

pub codeblock_place-c-requires-clause-column : goal.codeblock_place-c-requires-clause-column
codeblock_place-c-requires-clause-column c = c.requires.column

pub at-requires : goal.at-requires
at-requires c = omega (arith, c.codeblock_place-c.ensures.inside, c.requires.writable.count)

pub former_index-requires : goal.former_index-requires
former_index-requires c = omega (arith, c.codeblock_place-c.ensures.inside, c.requires.writable.count)

pub write_block_values-requires : goal.write_block_values-requires
write_block_values-requires c = c.requires

pub write_block_values-requires-in-Ok : goal.write_block_values-requires-in-Ok
write_block_values-requires-in-Ok c = c.requires
