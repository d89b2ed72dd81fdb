use Rattle.std.proofs.Common.{◌≡◌, ℕ, ap, slice_set, ◌∙◌, arith, refl}
use Rattle.dirac_coeffs.specs.Indices.{index_before, place_of}
use Rattle.dirac_coeffs.proofs.OffsetsRead.{no_offset_read, offset_found, offset_stops}
use Rattle.dirac_coeffs.proofs.offsets.read_offset.Goals as goal

pub returns-then-layout-eq0-clause-value : goal.returns-then-layout-eq0-clause-value
returns-then-layout-eq0-clause-value c = no_offset_read c.args.layout.mode c.args.index _ c.args.indices.now c.args.decoder.now c.if-layout-eq0.true

pub returns-in-Ok-clause-value : goal.returns-in-Ok-clause-value
returns-in-Ok-clause-value c =
    let is = c.args.indices.now in
    let place : c.codeblock_place-c.result ≡ place_of c.args.layout c.args.codeblock.row c.args.codeblock.column = c.codeblock_place-c.ensures.value in
    offset_found c.args.layout.mode c.args.index (place_of c.args.layout c.args.codeblock.row c.args.codeblock.column) is c.set.new.self c.former_index-former.result c.in-Ok.next c.args.decoder.now c.read_index.new.decoder c.if-layout-eq0.false
    (c.former_index-former.ensures ∙ ap (λ (p : ℕ). index_before c.args.index is p) place) c.in-Ok.ensures.value (c.set.ensures ∙ ap (λ (p : ℕ). slice_set is p c.in-Ok.next) place)

pub returns-in-Err-clause-value : goal.returns-in-Err-clause-value
returns-in-Err-clause-value c =
    let place : c.codeblock_place-c.result ≡ place_of c.args.layout c.args.codeblock.row c.args.codeblock.column = c.codeblock_place-c.ensures.value in
    offset_stops c.args.layout.mode c.args.index (place_of c.args.layout c.args.codeblock.row c.args.codeblock.column) c.args.indices.now c.former_index-former.result c.args.decoder.now c.in-Err.cause c.if-layout-eq0.false
    (c.former_index-former.ensures ∙ ap (λ (p : ℕ). index_before c.args.index c.args.indices.now p) place) c.in-Err.ensures.value

pub codeblock_place-c-requires-clause-layout : goal.codeblock_place-c-requires-clause-layout
codeblock_place-c-requires-clause-layout c = c.requires.block.layout

pub codeblock_place-c-requires-clause-row : goal.codeblock_place-c-requires-clause-row
codeblock_place-c-requires-clause-row c = c.requires.block.row

pub codeblock_place-c-requires-clause-column : goal.codeblock_place-c-requires-clause-column
codeblock_place-c-requires-clause-column c = c.requires.block.column

pub former_index-former-requires : goal.former_index-former-requires
former_index-former-requires c = omega (arith, c.codeblock_place-c.ensures.inside, c.requires.count)

pub read_index-requires : goal.read_index-requires
read_index-requires c = record { no_overflow = c.requires.no_overflow }

pub set-requires : goal.set-requires
set-requires c = omega (arith, c.codeblock_place-c.ensures.inside, c.requires.count)

pub returns-then-layout-eq0-clause-count : goal.returns-then-layout-eq0-clause-count
returns-then-layout-eq0-clause-count c = refl

pub returns-then-layout-eq0-clause-few_doublings : goal.returns-then-layout-eq0-clause-few_doublings
returns-then-layout-eq0-clause-few_doublings c = omega arith

pub returns-in-Ok-clause-few_doublings : goal.returns-in-Ok-clause-few_doublings
returns-in-Ok-clause-few_doublings c = c.read_index.ensures.few_doublings

pub returns-in-Err-clause-count : goal.returns-in-Err-clause-count
returns-in-Err-clause-count c = refl

pub returns-in-Err-clause-few_doublings : goal.returns-in-Err-clause-few_doublings
returns-in-Err-clause-few_doublings c = c.read_index.ensures.few_doublings
