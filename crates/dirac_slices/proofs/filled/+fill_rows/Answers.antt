use Rattle.std.proofs.Common.{◌+◌, ◌-◌, ◌/◌, ◌++◌, length, ap, ap₂, sym, ◌∙◌, arith}
use Rattle.dirac_common.specs.Table.{Table, table_at}
use Rattle.dirac_picture.proofs.Chroma.{part_size}
use Rattle.dirac_synthesis.proofs.Maps.{ok_weaker}
use Rattle.dirac_content.specs.Content.{width_of}
use Rattle.dirac_slices.specs.Basis.{planes_of, basis_sequence}
use Rattle.dirac_slices.specs.Places.{component_at}
use Rattle.dirac_slices.proofs.Between.{basis_lawful, samples_long}
use Rattle.dirac_slices.proofs.Strips.{values_joined, values_none}
use Rattle.dirac_slices.proofs.filled.+fill_rows.Goals as goal

pub returns-then-from-to : goal.returns-then-from-to
returns-then-from-to t c =
    let b = c.args.making.now.basis in
    let d = component_at c.args.plane in
    values_none (table_at (planes_of b d)) (width_of (basis_sequence b) d) c.args.from c.args.to c.args.room.now c.if-from-to.true c.requires.room

pub returns : goal.returns
returns t c =
    let b = c.args.making.now.basis in
    let d = component_at c.args.plane in
    let middle = c.args.from + (c.args.to - c.args.from) / 2 in
    ok_weaker c.fill_rows-2.result (λ u e. ap₂ ◌++◌ c.in_ok-fill_rows.ensures e
    ∙ values_joined (table_at (planes_of b d)) (width_of (basis_sequence b) d) c.args.from middle c.args.to (part_size (basis_sequence b) d (basis_lawful b c.requires.basis)).across.0 (omega arith) (omega arith)) c.fill_rows-2.ensures

pub copy_from_slice-requires : goal.copy_from_slice-requires
copy_from_slice-requires t c =
    let b = c.args.making.now.basis in
    c.requires.room ∙ sym (ap length c.values.ensures.value ∙ samples_long (basis_sequence b) (planes_of b) (component_at c.args.plane) c.args.from c.args.to c.in_ok-strip.strip c.in_ok-strip.ensures)

pub returns-then-to-from-le-STRIP_ROWS : goal.returns-then-to-from-le-STRIP_ROWS
returns-then-to-from-le-STRIP_ROWS t c = c.copy_from_slice.ensures.after ∙ c.values.ensures.value ∙ ap (λ (t : Table). t.values) c.in_ok-strip.ensures
