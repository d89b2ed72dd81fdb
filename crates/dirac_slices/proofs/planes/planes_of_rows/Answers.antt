use Rattle.std.proofs.Common.{Ok, ap, arith, drop, length, length-drop, refl, ◌∙◌}
use Rattle.dirac_common.specs.declared.formats.Component.TheVariants as component
use Rattle.dirac_slices.proofs.Oriented.{drop_twice, lawful_at, reads_at, refused_at, rows_at, whole_plane}
use Rattle.dirac_slices.proofs.planes.planes_of_rows.Goals as goal

pub take_plane-requires-clause-sites : goal.take_plane-requires-clause-sites
take_plane-requires-clause-sites c =
    whole_plane c.args.transform.now c.args.found.now component.Y c.sites.result.now c.sites.ensures c.requires.found

pub take_plane-requires-2-clause-sites : goal.take_plane-requires-2-clause-sites
take_plane-requires-2-clause-sites c =
    whole_plane c.args.transform.now c.args.found.now component.U c.sites-2.result.now c.sites-2.ensures c.requires.found

pub take_plane-requires-3-clause-sites : goal.take_plane-requires-3-clause-sites
take_plane-requires-3-clause-sites c =
    whole_plane c.args.transform.now c.args.found.now component.V c.sites-3.result.now c.sites-3.ensures c.requires.found

pub take_plane-requires-clause-rows : goal.take_plane-requires-clause-rows
take_plane-requires-clause-rows c =
    rows_at c.args.sequence.now c.args.transform.now c.args.found.now c.args.rows.items 0 c.size_of-luma.result c.sites.result.now c.args.rows.items
    (omega arith) c.requires.rows c.size_of-luma.ensures c.sites.ensures refl

pub take_plane-requires-2-clause-rows : goal.take_plane-requires-2-clause-rows
take_plane-requires-2-clause-rows c =
    rows_at c.args.sequence.now c.args.transform.now c.args.found.now c.args.rows.items 1 c.size_of-chroma.result c.sites-2.result.now c.take_plane.new.rows.items
    (omega arith) c.requires.rows c.size_of-chroma.ensures c.sites-2.ensures c.in_ok-y.ensures.rest

pub take_plane-requires-3-clause-rows : goal.take_plane-requires-3-clause-rows
take_plane-requires-3-clause-rows c =
    rows_at c.args.sequence.now c.args.transform.now c.args.found.now c.args.rows.items 2 c.size_of-chroma.result c.sites-3.result.now c.take_plane-2.new.rows.items
    (omega arith) c.requires.rows c.size_of-chroma.ensures c.sites-3.ensures
    (c.in_ok-u.ensures.rest ∙ ap (drop 4) c.in_ok-y.ensures.rest ∙ drop_twice 4 4 c.args.rows.items)

pub take_plane-requires-clause-count : goal.take_plane-requires-clause-count
take_plane-requires-clause-count c = omega (arith, c.requires.rows.0)

pub take_plane-requires-2-clause-count : goal.take_plane-requires-2-clause-count
take_plane-requires-2-clause-count c =
    omega (arith, c.requires.rows.0, ap length c.in_ok-y.ensures.rest, length-drop 4 c.args.rows.items)

pub take_plane-requires-3-clause-count : goal.take_plane-requires-3-clause-count
take_plane-requires-3-clause-count c =
    omega (arith, c.requires.rows.0, ap length c.in_ok-y.ensures.rest, length-drop 4 c.args.rows.items, ap length c.in_ok-u.ensures.rest, length-drop 4 c.take_plane.new.rows.items)

pub returns-clause-value : goal.returns-clause-value
returns-clause-value c =
    let s = c.args.sequence.now in
    let t = c.args.transform.now in
    let found = c.args.found.now in
    let luma = c.size_of-luma in
    let chroma = c.size_of-chroma in
    record {
      y = reads_at s t found component.Y luma.result c.sites.result.now c.in_ok-y.field-0 c.in-Some.y luma.ensures c.sites.ensures c.in-Some.is c.in_ok-y.ensures.plane;
      u = reads_at s t found component.U chroma.result c.sites-2.result.now c.in_ok-u.field-0 c.in-Some-2.u chroma.ensures c.sites-2.ensures c.in-Some-2.is c.in_ok-u.ensures.plane;
      v = reads_at s t found component.V chroma.result c.sites-3.result.now c.in_ok-v.field-0 c.in-Some-3.v chroma.ensures c.sites-3.ensures c.in-Some-3.is c.in_ok-v.ensures.plane;
      lawful = record {
        y = lawful_at s t component.Y luma.result c.in_ok-y.field-0 c.in-Some.y luma.ensures c.in-Some.is c.in_ok-y.ensures.lawful;
        u = lawful_at s t component.U chroma.result c.in_ok-u.field-0 c.in-Some-2.u chroma.ensures c.in-Some-2.is c.in_ok-u.ensures.lawful;
        v = lawful_at s t component.V chroma.result c.in_ok-v.field-0 c.in-Some-3.v chroma.ensures c.in-Some-3.is c.in_ok-v.ensures.lawful;
      };
    }

pub returns-in_default-clause-none : goal.returns-in_default-clause-none
returns-in_default-clause-none c = λ e.
    refused_at c.args.sequence.now c.args.transform.now c.args.found.now component.Y c.size_of-luma.result c.sites.result.now c.size_of-luma.ensures c.sites.ensures (c.in_ok-y.ensures.none (ap Ok c.in_default.is))

pub returns-in_default-2-clause-none : goal.returns-in_default-2-clause-none
returns-in_default-2-clause-none c = λ e.
    refused_at c.args.sequence.now c.args.transform.now c.args.found.now component.U c.size_of-chroma.result c.sites-2.result.now c.size_of-chroma.ensures c.sites-2.ensures (c.in_ok-u.ensures.none (ap Ok c.in_default-2.is))

pub returns-in_default-3-clause-none : goal.returns-in_default-3-clause-none
returns-in_default-3-clause-none c = λ e.
    refused_at c.args.sequence.now c.args.transform.now c.args.found.now component.V c.size_of-chroma.result c.sites-3.result.now c.size_of-chroma.ensures c.sites-3.ensures (c.in_ok-v.ensures.none (ap Ok c.in_default-3.is))
