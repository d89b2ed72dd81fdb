use Rattle.dirac_coeffs.specs.Grammar.{values_of_parent}
use Rattle.dirac_coeffs.proofs.Sited.{band_reads, band_refused}
use Rattle.dirac_coeffs.proofs.band.read_band.Goals as goal

pub returns-in-Ok-clause-value : goal.returns-in-Ok-clause-value
returns-in-Ok-clause-value c =
    band_reads c.args.layout (values_of_parent c.args.parent) c.args.r.now c.find_site.new.r c.in-Ok.site c.read_at.result c.in-Ok.ensures.value c.read_at.ensures.value

pub returns-in-Err-clause-value : goal.returns-in-Err-clause-value
returns-in-Err-clause-value c =
    band_refused c.args.layout (values_of_parent c.args.parent) c.args.r.now c.in-Err.refusal c.in-Err.ensures.value

pub read_at-requires-clause-layout : goal.read_at-requires-clause-layout
read_at-requires-clause-layout c = c.requires.layout

pub read_at-requires-clause-parent : goal.read_at-requires-clause-parent
read_at-requires-clause-parent c = c.requires.parent

pub read_at-requires-clause-index : goal.read_at-requires-clause-index
read_at-requires-clause-index c = c.in-Ok.ensures.index

pub returns-in-Ok-clause-kept : goal.returns-in-Ok-clause-kept
returns-in-Ok-clause-kept c = c.find_site.ensures.kept

pub returns-in-Ok-clause-lawful : goal.returns-in-Ok-clause-lawful
returns-in-Ok-clause-lawful c = c.read_at.ensures.lawful

pub returns-in-Err-clause-kept : goal.returns-in-Err-clause-kept
returns-in-Err-clause-kept c = c.find_site.ensures.kept

pub returns-in-Err-clause-lawful : goal.returns-in-Err-clause-lawful
returns-in-Err-clause-lawful c = tt

pub returns-in-Err-clause-place_inside : goal.returns-in-Err-clause-place_inside
returns-in-Err-clause-place_inside c = c.in-Err.ensures.place_inside
