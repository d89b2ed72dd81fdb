use Rattle.std.proofs.Common.{◌≡◌, ℤ, Bool, true, List, Result, Ok, Err, OnOk, sym, subst, ◌∙◌}
use Rattle.std.proofs.lemmas.Result.{on_ok_weaker}
use Rattle.dirac_bits.specs.Spelling.{SpelledBehind}
use Rattle.dirac_bits.specs.Writing.{gap}
use Rattle.dirac_bits.proofs.Fronts.{err_so, none_stand}
use Rattle.dirac_coeffs.specs.declared.layout.BandLayout.{BandLayout}
use Rattle.dirac_coeffs.specs.declared.layout.CodedBand.{CodedBand}
use Rattle.dirac_coeffs.specs.Grammar.{band as band_grammar, values_of_parent, IsCodedBand}
use Rattle.dirac_coeffs.specs.Indices.{all_equal}
use Rattle.dirac_coeffs.specs.Layouts.{IsBandLayout}
use Rattle.dirac_coeffs.specs.Written.{AreIndicesOf, is_zero_band, with_band}
use Rattle.dirac_coeffs.proofs.Fronts.{band_left, band_written, gap_alone, gap_written, zeros_written}
use Rattle.dirac_coeffs.proofs.SpelledBand.{band_spells}
use Rattle.dirac_coeffs.proofs.band_writer.write_band.Goals as goal

-- where the band's bits stand behind the old ones, they spell it
written_spells : {T E : Type 0} (layout : BandLayout) (parent : List ℤ) (b : CodedBand) (old new : List Bool) → IsBandLayout layout → IsCodedBand layout b → AreIndicesOf layout b.index b.table.values b.indices → (is_zero_band b.table.values ≡ true → b.index ≡ 0)
    → (is_zero_band b.table.values ≡ true → b.indices ≡ all_equal layout 0) → (r : Result T E) → OnOk r (new ≡ with_band layout parent b old) → OnOk r (SpelledBehind (band_grammar layout parent) b old new)
written_spells layout parent b old new is coded of zeros indices (Ok x) e = subst (λ (l : List Bool). SpelledBehind (band_grammar layout parent) b old l) (sym e) (band_spells layout parent b old is coded of zeros indices)
written_spells layout parent b old new is coded of zeros indices (Err x) e = e

pub returns-then-are_zeros-clause-exact : goal.returns-then-are_zeros-clause-exact
returns-then-are_zeros-clause-exact c =
    let zeros = sym c.are_zeros.ensures.value ∙ c.if-are_zeros.true in
    on_ok_weaker c.uint.result (λ e. zeros_written c.args.layout (values_of_parent c.args.parent) c.args.band.now c.args.w.now zeros c.in-Ok.ensures.ok e) c.uint.ensures.ok

pub returns-then-are_zeros-clause-front : goal.returns-then-are_zeros-clause-front
returns-then-are_zeros-clause-front c =
    err_so c.uint.result (λ e. gap_written c.args.layout (values_of_parent c.args.parent) c.args.band.now c.args.w.now (e ∙ c.in-Ok.ensures.ok)) c.uint.ensures.err

pub returns-then-are_zeros-clause-spelled : goal.returns-then-are_zeros-clause-spelled
returns-then-are_zeros-clause-spelled c =
    written_spells c.args.layout (values_of_parent c.args.parent) c.args.band.now c.args.w.now c.uint.new.self c.requires.layout c.requires.band c.requires.indices c.requires.zeros c.requires.zero_indices c.uint.result (returns-then-are_zeros-clause-exact c)

pub returns-else-are_zeros-clause-exact : goal.returns-else-are_zeros-clause-exact
returns-else-are_zeros-clause-exact c =
    let others = sym c.are_zeros.ensures.value ∙ c.if-are_zeros.false in
    let same = c.numbers_of.ensures in
    on_ok_weaker c.write_coded.result (λ e. band_written c.args.layout (values_of_parent c.args.parent) c.args.band.now c.args.w.now others c.in-Ok.ensures.ok same e) c.write_coded.ensures.exact

pub returns-else-are_zeros-clause-front : goal.returns-else-are_zeros-clause-front
returns-else-are_zeros-clause-front c =
    let others = sym c.are_zeros.ensures.value ∙ c.if-are_zeros.false in
    let same = c.numbers_of.ensures in
    err_so c.write_coded.result (λ holds. band_left c.args.layout (values_of_parent c.args.parent) c.args.band.now c.args.w.now others c.in-Ok.ensures.ok same holds) c.write_coded.ensures.front

pub returns-else-are_zeros-clause-spelled : goal.returns-else-are_zeros-clause-spelled
returns-else-are_zeros-clause-spelled c =
    written_spells c.args.layout (values_of_parent c.args.parent) c.args.band.now c.args.w.now c.write_coded.new.w c.requires.layout c.requires.band c.requires.indices c.requires.zeros c.requires.zero_indices c.write_coded.result (returns-else-are_zeros-clause-exact c)

pub returns-in-Err-clause-front : goal.returns-in-Err-clause-front
returns-in-Err-clause-front c =
    gap_alone c.args.layout (values_of_parent c.args.parent) c.args.band.now (none_stand (gap c.args.w.now) c.in-Err.ensures.err)

pub write_coded-requires-clause-layout : goal.write_coded-requires-clause-layout
write_coded-requires-clause-layout c = c.requires.layout

pub write_coded-requires-clause-band : goal.write_coded-requires-clause-band
write_coded-requires-clause-band c = c.requires.band

pub write_coded-requires-clause-indices : goal.write_coded-requires-clause-indices
write_coded-requires-clause-indices c = c.requires.indices
