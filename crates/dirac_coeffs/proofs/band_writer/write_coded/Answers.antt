use Rattle.dirac_coeffs.specs.Carried.{AreLawful}
use Rattle.std.proofs.Common.{◌≡◌, ◌+◌, ◌<◌, ◌^◌, ℕ, ℤ, List, length, refl, sym, ap, subst, ◌∙◌}
use Rattle.std.proofs.lemmas.Result.{on_ok_weaker}
use Rattle.dirac_bits.specs.Fronts.{HoldsFront}
use Rattle.dirac_bits.proofs.Fronts.{err_so}
use Rattle.dirac_coeffs.specs.Written.{AreIndicesOf, block_of, with_band_block}
use Rattle.dirac_coeffs.specs.Lent.{numbers_in}
use Rattle.dirac_coeffs.proofs.BlockLengths.{block_short}
use Rattle.dirac_coeffs.proofs.Fronts.{no_block}
use Rattle.dirac_coeffs.proofs.band_writer.write_coded.Goals as goal

pub write_below-requires-clause-indices : goal.write_below-requires-clause-indices
write_below-requires-clause-indices c =
    let b = c.args.band.now in
    subst (λ (xs : List ℤ). AreIndicesOf c.args.layout b.index xs b.indices) (sym c.numbers.ensures) c.requires.indices

pub returns-in-Err-clause-front : goal.returns-in-Err-clause-front
returns-in-Err-clause-front c =
    let b = c.args.band.now in
    no_block {old = c.args.w.now} b.index (block_of c.args.layout (numbers_in c.args.parent) b.index b.table.values b.indices) refl

pub write_indexed-requires : goal.write_indexed-requires
write_indexed-requires c =
    let b = c.args.band.now in
    let parent = numbers_in c.args.parent in
    let block : c.as_slice.result.now ≡ block_of c.args.layout parent b.index b.table.values b.indices =
    c.as_slice.ensures.value ∙ c.in-Ok.ensures.exact ∙ ap (λ xs. block_of c.args.layout parent b.index xs b.indices) c.numbers.ensures in
    subst (λ (l : List ℕ). length l + 1 < 2 ^ 39) (sym block) (block_short c.args.layout parent b.index b.table.values b.indices c.requires.layout)

pub returns-in-Ok-clause-exact : goal.returns-in-Ok-clause-exact
returns-in-Ok-clause-exact c =
    let b = c.args.band.now in
    let parent = numbers_in c.args.parent in
    let block : c.as_slice.result.now ≡ block_of c.args.layout parent b.index b.table.values b.indices =
    c.as_slice.ensures.value ∙ c.in-Ok.ensures.exact ∙ ap (λ xs. block_of c.args.layout parent b.index xs b.indices) c.numbers.ensures in
    on_ok_weaker c.write_indexed.result (λ e. e ∙ ap (λ (l : List ℕ). with_band_block b.index l c.args.w.now) block) c.write_indexed.ensures.exact

pub returns-in-Ok-clause-front : goal.returns-in-Ok-clause-front
returns-in-Ok-clause-front c =
    let b = c.args.band.now in
    let parent = numbers_in c.args.parent in
    let block : c.as_slice.result.now ≡ block_of c.args.layout parent b.index b.table.values b.indices =
    c.as_slice.ensures.value ∙ c.in-Ok.ensures.exact ∙ ap (λ xs. block_of c.args.layout parent b.index xs b.indices) c.numbers.ensures in
    err_so c.write_indexed.result (λ holds. subst (λ (l : List ℕ). HoldsFront c.args.w.now c.write_indexed.new.w (with_band_block b.index l c.args.w.now)) block holds) c.write_indexed.ensures.front

pub write_below-requires-clause-layout : goal.write_below-requires-clause-layout
write_below-requires-clause-layout c = c.requires.layout

pub write_below-requires-clause-lawful : goal.write_below-requires-clause-lawful
write_below-requires-clause-lawful c =
    let b = c.args.band.now in
    let is = c.requires.band in
    subst (λ (xs : List ℤ). AreLawful c.args.layout b.index xs b.indices) (sym c.numbers.ensures) (record { len = is.len; small = is.small; count = is.count; own = is.index; each = is.each })
