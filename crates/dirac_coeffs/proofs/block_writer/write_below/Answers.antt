use Rattle.std.proofs.Common.{◌≡◌, ◌+◌, ◌++◌, ◌∙◌, ℕ, List, Ok, IfOk, ap, append_assoc, arith, subst, sym}
use Rattle.std.proofs.lemmas.List.{append-nil}
use Rattle.std.proofs.lemmas.Result.{IfOk-weaker}
use Rattle.dirac_arith.specs.Interval.{Decision, whole, narrowed_by}
use Rattle.dirac_arith.specs.Written.{flush}
use Rattle.dirac_arith.proofs.Spellings.{narrowed_more}
use Rattle.dirac_coeffs.specs.BandRead.{band_read, band_content}
use Rattle.dirac_coeffs.specs.Decisions.{bands_part, blocks_part}
use Rattle.dirac_coeffs.specs.Lent.{numbers_in}
use Rattle.dirac_coeffs.specs.WrittenBand.{block_of_band, blocks_of_row, marks_in, rows_of_blocks, whole_block}
use Rattle.dirac_coeffs.proofs.AgreementOfBlocks.{bands_next, blocks_next}
use Rattle.dirac_coeffs.proofs.Writing.{in_bands, written_read}
use Rattle.dirac_coeffs.proofs.block_writer.write_below.Goals as goal

pub down-init : goal.down-init
unfolding bands_part
down-init c = c.new-encoder.ensures

pub across-init : goal.across-init
unfolding blocks_part
across-init c = c.down.invariant ∙ ap (λ (ds : List Decision). narrowed_by whole ds) (sym (append-nil (rows_of_blocks c.args.band c.down.cy)))

pub write_codeblock-requires : goal.write_codeblock-requires
write_codeblock-requires c =
    record {
      writable =
          record {
            layout = c.requires.layout;
            len = c.requires.lawful.len;
            magnitudes_bounded = c.requires.lawful.small;
            count = c.requires.lawful.count;
          };
      row = omega arith;
      column = omega arith;
    }

pub across-preserved : goal.across-preserved
across-preserved c =
    let band = c.args.band in
    let cy = c.down.cy in
    let n = c.across.cx in
    let before = rows_of_blocks band cy in
    narrowed_more whole c.across.encoder c.write_codeblock.new.encoder (before ++ blocks_of_row band cy n) (whole_block band cy n) (before ++ blocks_of_row band cy (n + 1)) c.across.invariant c.in-Ok.ensures
    (ap (λ (ds : List Decision). before ++ ds) (blocks_next band.layout (numbers_in band.parent) (numbers_in band.values) (marks_in band cy) cy n) ∙ sym (append_assoc before (blocks_of_row band cy n) (whole_block band cy n)))

pub down-preserved : goal.down-preserved
down-preserved c =
    let band = c.args.band in
    let cy = c.down.cy in
    let all : c.across.cx ≡ band.layout.across = omega (arith, c.across.auto.cx-end) in
    let row = ap (λ (n : ℕ). rows_of_blocks band cy ++ blocks_of_row band cy n) all in
    c.across.invariant ∙ ap (λ (ds : List Decision). narrowed_by whole ds) (row ∙ sym (bands_next band.layout (numbers_in band.parent) (numbers_in band.values) (marks_in band) cy))

pub returns-clause-exact : goal.returns-clause-exact
returns-clause-exact c =
    let band = c.args.band in
    let all : c.down.cy ≡ band.layout.down = omega (arith, c.down.auto.cy-end) in
    let answer : IfOk c.finish.result (λ block. block.items ≡ flush (rows_of_blocks band c.down.cy)) =
    c.finish.ensures (rows_of_blocks band c.down.cy) (in_bands band.layout (numbers_in band.parent) (numbers_in band.values) (marks_in band) c.down.cy) c.down.invariant in
    subst (λ (n : ℕ). IfOk c.finish.result (λ block. block.items ≡ flush (rows_of_blocks band n))) all answer

pub returns-clause-read_back : goal.returns-clause-read_back
returns-clause-read_back c =
    let band = c.args.band in
    let parent = numbers_in band.parent in
    let xs = numbers_in band.values in
    IfOk-weaker c.finish.result (λ block. block.items ≡ block_of_band band) (λ block. band_read band.layout parent band.index block.items ≡ Ok (band_content xs band.indices.now))
    (λ block e. ap (λ (l : List ℕ). band_read band.layout parent band.index l) e ∙ written_read band.layout parent band.index xs band.indices.now c.requires.layout c.requires.lawful c.requires.indices)
    (returns-clause-exact c)
