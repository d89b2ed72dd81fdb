use Rattle.std.proofs.Common.{◌≡◌, ◌*◌, ℕ, length, Result, OnOk, refl, subst, sym}
use Rattle.dirac_arith.specs.Interval.{Interval, narrowed_by}
use Rattle.dirac_coeffs.specs.declared.layout.WrittenBand.{WrittenBand}
use Rattle.dirac_coeffs.specs.declared.numbers.Numbers.{Numbers}
use Rattle.dirac_coeffs.specs.Carried.{AreSmall}
use Rattle.dirac_coeffs.specs.Decisions.{frame_of, row_part}
use Rattle.dirac_coeffs.specs.Lent.{numbers_in}
use Rattle.dirac_coeffs.specs.WrittenBand.{IsBandToWrite, frame_in}
use Rattle.dirac_coeffs.proofs.value_writer.write_row.Goals as goal

-- a band under another name of its values, and with any parent
lent_so : (b : WrittenBand) (values parent : Numbers) → b.values ≡ values → IsBandToWrite b → IsBandToWrite (record { values = values; parent = parent; layout = b.layout; index = b.index; indices = b.indices })
lent_so b values parent e is =
    record {
      layout = is.layout;
      len = subst (λ (n : Numbers). length (numbers_in n) ≡ b.layout.width * b.layout.height) e is.len;
      magnitudes_bounded = subst (λ (n : Numbers). AreSmall (numbers_in n)) e is.magnitudes_bounded;
      count = is.count;
    }

-- its row under these names is its row
row_so : {T E : Type 0} (r : Result T E) (old new : Interval) (b : WrittenBand) (values parent : Numbers) (y start count : ℕ) → b.values ≡ values → b.parent ≡ parent
    → OnOk r (new ≡ narrowed_by old (row_part (frame_of b.layout (numbers_in parent)) (numbers_in values) y start count)) → OnOk r (new ≡ narrowed_by old (row_part (frame_in b) (numbers_in b.values) y start count))
row_so r old new b values parent y start count e f is =
    subst (λ (p : Numbers). OnOk r (new ≡ narrowed_by old (row_part (frame_of b.layout (numbers_in p)) (numbers_in b.values) y start count))) (sym f)
    (subst (λ (n : Numbers). OnOk r (new ≡ narrowed_by old (row_part (frame_of b.layout (numbers_in parent)) (numbers_in n) y start count))) (sym e) is)

pub write_part-requires-clause-writable : goal.write_part-requires-clause-writable
write_part-requires-clause-writable c = lent_so c.args.band _ _ c.in-Narrow.is c.requires.writable

pub write_part-requires-clause-columns : goal.write_part-requires-clause-columns
write_part-requires-clause-columns c = c.requires.columns

pub write_part-requires-clause-row : goal.write_part-requires-clause-row
write_part-requires-clause-row c = c.requires.row

pub write_part-requires-in-Zeros-clause-writable : goal.write_part-requires-in-Zeros-clause-writable
write_part-requires-in-Zeros-clause-writable c = lent_so c.args.band _ _ c.in-Narrow.is c.requires.writable

pub write_part-requires-in-Zeros-clause-columns : goal.write_part-requires-in-Zeros-clause-columns
write_part-requires-in-Zeros-clause-columns c = c.requires.columns

pub write_part-requires-in-Zeros-clause-row : goal.write_part-requires-in-Zeros-clause-row
write_part-requires-in-Zeros-clause-row c = c.requires.row

pub write_part-requires-in-Wide-clause-writable : goal.write_part-requires-in-Wide-clause-writable
write_part-requires-in-Wide-clause-writable c = lent_so c.args.band _ _ c.in-Narrow.is c.requires.writable

pub write_part-requires-in-Wide-clause-columns : goal.write_part-requires-in-Wide-clause-columns
write_part-requires-in-Wide-clause-columns c = c.requires.columns

pub write_part-requires-in-Wide-clause-row : goal.write_part-requires-in-Wide-clause-row
write_part-requires-in-Wide-clause-row c = c.requires.row

pub write_part-requires-in_default-clause-writable : goal.write_part-requires-in_default-clause-writable
write_part-requires-in_default-clause-writable c = c.requires.writable

pub write_part-requires-in_default-clause-columns : goal.write_part-requires-in_default-clause-columns
write_part-requires-in_default-clause-columns c = c.requires.columns

pub write_part-requires-in_default-clause-row : goal.write_part-requires-in_default-clause-row
write_part-requires-in_default-clause-row c = c.requires.row

pub returns-in-Narrow-parent : goal.returns-in-Narrow-parent
returns-in-Narrow-parent c =
    row_so c.write_part.result c.args.encoder.now c.write_part.new.encoder c.args.band _ _ c.args.y c.args.columns.start c.args.columns.length c.in-Narrow.is c.in-Narrow-parent.is c.write_part.ensures

pub returns-in-Zeros : goal.returns-in-Zeros
returns-in-Zeros c =
    row_so c.write_part-in-Zeros.result c.args.encoder.now c.write_part-in-Zeros.new.encoder c.args.band _ _ c.args.y c.args.columns.start c.args.columns.length c.in-Narrow.is refl c.write_part-in-Zeros.ensures

pub returns-in-Wide : goal.returns-in-Wide
returns-in-Wide c =
    row_so c.write_part-in-Wide.result c.args.encoder.now c.write_part-in-Wide.new.encoder c.args.band _ _ c.args.y c.args.columns.start c.args.columns.length c.in-Narrow.is refl c.write_part-in-Wide.ensures

pub returns-in_default : goal.returns-in_default
returns-in_default c = c.write_part-in_default.ensures
