use Rattle.std.proofs.Common.{◌/◌, arith, ◌∙◌, ap}
use Rattle.dirac_common.specs.Table.{Table}
use Rattle.dirac_bands.specs.Interleaving.{band_of}
use Rattle.dirac_analysis.proofs.HalfBands.{even_band, odd_band, whole_level}
use Rattle.dirac_analysis.proofs.narrow.split_narrow.Goals as goal

pub returns : goal.returns
returns c =
    let rows = c.in_ok-evens.field-0 in
    let is = c.in_ok-evens.ensures in
    let w = c.width.ensures in
    record {
      ll =
          c.in_ok-ll.ensures
          ∙ even_band 0 0 rows.evens rows.odds.values (omega (arith, is.evens.0, c.requires.across.0)) (omega (arith, is.evens.0, w.value, w.at_least_1)) (omega arith) (omega (arith, is.evens.0, w.value))
          ∙ ap (λ (t : Table). band_of t 0 0) (whole_level c.args.wavelet c.args.plane.now.width (c.args.plane.now.height / 2) c.args.plane.now rows.evens rows.evens.values rows.odds.values is.evens is.value);
      hl =
          c.in_ok-hl.ensures
          ∙ even_band 1 (c.width.result / 2) rows.evens rows.odds.values (omega (arith, is.evens.0, c.requires.across.0)) (omega (arith, is.evens.0, w.value, w.at_least_1)) (omega arith) (omega (arith, is.evens.0, w.value))
          ∙ ap (λ (t : Table). band_of t 1 0) (whole_level c.args.wavelet c.args.plane.now.width (c.args.plane.now.height / 2) c.args.plane.now rows.evens rows.evens.values rows.odds.values is.evens is.value);
      lh =
          c.in_ok-lh.ensures
          ∙ odd_band 0 0 rows.odds rows.evens.values (omega (arith, is.odds.0, c.requires.across.0)) (omega (arith, is.odds.0, w.value, w.at_least_1)) (omega arith) (omega (arith, is.odds.0, w.value))
          ∙ ap (λ (t : Table). band_of t 0 1) (whole_level c.args.wavelet c.args.plane.now.width (c.args.plane.now.height / 2) c.args.plane.now rows.odds rows.evens.values rows.odds.values is.odds is.value);
      hh =
          c.in_ok-hh.ensures
          ∙ odd_band 1 (c.width.result / 2) rows.odds rows.evens.values (omega (arith, is.odds.0, c.requires.across.0)) (omega (arith, is.odds.0, w.value, w.at_least_1)) (omega arith) (omega (arith, is.odds.0, w.value))
          ∙ ap (λ (t : Table). band_of t 1 1) (whole_level c.args.wavelet c.args.plane.now.width (c.args.plane.now.height / 2) c.args.plane.now rows.odds rows.evens.values rows.odds.values is.odds is.value);
    }
