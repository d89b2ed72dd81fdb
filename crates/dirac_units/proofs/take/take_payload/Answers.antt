use Rattle.std.proofs.Common.{◌≡◌, ◌∙◌, ◌+◌, ◌-◌, ◌<◌, ◌++◌, length, take, arith, refl, if◌then◌else◌}
use Rattle.std.proofs.lemmas.List.{length-take-le}
use Rattle.dirac_units.proofs.Told.{piece_cut, piece_failed, piece_lost, piece_taken}
use Rattle.dirac_units.proofs.take.take_payload.Goals.{else-keep-via-then-keep+else-is_err, else-keep-via-else-keep}
use Rattle.dirac_units.proofs.take.take_payload.Goals as goal

pub returns-in-Ended-clause-cut : goal.returns-in-Ended-clause-cut
returns-in-Ended-clause-cut g c =
    let n = c.in-Ended.n in
    let room : length (take c.min.result c.pieces.buf) ≡ c.min.result = length-take-le c.min.result c.pieces.buf (omega (arith, c.min.ensures, c.min.array_long)) in
    let short = c.in-Ended.ensures.below_size n refl in
    let fits : n < c.min.result = omega (arith, short, room) in
    piece_cut c.args.unit_place c.args.count (c.args.count - c.pieces.rest) n (13 + (c.args.count - c.pieces.rest) + n) c.args.keep c.pieces.payload.items (take n c.fill.new.buf)
    (g.S.Source.held c.args.source.now) (g.S.Source.held c.pieces.source) (g.S.Source.held c.fill.new.source) c.fault.result c.pieces.invariant.taken
    (c.in-Ended.ensures.part n refl) (length-take-le n c.fill.new.buf (omega (arith, c.in-Ended.ensures.size, room, fits))) (c.in-Ended.ensures.end n refl)
    (omega (arith, fits, c.min.ensures, c.pieces.invariant.rest)) refl c.fault.ensures

pub pieces-preserved : goal.pieces-preserved
pieces-preserved g c =
    let room : length (take c.min.result c.pieces.buf) ≡ c.min.result = length-take-le c.min.result c.pieces.buf (omega (arith, c.min.ensures, c.min.array_long)) in
    let size : length c.fill.new.buf ≡ c.min.result = c.fill.ensures.size ∙ room in
    let kept : c.else-keep.payload.items ≡ (if c.args.keep then c.pieces.payload.items ++ c.fill.new.buf else c.pieces.payload.items) =
    elim c.else-keep.branch [
      | else-keep-via-then-keep+else-is_err w ↦ rw (w.payload-is, w.if-keep.true, w.extend_from_slice.ensures.items, w.is_err.ensures.negation, w.if-is_err.false) refl
      | else-keep-via-else-keep w ↦ rw (w.payload-is, w.if-keep.false) refl
    ] in
    record {
      taken = piece_taken (c.args.count - c.pieces.rest) c.min.result (c.args.count - (c.pieces.rest - length c.fill.new.buf)) c.args.keep c.pieces.payload.items c.else-keep.payload.items c.fill.new.buf
          (g.S.Source.held c.args.source.now) (g.S.Source.held c.pieces.source) (g.S.Source.held c.fill.new.source) c.pieces.invariant.taken (c.in-Whole.ensures.whole refl) size
          (omega (arith, size, c.min.ensures, c.pieces.invariant.rest)) kept;
      rest = omega (arith, c.pieces.invariant.rest);
      left = omega (arith, c.pieces.invariant.left, c.in-Whole.ensures.lowers refl, room, size, c.min.ensures, c.pieces.invariant.rest);
      count = omega (arith, c.pieces.invariant.count, c.fill.ensures.count);
    }

pub returns-in-Failed-clause-cut : goal.returns-in-Failed-clause-cut
returns-in-Failed-clause-cut g c =
    let room : length (take c.min.result c.pieces.buf) ≡ c.min.result = length-take-le c.min.result c.pieces.buf (omega (arith, c.min.ensures, c.min.array_long)) in
    let front = c.in-Failed.ensures.front refl in
    piece_failed c.args.count (c.args.count - c.pieces.rest) c.min.result front.0 c.args.keep c.pieces.payload.items c.fill.new.buf c.args.unit_place
    (g.S.Source.held c.args.source.now) (g.S.Source.held c.pieces.source) (g.S.Source.held c.fill.new.source) c.pieces.invariant.taken front.2
    (omega (arith, front.1, room)) (c.fill.ensures.size ∙ room) (omega (arith, c.min.ensures, c.pieces.invariant.rest))

pub returns-then-is_err-clause-cut : goal.returns-then-is_err-clause-cut
returns-then-is_err-clause-cut g c =
    piece_lost (c.args.count - c.pieces.rest) c.args.keep c.pieces.payload.items c.fill.new.buf (g.S.Source.held c.args.source.now) (g.S.Source.held c.pieces.source) (g.S.Source.held c.fill.new.source)
    c.pieces.invariant.taken (c.in-Whole.ensures.whole refl)
