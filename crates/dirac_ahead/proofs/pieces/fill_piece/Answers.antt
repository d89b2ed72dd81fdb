use Rattle.std.proofs.Common.{◌≡◌, ◌∙◌, ◌+◌, ◌-◌, length, arith, refl}
use borrow.Rule.Slice.PartMut.{put_mid}
use Rattle.dirac_io.proofs.FilledFront.{filled_more, length_put}
use Rattle.dirac_ahead.proofs.pieces.fill_piece.Goals as goal

pub filling-preserved : goal.filling-preserved
filling-preserved g c =
    let rest = length c.filling.piece - c.filling.count in
    let size : length c.read.new.buf ≡ rest = omega (arith, c.read.auto.buf) in
    let same : length (put_mid c.filling.count rest c.filling.piece c.read.new.buf) ≡ length c.args.piece.now =
    length_put c.filling.count rest c.filling.piece c.read.new.buf c.filling.invariant.fits refl size ∙ c.filling.invariant.size in
    record {
      read = filled_more (g.S.Source.held c.args.source.now) (g.S.Source.held c.filling.source) (g.S.Source.held c.read.new.self) c.filling.count rest c.in-Bytes.n
          (c.filling.count + c.in-Bytes.n) c.filling.piece c.read.new.buf c.filling.invariant.read c.in-Bytes.ensures.bytes.given c.filling.invariant.fits (omega (arith, c.in-Bytes.ensures.bytes.room)) refl;
      size = same;
      fits = omega (arith, same, c.filling.invariant.size, c.filling.invariant.fits, c.in-Bytes.ensures.bytes.room, size);
      left_never_rises = omega (arith, c.filling.invariant.left_never_rises, c.in-Bytes.ensures.bytes.lower);
      none_taken = λ none. absurd (omega (arith, c.in-Bytes.ensures.bytes.some));
      faults_never_fall = omega arith;
    }
