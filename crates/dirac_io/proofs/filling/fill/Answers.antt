use Rattle.std.proofs.Common.{◌≡◌, ◌+◌, ◌-◌, length, arith, refl, ◌∙◌}
use borrow.Rule.Slice.PartMut.{put_mid}
use Rattle.dirac_io.proofs.FilledFront.{filled_more, length_put}
use Rattle.dirac_io.proofs.filling.fill.Goals as goal

pub filling-preserved : goal.filling-preserved
filling-preserved g c =
    let count = length c.filling.buf - c.filling.filled in
    let size : length c.read.new.buf ≡ count = omega (arith, c.read.auto.buf) in
    let same : length (put_mid c.filling.filled count c.filling.buf c.read.new.buf) ≡ length c.args.buf.now =
    length_put c.filling.filled count c.filling.buf c.read.new.buf c.filling.invariant.fits refl size ∙ c.filling.invariant.size in
    record {
      consumed = filled_more (g.S.Source.held c.args.source.now) (g.S.Source.held c.filling.source) (g.S.Source.held c.read.new.self) c.filling.filled count c.in-Bytes.n
          (c.filling.filled + c.in-Bytes.n) c.filling.buf c.read.new.buf c.filling.invariant.consumed c.in-Bytes.ensures.bytes.given c.filling.invariant.fits (omega (arith, c.in-Bytes.ensures.bytes.room)) refl;
      size = same;
      fits = omega (arith, same, c.filling.invariant.size, c.filling.invariant.fits, c.in-Bytes.ensures.bytes.room, size);
      count = omega arith;
      left = omega (arith, c.filling.invariant.left, c.in-Bytes.ensures.bytes.lower);
    }
