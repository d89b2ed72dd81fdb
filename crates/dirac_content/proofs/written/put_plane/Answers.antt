use Rattle.std.proofs.Common.{arith, refl}
use Rattle.dirac_content.specs.Raw.{byte_of}
use Rattle.dirac_content.proofs.Rows.{front_of_pieces, pieces_more}
use Rattle.dirac_content.proofs.written.put_plane.Goals as goal

pub pieces-preserved : goal.pieces-preserved
pieces-preserved g c = (
  pieces_more byte_of c.args.plane.now.values c.pieces.rest.now _ _ (g.K.Sink.taken c.args.out.now) (g.K.Sink.taken c.pieces.out) _ c.pieces.invariant.0 c.split_at.ensures.by_index.0 (c.in-All.ensures.all refl),
  omega arith,
)

pub returns-in_default-clause-front : goal.returns-in_default-clause-front
returns-in_default-clause-front g c =
    front_of_pieces byte_of c.args.plane.now.values c.pieces.rest.now _ _ (g.K.Sink.taken c.args.out.now) (g.K.Sink.taken c.pieces.out) _ c.pieces.invariant.0 c.split_at.ensures.by_index.0 c.put_samples.ensures.front
