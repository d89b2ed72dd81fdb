use Rattle.std.proofs.Common.{◌++◌, refl}
use Rattle.dirac_content.specs.Raw.{plane_bytes}
use Rattle.dirac_content.proofs.Rows.{behind_front, front_then}
use Rattle.dirac_content.proofs.written.put_picture.Goals as goal

pub returns-in_default-clause-front : goal.returns-in_default-clause-front
returns-in_default-clause-front g c =
    front_then (g.K.Sink.taken c.args.out.now) (g.K.Sink.taken c.put_plane.new.out) (plane_bytes c.args.picture.now.y) (plane_bytes c.args.picture.now.u ++ plane_bytes c.args.picture.now.v) c.put_plane.ensures.front

pub returns-in_default-put_plane-clause-front : goal.returns-in_default-put_plane-clause-front
returns-in_default-put_plane-clause-front g c =
    behind_front (g.K.Sink.taken c.args.out.now) (g.K.Sink.taken c.put_plane.new.out) (g.K.Sink.taken c.put_plane-2.new.out) (plane_bytes c.args.picture.now.y) (plane_bytes c.args.picture.now.u ++ plane_bytes c.args.picture.now.v)
    (c.in-All.ensures.all refl)
    (front_then (g.K.Sink.taken c.put_plane.new.out) (g.K.Sink.taken c.put_plane-2.new.out) (plane_bytes c.args.picture.now.u) (plane_bytes c.args.picture.now.v) c.put_plane-2.ensures.front)

pub returns-clause-front : goal.returns-clause-front
returns-clause-front g c =
    behind_front (g.K.Sink.taken c.args.out.now) (g.K.Sink.taken c.put_plane.new.out) (g.K.Sink.taken c.put_plane-3.new.out) (plane_bytes c.args.picture.now.y) (plane_bytes c.args.picture.now.u ++ plane_bytes c.args.picture.now.v)
    (c.in-All.ensures.all refl)
    (behind_front (g.K.Sink.taken c.put_plane.new.out) (g.K.Sink.taken c.put_plane-2.new.out) (g.K.Sink.taken c.put_plane-3.new.out) (plane_bytes c.args.picture.now.u) (plane_bytes c.args.picture.now.v)
    (c.in-All-put_plane.ensures.all refl) c.put_plane-3.ensures.front)
