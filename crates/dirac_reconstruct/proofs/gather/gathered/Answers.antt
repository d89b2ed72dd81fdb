use Rattle.std.proofs.Common.{refl, arith}
use Rattle.dirac_common.specs.declared.formats.Component.TheVariants as component
use Rattle.dirac_reconstruct.proofs.InOrder.{count_of_u, count_of_y, parts_of_u, parts_of_v, parts_of_y, samples_at, texts_together}
use Rattle.dirac_reconstruct.proofs.gather.gathered.Goals as goal

pub take_plane-requires-clause-count : goal.take_plane-requires-clause-count
take_plane-requires-clause-count c = let count = c.requires.parts.0 in omega (arith, count)

pub take_plane-requires-clause-shown : goal.take_plane-requires-clause-shown
take_plane-requires-clause-shown c = λ d. samples_at c.args.from.now component.V c.args.parts.items _ d (parts_of_v c.args.from.now c.args.parts.items c.requires.parts)

pub take_plane-requires-2-clause-count : goal.take_plane-requires-2-clause-count
take_plane-requires-2-clause-count c =
    let count = count_of_u c.args.from.now c.args.parts.items c.take_plane.new.parts.items c.requires.parts c.in_ok-v.ensures.rest in omega (arith, count)

pub take_plane-requires-2-clause-shown : goal.take_plane-requires-2-clause-shown
take_plane-requires-2-clause-shown c = λ d.
    samples_at c.args.from.now component.U c.take_plane.new.parts.items _ d (parts_of_u c.args.from.now c.args.parts.items c.take_plane.new.parts.items c.requires.parts c.in_ok-v.ensures.rest)

pub take_plane-requires-3-clause-count : goal.take_plane-requires-3-clause-count
take_plane-requires-3-clause-count c =
    let count = count_of_y c.args.from.now c.args.parts.items c.take_plane.new.parts.items c.take_plane-2.new.parts.items c.requires.parts c.in_ok-v.ensures.rest c.in_ok-u.ensures.rest in
    omega (arith, count)

pub take_plane-requires-3-clause-shown : goal.take_plane-requires-3-clause-shown
take_plane-requires-3-clause-shown c = λ d.
    samples_at c.args.from.now component.Y c.take_plane-2.new.parts.items _ d
    (parts_of_y c.args.from.now c.args.parts.items c.take_plane.new.parts.items c.take_plane-2.new.parts.items c.requires.parts c.in_ok-v.ensures.rest c.in_ok-u.ensures.rest)

pub returns-clause-texts : goal.returns-clause-texts
returns-clause-texts c =
    let f = c.args.from.now in
    let xs = c.args.parts.items in
    let ys = c.take_plane.new.parts.items in
    texts_together f _
    (c.in_ok-y.ensures.plane component.Y (parts_of_y f xs ys c.take_plane-2.new.parts.items c.requires.parts c.in_ok-v.ensures.rest c.in_ok-u.ensures.rest)).text
    (c.in_ok-u.ensures.plane component.U (parts_of_u f xs ys c.requires.parts c.in_ok-v.ensures.rest)).text
    (c.in_ok-v.ensures.plane component.V (parts_of_v f xs c.requires.parts)).text

pub returns-clause-shown : goal.returns-clause-shown
returns-clause-shown c =
    let f = c.args.from.now in
    let xs = c.args.parts.items in
    let ys = c.take_plane.new.parts.items in
    rw (
      (c.in_ok-y.ensures.plane component.Y (parts_of_y f xs ys c.take_plane-2.new.parts.items c.requires.parts c.in_ok-v.ensures.rest c.in_ok-u.ensures.rest)).shown,
      (c.in_ok-u.ensures.plane component.U (parts_of_u f xs ys c.requires.parts c.in_ok-v.ensures.rest)).shown,
      (c.in_ok-v.ensures.plane component.V (parts_of_v f xs c.requires.parts)).shown,
    )
    refl
