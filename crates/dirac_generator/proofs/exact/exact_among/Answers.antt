use Rattle.std.proofs.Common.{arith}
use Rattle.dirac_generator.specs.Generated.{picture_count}
use Rattle.dirac_generator.proofs.Counting.{one_picture, front_of, behind_of}
use Rattle.dirac_generator.proofs.exact.exact_among.Goals as goal

pub pictures-preserved : goal.pictures-preserved
pictures-preserved c =
    let i = c.pictures.invariant in
    let size = picture_count c.args.settings.now in (
      omega (arith, i.0),
      omega (arith, i.1, c.one_if_equal-exact.ensures.bounded),
      one_picture c.args.settings.now c.args.count c.pictures.number _ c.pictures.exact c.one_if_equal-exact.result c.pictures.rest.now c.split_at.result.0.now c.split_at.result.1.now c.fill_picture.new.bytes
          (omega (arith, c.pictures-test.true)) i.2 c.fill_picture.ensures
          (front_of size _ c.pictures.rest.now _ (omega (arith, i.0)) c.split_at.ensures.front)
          (behind_of size _ c.pictures.rest.now _ (omega (arith, i.0)) c.split_at.ensures.back) c.one_if_equal-exact.ensures.value,
    )
