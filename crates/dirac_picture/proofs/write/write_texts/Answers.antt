use Rattle.dirac_picture.proofs.Apart.{bytes_after, up_is_whole}
use Rattle.dirac_picture.proofs.write.write_texts.Goals as goal

pub block-requires : goal.block-requires
block-requires c = up_is_whole c.args.w.now c.align.new.self c.in_ok-align.ensures.ok

pub block-requires-2 : goal.block-requires-2
block-requires-2 c =
    bytes_after c.align.new.self c.block.new.self c.as_slice.result.now (up_is_whole c.args.w.now c.align.new.self c.in_ok-align.ensures.ok) c.in_ok-block.ensures.ok

pub block-requires-3 : goal.block-requires-3
block-requires-3 c =
    bytes_after c.block.new.self c.block-2.new.self c.as_slice-2.result.now
    (bytes_after c.align.new.self c.block.new.self c.as_slice.result.now (up_is_whole c.args.w.now c.align.new.self c.in_ok-align.ensures.ok) c.in_ok-block.ensures.ok)
    c.in_ok-block-2.ensures.ok
