use Rattle.std.proofs.Common.{◌≡◌, Bool, ◌&&◌, ◌+◌, ◌*◌, ◌/◌, ◌%◌, ap, ap₂, arith, sym, ◌∙◌}
use Rattle.dirac_inside.specs.Inside.{all_below, keeps_inside}
use Rattle.dirac_inside.specs.declared.picture_blocks.PictureBlocks.{PictureBlocks}
use Rattle.dirac_decide.specs.Given.{deciding_of}
use Rattle.dirac_decide.specs.Units.{block_keeps, unit_keeps}
use Rattle.dirac_decide.proofs.Insides.{all_more}
use Rattle.dirac_decide.proofs.inside.unit_range.Goals as goal

pub loop-k-init : goal.loop-k-init
loop-k-init c = record { inside = λ v b. c.all-range.ensures.all v b; range = c.all-range.ensures.range }

pub loop-k-preserved : goal.loop-k-preserved
loop-k-preserved c =
    let d = deciding_of c.args.inputs.now in
    let u = c.args.unit in
    let k = c.loop-k.k in
    record {
      inside = λ v b.
          c.common-range.ensures.both v
          ∙ ap₂ (λ (p q : Bool). p && q) (c.loop-k.invariant.inside v b)
          (c.block_range-of_block.ensures.inside v b ∙ ap (λ (p : PictureBlocks). keeps_inside p d.precision (u.i + k % u.size) (u.j + k / u.size) v) c.blocks_of-blocks.ensures.value)
          ∙ sym (all_more (block_keeps d u v) k);
      range = c.common-range.ensures.range;
    }

pub returns-clause-inside : goal.returns-clause-inside
unfolding unit_keeps
returns-clause-inside c = λ v b.
    let d = deciding_of c.args.inputs.now in
    let u = c.args.unit in
    let last : c.loop-k.k ≡ u.size * u.size = omega arith in
    c.loop-k.invariant.inside v b ∙ ap (all_below (block_keeps d u v)) last
