use Rattle.std.proofs.Common.{ℕ, pos, ◌+◌, ◌/◌, ◌%◌, length, get_or, arith, refl, ap, sym, subst, ◌∙◌}
use Rattle.std.specs.Int.{w16}
use Rattle.std.proofs.lemmas.Int.{to_z-of_z}
use Rattle.std.proofs.lemmas.List.{get_or-replicate}
use Rattle.dirac_obmc.specs.Given.{compensation_of}
use Rattle.dirac_obmc.specs.Windows.{IsWindow}
use Rattle.dirac_obmc.proofs.Choices.{by_two, by_first, by_second, by_value}
use Rattle.dirac_obmc.proofs.values.block_values.Goals as goal

pub moved_rows-requires-clause-window : goal.moved_rows-requires-clause-window
moved_rows-requires-clause-window c = subst (λ (n : ℕ). IsWindow n c.args.window) (sym c.requires.lens.0) c.requires.window

pub moved_rows-requires-then-block-2-clause-window : goal.moved_rows-requires-then-block-2-clause-window
moved_rows-requires-then-block-2-clause-window c = subst (λ (n : ℕ). IsWindow n c.args.window) (sym c.requires.lens.1) c.requires.window

pub returns-then-block-2 : goal.returns-then-block-2
returns-then-block-2 c k l =
    c.weigh_two.ensures k l
    ∙ by_two (compensation_of c.args.motion.now) c.args.block.now (c.args.window.x + k % c.args.window.width) (c.args.window.y + k / c.args.window.width) _ _ c.if-block.true c.if-block-2.true
    (c.moved_rows.ensures.value k (omega (arith, l, c.requires.lens.0))) (c.moved_rows-then-block-2.ensures.value k (omega (arith, l, c.requires.lens.1)))

pub returns-then-block : goal.returns-then-block
returns-then-block c k l =
    c.one_values.ensures k l
    ∙ by_first (compensation_of c.args.motion.now) c.args.block.now (c.args.window.x + k % c.args.window.width) (c.args.window.y + k / c.args.window.width) _ c.if-block.true c.if-block-2.false refl

pub returns-then-block-3 : goal.returns-then-block-3
returns-then-block-3 c k l =
    c.one_values-then-block-3.ensures k l
    ∙ by_second (compensation_of c.args.motion.now) c.args.block.now (c.args.window.x + k % c.args.window.width) (c.args.window.y + k / c.args.window.width) _ c.if-block.false c.if-block-3.true refl

pub returns : goal.returns
returns c k l =
    ap (λ vs. get_or vs k (pos 0)) (c.fill.ensures.after (λ y e. cc)) ∙ get_or-replicate (length c.args.out.now) k _ (pos 0) l
    ∙ to_z-of_z w16 _ (record { sfits = c.dc.type_inv }) ∙ c.dc.ensures
    ∙ by_value (compensation_of c.args.motion.now) c.args.block.now (c.args.window.x + k % c.args.window.width) (c.args.window.y + k / c.args.window.width) c.if-block.false c.if-block-3.false
