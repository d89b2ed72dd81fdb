use Rattle.std.proofs.Common.{◌≡◌, ℕ, length, arith, sym, subst, ◌∙◌}
use Rattle.std.proofs.lemmas.List.{length-take-le}
use Rattle.dirac_obmc.specs.Windows.{IsWindow}
use Rattle.dirac_obmc.proofs.StripLemmas.{front_read}
use Rattle.dirac_obmc.proofs.values.block_front.Goals as goal

pub block_values-requires-clause-window : goal.block_values-requires-clause-window
block_values-requires-clause-window c =
    subst (λ (n : ℕ). IsWindow n c.args.window) (sym (length-take-le c.args.count c.args.out.now c.requires.out)) c.requires.window

pub block_values-requires-clause-lens : goal.block_values-requires-clause-lens
block_values-requires-clause-lens c =
    let out = length-take-le c.args.count c.args.out.now c.requires.out in
    (length-take-le c.args.count c.args.first.now c.requires.first ∙ sym out, length-take-le c.args.count c.args.second.now c.requires.second ∙ sym out)

pub returns : goal.returns
returns c k l =
    let size : length c.block_values.new.out ≡ c.args.count = c.block_values.auto.out ∙ length-take-le c.args.count c.args.out.now c.requires.out in
    front_read c.args.count k c.args.out.now c.block_values.new.out (omega (arith, l, size)) ∙ c.block_values.ensures k (omega (arith, l, length-take-le c.args.count c.args.out.now c.requires.out))
