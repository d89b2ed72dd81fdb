use Rattle.std.proofs.Common.{◌+◌, ◌++◌, ◌∷◌, [], ℕ, List, refl, ap₂, ap, sym, ◌∙◌, arith, length}
use Rattle.dirac_encode_laws.specs.Coded.{count_of, counts_below}
use Rattle.dirac_encode_laws.proofs.Counting.{length-counts_below, count_more}
use Rattle.dirac_encode_picture.proofs.transform.parameters_of.Goals as goal

pub push-requires : goal.push-requires
push-requires c = omega (arith, ap length c.levels.invariant, length-counts_below c.args.settings.now c.levels.level)

pub levels-init : goal.levels-init
unfolding counts_below
levels-init c = c.new-counts.ensures

pub levels-preserved : goal.levels-preserved
levels-preserved c =
    let t = c.args.settings.now in
    let pair : ℕ → ℕ → ℕ × ℕ = λ a b. (a, b) in
    c.push.ensures ∙ ap₂ (λ (before : List (ℕ × ℕ)) (p : ℕ × ℕ). before ++ p ∷ []) c.levels.invariant (ap₂ pair c.count_of.ensures (c.count_of-in-levels.ensures ∙ ap (λ rows. count_of t.codeblocks rows t.depth c.levels.level) c.picture_height-height.ensures))
    ∙ sym (count_more t c.levels.level (c.levels.level + 1) refl)
