use Rattle.std.proofs.Common.{◌≡◌, ap, sym, ◌∙◌}
use Rattle.std.specs.Option.{option_copied}
use Rattle.dirac_motion.proofs.lent.kept_luma.Goals as goal

pub returns-in-Some : goal.returns-in-Some
returns-in-Some c x e =
    let same : c.in-Some.halves.now.y ≡ x = cc in
    sym same ∙ (c.halves.ensures c.in-Some.halves.now (ap option_copied c.in-Some.is)).y
