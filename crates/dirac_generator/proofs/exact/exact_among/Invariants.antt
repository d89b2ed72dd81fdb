use Rattle.std.proofs.Common.{◌≡◌, ◌+◌, ◌-◌, ◌≤◌, length}
use Rattle.dirac_generator.specs.Generated.{exact_from, picture_count}
use Rattle.dirac_generator.proofs.exact.exact_among.Given as goal

abbrev pub invariant-pictures : goal.invariant-pictures
invariant-pictures l =
    (length l.picture ≡ picture_count l.settings) × (l.exact ≤ l.number)
    × (l.exact + exact_from l.settings (l.count - l.number) l.number l.rest ≡ exact_from l.settings l.count 0 l.bytes)
