use Rattle.std.proofs.Common.{◌≡◌, ◌-◌, [], length, take}
use Rattle.dirac_common.specs.declared.formats.Component.{Component}
use Rattle.dirac_reconstruct.specs.Parts.{EndsWithTexts, HasTextBefore, bands_per_plane}
use Rattle.dirac_reconstruct.proofs.gather.take_text.Given as goal

abbrev pub invariant-bands : goal.invariant-bands
invariant-bands l =
    (l.parts.items ≡ take (length l.fn.parts.items - l._n) l.fn.parts.items)
    × ((o : Component) → EndsWithTexts l.from o l.fn.parts.items → HasTextBefore l.from o l._n l.text.items)
    × (bands_per_plane l.from ≡ 0 → l.text.items ≡ [])
