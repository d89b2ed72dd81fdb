use Rattle.std.proofs.Common.{◌≡◌, ℕ, ◌+◌, ◌-◌, ◌*◌, ◌≤◌, length, ap, sym, ◌∙◌, arith, Bor, Some}
use Rattle.std.specs.Prelude.{slice_get}
use Rattle.std.proofs.lemmas.Option.{slice_get-get_or}
use Rattle.dirac_common.specs.Table.{Table}
use Rattle.dirac_coeffs.specs.declared.layout.BandLayout.{BandLayout}
use Rattle.dirac_picture.specs.Bands.{layout_of}
use Rattle.dirac_picture.proofs.Levels.{first_some, next_twice, some_same}
use Rattle.dirac_picture.proofs.chain.read_next.Goals as goal

pub read_at-requires-2-clause-parent : goal.read_at-requires-2-clause-parent
read_at-requires-2-clause-parent c = λ x is.
    let t = c.args.transform.now in
    let k : ℕ = length c.args.before.now - 1 in
    let at : k + 1 ≡ length c.args.before.now = omega arith in
    let band = c.index-before-count.result in
    let there : slice_get c.args.before.now k ≡ Some band = slice_get-get_or c.args.before.now k _ (omega (arith, at)) ∙ ap Some (sym c.index-before-count.is) in
    let some : 1 ≤ c.args.first = first_some c.args.first (length c.args.before.now) c.requires.first.1 (omega (arith, at)) in
    let twice = next_twice t c.args.size.width c.args.size.height c.args.first k band some (omega (arith, at, c.requires.inside)) (c.requires.before k band there) in
    let place : c.layout-place.result ≡ layout_of t c.args.size.width c.args.size.height (c.args.first + 3 * (k + 1)) =
    c.layout-place.ensures.value ∙ ap (λ (i : ℕ). layout_of t c.args.size.width c.args.size.height (c.args.first + 3 * i)) (sym at) in
    let same : band.table ≡ x.now = ap (λ (b : Bor Table). b.now) (some_same _ x is) in (
      ap (λ (l : BandLayout). l.width) place ∙ twice.0 ∙ ap (λ (u : Table). 2 * u.width) same,
      ap (λ (l : BandLayout). l.height) place ∙ twice.1 ∙ ap (λ (u : Table). 2 * u.height) same,
    )
