use Rattle.std.proofs.Common.{◌≡◌, ℤ, ◌*◌, ◌/◌, ◌<◌, ◌≤◌, List, unsigned_abs, length, drop, arith, ap, ap₂, sym, subst, ◌∙◌}
use Rattle.std.specs.List.{All}
use Rattle.std.proofs.lemmas.List.{take_at}
use Rattle.dirac_common.specs.Table.{Table}
use Rattle.dirac_lift.proofs.HalfAnalysis.{back_narrow, back_narrow_columns, level_in_halves, rows_small}
use Rattle.dirac_lift.proofs.half_rows.analyse_halves_level.Goals as goal

pub analyse_halves-requires-clause-narrow : goal.analyse_halves-requires-clause-narrow
analyse_halves-requires-clause-narrow c =
    let k = c.args.wavelet in
    let p = c.args.plane.now in
    let some : 0 < p.width = omega (arith, c.width-width.ensures.value, c.width-width.ensures.at_least_1) in
    let size : p.width * (p.height / 2) ≡ c.width-width.result * (c.height.result / 2) = ap₂ (λ a b. a * (b / 2)) (sym c.width-width.ensures.value) (sym c.height.ensures.value) in
    back_narrow k 65523 _ _ _ _ (back_narrow_columns k c.requires.wavelet) (omega (arith, c.width-width.ensures.at_least_1))
    (c.values_mut.ensures.len ∙ ap (λ (t : Table). t.width * t.height) c.in_ok-evens.ensures ∙ size)
    (c.values_mut-2.ensures.len ∙ ap (λ (t : Table). t.width * t.height) c.in_ok-odds.ensures ∙ size)
    (subst (λ (vs : List ℤ). All (λ v. unsigned_abs v ≤ 65523) vs) (sym (c.values_mut.ensures.value ∙ ap (λ (t : Table). t.values) c.in_ok-evens.ensures))
    (rows_small k 0 p c.requires.wavelet (omega arith) c.requires.across.0 c.requires.down.0 some c.width-width.ensures.whole c.requires.at_most_4095))
    (subst (λ (vs : List ℤ). All (λ v. unsigned_abs v ≤ 65523) vs) (sym (c.values_mut-2.ensures.value ∙ ap (λ (t : Table). t.values) c.in_ok-odds.ensures))
    (rows_small k 1 p c.requires.wavelet (omega arith) c.requires.across.0 c.requires.down.0 some c.width-width.ensures.whole c.requires.at_most_4095))

pub returns-clause-value : goal.returns-clause-value
returns-clause-value c =
    let evens = c.in_ok-evens.evens.values in
    let odds = c.in_ok-odds.odds.values in
    let new_evens = c.analyse_halves.new.evens in
    let new_odds = c.analyse_halves.new.odds in
    rw (take_at new_evens (drop (length new_evens) evens) (length evens) (c.analyse_halves.ensures.evens_len ∙ ap length c.values_mut.ensures.value), take_at new_odds (drop (length new_odds) odds) (length odds) (c.analyse_halves.ensures.odds_len ∙ ap length c.values_mut-2.ensures.value))
    (level_in_halves c.args.wavelet c.width-width.result (c.height.result / 2) c.args.plane.now c.values_mut.result.now c.values_mut-2.result.now new_evens new_odds c.width-width.ensures.value (ap (λ n. n / 2) c.height.ensures.value)
    (c.values_mut.ensures.value ∙ ap (λ (t : Table). t.values) c.in_ok-evens.ensures) (c.values_mut-2.ensures.value ∙ ap (λ (t : Table). t.values) c.in_ok-odds.ensures)
    c.analyse_halves.ensures c.requires.across.0 c.requires.down.0 (omega (arith, c.width-width.ensures.value, c.width-width.ensures.at_least_1)))
