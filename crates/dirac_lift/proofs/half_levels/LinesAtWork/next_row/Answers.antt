use Rattle.std.proofs.Common.{◌≡◌, ℕ, ℤ, List, ◌+◌, ◌-◌, ◌*◌, ◌/◌, ◌<◌, arith, ap, sym, ◌∙◌, subst}
use Rattle.dirac_lift.specs.declared.rings.HalfSize.{HalfSize}
use Rattle.dirac_lift.specs.AtWork.{HasGiven, lines_of}
use Rattle.dirac_lift.specs.ByLines.{turns}
use Rattle.dirac_lift.specs.Halves.{from_halves}
use Rattle.dirac_lift.specs.Level.{row_in, synthesised}
use Rattle.dirac_lift.specs.Rings.{RingsHold, most_of, steps_to_come}
use Rattle.dirac_lift.proofs.GivenRows.{given, turned}
use Rattle.dirac_lift.proofs.HalfBounds.{rows_narrow}
use Rattle.dirac_lift.proofs.RingLevels.{ring_narrow}
use Rattle.dirac_lift.proofs.RingRows.{hold_turned}
use Rattle.dirac_lift.proofs.half_levels.LinesAtWork.next_row.Goals as goal

pub finish_from_ring-requires-clause-narrow : goal.finish_from_ring-requires-clause-narrow
finish_from_ring-requires-clause-narrow g c =
    let l = c.take_turn.new.self in
    let rings = c.take_turn.ensures.at_work.rings in
    rw c.as_slice-ring.ensures.value
    (ring_narrow l.wavelet l.size.width c.finished-n.result (most_of l.wavelet).0 l.evens.items (rows_narrow l.wavelet rings.wavelet).0 rings.even rings.some rings.evens_len rings.evens_bound)

pub finish_from_ring-requires-else-y-eq0-clause-narrow : goal.finish_from_ring-requires-else-y-eq0-clause-narrow
finish_from_ring-requires-else-y-eq0-clause-narrow g c =
    let l = c.args.self.now in
    let rings = c.requires.at_work.rings in
    rw c.as_slice-ring-else-y-eq0.ensures.value
    (ring_narrow l.wavelet l.size.width c.finished-n-else-y-eq0.result (most_of l.wavelet).1 l.odds.items (rows_narrow l.wavelet rings.wavelet).1 rings.even rings.some rings.odds_len rings.odds_bound)

pub returns-then-y-eq0-clause-row : goal.returns-then-y-eq0-clause-row
returns-then-y-eq0-clause-row g c k w h has_given =
    let y = c.args.y in
    let l = c.take_turn.new.self in
    let es = g.S.RowPairs.evens c.args.source.now in
    let os = g.S.RowPairs.odds c.args.source.now in
    let same : 2 * (y / 2) + 0 ≡ y = omega (arith, c.if-y-eq0.true) in
    let inside : y / 2 < h = omega (arith, c.requires.inside, has_given.half) in
    given 0 k w h (y / 2) c.finished-n.result es os c.as_slice-ring.result.now l.odds.items _ l (omega arith) c.take_turn.ensures.at_work.rings
    (subst (λ (ring : List ℤ). RingsHold 0 l.size.width l.size.half (l.turn - 16) l.turn (λ x. turns (steps_to_come l.wavelet) l.turn (lines_of l.size.width l.size.half es os x)) ring l.odds.items) (sym c.as_slice-ring.ensures.value) c.take_turn.ensures.at_work.hold)
    (turned k w h ((y + 1) / 2) (y / 2 + 1) c.args.self.now l has_given c.take_turn.ensures.wavelet c.take_turn.ensures.size c.take_turn.ensures.turn (omega (arith, c.if-y-eq0.true)))
    inside c.finished-n.ensures (omega (arith, ap (λ (s : HalfSize). s.width) c.take_turn.ensures.size)) c.finish_from_ring.ensures
    ∙ ap (row_in (synthesised k (from_halves w h es os)).values w) same

pub returns-else-y-eq0-clause-row : goal.returns-else-y-eq0-clause-row
returns-else-y-eq0-clause-row g c k w h has_given =
    let y = c.args.y in
    let l = c.args.self.now in
    let es = g.S.RowPairs.evens c.args.source.now in
    let os = g.S.RowPairs.odds c.args.source.now in
    let same : 2 * (y / 2) + 1 ≡ y = omega (arith, c.if-y-eq0.false) in
    let pair : (y + 1) / 2 ≡ y / 2 + 1 = omega (arith, c.if-y-eq0.false) in
    let inside : y / 2 < h = omega (arith, c.requires.inside, has_given.half) in
    given 1 k w h (y / 2) c.finished-n-else-y-eq0.result es os c.as_slice-ring-else-y-eq0.result.now l.evens.items _ l (omega arith) c.requires.at_work.rings
    (subst (λ (ring : List ℤ). RingsHold 1 l.size.width l.size.half (l.turn - 16) l.turn (λ x. turns (steps_to_come l.wavelet) l.turn (lines_of l.size.width l.size.half es os x)) ring l.evens.items) (sym c.as_slice-ring-else-y-eq0.ensures.value)
    (hold_turned l.size.width l.size.half (l.turn - 16) l.turn _ l.evens.items l.odds.items c.requires.at_work.hold))
    (subst (λ (n : ℕ). HasGiven k w h n l) pair has_given) inside c.finished-n-else-y-eq0.ensures (omega arith) c.finish_from_ring-else-y-eq0.ensures
    ∙ ap (row_in (synthesised k (from_halves w h es os)).values w) same
