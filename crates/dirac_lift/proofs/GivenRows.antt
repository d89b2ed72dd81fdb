-- Rows that a level at work has given.
use Rattle.std.proofs.Common.{◌≡◌, ℕ, ℤ, pos, ◌+◌, ◌-◌, ◌*◌, ◌/◌, ◌%◌, ◌<◌, ◌≤◌, List, length, get_or, take, drop, unsigned_abs, arith, ap, sym, ◌∙◌, subst}
use Rattle.std.specs.List.{All}
use Rattle.std.proofs.lemmas.List.{ext_get_or}
use Rattle.dirac_common.specs.Table.{Table}
use Rattle.dirac_common.proofs.Rows.{filled_at}
use Rattle.dirac_lift.specs.declared.half_levels.LinesAtWork.{LinesAtWork}
use Rattle.dirac_lift.specs.declared.rings.HalfSize.{HalfSize}
use Rattle.dirac_lift.specs.AtWork.{AreRings, HasGiven, IsAtWork, lines_of, turns_behind}
use Rattle.dirac_lift.specs.ByLines.{turns}
use Rattle.dirac_lift.specs.Halves.{AreHalvesOfLine, from_halves}
use Rattle.dirac_lift.specs.Level.{last_halved, row_in, synthesised}
use Rattle.dirac_lift.specs.Rings.{AfterTurns, RingsHold, most_of, steps_to_come}
use Rattle.dirac_lift.specs.Wavelets.{synth}
use Rattle.dirac_lift.proofs.HalfPlanes.{filled_len, level_at, level_filled}
use Rattle.dirac_lift.proofs.RingLevels.{row_from_ring}
use Rattle.dirac_lift.proofs.RowLemmas.{length-row, row_at}
use Rattle.dirac_lift.proofs.Runs.{by_wavelet}
use Rattle.dirac_lift.proofs.TurnBounds.{longest_waits}

pub behind_at_most_7 : (k : ℕ) → k ≤ 6 → turns_behind k ≤ 7
behind_at_most_7 = by_wavelet (λ w ss. turns_behind w ≤ 7) (omega arith) (omega arith) (omega arith) (omega arith) (omega arith) (omega arith) (omega arith)

-- a value of a row of a level
pub row_told : (k w h x y : ℕ) (es os : List ℤ) → x < w → y < 2 * h → get_or (row_in (synthesised k (from_halves w h es os)).values w y) x (pos 0) ≡ level_at k w h es os x y
row_told k w h x y es os l i =
    row_at (synthesised k (from_halves w h es os)).values w y x l
    ∙ ap (λ (t : Table). get_or t.values (y * w + x) (pos 0)) (sym (level_filled k w h es os))
    ∙ filled_at (level_at k w h es os) w (2 * h) x y l i

-- a line that has the values of such a row
is_row : (k w h y : ℕ) (es os line : List ℤ) → length line ≡ w → y < 2 * h → ((x : ℕ) → get_or line x (pos 0) ≡ level_at k w h es os x y) → line ≡ row_in (synthesised k (from_halves w h es os)).values w y
is_row k w h y es os line len i each =
    let t = synthesised k (from_halves w h es os) in
    let whole : length t.values ≡ w * (2 * h) = ap (λ (t : Table). length t.values) (sym (level_filled k w h es os)) ∙ filled_len w (2 * h) (level_at k w h es os) in
    ext_get_or (pos 0) line (row_in t.values w y) (len ∙ sym (length-row t.values w (2 * h) y whole i)) (λ x l. each x ∙ sym (row_told k w h x y es os (omega (arith, l, len)) i))

-- a row of the pair that a level has given last: the even one, or with p = 1 the odd one
pub given : (p k w h n f : ℕ) (es os ring others line : List ℤ) (l : LinesAtWork) → p ≤ 1 → AreRings l → RingsHold p l.size.width l.size.half (l.turn - 16) l.turn (λ x. turns (steps_to_come l.wavelet) l.turn (lines_of l.size.width l.size.half es os x)) ring others → HasGiven k w h (n + 1) l → n < h → f + 1 + turns_behind l.wavelet ≡ l.turn → length line ≡ l.size.width
    → ((whole : List ℤ) → AreHalvesOfLine 0 (take (l.size.width / 2) (row_in ring l.size.width (f % 16))) (drop (l.size.width / 2) (row_in ring l.size.width (f % 16))) whole → line ≡ last_halved l.wavelet (synth l.wavelet whole))
    → line ≡ row_in (synthesised k (from_halves w h es os)).values w (2 * n + p)
given p k w h n f es os ring others line l one rings hold g inside turn len each =
    let seven = behind_at_most_7 l.wavelet rings.wavelet in
    let wait : turns_behind l.wavelet ≡ turns_behind k = ap turns_behind g.wavelet in
    let here : n ≡ f = omega (arith, turn, g.turn, wait) in
    let last : l.turn ≡ f + turns_behind l.wavelet + 1 = omega (arith, turn) in
    let held : RingsHold p l.size.width l.size.half (f + turns_behind l.wavelet + 1 - 16) (f + turns_behind l.wavelet + 1) (λ x. turns (steps_to_come l.wavelet) (f + turns_behind l.wavelet + 1) (lines_of l.size.width l.size.half es os x)) ring others =
    subst (λ (m : ℕ). RingsHold p l.size.width l.size.half (m - 16) m (λ x. turns (steps_to_come l.wavelet) m (lines_of l.size.width l.size.half es os x)) ring others) last hold in
    rw (sym g.wavelet, sym g.width, sym g.half, here)
    (is_row l.wavelet l.size.width l.size.half (2 * f + p) es os line len (omega (arith, inside, here, g.half, one)) (λ x.
    row_from_ring p l.wavelet l.size.width l.size.half (f + turns_behind l.wavelet) f x es os ring others line rings.wavelet one rings.even held
    (omega (arith, seven)) (omega (arith, longest_waits l.wavelet rings.wavelet)) (omega (arith, inside, here, g.half)) each))

-- behind a turn a level has given a pair more
pub turned : (k w h n m : ℕ) (before after : LinesAtWork) → HasGiven k w h n before → after.wavelet ≡ before.wavelet → after.size ≡ before.size → after.turn ≡ before.turn + 1 → m ≡ n + 1 → HasGiven k w h m after
turned k w h n m before after g ew es et em = record {
  wavelet = ew ∙ g.wavelet;
  width = ap (λ (s : HalfSize). s.width) es ∙ g.width;
  half = ap (λ (s : HalfSize). s.half) es ∙ g.half;
  turn = omega (arith, et, g.turn, em);
}

-- a level at work behind a turn
pub turn_taken : (es os evens odds : List ℤ) (before after : LinesAtWork) → IsAtWork es os before → after.wavelet ≡ before.wavelet → after.size ≡ before.size → after.turn ≡ before.turn + 1 → after.evens.items ≡ evens → after.odds.items ≡ odds → length evens ≡ length before.evens.items → length odds ≡ length before.odds.items
    → AfterTurns before.wavelet before.size.width before.size.half (before.turn + 1) (before.turn + 1) (lines_of before.size.width before.size.half es os) evens odds → All (λ v. unsigned_abs v ≤ (most_of before.wavelet).0) evens → All (λ v. unsigned_abs v ≤ (most_of before.wavelet).1) odds → IsAtWork es os after
turn_taken es os evens odds before after w ew ez et ee eo le lo hold be bo = record {
  rings = record {
    wavelet = rw ew w.rings.wavelet;
    some = rw ez w.rings.some;
    even = rw ez w.rings.even;
    down = rw ez w.rings.down;
    evens_len = rw (ez, ee) (le ∙ w.rings.evens_len);
    odds_len = rw (ez, eo) (lo ∙ w.rings.odds_len);
    evens_bound = rw (ew, ee) be;
    odds_bound = rw (ew, eo) bo;
  };
  evens_whole = rw ez w.evens_whole;
  odds_whole = rw ez w.odds_whole;
  evens_small = w.evens_small;
  odds_small = w.odds_small;
  hold = rw (ew, ez, et, ee, eo) hold;
}
