use Rattle.std.proofs.Common.{◌≡◌, ◌∙◌, ℕ, Ok, Some, ap, arith, map, string_bytes, sym}
use Rattle.dirac_command_line.specs.declared.points.Points.{Points}
use Rattle.dirac_command_line.specs.declared.words.Command.TheVariants.{Cut}
use Rattle.dirac_command_line.specs.Points.{points_with}
use Rattle.dirac_command_line.specs.Words.{cut_behind, cut_read}
use Rattle.dirac_command_line.proofs.CutWords.{room, room_falls, word_unfit, words_end, words_more}
use Rattle.dirac_command_line.proofs.words.cut.Goals as goal

pub words-init : goal.words-init
unfolding cut_read
words-init c = record {
  so = ap (λ (p : Points). cut_behind 1 p (map string_bytes c.args.others.now)) (sym c.none-points.ensures);
  few = omega (arith, ap room c.none-points.ensures);
}

pub words-preserved : goal.words-preserved
words-preserved c =
    let word = string_bytes c.word-item.result in
    let new : points_with c.words.points word ≡ Some c.in-Some.next = ap (points_with c.words.points) (sym c.as_str.ensures.value) ∙ sym c.with.ensures ∙ c.in-Some.is in
    record {
      so = words_more string_bytes c.args.others.now c.words.word-index c.word-item.result c.words.number c.words.points c.in-Some.next c.words-test.true c.word-item.is c.words.invariant.so new;
      few = omega (arith, c.words.invariant.few, room_falls word c.words.points c.in-Some.next new);
    }

pub returns-in_default : goal.returns-in_default
returns-in_default c =
    word_unfit string_bytes c.args.others.now c.words.word-index c.word-item.result c.words.number c.words.points c.words-test.true c.word-item.is c.words.invariant.so
    (ap (points_with c.words.points) (sym c.as_str.ensures.value) ∙ sym c.with.ensures ∙ c.in_default.is)

pub returns : goal.returns
returns c =
    ap (λ (n : ℕ). Ok (Cut n c.words.points.to)) c.unwrap_or.ensures
    ∙ words_end string_bytes c.args.others.now c.words.word-index c.words.number c.words.points c.words-test.false c.words.invariant.so
