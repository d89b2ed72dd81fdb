use Rattle.std.proofs.Common.{refl, sym, ap, ◌∙◌, ◌≡◌, Some, true, false, arith, map, take, string_bytes}
use Rattle.std.proofs.lemmas.Bool.{cond-true, cond-false}
use Rattle.dirac_command_line.specs.Options.{fits}
use Rattle.dirac_command_line.proofs.Room.{room, room_first, room_taken}
use Rattle.dirac_command_line.proofs.Unfit.{one_more, next_word}
use Rattle.dirac_command_line.proofs.options.first_unfit.Goals as goal

pub words-init : goal.words-init
words-init c = (refl, refl, omega (arith, room_first))

pub words-preserved : goal.words-preserved
words-preserved c =
    let before = map string_bytes (take c.words.i c.args.words.now) in
    let word = string_bytes c.index-words-i.result in
    let fit : fits c.args.of before word ≡ true = sym (ap (fits c.args.of before) c.as_str.ensures.value) ∙ sym c.fits.ensures ∙ c.if-not-fits.false in
    let next = next_word c.args.of string_bytes c.args.words.now c.words.i c.index-words-i.result (omega arith) c.index-words-i.is in
    let pushed = ap room (one_more string_bytes c.args.words.now c.words.i c.index-words-i.result (omega arith) c.index-words-i.is) in
    (sym (next ∙ cond-true _ _ _ fit) ∙ c.words.invariant.0, omega arith, omega (arith, room_taken c.args.of before word fit, pushed))

pub returns-then-not-fits : goal.returns-then-not-fits
returns-then-not-fits c =
    let before = map string_bytes (take c.words.i c.args.words.now) in
    let word = string_bytes c.index-words-i.result in
    let unfit : fits c.args.of before word ≡ false = sym (ap (fits c.args.of before) c.as_str.ensures.value) ∙ sym c.fits.ensures ∙ c.if-not-fits.true in
    let next = next_word c.args.of string_bytes c.args.words.now c.words.i c.index-words-i.result (omega arith) c.index-words-i.is in
    ap Some c.words.invariant.1 ∙ sym (next ∙ cond-false _ _ _ unfit) ∙ c.words.invariant.0
