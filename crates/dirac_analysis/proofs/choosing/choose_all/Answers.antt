use Rattle.std.proofs.Common.{◌≡◌, ◌+◌, ◌*◌, suc, length, length-set, refl, ap, ◌∙◌, arith}
use Rattle.std.proofs.lemmas.List.{length-replicate}
use Rattle.std.proofs.lemmas.List.Elements.{All-replicate, All-same, All-set}
use Rattle.std.proofs.lemmas.List.FromFn.{fill_by_all}
use Rattle.dirac_common.specs.Limits.{IsIndex}
use Rattle.dirac_analysis.specs.Coded.{chosen_at, index_behind}
use Rattle.dirac_analysis.proofs.Flatness.{behind_more, set_more}
use Rattle.dirac_analysis.proofs.choosing.choose_all.Goals as goal

pub loop-c-init : goal.loop-c-init
unfolding index_behind
loop-c-init c =
    let n = c.args.counts.0 * c.args.counts.1 in
    record {
      chosen_len = ap length c.in_ok-chosen.ensures ∙ length-replicate n 0;
      coded_len = ap length c.in_ok-coded.ensures ∙ length-replicate n 0;
      lawful = All-same IsIndex _ _ c.in_ok-chosen.ensures (All-replicate IsIndex n 0 (omega arith));
      chosen = λ k l. absurd (omega arith);
      coded = λ k l. absurd (omega arith);
      behind = refl;
    }

pub loop-c-preserved : goal.loop-c-preserved
loop-c-preserved c =
    let counts = c.args.counts in
    let t = c.args.table.now in
    let at = c.loop-c.c in
    let old = c.loop-c.invariant in
    let choice = c.choose-choice in
    let behind : c.behind-behind.result ≡ index_behind counts c.args.finer c.args.index t (suc at) =
    behind_more counts c.args.finer c.args.index t at c.loop-c.behind choice.result.index c.behind-behind.result choice.result.skipped old.behind choice.ensures.index choice.ensures.skipped c.behind-behind.ensures in
    let next : suc at ≡ at + 1 = omega arith in
    record {
      chosen_len = ap length c.set.ensures ∙ length-set c.loop-c.chosen at choice.result.index ∙ old.chosen_len;
      coded_len = ap length c.set-in-loop-c.ensures ∙ length-set c.loop-c.coded at c.behind-behind.result ∙ old.coded_len;
      lawful = All-same IsIndex _ _ c.set.ensures (All-set IsIndex c.loop-c.chosen at choice.result.index choice.ensures.fits old.lawful);
      chosen = set_more (chosen_at counts c.args.finer c.args.index t) c.loop-c.chosen c.set.new.self at choice.result.index c.set.ensures (omega (arith, old.chosen_len)) choice.ensures.index old.chosen;
      coded = set_more (λ k. index_behind counts c.args.finer c.args.index t (suc k)) c.loop-c.coded c.set-in-loop-c.new.self at c.behind-behind.result c.set-in-loop-c.ensures (omega (arith, old.coded_len)) behind old.coded;
      behind = behind ∙ ap (index_behind counts c.args.finer c.args.index t) next;
    }

pub returns-clause-chosen : goal.returns-clause-chosen
returns-clause-chosen c =
    fill_by_all (chosen_at c.args.counts c.args.finer c.args.index c.args.table.now) c.loop-c.chosen (c.args.counts.0 * c.args.counts.1) 0 c.loop-c.invariant.chosen_len
    (λ k l. c.loop-c.invariant.chosen k (omega arith))

pub returns-clause-coded : goal.returns-clause-coded
returns-clause-coded c =
    fill_by_all (λ k. index_behind c.args.counts c.args.finer c.args.index c.args.table.now (suc k)) c.loop-c.coded (c.args.counts.0 * c.args.counts.1) 0 c.loop-c.invariant.coded_len
    (λ k l. c.loop-c.invariant.coded k (omega arith))
