use Rattle.std.proofs.Common.{◌≡◌, ◌<◌, ℕ, suc, length, slice_index_or}
use Rattle.std.specs.List.{All}
use Rattle.dirac_common.specs.Limits.{IsIndex}
use Rattle.dirac_analysis.specs.Coded.{chosen_at, index_behind}
use Rattle.dirac_analysis.proofs.choosing.choose_all.Given as goal

abbrev pub invariant-loop-c : goal.invariant-loop-c
invariant-loop-c l = record {
  chosen_len : length l.chosen ≡ l.count;
  coded_len : length l.coded ≡ l.count;
  lawful : All IsIndex l.chosen;
  chosen : (k : ℕ) → k < l.c → slice_index_or l.chosen k 0 ≡ chosen_at l.counts l.finer l.index l.table k;
  coded : (k : ℕ) → k < l.c → slice_index_or l.coded k 0 ≡ index_behind l.counts l.finer l.index l.table (suc k);
  behind : l.behind ≡ index_behind l.counts l.finer l.index l.table l.c;
}
