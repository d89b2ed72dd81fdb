use Rattle.std.proofs.Common.{◌≡◌, ◌+◌, ap, refl, arith, ◌∙◌}
use Rattle.std.specs.Prelude.{slice_index_or}
use Rattle.dirac_search.specs.Rows.{apart_at}
use Rattle.dirac_search.proofs.InLanes.{apart_of_parts, lanes_more}
use Rattle.dirac_search.proofs.eight_columns.add_eight.Goals as goal

pub loop-k-preserved : goal.loop-k-preserved
loop-k-preserved c =
    let a = c.args in
    let apart : c.difference_behind.result ≡ apart_at a.a.now a.first a.b.now a.second c.loop-k.k = c.difference_behind.ensures.value ∙ apart_of_parts a.a.now a.first a.b.now a.second c.loop-k.k (omega arith) in
    lanes_more c.loop-k.lanes a.lanes.now (apart_at a.a.now a.first a.b.now a.second) c.loop-k.k (c.loop-k.k + 1) _ (omega (arith, c.requires.eight_lanes)) refl
    (ap (λ n. slice_index_or c.loop-k.lanes c.loop-k.k 0 + n) apart) (omega (arith, apart, c.difference_behind.ensures.at_most_65535)) c.loop-k.invariant
