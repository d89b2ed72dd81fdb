use Rattle.std.proofs.Common.{ℕ, arith, replicate}
use Rattle.std.proofs.lemmas.List.{get_or-replicate}
use Rattle.dirac_search.proofs.InLanes.{four_rows_beside_are}
use Rattle.dirac_search.proofs.eight_columns.four_rows_beside.Goals as goal

pub returns-clause-value : goal.returns-clause-value
returns-clause-value c =
    four_rows_beside_are c.args.source.now c.args.x c.args.y c.sum_of_eight.result (replicate 8 0) _ _ _ _ _ _ _ _ c.args.samples.now
    c.sum_of_eight.ensures.value (λ k l. get_or-replicate 8 k 0 0 l) c.add_eight.ensures.added c.add_eight-2.ensures.added c.add_eight-3.ensures.added c.add_eight-4.ensures.added
    c.source_row.ensures.value c.source_row-2.ensures.value c.source_row-3.ensures.value c.source_row-4.ensures.value c.requires.x

pub add_eight-requires-clause-at_most_196605 : goal.add_eight-requires-clause-at_most_196605
add_eight-requires-clause-at_most_196605 c = λ k l. omega (arith, get_or-replicate {A = ℕ} 8 k 0 0 l)

pub add_eight-requires-2-clause-at_most_196605 : goal.add_eight-requires-2-clause-at_most_196605
add_eight-requires-2-clause-at_most_196605 c = λ k l. omega (arith, get_or-replicate {A = ℕ} 8 k 0 0 l, c.add_eight.ensures.at_most_65535_more k l)

pub add_eight-requires-3-clause-at_most_196605 : goal.add_eight-requires-3-clause-at_most_196605
add_eight-requires-3-clause-at_most_196605 c = λ k l. omega (arith, get_or-replicate {A = ℕ} 8 k 0 0 l, c.add_eight.ensures.at_most_65535_more k l, c.add_eight-2.ensures.at_most_65535_more k l)

pub add_eight-requires-4-clause-at_most_196605 : goal.add_eight-requires-4-clause-at_most_196605
add_eight-requires-4-clause-at_most_196605 c = λ k l. omega (arith, get_or-replicate {A = ℕ} 8 k 0 0 l, c.add_eight.ensures.at_most_65535_more k l, c.add_eight-2.ensures.at_most_65535_more k l, c.add_eight-3.ensures.at_most_65535_more k l)

pub sum_of_eight-requires-clause-at_most_262140 : goal.sum_of_eight-requires-clause-at_most_262140
sum_of_eight-requires-clause-at_most_262140 c = λ k l. omega (arith, get_or-replicate {A = ℕ} 8 k 0 0 l, c.add_eight.ensures.at_most_65535_more k l, c.add_eight-2.ensures.at_most_65535_more k l, c.add_eight-3.ensures.at_most_65535_more k l, c.add_eight-4.ensures.at_most_65535_more k l)

pub returns-clause-at_most_2097120 : goal.returns-clause-at_most_2097120
returns-clause-at_most_2097120 c = c.sum_of_eight.ensures.at_most_2097120

pub add_eight-requires-clause-inside_a : goal.add_eight-requires-clause-inside_a
add_eight-requires-clause-inside_a c = omega (arith, c.requires.x, c.source_row.ensures.len)

pub add_eight-requires-clause-inside_b : goal.add_eight-requires-clause-inside_b
add_eight-requires-clause-inside_b c = omega (arith, c.requires.four_rows_of_eight)

pub add_eight-requires-2-clause-inside_a : goal.add_eight-requires-2-clause-inside_a
add_eight-requires-2-clause-inside_a c = omega (arith, c.requires.x, c.source_row-2.ensures.len)

pub add_eight-requires-2-clause-inside_b : goal.add_eight-requires-2-clause-inside_b
add_eight-requires-2-clause-inside_b c = omega (arith, c.requires.four_rows_of_eight)

pub add_eight-requires-3-clause-inside_a : goal.add_eight-requires-3-clause-inside_a
add_eight-requires-3-clause-inside_a c = omega (arith, c.requires.x, c.source_row-3.ensures.len)

pub add_eight-requires-3-clause-inside_b : goal.add_eight-requires-3-clause-inside_b
add_eight-requires-3-clause-inside_b c = omega (arith, c.requires.four_rows_of_eight)

pub add_eight-requires-4-clause-inside_a : goal.add_eight-requires-4-clause-inside_a
add_eight-requires-4-clause-inside_a c = omega (arith, c.requires.x, c.source_row-4.ensures.len)

pub add_eight-requires-4-clause-inside_b : goal.add_eight-requires-4-clause-inside_b
add_eight-requires-4-clause-inside_b c = omega (arith, c.requires.four_rows_of_eight)
