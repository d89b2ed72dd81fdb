use Rattle.std.proofs.Common.{ℕ, arith, ap, length, replicate}
use Rattle.std.proofs.lemmas.List.{get_or-replicate}
use Rattle.dirac_search.proofs.InLanes.{four_rows_are}
use Rattle.dirac_search.proofs.eight_columns.four_rows.Goals as goal

pub returns-clause-value : goal.returns-clause-value
returns-clause-value c =
    four_rows_are c.args.source.now c.args.reference.now c.values-a.result.now c.values-b.result.now c.args.x c.args.across c.args.y c.args.down c.place-first.result c.place-second.result _ _ c.sum_of_eight.result (replicate 8 0) _ _ _ _
    c.sum_of_eight.ensures.value (λ k l. get_or-replicate 8 k 0 0 l) c.add_eight.ensures.added c.add_eight-2.ensures.added c.add_eight-3.ensures.added c.add_eight-4.ensures.added
    c.values-a.ensures.value c.values-b.ensures.value c.width-left.ensures.value c.width-right.ensures.value c.place-first.ensures.value c.place-second.ensures.value c.requires.y c.requires.down c.requires.x c.requires.across

pub add_eight-requires-clause-at_most_196605 : goal.add_eight-requires-clause-at_most_196605
add_eight-requires-clause-at_most_196605 c = λ k l. omega (arith, get_or-replicate {A = ℕ} 8 k 0 0 l)

pub add_eight-requires-2-clause-at_most_196605 : goal.add_eight-requires-2-clause-at_most_196605
add_eight-requires-2-clause-at_most_196605 c = λ k l. omega (arith, get_or-replicate {A = ℕ} 8 k 0 0 l, c.add_eight.ensures.at_most_65535_more k l)

pub add_eight-requires-3-clause-at_most_196605 : goal.add_eight-requires-3-clause-at_most_196605
add_eight-requires-3-clause-at_most_196605 c = λ k l. omega (arith, get_or-replicate {A = ℕ} 8 k 0 0 l, c.add_eight.ensures.at_most_65535_more k l, c.add_eight-2.ensures.at_most_65535_more k l)

pub add_eight-requires-4-clause-at_most_196605 : goal.add_eight-requires-4-clause-at_most_196605
add_eight-requires-4-clause-at_most_196605 c = λ k l. omega (arith, get_or-replicate {A = ℕ} 8 k 0 0 l, c.add_eight.ensures.at_most_65535_more k l, c.add_eight-2.ensures.at_most_65535_more k l, c.add_eight-3.ensures.at_most_65535_more k l)

pub sum_of_eight-requires-clause-at_most_262140 : goal.sum_of_eight-requires-clause-at_most_262140
sum_of_eight-requires-clause-at_most_262140 c = λ k l. omega (arith, get_or-replicate {A = ℕ} 8 k 0 0 l, c.add_eight.ensures.at_most_65535_more k l, c.add_eight-2.ensures.at_most_65535_more k l, c.add_eight-3.ensures.at_most_65535_more k l, c.add_eight-4.ensures.at_most_65535_more k l)

pub returns-clause-at_most_2097120 : goal.returns-clause-at_most_2097120
returns-clause-at_most_2097120 c = c.sum_of_eight.ensures.at_most_2097120

pub add_eight-requires-clause-inside_a : goal.add_eight-requires-clause-inside_a
add_eight-requires-clause-inside_a c = omega (arith, c.place-first.ensures.inside, ap length c.values-a.ensures.value, c.width-left.ensures.value)

pub add_eight-requires-clause-inside_b : goal.add_eight-requires-clause-inside_b
add_eight-requires-clause-inside_b c = omega (arith, c.place-second.ensures.inside, ap length c.values-b.ensures.value, c.width-right.ensures.value)

pub add_eight-requires-2-clause-inside_a : goal.add_eight-requires-2-clause-inside_a
add_eight-requires-2-clause-inside_a c = omega (arith, c.place-first.ensures.inside, ap length c.values-a.ensures.value, c.width-left.ensures.value)

pub add_eight-requires-2-clause-inside_b : goal.add_eight-requires-2-clause-inside_b
add_eight-requires-2-clause-inside_b c = omega (arith, c.place-second.ensures.inside, ap length c.values-b.ensures.value, c.width-right.ensures.value)

pub add_eight-requires-3-clause-inside_a : goal.add_eight-requires-3-clause-inside_a
add_eight-requires-3-clause-inside_a c = omega (arith, c.place-first.ensures.inside, ap length c.values-a.ensures.value, c.width-left.ensures.value)

pub add_eight-requires-3-clause-inside_b : goal.add_eight-requires-3-clause-inside_b
add_eight-requires-3-clause-inside_b c = omega (arith, c.place-second.ensures.inside, ap length c.values-b.ensures.value, c.width-right.ensures.value)

pub add_eight-requires-4-clause-inside_a : goal.add_eight-requires-4-clause-inside_a
add_eight-requires-4-clause-inside_a c = omega (arith, c.place-first.ensures.inside, ap length c.values-a.ensures.value, c.width-left.ensures.value)

pub add_eight-requires-4-clause-inside_b : goal.add_eight-requires-4-clause-inside_b
add_eight-requires-4-clause-inside_b c = omega (arith, c.place-second.ensures.inside, ap length c.values-b.ensures.value, c.width-right.ensures.value)
