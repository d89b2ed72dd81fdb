use Rattle.dirac_coeffs.proofs.Edges.{edge_rises}
use Rattle.std.proofs.Common.{ℕ, ◌+◌, ◌-◌, ap₂, arith}
use Rattle.dirac_coeffs.proofs.spans.codeblock_span.Goals as goal

pub edge-start-requires-clause-size : goal.edge-start-requires-clause-size
edge-start-requires-clause-size c = c.requires.size

pub edge-start-requires-clause-count : goal.edge-start-requires-clause-count
edge-start-requires-clause-count c = omega (arith, c.requires.c)

pub edge-start-requires-clause-c : goal.edge-start-requires-clause-c
edge-start-requires-clause-c c = omega (arith, c.requires.c)

pub edge-end-requires-clause-size : goal.edge-end-requires-clause-size
edge-end-requires-clause-size c = c.requires.size

pub edge-end-requires-clause-count : goal.edge-end-requires-clause-count
edge-end-requires-clause-count c = omega (arith, c.requires.c)

pub edge-end-requires-clause-c : goal.edge-end-requires-clause-c
edge-end-requires-clause-c c = omega (arith, c.requires.c)

pub overflow_sub-result : goal.overflow_sub-result
overflow_sub-result c = omega (arith, c.edge-start.ensures.value, c.edge-end.ensures.value, edge_rises c.args.size c.args.count c.args.c (c.args.c + 1) (omega (arith, c.requires.c)) (omega arith))

pub returns-clause-start : goal.returns-clause-start
returns-clause-start c = c.edge-start.ensures.value

pub returns-clause-length : goal.returns-clause-length
returns-clause-length c = ap₂ (λ (a b : ℕ). a - b) c.edge-end.ensures.value c.edge-start.ensures.value

pub returns-clause-inside : goal.returns-clause-inside
returns-clause-inside c = omega (arith, c.edge-end.ensures.inside, c.edge-start.ensures.value, c.edge-end.ensures.value, edge_rises c.args.size c.args.count c.args.c (c.args.c + 1) (omega (arith, c.requires.c)) (omega arith))
