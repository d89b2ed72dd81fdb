use Rattle.std.proofs.Common.{◌≡◌, ◌+◌, ◌-◌, ◌*◌, ◌/◌, ◌^◌, arith, refl, ap, sym}
use Rattle.dirac_obmc.specs.Adding.{weighed_at}
use Rattle.dirac_obmc.proofs.AddLemmas.{fewer_weighed, part_ahead, part_joined, part_none}
use Rattle.dirac_obmc.proofs.sums.add_values.Goals as goal

pub loop-c-init : goal.loop-c-init
loop-c-init c = part_none _ _ _

pub add_eight-requires-clause-sums : goal.add_eight-requires-clause-sums
add_eight-requires-clause-sums c k l = part_ahead _ _ (8 * c.loop-c.c) (2 ^ 23) _ _ _ c.loop-c.invariant c.requires.sums (omega (arith, l)) (omega (arith, l))

pub add_eight-requires-clause-weighed : goal.add_eight-requires-clause-weighed
add_eight-requires-clause-weighed c = fewer_weighed _ _ _ c.requires.weighed (omega arith)

pub loop-c-preserved : goal.loop-c-preserved
loop-c-preserved c = part_joined _ _ _ _ (8 * c.loop-c.c) 8 _ _ _ _ c.loop-c.invariant c.add_eight.ensures refl (omega arith) (λ i l. refl)

pub add_singly-requires-clause-sums : goal.add_singly-requires-clause-sums
add_singly-requires-clause-sums c k l = part_ahead _ _ (8 * c.loop-c.c) (2 ^ 23) _ _ _ c.loop-c.invariant c.requires.sums (omega (arith, l)) (omega (arith, l))

pub add_singly-requires-clause-weighed : goal.add_singly-requires-clause-weighed
add_singly-requires-clause-weighed c = fewer_weighed _ _ _ c.requires.weighed (omega arith)

pub returns : goal.returns
returns c =
    let all : c.loop-c.c ≡ c.args.count / 8 = omega arith in
    part_joined _ _ _ _ (8 * c.loop-c.c) (c.args.count - 8 * (c.args.count / 8)) _ _ _ _ c.loop-c.invariant c.add_singly.ensures (omega (arith, all)) (omega (arith, all))
    (λ i l. ap (λ n. weighed_at c.args.weighed (8 * n + i)) (sym all))
