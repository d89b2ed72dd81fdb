use Rattle.std.proofs.Common.{◌≡◌, ◌+◌, pos, length, to_z, of_z, slice_index_or, arith, rules, refl, ◌∙◌}
use Rattle.std.specs.Int.{w16}
use Rattle.std.proofs.lemmas.List.{get_or-set_other}
use Rattle.dirac_upconvert.proofs.Lanes.{put_none, put_more, put_told}
use Rattle.dirac_upconvert.proofs.rows.put.Goals as goal

pub loop-k-init : goal.loop-k-init
loop-k-init c = record { put = put_none _ _ _; behind = λ k l. refl }

pub loop-k-preserved : goal.loop-k-preserved
loop-k-preserved c =
    let told : to_z w16 (of_z w16 (slice_index_or c.args.lanes.now c.loop-k.k (pos 0))) ≡ slice_index_or c.args.lanes.now c.loop-k.k (pos 0) = search rules in
    record {
      put = put_more c.args.first c.loop-k.k (c.loop-k.k + 1) (c.args.first + c.loop-k.k) (λ k. slice_index_or c.args.lanes.now k (pos 0)) c.args.out.now c.loop-k.out _ c.loop-k.invariant.put refl (omega arith) refl told;
      behind = λ k l. get_or-set_other c.loop-k.out (c.args.first + c.loop-k.k) k _ (pos 0) (omega (arith, l)) ∙ c.loop-k.invariant.behind k l;
    }

pub returns-clause-put : goal.returns-clause-put
returns-clause-put c = put_told _ c.loop-k.k (length c.args.lanes.now) _ _ _ _ c.loop-k.invariant.put (omega arith) (λ k l. refl)

pub returns-clause-behind : goal.returns-clause-behind
returns-clause-behind c = c.loop-k.invariant.behind
