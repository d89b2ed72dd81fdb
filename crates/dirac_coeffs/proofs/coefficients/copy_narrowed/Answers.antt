use Rattle.std.proofs.Common.{◌≡◌, ℕ, pos, false, slice_index_or, unsigned_abs, arith, inl, inr}
use Rattle.std.proofs.lemmas.Bool.{and_parts, cases_Bool}
use Rattle.std.proofs.lemmas.List.{ext_get_or}
use Rattle.dirac_coeffs.proofs.Largest.{all_bounded, bound_more, copied_more, least_more}
use Rattle.dirac_coeffs.proofs.coefficients.copy_narrowed.Goals as goal

pub loop-n-preserved : goal.loop-n-preserved
loop-n-preserved c =
    let f = λ (k : ℕ). unsigned_abs (slice_index_or c.args.wide.now k (pos 0)) in
    let one = c.put_narrowed-one in
    let old = c.loop-n.invariant in
    record {
      written = λ e. let both = and_parts c.loop-n.all one.result.all e in
          rw (one.ensures.written both.1) (copied_more c.args.wide.now c.loop-n.narrow c.loop-n.n (omega arith) (old.written both.0));
      bound = λ e. let both = and_parts c.loop-n.all one.result.all e in
          bound_more f c.loop-n.n c.loop-n.largest one.result.largest c.max-largest.result (old.bound both.0) (one.ensures.largest both.1) c.max-largest.ensures;
      least = λ e. let both = and_parts c.loop-n.all one.result.all e in
          least_more f c.loop-n.n c.loop-n.largest one.result.largest c.max-largest.result (old.least both.0) (one.ensures.largest both.1) c.max-largest.ensures;
      others = λ e m all. elim (cases_Bool c.loop-n.all) [
        | inl so_far ↦
            let other : one.result.all ≡ false = rw so_far at e in
            omega (arith, one.ensures.others other, all c.loop-n.n (omega arith))
        | inr before ↦ old.others before m (λ k l. all k (omega (arith, l)))
      ];
    }

pub returns-clause-written : goal.returns-clause-written
returns-clause-written c = λ e.
    ext_get_or (pos 0) c.loop-n.narrow c.args.wide.now (omega arith) (λ k l. c.loop-n.invariant.written e k (omega (arith, l)))

pub returns-clause-largest : goal.returns-clause-largest
returns-clause-largest c = λ e. record {
  bound = all_bounded c.args.wide.now c.loop-n.n c.loop-n.largest (omega arith) (c.loop-n.invariant.bound e);
  least = λ m all. c.loop-n.invariant.least e m (λ k l. all k (pos 0) (omega (arith, l)));
}

pub returns-clause-others : goal.returns-clause-others
returns-clause-others c = λ e m all. c.loop-n.invariant.others e m (λ k l. all k (pos 0) (omega (arith, l)))
