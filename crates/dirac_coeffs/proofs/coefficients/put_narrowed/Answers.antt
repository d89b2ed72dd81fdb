use Rattle.std.proofs.lemmas.Bool.{both_ways, cases_lt, eq-eqb, eqb-true}
use Rattle.std.proofs.lemmas.Int.{to_z-of_z}
use Rattle.std.proofs.lemmas.List.{length-set}
use Rattle.std.proofs.Common.{rules, ◌≡◌, ◌^◌, ◌<◌, ℤ, pos, ap, inl, inr, of_z, slice_index_or, slice_set, subst, sym, to_z, unsigned_abs, w32, w64, ◌∙◌}
use Rattle.dirac_coeffs.proofs.Carrying.{half_same}
use Rattle.dirac_coeffs.proofs.coefficients.put_narrowed.Goals as goal

pub bounds-wide-n : goal.bounds-wide-n
bounds-wide-n c = c.requires.wide

pub bounds-narrow-n : goal.bounds-narrow-n
bounds-narrow-n c = c.requires.narrow

pub returns-clause-len : goal.returns-clause-len
returns-clause-len c = length-set c.args.narrow.now c.args.n _

pub returns-clause-written : goal.returns-clause-written
returns-clause-written c = λ e.
    let v = slice_index_or c.args.wide.now c.args.n (pos 0) in
    let from : to_z w64 (of_z w64 c.from.result) ≡ c.from.result = to_z-of_z w64 _ (record { sfits = c.from.type_inv }) in
    let value : to_z w64 (of_z w64 v) ≡ v = search rules in
    ap (λ (z : ℤ). slice_set c.args.narrow.now c.args.n z) (half_same v c.lower_half-half.result c.from.result c.from.ensures from value (eqb-true _ _ e))

pub returns-clause-largest : goal.returns-clause-largest
returns-clause-largest c = λ e.
    let v = slice_index_or c.args.wide.now c.args.n (pos 0) in
    let from : to_z w64 (of_z w64 c.from.result) ≡ c.from.result = to_z-of_z w64 _ (record { sfits = c.from.type_inv }) in
    let value : to_z w64 (of_z w64 v) ≡ v = search rules in
    c.unsigned_abs.ensures.value ∙ ap unsigned_abs (half_same v c.lower_half-half.result c.from.result c.from.ensures from value (eqb-true _ _ e))

pub returns-clause-others : goal.returns-clause-others
returns-clause-others c = λ e.
    let v = slice_index_or c.args.wide.now c.args.n (pos 0) in
    let half = c.lower_half-half.result in
    let value : to_z w64 (of_z w64 v) ≡ v = search rules in
    let halves : to_z w32 (of_z w32 half) ≡ half = to_z-of_z w32 _ (record { sfits = c.lower_half-half.type_inv }) in
    elim (cases_lt (unsigned_abs v) (2 ^ 31)) [
      | inl small ↦
          let kept = c.lower_half-half.ensures (subst (λ (z : ℤ). unsigned_abs z < 2 ^ 31) (sym value) small) in
          absurd (both_ways _ e (eq-eqb _ _ (ap (of_z w64) (c.from.ensures ∙ halves ∙ kept ∙ value))))
      | inr large ↦ large
    ]
