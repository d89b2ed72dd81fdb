use Rattle.std.proofs.Common.{◌≡◌, ℕ, pos, ◌-◌, ◌^◌, ◌≤◌, List, ℤ, unsigned_abs, ap, arith, subst, sym, ◌∙◌, refl}
use Rattle.std.specs.List.{All}
use Rattle.dirac_common.specs.Table.{Table}
use Rattle.dirac_coeffs.specs.declared.coefficients.Held.{Held}
use Rattle.dirac_coeffs.specs.Held.{IsHeld, IsLargest, held_table}
use Rattle.dirac_coeffs.proofs.Largest.{held_row}
use Rattle.dirac_coeffs.proofs.coefficients.Coefficients.narrow_row.Goals as goal

pub returns-in-Wide-clause-zeros : goal.returns-in-Wide-clause-zeros
returns-in-Wide-clause-zeros c = λ e.
    let wide : 2 ^ 31 ≤ c.self.inside.largest = (rw c.in-Wide.is at c.self.invariant.form).0 in
    let fits : All (λ v. unsigned_abs v ≤ 2 ^ 31 - 1) c.args.self.now.values = λ k d l. omega (arith, c.requires.fits k d l) in
    let small : c.self.inside.largest ≤ 2 ^ 31 - 1 = c.self.invariant.most.least (2 ^ 31 - 1) (subst (λ (t : Table). All (λ v. unsigned_abs v ≤ 2 ^ 31 - 1) t.values) (sym c.self.view_is) fits) in
    absurd (omega (arith, wide, small))

-- the largest magnitude of zeros
none_in_zeros : (largest : ℕ) (xs : List ℤ) → IsLargest largest xs → All (λ v. v ≡ pos 0) xs → largest ≤ 0
none_in_zeros largest xs is all = is.least 0 (λ k d l. rw (all k d l) (omega arith))

pub returns-in-Narrow-clause-no_list : goal.returns-in-Narrow-clause-no_list
returns-in-Narrow-clause-no_list c = λ all.
    let some : 1 ≤ c.self.inside.largest = rw c.in-Narrow.is at c.self.invariant.form in
    let most : IsLargest c.self.inside.largest c.args.self.now.values = subst (λ (t : Table). IsLargest c.self.inside.largest t.values) c.self.view_is c.self.invariant.most in
    absurd (omega (arith, some, none_in_zeros c.self.inside.largest c.args.self.now.values most all))

pub overflow_mul-start : goal.overflow_mul-start
overflow_mul-start c =
    let w = c.self.inside.width in
    let h = c.self.inside.height in
    let is = subst (λ (v : Held). IsHeld w h v c.self.inside.largest) c.in-Narrow.is c.self.invariant in
    let same = ap (λ (v : Held). held_table w h v) (sym c.in-Narrow.is) ∙ c.self.view_is in
    let place = held_row w h c.in-Narrow.list.items c.args.self.now c.args.y same is.across.1 is.down.1 is.whole c.requires.inside in
    omega (arith, place)

pub overflow_add-result : goal.overflow_add-result
overflow_add-result c =
    let w = c.self.inside.width in
    let h = c.self.inside.height in
    let is = subst (λ (v : Held). IsHeld w h v c.self.inside.largest) c.in-Narrow.is c.self.invariant in
    let same = ap (λ (v : Held). held_table w h v) (sym c.in-Narrow.is) ∙ c.self.view_is in
    let place = held_row w h c.in-Narrow.list.items c.args.self.now c.args.y same is.across.1 is.down.1 is.whole c.requires.inside in
    omega (arith, place)

pub returns-in-Zeros-clause-value : goal.returns-in-Zeros-clause-value
returns-in-Zeros-clause-value c = tt

pub returns-in-Zeros-clause-len : goal.returns-in-Zeros-clause-len
returns-in-Zeros-clause-len c = tt

pub returns-in-Zeros-clause-no_list : goal.returns-in-Zeros-clause-no_list
returns-in-Zeros-clause-no_list c = λ a. refl

pub returns-in-Wide-clause-value : goal.returns-in-Wide-clause-value
returns-in-Wide-clause-value c = tt

pub returns-in-Wide-clause-len : goal.returns-in-Wide-clause-len
returns-in-Wide-clause-len c = tt

pub returns-in-Wide-clause-no_list : goal.returns-in-Wide-clause-no_list
returns-in-Wide-clause-no_list c = λ a. refl

pub returns-in-Narrow-clause-zeros : goal.returns-in-Narrow-clause-zeros
returns-in-Narrow-clause-zeros c = λ e. absurd cc
