use Rattle.std.proofs.Common.{◌≡◌, ◌+◌, ◌*◌, ℕ, pos, arith, ap, of_z, rules, slice_index_or, subst, sym, to_z, ◌∙◌}
use Rattle.std.specs.Int.{w32, w64}
use Rattle.std.proofs.lemmas.List.{get_or_read}
use Rattle.dirac_common.specs.Table.{Table, table_at}
use Rattle.std.proofs.lemmas.Int.{to_z-of_z}
use Rattle.dirac_coeffs.specs.declared.coefficients.Held.{Held}
use Rattle.dirac_coeffs.specs.Held.{IsHeld, held_table}
use Rattle.dirac_coeffs.proofs.Largest.{held_inside}
use Rattle.dirac_coeffs.proofs.NoParent.{zeros_at}
use Rattle.dirac_coeffs.proofs.coefficients.Coefficients.at.Goals as goal

pub returns-in-Zeros : goal.returns-in-Zeros
returns-in-Zeros c =
    let w = c.self.inside.width in
    let h = c.self.inside.height in
    subst (λ (t : Table). pos 0 ≡ table_at t c.args.x c.args.y) (ap (λ (v : Held). held_table w h v) (sym c.in-Zeros.is) ∙ c.self.view_is) (sym (zeros_at (w * h) (c.args.y * w + c.args.x)))

pub overflow_mul-y : goal.overflow_mul-y
overflow_mul-y c =
    let w = c.self.inside.width in
    let h = c.self.inside.height in
    let list = c.in-Narrow.list in
    let is = subst (λ (v : Held). IsHeld w h v c.self.inside.largest) c.in-Narrow.is c.self.invariant in
    let same = ap (λ (v : Held). held_table w h v) (sym c.in-Narrow.is) ∙ c.self.view_is in
    let place = held_inside w h list.items c.args.self.now c.args.x c.args.y same is.across.1 is.down.1 is.whole c.requires.across c.requires.down in
    omega (arith, place)

pub overflow_add-y : goal.overflow_add-y
overflow_add-y c =
    let w = c.self.inside.width in
    let h = c.self.inside.height in
    let list = c.in-Narrow.list in
    let is = subst (λ (v : Held). IsHeld w h v c.self.inside.largest) c.in-Narrow.is c.self.invariant in
    let same = ap (λ (v : Held). held_table w h v) (sym c.in-Narrow.is) ∙ c.self.view_is in
    let place = held_inside w h list.items c.args.self.now c.args.x c.args.y same is.across.1 is.down.1 is.whole c.requires.across c.requires.down in
    omega (arith, place)

pub index-requires : goal.index-requires
index-requires c =
    let w = c.self.inside.width in
    let h = c.self.inside.height in
    let list = c.in-Narrow.list in
    let is = subst (λ (v : Held). IsHeld w h v c.self.inside.largest) c.in-Narrow.is c.self.invariant in
    let same = ap (λ (v : Held). held_table w h v) (sym c.in-Narrow.is) ∙ c.self.view_is in
    let place = held_inside w h list.items c.args.self.now c.args.x c.args.y same is.across.1 is.down.1 is.whole c.requires.across c.requires.down in
    omega (arith, place, list.ok.0)

pub returns-in-Narrow : goal.returns-in-Narrow
returns-in-Narrow c =
    let w = c.self.inside.width in
    let h = c.self.inside.height in
    let list = c.in-Narrow.list in
    let is = subst (λ (v : Held). IsHeld w h v c.self.inside.largest) c.in-Narrow.is c.self.invariant in
    let same = ap (λ (v : Held). held_table w h v) (sym c.in-Narrow.is) ∙ c.self.view_is in
    let place = held_inside w h list.items c.args.self.now c.args.x c.args.y same is.across.1 is.down.1 is.whole c.requires.across c.requires.down in
    let fits : to_z w32 (of_z w32 c.index.result.now) ≡ c.index.result.now = search rules in
    let wide : to_z w64 (of_z w64 c.from.result) ≡ c.from.result = to_z-of_z w64 _ (record { sfits = c.from.type_inv }) in
    wide ∙ c.from.ensures ∙ fits ∙ get_or_read list.items _ _ place.0 c.index.ensures (pos 0) ∙ ap (λ (t : Table). table_at t c.args.x c.args.y) same

pub at-requires-clause-across : goal.at-requires-clause-across
at-requires-clause-across c =
    let w = c.self.inside.width in
    let h = c.self.inside.height in
    let is = subst (λ (v : Held). IsHeld w h v c.self.inside.largest) c.in-Wide.is c.self.invariant in
    let same = ap (λ (v : Held). held_table w h v) (sym c.in-Wide.is) ∙ c.self.view_is in
    omega (arith, c.requires.across, ap (λ (t : Table). t.width) same, is.form)

pub at-requires-clause-down : goal.at-requires-clause-down
at-requires-clause-down c =
    let w = c.self.inside.width in
    let h = c.self.inside.height in
    let is = subst (λ (v : Held). IsHeld w h v c.self.inside.largest) c.in-Wide.is c.self.invariant in
    let same = ap (λ (v : Held). held_table w h v) (sym c.in-Wide.is) ∙ c.self.view_is in
    omega (arith, c.requires.down, ap (λ (t : Table). t.height) same, is.form)

pub returns-in-Wide : goal.returns-in-Wide
returns-in-Wide c =
    let w = c.self.inside.width in
    let h = c.self.inside.height in
    let is = subst (λ (v : Held). IsHeld w h v c.self.inside.largest) c.in-Wide.is c.self.invariant in
    let same = ap (λ (v : Held). held_table w h v) (sym c.in-Wide.is) ∙ c.self.view_is in
    let t = c.in-Wide.table in
    let kept : to_z w64 (of_z w64 c.at.result) ≡ c.at.result = to_z-of_z w64 _ (record { sfits = c.at.type_inv }) in
    kept ∙ c.at.ensures ∙ ap (λ (n : ℕ). slice_index_or t.values (c.args.y * n + c.args.x) (pos 0)) is.form.1 ∙ ap (λ (u : Table). table_at u c.args.x c.args.y) same
