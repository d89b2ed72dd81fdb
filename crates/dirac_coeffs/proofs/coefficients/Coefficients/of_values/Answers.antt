use Rattle.std.proofs.lemmas.Result.{IfOk-weaker}
use Rattle.std.proofs.Common.{◌≡◌, ℕ, ℤ, ◌*◌, List, ap, arith, length, subst, sym, ◌∙◌}
use Rattle.dirac_common.specs.Table.{Table}
use Rattle.dirac_coeffs.specs.declared.store.Values.{Values}
use Rattle.dirac_coeffs.specs.Lent.{values_in}
use Rattle.dirac_coeffs.proofs.coefficients.Coefficients.of_values.Goals as goal

pub of_narrow-requires-clause-across : goal.of_narrow-requires-clause-across
of_narrow-requires-clause-across c = c.requires.across

pub of_narrow-requires-clause-down : goal.of_narrow-requires-clause-down
of_narrow-requires-clause-down c = c.requires.down

pub of_narrow-requires-clause-len : goal.of_narrow-requires-clause-len
of_narrow-requires-clause-len c = subst (λ (v : Values). length (values_in v) ≡ c.args.width * c.args.height) c.in-Narrow.is c.requires.len

pub table_of-requires-clause-across : goal.table_of-requires-clause-across
table_of-requires-clause-across c = c.requires.across

pub table_of-requires-clause-down : goal.table_of-requires-clause-down
table_of-requires-clause-down c = c.requires.down

pub table_of-requires-clause-len : goal.table_of-requires-clause-len
table_of-requires-clause-len c = ap (λ (l : List ℤ). length l) c.as_slice.ensures.value ∙ subst (λ (v : Values). length (values_in v) ≡ c.args.width * c.args.height) c.in-Wide.is c.requires.len

pub try_of-requires-clause-across : goal.try_of-requires-clause-across
try_of-requires-clause-across c = omega (arith, ap (λ (t : Table). t.width) c.in-Ok.ensures, c.requires.across)

pub try_of-requires-clause-down : goal.try_of-requires-clause-down
try_of-requires-clause-down c = omega (arith, ap (λ (t : Table). t.height) c.in-Ok.ensures, c.requires.down)

-- the table of a band's values
abbrev table : ℕ → ℕ → Values → Table
table width height values = record { width = width; height = height; values = values_in values }

pub returns-in-Narrow : goal.returns-in-Narrow
returns-in-Narrow c = c.of_narrow.ensures ∙ ap (λ (v : Values). table c.args.width c.args.height v) (sym c.in-Narrow.is)

pub returns-in-Ok : goal.returns-in-Ok
returns-in-Ok c =
    let width = c.args.width in
    let height = c.args.height in
    let of : List ℤ → Table = λ xs. record { width = width; height = height; values = xs } in
    let same = ap of c.as_slice.ensures.value ∙ ap (λ (v : Values). table width height v) (sym c.in-Wide.is) in
    IfOk-weaker c.try_of.result (λ t. t ≡ c.in-Ok.table) (λ t. t ≡ table width height c.args.values) (λ t e. e ∙ c.in-Ok.ensures ∙ same) c.try_of.ensures
