use Rattle.std.proofs.Common.{ℕ, ℤ, ◌*◌, List, ap, ap₂, length, pos, replicate, sym, ◌∙◌}
use Rattle.std.proofs.lemmas.List.{length-replicate}
use Rattle.dirac_common.specs.Table.{Table, with_values}
use Rattle.dirac_coeffs.specs.Lent.{numbers_in}
use Rattle.dirac_coeffs.proofs.Largest.{filled}
use Rattle.dirac_coeffs.proofs.coefficients.table_of.Goals as goal

pub try_new-requires-clause-across : goal.try_new-requires-clause-across
try_new-requires-clause-across c = c.requires.across

pub try_new-requires-clause-down : goal.try_new-requires-clause-down
try_new-requires-clause-down c = c.requires.down

pub write_wide-requires : goal.write_wide-requires
write_wide-requires c = c.values_mut.ensures.value ∙ ap (λ (t : Table). t.values) c.in-Ok.ensures ∙ ap (λ (n : ℕ). replicate n (pos 0)) (sym c.requires.len)

pub returns-in-Ok : goal.returns-in-Ok
returns-in-Ok c =
    let width = c.args.width in
    let height = c.args.height in
    let xs = numbers_in c.args.numbers in
    let zeros = replicate (width * height) (pos 0) in
    let of : List ℤ → Table = λ ys. record { width = width; height = height; values = ys } in
    ap₂ (λ (t : Table) (ys : List ℤ). with_values t ys) c.in-Ok.ensures c.write_wide.ensures ∙ ap of (filled (length zeros) xs zeros (c.requires.len ∙ sym (length-replicate {A = ℤ} (width * height) (pos 0))))

pub returns-in-Err : goal.returns-in-Err
returns-in-Err c = tt
