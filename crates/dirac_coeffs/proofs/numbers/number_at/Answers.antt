use Rattle.std.proofs.Common.{rules, ◌≡◌, ◌<◌, ap, length, of_z, pos, slice_index_or, subst, sym, to_z, w32, w64, ◌∙◌}
use Rattle.std.proofs.lemmas.Int.{to_z-of_z}
use Rattle.dirac_coeffs.specs.declared.numbers.Numbers.{Numbers}
use Rattle.dirac_coeffs.specs.Lent.{numbers_in}
use Rattle.dirac_coeffs.proofs.NoParent.{zeros_at}
use Rattle.dirac_coeffs.proofs.numbers.number_at.Goals as goal

pub bounds-list-place : goal.bounds-list-place
bounds-list-place c = subst (λ (n : Numbers). c.args.place < length (numbers_in n)) c.in-Narrow.is c.requires

pub bounds-list-place-in-Wide : goal.bounds-list-place-in-Wide
bounds-list-place-in-Wide c = subst (λ (n : Numbers). c.args.place < length (numbers_in n)) c.in-Wide.is c.requires

pub returns-in-Zeros : goal.returns-in-Zeros
returns-in-Zeros c = sym (ap (λ (n : Numbers). slice_index_or (numbers_in n) c.args.place (pos 0)) c.in-Zeros.is ∙ zeros_at c.in-Zeros._count c.args.place)

pub returns-in-Narrow : goal.returns-in-Narrow
returns-in-Narrow c =
    let v = slice_index_or c.in-Narrow.list.now c.args.place (pos 0) in
    let wide : to_z w64 (of_z w64 c.from.result) ≡ c.from.result = to_z-of_z w64 _ (record { sfits = c.from.type_inv }) in
    let fits : to_z w32 (of_z w32 v) ≡ v = search rules in
    wide ∙ c.from.ensures ∙ fits ∙ sym (ap (λ (n : Numbers). slice_index_or (numbers_in n) c.args.place (pos 0)) c.in-Narrow.is)

pub returns-in-Wide : goal.returns-in-Wide
returns-in-Wide c =
    let v = slice_index_or c.in-Wide.list.now c.args.place (pos 0) in
    let wide : to_z w64 (of_z w64 v) ≡ v = search rules in
    wide ∙ sym (ap (λ (n : Numbers). slice_index_or (numbers_in n) c.args.place (pos 0)) c.in-Wide.is)
