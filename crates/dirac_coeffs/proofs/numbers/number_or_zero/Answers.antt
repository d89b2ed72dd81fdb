use Rattle.std.proofs.lemmas.List.{get_or_past}
use Rattle.std.proofs.Common.{rules, ◌≡◌, ap, arith, of_z, pos, slice_index_or, sym, to_z, w32, w64, ◌∙◌}
use Rattle.std.proofs.lemmas.Int.{to_z-of_z}
use Rattle.dirac_coeffs.specs.declared.numbers.Numbers.{Numbers}
use Rattle.dirac_coeffs.specs.Lent.{numbers_in}
use Rattle.dirac_coeffs.proofs.NoParent.{zeros_at}
use Rattle.dirac_coeffs.proofs.numbers.number_or_zero.Goals as goal

pub bounds-list-place : goal.bounds-list-place
bounds-list-place c = omega arith

pub bounds-list-place-then-place-list-2 : goal.bounds-list-place-then-place-list-2
bounds-list-place-then-place-list-2 c = omega arith

pub returns-in-Zeros : goal.returns-in-Zeros
returns-in-Zeros c = sym (ap (λ (n : Numbers). slice_index_or (numbers_in n) c.args.place (pos 0)) c.in-Zeros.is ∙ zeros_at c.in-Zeros._count c.args.place)

pub returns-then-place-list : goal.returns-then-place-list
returns-then-place-list c =
    let v = slice_index_or c.in-Narrow.list.now c.args.place (pos 0) in
    let wide : to_z w64 (of_z w64 c.from.result) ≡ c.from.result = to_z-of_z w64 _ (record { sfits = c.from.type_inv }) in
    let fits : to_z w32 (of_z w32 v) ≡ v = search rules in
    wide ∙ c.from.ensures ∙ fits ∙ sym (ap (λ (n : Numbers). slice_index_or (numbers_in n) c.args.place (pos 0)) c.in-Narrow.is)

pub returns-else-place-list : goal.returns-else-place-list
returns-else-place-list c = sym (ap (λ (n : Numbers). slice_index_or (numbers_in n) c.args.place (pos 0)) c.in-Narrow.is ∙ get_or_past c.in-Narrow.list.now c.args.place (pos 0) (omega arith))

pub returns-then-place-list-2 : goal.returns-then-place-list-2
returns-then-place-list-2 c =
    let v = slice_index_or c.in-Wide.list.now c.args.place (pos 0) in
    let wide : to_z w64 (of_z w64 v) ≡ v = search rules in
    wide ∙ sym (ap (λ (n : Numbers). slice_index_or (numbers_in n) c.args.place (pos 0)) c.in-Wide.is)

pub returns-else-place-list-2 : goal.returns-else-place-list-2
returns-else-place-list-2 c = sym (ap (λ (n : Numbers). slice_index_or (numbers_in n) c.args.place (pos 0)) c.in-Wide.is ∙ get_or_past c.in-Wide.list.now c.args.place (pos 0) (omega arith))
