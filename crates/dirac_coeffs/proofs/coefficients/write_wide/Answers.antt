use Rattle.std.proofs.lemmas.List.{length-replicate}
use Rattle.std.proofs.Common.{◌≡◌, ℕ, ℤ, ap, length, pos, replicate, subst, sym, ◌∙◌}
use Rattle.dirac_coeffs.specs.declared.numbers.Numbers.{Numbers}
use Rattle.dirac_coeffs.specs.Lent.{numbers_in}
use Rattle.dirac_coeffs.proofs.coefficients.write_wide.Goals as goal

pub copy_widened-requires : goal.copy_widened-requires
copy_widened-requires c = ap length c.requires ∙ length-replicate {A = ℤ} (length (numbers_in c.args.numbers)) (pos 0) ∙ ap (λ (n : Numbers). length (numbers_in n)) c.in-Narrow.is

pub copy_from_slice-requires : goal.copy_from_slice-requires
copy_from_slice-requires c = ap length c.requires ∙ length-replicate {A = ℤ} (length (numbers_in c.args.numbers)) (pos 0) ∙ ap (λ (n : Numbers). length (numbers_in n)) c.in-Wide.is

pub returns-in-Zeros : goal.returns-in-Zeros
returns-in-Zeros c = c.requires ∙ subst (λ (n : Numbers). replicate (length (numbers_in n)) (pos 0) ≡ numbers_in n) (sym c.in-Zeros.is) (ap (λ (k : ℕ). replicate k (pos 0)) (length-replicate {A = ℤ} c.in-Zeros._count (pos 0)))

pub returns-in-Narrow : goal.returns-in-Narrow
returns-in-Narrow c = c.copy_widened.ensures ∙ sym (ap numbers_in c.in-Narrow.is)

pub returns-in-Wide : goal.returns-in-Wide
returns-in-Wide c = c.copy_from_slice.ensures.after ∙ sym (ap numbers_in c.in-Wide.is)
