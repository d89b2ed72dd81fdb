use Rattle.std.proofs.lemmas.List.Elements.{All-replicate}
use Rattle.std.proofs.lemmas.List.{length-replicate}
use Rattle.std.proofs.Common.{ℤ, pos, ◌*◌, ◌≤◌, unsigned_abs, arith, refl}
use Rattle.dirac_coeffs.proofs.coefficients.Coefficients.zeros.Goals as goal

pub invariant_of-result : goal.invariant_of-result
invariant_of-result c =
    let n = c.args.width * c.args.height in
    record {
      across = c.requires.across;
      down = c.requires.down;
      whole = length-replicate {A = ℤ} n (pos 0);
      most = record { bound = All-replicate (λ v. unsigned_abs v ≤ 0) n (pos 0) (omega arith); least = λ m all. omega arith };
      form = refl;
    }
