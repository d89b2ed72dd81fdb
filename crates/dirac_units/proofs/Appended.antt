-- What was written in two pieces, one behind the other.
use Rattle.std.proofs.Common.{◌∙◌, ℕ, List, ◌++◌, Option, sym, ap, append_assoc}
use Rattle.std.specs.Io.KnownBytes.{Appends}
use Rattle.std.proofs.KnownBytes.{Appends-trans}
use Rattle.dirac_io.specs.Writing.{AppendsFront}

pub front_then : (taken taken' : Option (List ℕ)) (first second : List ℕ) → AppendsFront taken taken' first → AppendsFront taken taken' (first ++ second)
front_then taken taken' first second front =
    (front.0, front.1 ++ second, ap (λ bs. bs ++ second) front.2 ∙ append_assoc front.0 front.1 second, front.3)

pub behind_front : (taken taken' taken'' : Option (List ℕ)) (first second : List ℕ) → Appends taken taken' first → AppendsFront taken' taken'' second → AppendsFront taken taken'' (first ++ second)
behind_front taken taken' taken'' first second so front = (
  first ++ front.0,
  front.1,
  ap (λ bs. first ++ bs) front.2 ∙ sym (append_assoc first front.0 front.1),
  Appends-trans taken taken' taken'' first front.0 so front.3,
)
