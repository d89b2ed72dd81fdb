-- What is known of a source that is read ahead, by what is known of the one that reads it ahead.
use Rattle.std.proofs.Common.{◌≡◌, ◌∙◌, ℕ, List, [], ◌∷◌, ◌++◌, Option, None, Some, refl, sym, ap, append_assoc}
use Rattle.std.specs.Prelude.{IfSome}
use Rattle.std.specs.Io.KnownBytes.{IsAtEnd, prepend_known}
use Rattle.dirac_content.specs.Leaving.{IsFrontOfRead}
use Rattle.dirac_decode.specs.declared.answers.Decoded.{Decoded}
use Rattle.dirac_decode.specs.declared.answers.Decoded.TheVariants as decoded
use Rattle.dirac_decode.specs.Decoded.{IfDone, IsFrontOfMore}

none_behind : (front behind : List ℕ) → front ++ behind ≡ [] → behind ≡ []
none_behind [] behind is = is
none_behind (x ∷ front) behind is = absurd cc

-- where all is given, all was read
at_end : (ahead : List ℕ) (held : Option (List ℕ)) → IsAtEnd (prepend_known ahead held) → IsAtEnd held
at_end ahead None end = tt
at_end ahead (Some bytes) end = none_behind ahead bytes end

pub done_at_end : (answer : Decoded) (ahead : List ℕ) (held : Option (List ℕ)) → IfDone answer (IsAtEnd (prepend_known ahead held)) → IfDone answer (IsAtEnd held)
done_at_end (decoded.Done tally) ahead held end = at_end ahead held end
done_at_end (decoded.Fault fault tally) ahead held end = tt
done_at_end decoded.ReadFault ahead held end = tt
done_at_end decoded.WriteFault ahead held end = tt
done_at_end decoded.NoMemory ahead held end = tt

-- the bytes that were read ahead are some of those left
front_in : (bytes ahead : List ℕ) (held taken taken' : Option (List ℕ)) → IsFrontOfMore bytes (prepend_known ahead held) taken taken' → IsFrontOfRead bytes held taken taken'
front_in bytes ahead None taken taken' m = let no : None ≡ Some m.rest = m.holds in absurd cc
front_in bytes ahead (Some behind) taken taken' m =
    let left : m.rest ≡ ahead ++ behind = let is : Some (ahead ++ behind) ≡ Some m.rest = m.holds in cc in
    let front = m.shows ahead behind left in
    record {
      read = m.read ++ ahead;
      rest = behind;
      parts = m.parts ∙ ap (λ (l : List ℕ). m.read ++ l) left ∙ sym (append_assoc m.read ahead behind);
      holds = refl;
      shows = front.0;
      shown = front.1;
      delivered = front.2;
    }

pub front_of_read : (known : Option (List ℕ)) (ahead : List ℕ) (held taken taken' : Option (List ℕ)) → IfSome known (λ bytes. IsFrontOfMore bytes (prepend_known ahead held) taken taken') → IfSome known (λ bytes. IsFrontOfRead bytes held taken taken')
front_of_read None ahead held taken taken' m = tt
front_of_read (Some bytes) ahead held taken taken' m = front_in bytes ahead held taken taken' m
