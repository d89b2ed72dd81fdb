-- What was written of bytes, and what is still to be written.
use Rattle.std.proofs.Common.{◌≡◌, ◌∙◌, ℕ, List, [], ◌++◌, Option, refl, sym, ap, subst, append_assoc, append-nil}
use Rattle.std.specs.Io.KnownBytes.{Appends}
use Rattle.std.proofs.KnownBytes.{Appends-nil, Appends-trans}
use Rattle.dirac_io.specs.Writing.{AppendsFront}

-- a front of these bytes was written, and this rest is left
pub record IsWritten (all rest : List ℕ) (taken taken' : Option (List ℕ)) : Type 0 where
  pub front : List ℕ
  pub split : all ≡ front ++ rest
  pub grown : Appends taken taken' front

pub none_written : (all : List ℕ) (taken : Option (List ℕ)) → IsWritten all all taken taken
none_written all taken = record { front = []; split = refl; grown = Appends-nil taken }

-- a piece more
pub piece_written : (all piece rest : List ℕ) (taken taken' taken'' : Option (List ℕ)) → IsWritten all (piece ++ rest) taken taken' → Appends taken' taken'' piece → IsWritten all rest taken taken''
piece_written all piece rest taken taken' taken'' so more = record {
  front = so.front ++ piece;
  split = so.split ∙ sym (append_assoc so.front piece rest);
  grown = Appends-trans taken taken' taken'' so.front piece so.grown more;
}

-- another name of what is left
pub left_as : (all rest rest' : List ℕ) (taken taken' : Option (List ℕ)) → IsWritten all rest taken taken' → rest ≡ rest' → IsWritten all rest' taken taken'
left_as all rest rest' taken taken' so same = subst (λ (r : List ℕ). IsWritten all r taken taken') same so

-- a front of a piece more, and all
pub part_written : (all piece rest : List ℕ) (taken taken' taken'' : Option (List ℕ)) → IsWritten all (piece ++ rest) taken taken' → AppendsFront taken' taken'' piece → AppendsFront taken taken'' all
part_written all piece rest taken taken' taken'' so part = (
  so.front ++ part.0,
  part.1 ++ rest,
  so.split ∙ ap (λ bs. so.front ++ (bs ++ rest)) part.2 ∙ ap (λ bs. so.front ++ bs) (append_assoc part.0 part.1 rest)
      ∙ sym (append_assoc so.front part.0 (part.1 ++ rest)),
  Appends-trans taken taken' taken'' so.front part.0 so.grown part.3,
)

pub all_written : (all piece : List ℕ) (taken taken' taken'' : Option (List ℕ)) → IsWritten all piece taken taken' → Appends taken' taken'' piece → Appends taken taken'' all
all_written all piece taken taken' taken'' so more =
    subst (λ (bs : List ℕ). Appends taken taken'' bs) (sym so.split) (Appends-trans taken taken' taken'' so.front piece so.grown more)

pub last_part_written : (all piece : List ℕ) (taken taken' taken'' : Option (List ℕ)) → IsWritten all piece taken taken' → AppendsFront taken' taken'' piece → AppendsFront taken taken'' all
last_part_written all piece taken taken' taken'' so part = (
  so.front ++ part.0,
  part.1,
  so.split ∙ ap (λ bs. so.front ++ bs) part.2 ∙ sym (append_assoc so.front part.0 part.1),
  Appends-trans taken taken' taken'' so.front part.0 so.grown part.3,
)

pub nothing_left : (all : List ℕ) (taken taken' : Option (List ℕ)) → IsWritten all [] taken taken' → Appends taken taken' all
nothing_left all taken taken' so = subst (λ (bs : List ℕ). Appends taken taken' bs) (sym (so.split ∙ append-nil so.front)) so.grown
