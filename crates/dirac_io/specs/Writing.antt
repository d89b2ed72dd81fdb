-- What a write to a sink takes.
use Rattle.std.specs.Prelude.{◌≡◌, ℕ, ◌≤◌, List, ◌++◌, length, take, ⊤, Option}
use Rattle.std.specs.Io.KnownBytes.{Appends}
use Rattle.dirac_io.specs.declared.sink.Took.{Took}
use Rattle.dirac_io.specs.declared.sink.Took.TheVariants.{Bytes, Failed, NoMemory}

-- a fact on the number of bytes, where bytes were taken
abbrev pub IfTaken : Took → (ℕ → Type 0) → Type 0
IfTaken (Bytes n) P = P n
IfTaken Failed P = ⊤
IfTaken NoMemory P = ⊤

-- the first n bytes of the piece were taken
pub record TakesFront (n : ℕ) (piece : List ℕ) (taken taken' : Option (List ℕ)) : Type 0 where
  pub some : 1 ≤ n
  pub room : n ≤ length piece
  pub grown : Appends taken taken' (take n piece)

-- what was taken grew by a front of this
abbrev pub AppendsFront : Option (List ℕ) → Option (List ℕ) → List ℕ → Type 0
AppendsFront taken taken' all = (front rest : List ℕ) × (all ≡ front ++ rest) × Appends taken taken' front
