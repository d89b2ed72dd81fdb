-- What is told of an answer.
use Rattle.std.specs.Prelude.{◌⊎◌, ℕ, List, [], ◌∷◌, ◌++◌, codes, Option}
use Rattle.std.specs.Io.KnownBytes.{Appends, Keeps}
use Rattle.dirac_io.specs.Faults.{Rose, held_count}
use Rattle.dirac_io.specs.Writing.{AppendsFront}

-- a text and a newline; nothing, where there is no text
abbrev pub line_of : List ℕ → List ℕ
line_of [] = []
line_of (b ∷ text) = b ∷ (text ++ codes "\n")

-- the bytes that a writer holds, where it tells them, and how often its calls failed
pub record Texts : Type 0 where
  pub bytes : Option (List ℕ)
  pub faults : ℕ

-- a line was written whole; or nothing of it, where memory for it was wanting; or a front of it, where a write failed
abbrev pub Tells : List ℕ → Texts → Texts → Type 0
Tells line old new =
    Appends old.bytes new.bytes line
    ⊎ (Keeps old.bytes new.bytes
    ⊎ (Rose (held_count old.faults) (held_count new.faults) × AppendsFront old.bytes new.bytes line))
