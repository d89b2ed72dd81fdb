-- What a read of a source gives.
use Rattle.std.specs.Prelude.{◌≡◌, ℕ, ◌+◌, ◌≤◌, List, length, take, ⊤, Option}
use Rattle.std.specs.Io.KnownBytes.{Consumes, Keeps, IsAtEnd}
use Rattle.dirac_io.specs.declared.source.Got.{Got}
use Rattle.dirac_io.specs.declared.source.Got.TheVariants.{Bytes, End, Failed}

-- a fact on the number of bytes, where bytes were given
abbrev pub IfBytes : Got → (ℕ → Type 0) → Type 0
IfBytes (Bytes n) P = P n
IfBytes End P = ⊤
IfBytes Failed P = ⊤

-- the next n bytes held stand at the front of the buffer, and what is left fell by at least n
pub record GivesFront (n : ℕ) (buf : List ℕ) (held held' : Option (List ℕ)) (left left' : ℕ) : Type 0 where
  pub some : 1 ≤ n
  pub room : n ≤ length buf
  pub given : Consumes held held' (take n buf)
  pub lower : left' + n ≤ left

-- no byte is held, and nothing changed
pub record MeetsEnd (held held' : Option (List ℕ)) (faults faults' left left' : ℕ) : Type 0 where
  pub at_end : IsAtEnd held'
  pub kept : Keeps held held'
  pub same_faults : faults' ≡ faults
  pub same_left : left' ≡ left
