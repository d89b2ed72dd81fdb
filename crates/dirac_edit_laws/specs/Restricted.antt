-- The reference list of a part of a sequence: the list of the whole, restricted to the part.
use Rattle.std.specs.Prelude.{◌≡◌, ℕ, List, ◌++◌, None, Some}
use Rattle.dirac_common.specs.declared.picture.Picture.{Picture}
use Rattle.dirac_refs.specs.References.{Commit, listed, refs_of}

-- the whole list has pictures from before the part, and behind them just those of the part; no number of these is among
-- the former
pub record IsRestricted (whole part : List Picture) : Type 0 where
  pub outside : List Picture
  pub split : whole ≡ outside ++ part
  pub apart : (number : ℕ) (p : Picture) → listed part number ≡ Some p → listed outside number ≡ None

-- whatever was coded before a part, the list of the part alone is the list of the whole, restricted
abbrev pub PartsKeepTheirLists : Type 0
PartsKeepTheirLists = (before part : List Commit) → IsRestricted (refs_of (before ++ part)) (refs_of part)
