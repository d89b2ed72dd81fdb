-- What is delivered beside a stream is what the stream shows.
use Rattle.std.specs.Prelude.{◌≡◌, ℕ, List, Option, None}
use Rattle.std.specs.Io.KnownBytes.{Appends}
use Rattle.dirac_content.specs.Raw.{raws}
use Rattle.dirac_content.specs.Shown.{IsShown, Outcome}
use Rattle.dirac_encode_laws.specs.Encoding.{Encoding}

-- the stream of an encoding has no fault, and the side got just the raw pictures that it shows
abbrev pub SideGetsShown : Encoding → Option (List ℕ) → Option (List ℕ) → Type 0
SideGetsShown e side side' =
    (o : Outcome) × IsShown e.stream o × (o.end ≡ None) × Appends side side' (raws o.shown)

-- the stream of an encoding has no fault, and what is delivered beside it is just what it shows
abbrev pub DeliversShown : Encoding → Type 0
DeliversShown e = (o : Outcome) × IsShown e.stream o × (o.end ≡ None) × (e.shown ≡ o.shown)
