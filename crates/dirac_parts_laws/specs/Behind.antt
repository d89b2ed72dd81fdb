-- Sources behind whole groups are coded as they are alone, but for their numbers.
use Rattle.std.specs.Prelude.{◌≡◌, ℕ, ◌+◌, ◌*◌, ◌<◌, ◌^◌, List, ◌++◌, length, map, drop}
use Rattle.std.specs.Int.{to_be_bytes, w32}
use Rattle.dirac_common.specs.declared.picture.Picture.{Picture}
use Rattle.dirac_types.specs.declared.settings.Settings.{Settings}
use Rattle.dirac_plan.specs.Planning.{group_pictures}
use Rattle.dirac_encode_laws.specs.Coding.{Made, coding}
use Rattle.dirac_encode_laws.specs.Laws.{AreNumbered, AreSources}
use Rattle.dirac_parts_laws.specs.Payloads.{coded_behind}

-- a picture whose number is moved on by so much
abbrev pub picture_behind : ℕ → Picture → Picture
picture_behind by p = record { number = p.number + by; y = p.y; u = p.u; v = p.v }

-- what a source became, with all its numbers moved on: in its payload that of the picture alone is another one
abbrev pub made_behind : ℕ → Made → Made
made_behind by m = record {
  coded = coded_behind by m.coded;
  payload = to_be_bytes w32 (m.coded.header.number + by) ++ drop 4 m.payload;
  shown = picture_behind by m.shown;
}

-- m whole groups of sources, and others behind them, which alone are numbered from 0 on; with alike 1 those behind also
-- retire pictures
abbrev pub SourcesBehindAreCodedAlike : Type 0
SourcesBehindAreCodedAlike =
    (t : Settings) (m : ℕ) (before after : List Picture) → t.alike ≡ 0 → length before ≡ m * group_pictures t
    → length before + length after < 2 ^ 31 → AreSources t after → AreNumbered 0 after
    → coding t (before ++ map (picture_behind (length before)) after)
    ≡ coding t before ++ map (made_behind (length before)) (coding t after)
