-- The four kinds of lines that steps are run on: when a step can be run, and what it makes of them.
use Rattle.std.specs.Prelude.{◌≡◌, ℤ, ◌+◌, ◌-◌, ◌*◌, ◌%◌, ◌^◌, ◌≤◌, ◌==◌, List, length, max}
use Rattle.std.specs.Prelude.{if◌then◌else◌, unsigned_abs}
use Rattle.std.specs.List.{All}
use Rattle.dirac_common.specs.declared.limits.TheConstants.{LARGEST_TABLE_SIDE}
use Rattle.dirac_lift.specs.declared.columns.Columns.{Columns}
use Rattle.dirac_lift.specs.declared.halves.Halves.{Halves}
use Rattle.dirac_lift.specs.declared.lines.Line.{Line}
use Rattle.dirac_lift.specs.declared.rings.Rings.{Rings}
use Rattle.dirac_lift.specs.Halves.{HalfLifted, IsReadable}
use Rattle.dirac_lift.specs.Lifting.{Step, PlacesWithin, lift}
use Rattle.dirac_lift.specs.Places.{ColumnsBecome, ColumnsSmall}
use Rattle.dirac_lift.specs.Rings.{RowLifted}
use Rattle.dirac_lift.specs.Safety.{IsFit}

-- a line in place
pub record CanLiftLine (s : Step) (l : Line) : Type 0 where
  pub fit : IsFit s
  pub even : length l.values.now % 2 ≡ 0
  pub evens : PlacesWithin (2 ^ 112) 0 l.values.now
  pub odds : PlacesWithin (2 ^ 112) 1 l.values.now

pub record LineLifted (l : Line) (s : Step) (after : Line) : Type 0 where
  pub same : after.values.ghost_name ≡ l.values.ghost_name
  pub value : after.values.now ≡ lift s l.values.now

-- all columns of a plane
pub record CanLiftColumns (s : Step) (c : Columns) : Type 0 where
  pub fit : IsFit s
  pub len : length c.values.now ≡ c.width * c.height
  pub even : c.height % 2 ≡ 0
  pub small : ColumnsSmall c.width c.height c.values.now

pub record ColumnsLifted (c : Columns) (s : Step) (after : Columns) : Type 0 where
  pub same : after.values.ghost_name ≡ c.values.ghost_name
  pub width : after.width ≡ c.width
  pub height : after.height ≡ c.height
  pub value : ColumnsBecome (lift s) c.width c.height c.values.now after.values.now

-- the half that a step changes, and the one that it reads
abbrev pub half_changed : Step → Halves → List ℤ
half_changed s h = if s.parity == 0 then h.evens.now else h.odds.now

abbrev pub half_taken : Step → Halves → List ℤ
half_taken s h = if s.parity == 0 then h.odds.now else h.evens.now

-- lines whose even and odd places stand in lists of their own
pub record CanLiftHalves (s : Step) (h : Halves) : Type 0 where
  pub parity : s.parity ≤ 1
  pub shift : s.shift ≤ 12
  pub evens_len : length h.evens.now ≡ h.width * h.half
  pub odds_len : length h.odds.now ≡ h.width * h.half
  pub read : IsReadable s.taps (half_taken s h)
  pub changed : All (λ v. unsigned_abs v ≤ 2 ^ 21) (half_changed s h)

pub record HalvesLifted (h : Halves) (s : Step) (after : Halves) : Type 0 where
  pub same_evens : after.evens.ghost_name ≡ h.evens.ghost_name
  pub same_odds : after.odds.ghost_name ≡ h.odds.ghost_name
  pub width : after.width ≡ h.width
  pub half : after.half ≡ h.half
  pub changed : HalfLifted s h.width h.half (half_changed s h) (half_taken s h) (half_changed s after)
  pub kept : half_taken s after ≡ half_taken s h

-- the ring that a step changes, and the one that it reads
abbrev pub ring_changed : Step → Rings → List ℤ
ring_changed s r = if s.parity == 0 then r.evens.now else r.odds.now

abbrev pub ring_taken : Step → Rings → List ℤ
ring_taken s r = if s.parity == 0 then r.odds.now else r.evens.now

-- rows in rings, of which a step changes the one that has come to it in a turn
pub record CanLiftRings (s : Step) (r : Rings) : Type 0 where
  pub parity : s.parity ≤ 1
  pub shift : s.shift ≤ 12
  pub down : r.size.half ≤ LARGEST_TABLE_SIDE
  pub late : r.wait + r.lead + s.lead + length s.taps ≤ 2 ^ 20
  pub evens_len : length r.evens.now ≡ r.size.width * 16
  pub odds_len : length r.odds.now ≡ r.size.width * 16
  pub read : IsReadable s.taps (ring_taken s r)
  pub changed : All (λ v. unsigned_abs v ≤ 2 ^ 21) (ring_changed s r)

pub record RingsLifted (r : Rings) (s : Step) (after : Rings) : Type 0 where
  pub same_evens : after.evens.ghost_name ≡ r.evens.ghost_name
  pub same_odds : after.odds.ghost_name ≡ r.odds.ghost_name
  pub size : after.size ≡ r.size
  pub turn : after.turn ≡ r.turn
  pub wait : after.wait ≡ r.wait + max r.lead (length s.taps - 1 - s.lead)
  pub lead : after.lead ≡ s.lead
  pub changed : RowLifted s r.size.width r.size.half r.turn after.wait (ring_changed s r) (ring_taken s r)
      (ring_changed s after)
  pub kept : ring_taken s after ≡ ring_taken s r
