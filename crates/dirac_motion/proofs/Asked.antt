-- What accepted settings and pictures of theirs give to a search and to a decision.
use Rattle.std.proofs.Common.{◌≡◌, ℕ, ◌+◌, ◌-◌, ◌*◌, ◌<◌, ◌≤◌, Option, length, arith}
use Rattle.dirac_sequence_header.specs.Sizes.{picture_height}
use Rattle.std.specs.Option.{ForSome}
use Rattle.std.proofs.lemmas.List.FromFn.{length-map-range_with_len}
use Rattle.std.proofs.lemmas.Nat.{div_below}
use Rattle.dirac_types.specs.Settings.{IsAccepted}
use Rattle.dirac_types.specs.Sizes as settings_sizes
use Rattle.dirac_common.specs.declared.limits.TheConstants.{LARGEST_HEIGHT}
use Rattle.dirac_types.proofs.Accepted.{in_range}
use Rattle.dirac_types.proofs.Heights.{picture_rows}
use Rattle.dirac_common.specs.Table.{Table}
use Rattle.dirac_common.specs.declared.picture.Picture.{Picture}
use Rattle.dirac_types.specs.declared.settings.Settings.{Settings}
use Rattle.dirac_sequence_header.specs.Lawful.{IsSize}
use Rattle.dirac_sequence.specs.Written.{sequence_of}
use Rattle.dirac_header.specs.Prediction.{grid_of}
use Rattle.dirac_picture.specs.Grammar.{superblocks_over}
use Rattle.dirac_content.specs.Content.{IsPicture}
use Rattle.dirac_pyramid.specs.Pyramid.{pyramid_level, pyramid_of}
use Rattle.dirac_search.specs.Fields.{IsSearch, field}
use Rattle.dirac_search.specs.Given.{Searched}
use Rattle.dirac_search.proofs.Accepted.{search_accepted}
use Rattle.dirac_search.proofs.Bounds.{all_short, sub_bound, sub_former}
use Rattle.dirac_decide.specs.Deciding.{IsDeciding, IsSearched, IsView, View, deciding}
use Rattle.dirac_decide.proofs.Accepted.{across_within, bias_within, down_within, grid_within, precision_within}
use Rattle.dirac_motion.specs.Chosen.{searched_in, view_in}
use Rattle.dirac_motion.specs.Lent.{HasLuma}

pub size_accepted : (s : Settings) → IsAccepted s → IsSize (sequence_of s).width (picture_height (sequence_of s))
unfolding sequence_of
size_accepted s a =
    let range = in_range s a in
    let rows = picture_rows s a in
    let most : settings_sizes.picture_height s ≤ LARGEST_HEIGHT = omega (arith, rows.most, range.height.1) in
    (range.width.0, range.width.1, rows.some, most)

pub levels_accepted : (s : Settings) → IsAccepted s → s.pyramid ≤ 4
levels_accepted s a = (in_range s a).pyramid

pub pyramid_length : (t : Table) (levels : ℕ) → length (pyramid_of t levels) ≡ levels + 1
pyramid_length t levels = length-map-range_with_len (pyramid_level t) 0 (levels + 1)

-- at most 1,024 superblocks cover a picture
pub few_over : (size separation : ℕ) → size ≤ 4096 → 8 ≤ separation → superblocks_over size separation ≤ 1024
few_over size separation small wide =
    let below : superblocks_over size separation < 1024 = div_below (size + 4 * separation - 1) (4 * separation) 1024 (omega arith) (omega arith) in
    omega arith

-- the sizes of a picture in superblocks
pub record IsCovered (s : Settings) (p : Picture) : Type 0 where
  pub across : superblocks_over p.y.width (grid_of s.blocks).xbsep ≤ 1024
  pub down : superblocks_over p.y.height (grid_of s.blocks).ybsep ≤ 1024
  pub some_across : 1 ≤ p.y.width
  pub some_down : 1 ≤ p.y.height

pub covered : (s : Settings) (p : Picture) → IsAccepted s → IsPicture (sequence_of s) p → IsCovered s p
covered s p a is =
    let size = size_accepted s a in
    let grid = grid_within s.blocks in
    record {
      across = few_over p.y.width (grid_of s.blocks).xbsep (omega (arith, is.y.across, size.1)) grid.columns.0;
      down = few_over p.y.height (grid_of s.blocks).ybsep (omega (arith, is.y.down, size.3)) grid.rows.0;
      some_across = omega (arith, is.y.across, size.0);
      some_down = omega (arith, is.y.down, size.2);
    }

pub width_within : (s : Settings) (p : Picture) → IsAccepted s → IsPicture (sequence_of s) p → p.y.width ≤ 4096
width_within s p a is = omega (arith, is.y.across, (size_accepted s a).1)

pub height_within : (s : Settings) (p : Picture) → IsAccepted s → IsPicture (sequence_of s) p → p.y.height ≤ 4096
height_within s p a is = omega (arith, is.y.down, (size_accepted s a).3)

-- its luma can be upconverted
pub has_luma : (s : Settings) (p : Picture) → IsAccepted s → IsPicture (sequence_of s) p → HasLuma p
has_luma s p a is = record { across = width_within s p a is; down = height_within s p a is; samples = is.y.samples }

pub have_luma : (s : Settings) (o : Option Picture) → IsAccepted s → ForSome o (IsPicture (sequence_of s)) → ForSome o HasLuma
have_luma s o a are p e = has_luma s p a (are p e)

-- what is searched can be searched
pub is_search : (s : Settings) (p r : Picture) → IsAccepted s → IsPicture (sequence_of s) p → IsSearch (searched_in s p r) s
is_search s p r a is =
    let grid = grid_within s.blocks in
    let cover = covered s p a is in
    search_accepted (searched_in s p r) s a (pyramid_length p.y s.pyramid) (pyramid_length r.y s.pyramid) grid.columns.1 grid.rows.1 cover.across cover.down

-- a reference with the vectors that are found in it can be decided from
pub is_searched : (s : Settings) (p r : Picture) → IsAccepted s → IsPicture (sequence_of s) p → IsSearched s p (view_in s p r)
is_searched s p r a is =
    let g = searched_in s p r in
    let search = is_search s p r a is in
    let former = sub_former g s s.precision search search.precision in
    record {
      same_across = former.across;
      same_down = former.down;
      of_16_bits = all_short (field g s).vectors (sub_bound g s s.precision search.range search.pyramid search.precision);
    }

-- and its vectors cover the picture
pub is_view : (s : Settings) (p : Picture) (r : View) → IsCovered s p → IsSearched s p r
    → IsView (superblocks_over p.y.width (grid_of s.blocks).xbsep) (superblocks_over p.y.height (grid_of s.blocks).ybsep) r
is_view s p r cover found = record {
  same_across = found.same_across;
  same_down = found.same_down;
  of_16_bits = found.of_16_bits;
  size = record { most_across = omega (arith, found.same_across, cover.across); most_down = omega (arith, found.same_down, cover.down) };
}

pub is_deciding : (s : Settings) (p : Picture) (first : View) (second : Option View) → IsAccepted s → IsPicture (sequence_of s) p
    → IsSearched s p first → ForSome second (IsSearched s p) → IsDeciding (deciding s p first second)
is_deciding s p first second a is found also =
    let grid = grid_within s.blocks in
    let cover = covered s p a is in
    record {
      y = is.y.samples;
      u = is.u.samples;
      v = is.v.samples;
      columns = (omega (arith, grid.columns.0), grid.columns.1);
      rows = (omega (arith, grid.rows.0), grid.rows.1);
      across_ratio = across_within (sequence_of s).chroma;
      down_ratio = down_within (sequence_of s).chroma;
      precision = precision_within s a;
      bias = bias_within s a;
      first = is_view s p first cover found;
      second = λ r e. is_view s p r cover (also r e);
    }

-- the number of workers may be any other in its range
pub by_other_workers : (g : Searched) (s : Settings) (w : ℕ) → IsSearch g s → (1 ≤ w) × (w ≤ 64) → IsSearch g (record s { workers = w })
by_other_workers g s w h of = record {
  range = h.range;
  pyramid = h.pyramid;
  precision = h.precision;
  bias = h.bias;
  workers = of;
  source = h.source;
  reference = h.reference;
  x_separation = h.x_separation;
  y_separation = h.y_separation;
  across = h.across;
  down = h.down;
}
