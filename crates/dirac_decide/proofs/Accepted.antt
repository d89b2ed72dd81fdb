-- What accepted settings give.
use Rattle.std.proofs.Common.{◌≡◌, ℕ, ◌+◌, ◌-◌, ◌*◌, ◌≤◌, ◌==◌, arith, inl, inr, sym, ◌∙◌}
use Rattle.dirac_types.specs.declared.settings.Settings.{Settings}
use Rattle.dirac_types.specs.Settings.{IsAccepted}
use Rattle.dirac_types.proofs.Accepted.{in_range}
use Rattle.dirac_common.specs.declared.picture.Picture.{Picture}
use Rattle.dirac_common.specs.declared.formats.BlockGrid.{BlockGrid}
use Rattle.dirac_common.specs.declared.formats.Chroma.{Chroma}
use Rattle.dirac_common.specs.declared.formats.Chroma.TheVariants.{C444, C422, C420}
use Rattle.std.proofs.lemmas.Bool.{cases_Bool}
use Rattle.std.proofs.lemmas.Nat.{le-div}
use Rattle.dirac_common.specs.Ratios.{ratio_across, ratio_down}
use Rattle.dirac_parameters.specs.Grids.{grid_of}
use Rattle.dirac_picture.specs.Grammar.{superblocks_over}
use Rattle.dirac_decide.specs.Deciding.{IsFieldSize, IsSearched, IsView, View}

pub blocks_within : (s : Settings) → IsAccepted s → (2 ≤ s.blocks) × (s.blocks ≤ 4)
blocks_within s a = (in_range s a).blocks

pub precision_within : (s : Settings) → IsAccepted s → s.precision ≤ 3
precision_within s a = (in_range s a).precision

pub workers_within : (s : Settings) → IsAccepted s → (1 ≤ s.workers) × (s.workers ≤ 64)
workers_within s a = (in_range s a).workers

pub bias_within : (s : Settings) → IsAccepted s → s.bias ≤ 255
bias_within s a = (in_range s a).bias

-- the grids of the block indices
pub record IsGrid (g : BlockGrid) : Type 0 where
  pub columns : (8 ≤ g.xbsep) × (g.xbsep ≤ 16)
  pub rows : (8 ≤ g.ybsep) × (g.ybsep ≤ 16)

pub grid_within : (index : ℕ) → IsGrid (grid_of index)
grid_within index = elim (cases_Bool (index == 2)) [
  | inl two ↦ rw two (record { columns = (omega arith, omega arith); rows = (omega arith, omega arith) })
  | inr other ↦ rw other (elim (cases_Bool (index == 3)) [
    | inl three ↦ rw three (record { columns = (omega arith, omega arith); rows = (omega arith, omega arith) })
    | inr four ↦ rw four (record { columns = (omega arith, omega arith); rows = (omega arith, omega arith) })
  ])
]

-- the ratios of the chroma formats
pub across_within : (c : Chroma) → (1 ≤ ratio_across c) × (ratio_across c ≤ 2)
across_within C444 = (omega arith, omega arith)
across_within C422 = (omega arith, omega arith)
across_within C420 = (omega arith, omega arith)

pub down_within : (c : Chroma) → (1 ≤ ratio_down c) × (ratio_down c ≤ 2)
down_within C444 = (omega arith, omega arith)
down_within C422 = (omega arith, omega arith)
down_within C420 = (omega arith, omega arith)

pub ratio_as : (n m : ℕ) → n ≡ m → (1 ≤ m) × (m ≤ 2) → (1 ≤ n) × (n ≤ 2)
ratio_as n m e within = (omega (arith, within.0), omega (arith, within.1))

-- a superblock at least covers what isn't empty
pub some_over : (size separation : ℕ) → 1 ≤ size → 1 ≤ separation → 1 ≤ superblocks_over size separation
some_over size separation some wide = le-div 1 (size + 4 * separation - 1) (4 * separation) (omega arith) (omega arith)

-- a reference whose vectors cover the source
pub view_found : (s : Settings) (p : Picture) (r : View) (across down : ℕ) → IsSearched s p r → IsFieldSize r.field
    → across ≡ superblocks_over p.y.width (grid_of s.blocks).xbsep → down ≡ superblocks_over p.y.height (grid_of s.blocks).ybsep → IsView across down r
view_found s p r across down found table e f = record {
  same_across = found.same_across ∙ sym e;
  same_down = found.same_down ∙ sym f;
  of_16_bits = found.of_16_bits;
  size = table;
}
