use Rattle.std.proofs.Common.{◌≡◌, ◌+◌, ◌<◌, ℕ, pos, slice_index_or}
use Rattle.dirac_quant.specs.Quantiser.{restored}
use Rattle.dirac_bands.specs.Geometry.{edge_of}
use Rattle.dirac_coeffs.specs.Indices.{index_at}
use Rattle.dirac_synthesis.specs.Codeblocks.{codeblock_of}
use Rattle.dirac_synthesis.proofs.codeblocks.restore_row.Given as goal

abbrev pub invariant-loop-cx : goal.invariant-loop-cx
invariant-loop-cx l =
    (x : ℕ) → x < edge_of l.width l.across l.cx → slice_index_or l.line x (pos 0)
    ≡ restored (slice_index_or l.coded x (pos 0)) (index_at l.indices (l.first + codeblock_of l.width l.across x)) l.kind
