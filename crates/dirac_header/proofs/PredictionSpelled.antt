-- The bits of prediction parameters spell them.
use Rattle.std.proofs.Common.{◌≡◌, ℕ, zero, suc, ◌+◌, ◌≤◌, ◌==◌, Bool, false, List, [], ◌∷◌, ◌++◌, length, refl, sym, arith, append_assoc, append-nil}
use Rattle.dirac_common.specs.declared.faults.Cause.TheVariants.{Precision}
use Rattle.dirac_common.specs.declared.formats.BlockGrid.{BlockGrid}
use Rattle.dirac_common.specs.declared.formats.Chroma.{Chroma}
use Rattle.dirac_common.specs.Numbers.{uint}
use Rattle.dirac_bits.specs.Spelling.{Spells}
use Rattle.dirac_bits.specs.Syntax.{Syntax, done, ◌>>=◌, between}
use Rattle.dirac_bits.specs.Writing.{gap}
use Rattle.dirac_parameters.specs.declared.prediction.Prediction.{Prediction}
use Rattle.dirac_header.specs.declared.prediction.Weights.{Weights}
use Rattle.dirac_header.specs.Codes.{references_of}
use Rattle.dirac_header.specs.Prediction.{grid_of, block_grid, vector_precision, modes, weights, prediction_with, prediction}
use Rattle.dirac_header.specs.Written.{default_weights, prediction_of, prediction_bits, PredictionBehind}
use Rattle.dirac_bits.proofs.Fields.{spells_then, spells_last, field_spelled, between_is, gap_length}

grid_spelled : (chroma : Chroma) (index k : ℕ) → 2 ≤ index → index ≤ 4 → Spells (block_grid chroma) (grid_of index) k (uint index)
unfolding block_grid
grid_spelled chroma zero k low high = absurd (omega arith)
grid_spelled chroma (suc zero) k low high = absurd (omega arith)
grid_spelled chroma (suc (suc zero)) k low high = (2, [], omega arith, sym (append-nil (uint 2)), (refl, refl))
grid_spelled chroma (suc (suc (suc zero))) k low high = (3, [], omega arith, sym (append-nil (uint 3)), (refl, refl))
grid_spelled chroma (suc (suc (suc (suc zero)))) k low high = (4, [], omega arith, sym (append-nil (uint 4)), (refl, refl))
grid_spelled chroma (suc (suc (suc (suc (suc index))))) k low high = absurd (omega arith)

precision_spelled : (precision k : ℕ) → precision ≤ 3 → Spells vector_precision precision k (uint precision)
unfolding vector_precision
precision_spelled precision k small = field_spelled Precision (between 0 3) precision k (omega arith) (between_is 0 3 precision (omega arith) small)

modes_spelled : (k : ℕ) → Spells modes tt k (false ∷ uint 0)
unfolding modes
modes_spelled k = (false, uint 0, refl, (0, [], omega arith, sym (append-nil (uint 0)), (refl, refl)))

weights_spelled : (two : Bool) (k : ℕ) → Spells (weights two) default_weights k (false ∷ [])
unfolding weights
weights_spelled two k = (false, [], refl, (refl, refl))

parameters_spelled : (before : List Bool) (code : ℕ) (chroma : Chroma) (blocks precision : ℕ) → 2 ≤ blocks → blocks ≤ 4 → precision ≤ 3
    → Spells (prediction code chroma) (prediction_of blocks precision) (length before) (prediction_bits before blocks precision)
unfolding prediction
parameters_spelled before code chroma blocks precision low high small =
    let p = prediction_of blocks precision in
    let g = grid_of blocks in
    let two = references_of code == 2 in
    let no_modes : List Bool = false ∷ uint 0 in
    let no_weights : List Bool = false ∷ [] in
    let make : BlockGrid → ℕ → Weights → Syntax Prediction = λ grid n w. done (prediction_with grid n w) in
    let third : BlockGrid → ℕ → Unit {0} → Syntax Prediction = λ grid n none. weights two >>= make grid n in
    let second : BlockGrid → ℕ → Syntax Prediction = λ grid n. modes >>= third grid n in
    let first : BlockGrid → Syntax Prediction = λ grid. vector_precision >>= second grid in
    let k = length before + length (gap before) in
    let k1 = k + length (uint blocks) in
    let k2 = k1 + length (uint precision) in
    let k3 = k2 + length no_modes in
    let last : Spells (third g precision tt) p k3 no_weights =
    spells_last (weights two) (make g precision) default_weights p k3 no_weights (weights_spelled two k3) (refl, refl) in
    let three : Spells (second g precision) p k2 (no_modes ++ no_weights) = spells_then modes (third g precision) tt p k2 no_modes no_weights (modes_spelled k2) last in
    let four : Spells (first g) p k1 (uint precision ++ (no_modes ++ no_weights)) =
    spells_then vector_precision (second g) precision p k1 (uint precision) (no_modes ++ no_weights) (precision_spelled precision k1 small) three in
    let all = spells_then (block_grid chroma) first g p k (uint blocks) (uint precision ++ (no_modes ++ no_weights)) (grid_spelled chroma blocks k low high) four in
    let rest = uint blocks ++ (uint precision ++ (no_modes ++ no_weights)) in
    let parts : prediction_bits before blocks precision ≡ gap before ++ rest = simp append_assoc in
    (gap before, rest, gap_length before, parts, all)

-- the bits behind others, spelled
pub prediction_spelled : (before after : List Bool) (blocks precision : ℕ) → 2 ≤ blocks → blocks ≤ 4 → precision ≤ 3 → after ≡ before ++ prediction_bits before blocks precision
    → PredictionBehind blocks precision before after
prediction_spelled before after blocks precision low high small e code chroma =
    record { bits = prediction_bits before blocks precision; is = e; spells = parameters_spelled before code chroma blocks precision low high small }
