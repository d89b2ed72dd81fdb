-- The pictures that wait, as they leave.
use Rattle.std.proofs.Common.{◌≡◌, ◌∙◌, ◌+◌, suc, List, [], ◌∷◌, ◌++◌, length, sym, ap, arith}
use Rattle.dirac_common.specs.declared.picture.Picture.{Picture}
use Rattle.dirac_refs.specs.declared.waiting.Waiting.{Waiting}
use Rattle.dirac_refs.specs.Delivery.{flushed, flushed_by, least, others}

-- a due picture leaves, and then the others do
pub flushed_one : (ws ws' : List Waiting) (p : Picture) → p ∷ [] ≡ least ws → ws' ≡ others ws → length ws' + 1 ≡ length ws → flushed ws ≡ p ∷ flushed ws'
flushed_one ws ws' p gone rest long =
    let step : length ws ≡ suc (length ws') = omega arith in
    ap (λ n. flushed_by n ws) step
    ∙ ap (λ front. front ++ flushed_by (length ws') (others ws)) (sym gone)
    ∙ ap (λ t. p ∷ flushed_by (length ws') t) (sym rest)
