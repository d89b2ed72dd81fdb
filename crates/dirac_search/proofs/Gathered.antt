-- Rows of superblocks put together.
use Rattle.std.proofs.Common.{◌≡◌, ℕ, zero, suc, ◌+◌, ◌*◌, ◌≤◌, Vec, Global, List, [], ◌∷◌, ◌++◌, length, take, get_or, Option, refl, ap, ap₂, sym, ◌∙◌, arith, append_assoc, length-append}
use Rattle.std.specs.List.{flat_map}
use Rattle.std.proofs.Math.Seq.{take-suc}
use Rattle.std.proofs.lemmas.Grind.{flat_map-append}
use Rattle.std.proofs.lemmas.List.{append-nil, take_all}
use Rattle.std.proofs.lemmas.List.FromFn.{length-map-range_with_len}
use Rattle.dirac_common.specs.declared.formats.Vector.{Vector}
use Rattle.dirac_types.specs.declared.settings.Settings.{Settings}
use Rattle.dirac_search.specs.declared.stage.Stage.{Stage}
use Rattle.dirac_search.specs.ByRows.{listed_by_rows, row_values}
use Rattle.dirac_search.specs.Candidates.{Vectors}
use Rattle.dirac_rows.specs.Answers.{AnswerRows}
use Rattle.dirac_search.specs.Fields.{best_of, stage_field, best_superblock_row}
use Rattle.dirac_search.specs.Given.{Searched}
use Rattle.dirac_search.proofs.Lists.{rows_next}

-- rows in two parts
rows_split : {A : Type 0} (w n m : ℕ) (f : ℕ → ℕ → A) → listed_by_rows w (n + m) f ≡ listed_by_rows w n f ++ listed_by_rows w m (λ i j. f i (n + j))
unfolding listed_by_rows
rows_split w n zero f = ap (λ k. listed_by_rows w k f) (let e : n + 0 ≡ n = omega arith in e) ∙ sym (append-nil (listed_by_rows w n f))
rows_split w n (suc m) f =
    let next : n + suc m ≡ (n + m) + 1 = omega arith in
    let back : m + 1 ≡ suc m = omega arith in
    ap (λ k. listed_by_rows w k f) next ∙ rows_next w (n + m) f ∙ ap (λ xs. xs ++ row_values w f (n + m)) (rows_split w n m f)
    ∙ append_assoc (listed_by_rows w n f) (listed_by_rows w m (λ i j. f i (n + j))) (row_values w f (n + m))
    ∙ ap (λ xs. listed_by_rows w n f ++ xs) (sym (rows_next w m (λ i j. f i (n + j))) ∙ ap (λ k. listed_by_rows w k (λ i j. f i (n + j))) back)

pub length_rows : {A : Type 0} (w h : ℕ) (f : ℕ → ℕ → A) → length (listed_by_rows w h f) ≡ w * h
unfolding listed_by_rows
length_rows w zero f = omega arith
length_rows w (suc h) f =
    let next : suc h ≡ h + 1 = omega arith in
    ap (λ k. length (listed_by_rows w k f)) next ∙ ap length (rows_next w h f) ∙ length-append (listed_by_rows w h f) (row_values w f h)
    ∙ omega (arith, length_rows w h f, length-map-range_with_len (λ x. f x h) 0 w)

-- the items of a list of vectors
abbrev pub items_of : Vec Vector Global → List Vector
items_of v = v.items

joined_to : (w n k : ℕ) (f : ℕ → ℕ → Vector) (xs : List (Vec Vector Global)) (d : Vec Vector Global) → AnswerRows (λ r v. v.items ≡ listed_by_rows w 4 (λ i j. f i (4 * r + j))) n xs → k ≤ n
    → flat_map items_of (take k xs) ≡ listed_by_rows w (4 * k) f
unfolding listed_by_rows
joined_to w n zero f xs d answers l = refl
joined_to w n (suc k) f xs d answers l =
    let next : 4 * suc k ≡ 4 * k + 4 = omega arith in
    ap (flat_map items_of) (take-suc xs k d (omega (arith, answers.0))) ∙ flat_map-append items_of (take k xs) (get_or xs k d ∷ [])
    ∙ ap₂ (λ (a b : List Vector). a ++ b) (joined_to w n k f xs d answers (omega arith)) (append-nil (items_of (get_or xs k d)) ∙ answers.1 k d (omega arith))
    ∙ sym (rows_split w (4 * k) 4 f) ∙ ap (λ m. listed_by_rows w m f) (sym next)

-- the rows of superblocks, one after another, are the rows of blocks
pub rows_joined : (w n : ℕ) (f : ℕ → ℕ → Vector) (xs : List (Vec Vector Global)) → AnswerRows (λ r v. v.items ≡ listed_by_rows w 4 (λ i j. f i (4 * r + j))) n xs
    → flat_map items_of xs ≡ listed_by_rows w (4 * n) f
unfolding listed_by_rows
rows_joined w zero f [] answers = refl
rows_joined w (suc n) f [] answers = absurd (omega (arith, answers.0))
rows_joined w n f (x ∷ xs) answers = ap (flat_map items_of) (sym (take_all n (x ∷ xs) (omega (arith, answers.0)))) ∙ joined_to w n n f (x ∷ xs) x answers (omega arith)

-- the field of a stage, from its rows of superblocks
pub stage_is : (g : Searched) (s : Settings) (st : Stage) (before : Option Vectors) (rows : List (Vec Vector Global)) (vectors : List Vector)
    → AnswerRows (λ r v. v.items ≡ best_superblock_row g s st before r) g.down rows → vectors ≡ flat_map items_of rows
    → (vectors ≡ (stage_field g s st before).vectors) × (length vectors ≡ 4 * g.across * (4 * g.down))
unfolding stage_field
stage_is g s st before rows vectors answers e =
    let all = e ∙ rows_joined (4 * g.across) g.down (best_of g s st before) rows answers in
    (all, ap length all ∙ length_rows (4 * g.across) (4 * g.down) (best_of g s st before))

pub field_is : (g : Searched) (s : Settings) (st : Stage) (before : Option Vectors) (rows : List (Vec Vector Global)) (vectors : List Vector) (f : Vectors)
    → AnswerRows (λ r v. v.items ≡ best_superblock_row g s st before r) g.down rows → vectors ≡ flat_map items_of rows
    → f ≡ record { across = g.across; down = g.down; vectors = vectors } → f ≡ stage_field g s st before
unfolding stage_field
field_is g s st before rows vectors f answers e ef =
    ef ∙ ap (λ (vs : List Vector). record { across = g.across; down = g.down; vectors = vs }) (stage_is g s st before rows vectors answers e).0
