-- Reading the counts of codeblocks, level by level.
use Rattle.std.proofs.Common.{◌≡◌, ℕ, zero, suc, ◌-◌, ◌<◌, List, [], ◌∷◌, ◌++◌, length, refl, ◌∙◌, arith, Ok, Err}
use Rattle.dirac_common.specs.declared.faults.Refusal.{Refusal}
use Rattle.dirac_bits.specs.Cursor.{Cursor}
use Rattle.dirac_bits.specs.Syntax.{read}
use Rattle.dirac_bits.specs.Then.{read_then}
use Rattle.dirac_header.specs.Transform.{level_counts, counts_behind}

-- one more level
pub one_level : (width height depth : ℕ) (before : List (ℕ × ℕ)) (more : ℕ) (c d : Cursor) (counts : ℕ × ℕ) → 0 < more
    → read (level_counts width height depth (length before)) c ≡ Ok (counts, d)
    → read (counts_behind width height depth before more) c ≡ read (counts_behind width height depth (before ++ counts ∷ []) (more - 1)) d
unfolding counts_behind
one_level width height depth before zero c d counts some is = absurd (omega arith)
one_level width height depth before (suc more) c d counts some is =
    let same : suc more - 1 ≡ more = omega arith in
    read_then (level_counts width height depth (length before)) (λ pair. counts_behind width height depth (before ++ pair ∷ []) more) c ∙ rw (is, same) refl

-- a level that is refused
pub level_refused : (width height depth : ℕ) (before : List (ℕ × ℕ)) (more : ℕ) (c : Cursor) (refusal : Refusal) → 0 < more
    → read (level_counts width height depth (length before)) c ≡ Err refusal
    → read (counts_behind width height depth before more) c ≡ Err refusal
unfolding counts_behind
level_refused width height depth before zero c refusal some is = absurd (omega arith)
level_refused width height depth before (suc more) c refusal some is =
    read_then (level_counts width height depth (length before)) (λ pair. counts_behind width height depth (before ++ pair ∷ []) more) c ∙ rw is refl

-- no more levels
pub all_levels : (width height depth : ℕ) (before : List (ℕ × ℕ)) (c : Cursor) → read (counts_behind width height depth before 0) c ≡ Ok (before, c)
unfolding counts_behind
all_levels width height depth before c = refl
