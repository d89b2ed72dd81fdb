-- The splits that a block carries are read.
use Rattle.std.proofs.Common.{◌≡◌, ℕ, zero, suc, ◌+◌, ◌-◌, ◌*◌, ◌%◌, ◌^◌, ◌<◌, ◌≤◌, inl, inr, [], ◌∷◌, length, length-set, get_or, Option, Some, Result, Ok, refl, sym, ap, ◌∙◌, arith, subst}
use Rattle.std.proofs.lemmas.Bool.{cases_eq}
use Rattle.std.proofs.lemmas.List.{get_or-set_same, get_or-set_other}
use Rattle.std.proofs.lemmas.Nat.{mul-add-lt, same_from_place}
use Rattle.dirac_common.specs.declared.faults.Cause.{Cause}
use Rattle.dirac_arith.specs.Coded.{read_coded, repeated}
use Rattle.dirac_arith.specs.Deciding.{begin, after_all}
use Rattle.dirac_arith.specs.Reading.{Reading, DecisionsAreRead}
use Rattle.dirac_arith.specs.Spelling.{spelling}
use Rattle.dirac_arith.proofs.Carrieds.{IsLed}
use Rattle.dirac_arith.proofs.Led.{led_begin, led_more, reads_parted, carried_reads, number_led}
use Rattle.dirac_vectors.specs.Predictions.{split_of}
use Rattle.dirac_blocks.specs.Decisions.{Numbers, AreSplitNumbers, predicted_split, split_row, split_rows}
use Rattle.dirac_blocks.specs.Grammar.{TableStep, with_split, split_step, splits_step}
use Rattle.dirac_blocks.specs.Laws.{CarriedSplitsAreRead}
use Rattle.dirac_blocks.specs.Reached.{SameBlocks}
use Rattle.dirac_block_table.specs.Tables.{BlockTable, IsBlockTable, split_at}
use Rattle.dirac_blocks.proofs.Filled.{same_places, same_table}
use Rattle.dirac_blocks.proofs.Going.{Same, Goes, nothing_goes, beside_goes, below_goes, kept, grown, none_left, none_above}
use Rattle.dirac_blocks.proofs.Shapes.{repeated_sizes}
use Rattle.dirac_blocks.proofs.Nearby.{predicted_same}

-- the same splits left of column `right` and above row `bottom`
abbrev pub SameSplits : BlockTable → BlockTable → ℕ → ℕ → Type 0
SameSplits t u right bottom = Same split_at t u right bottom

-- a table on its way to a finished one: it lacks splits alone
pub record SplitsToward (m u : BlockTable) : Type 0 where
  pub rest : SameBlocks u m
  pub len : length m.splits ≡ u.down * u.across

-- a step leads toward the finished table, and fills a rectangle
abbrev pub SplitsGo : BlockTable → TableStep → BlockTable → Reading → Reading → ℕ → ℕ → ℕ → ℕ → Type 0
SplitsGo u step m r s left right top bottom = Goes (λ t. SplitsToward t u) split_at u.across u step m r s left right top bottom

-- predictions read splits that are the same
pub split_near : (t u : BlockTable) (sx sy : ℕ) → SameSplits t u sx (sy + 1) → SameSplits t u (sx + 1) sy → predicted_split t sx sy ≡ predicted_split u sx sy
split_near t u sx sy before over =
    let some : ℕ → Option ℕ = λ n. Some n in
    predicted_same split_of (λ x y. Some (split_at t x y)) (λ x y. Some (split_at u x y)) sx sy
    (λ p. ap some (before.each (sx - 1) sy (omega arith) (omega arith)))
    (λ p. ap some (over.each sx (sy - 1) (omega arith) (omega arith)))
    (λ p q. ap some (before.each (sx - 1) (sy - 1) (omega arith) (omega arith)))

-- the split that is written, and all others
pub split_here : (m : BlockTable) (sx sy v : ℕ) → sx < m.across → sy * m.across + sx < length m.splits → split_at (with_split m sx sy v) sx sy ≡ v
split_here m sx sy v inside fits = get_or-set_same m.splits (sy * m.across + sx) v 0 fits

pub split_there : (m : BlockTable) (sx sy v x y : ℕ) → sx < m.across → x < m.across → (x ≡ sx → y ≡ sy → ⊥) → split_at (with_split m sx sy v) x y ≡ split_at m x y
split_there m sx sy v x y inside p not =
    get_or-set_other m.splits (sy * m.across + sx) (y * m.across + x) v 0
    (λ e. let same : (y ≡ sy) × (x ≡ sx) = same_from_place y x sy sx m.across p inside e in not same.1 same.0)

split_goes : (u m : BlockTable) (sx sy n : ℕ) (r s : Reading) → SplitsToward m u → sx < u.across → sy < u.down
    → (n + predicted_split u sx sy) % 3 ≡ split_at u sx sy → n < 2 ^ 39 - 1
    → SameSplits m u sx (sy + 1) → SameSplits m u (sx + 1) sy → IsLed r → DecisionsAreRead r (spelling (22 ∷ 23 ∷ []) 24 n) s
    → SplitsGo u (split_step sy sx) m r s sx (sx + 1) sy (sy + 1)
unfolding split_step
split_goes u m sx sy n r s toward hx hy sum fits before over led reads =
    let v = split_at u sx sy in
    let across = toward.rest.across in
    let found = number_led r s (22 ∷ 23 ∷ []) 24 n led fits reads in
    let told : (n + predicted_split m sx sy) % 3 ≡ v = ap (λ (p : ℕ). (n + p) % 3) (split_near m u sx sy before over) ∙ sum in
    let place : sy * u.across + sx < u.down * u.across = let h = mul-add-lt sy u.across sx u.down hy hx in omega arith in
    let same : sy * m.across + sx ≡ sy * u.across + sx = ap (λ (w : ℕ). sy * w + sx) across in
    let here : split_at (with_split m sx sy v) sx sy ≡ v = split_here m sx sy v (omega arith) (omega (arith, toward.len)) in
    let len : length (with_split m sx sy v).splits ≡ u.down * u.across = length-set m.splits (sy * m.across + sx) v ∙ toward.len in
    record {
      table = with_split m sx sy v;
      is = rw found (ap (λ (w : ℕ). let x : Result (BlockTable × Reading) Cause = Ok (with_split m sx sy w, s) in x) told);
      toward = record { rest = record { across = toward.rest.across; down = toward.rest.down; refs = toward.rest.refs; blocks = toward.rest.blocks }; len = len };
      inside = λ x y a c d e.
          let ex : x ≡ sx = omega arith in
          let ey : y ≡ sy = omega arith in
          rw (ex, ey) here;
      keeps = λ x y p agree.
          elim (cases_eq x sx) [
            | inl e ↦ elim (cases_eq y sy) [
              | inl f ↦ rw (e, f) here
              | inr g ↦ split_there m sx sy v x y (omega arith) (omega arith) (λ a b. g b) ∙ agree
            ]
            | inr g ↦ split_there m sx sy v x y (omega arith) (omega arith) (λ a b. g a) ∙ agree
          ];
    }

-- what holds of all numbers of a table
pub record AreNumbers (u : BlockTable) (numbers : Numbers) : Type 0 where
  pub are : AreSplitNumbers u numbers
  pub small : (sx sy : ℕ) → sx < u.across → sy < u.down → numbers sy sx < 2 ^ 39 - 1

-- n superblocks of a row
pub splits_go : (u m : BlockTable) (numbers : Numbers) (sy n : ℕ) (r s : Reading) → SplitsToward m u → AreNumbers u numbers → n ≤ u.across → sy < u.down
    → SameSplits m u u.across sy → IsLed r → DecisionsAreRead r (split_row numbers sy n) s
    → SplitsGo u (λ x. repeated (split_step sy) n x) m r s 0 n sy (sy + 1)
unfolding split_row repeated
splits_go u m numbers sy zero r s toward all few hy over led reads =
    nothing_goes refl toward reads (λ x y a b c d. omega arith)
splits_go u m numbers sy (suc n) r s toward all few hy over led reads =
    let parted = reads_parted r s (split_row numbers sy n) (spelling (22 ∷ 23 ∷ []) 24 (numbers sy n)) led reads in
    let g = splits_go u m numbers sy n r parted.mid toward all (omega arith) hy over led parted.first in
    let near_left = grown (sy + 1) (omega arith) (omega arith) (omega arith) (omega arith) g (none_left (sy + 1)) over in
    let near_over = kept (n + 1) sy (omega arith) (omega arith) (omega arith) g over in
    let led' = led_more r parted.mid (split_row numbers sy n) led parted.first in
    let h = split_goes u g.table n sy (numbers sy n) parted.mid s g.toward (omega arith) hy (all.are n sy (omega arith) hy) (all.small n sy (omega arith) hy) near_left near_over led' parted.then in
    beside_goes (suc n) (omega arith) (omega arith) g h

-- n rows of superblocks
pub split_rows_go : (u m : BlockTable) (numbers : Numbers) (n : ℕ) (r s : Reading) → SplitsToward m u → AreNumbers u numbers → n ≤ u.down
    → IsLed r → DecisionsAreRead r (split_rows u.across numbers n) s
    → SplitsGo u (λ x. repeated (λ sy. repeated (split_step sy) u.across) n x) m r s 0 u.across 0 n
unfolding split_rows repeated
split_rows_go u m numbers zero r s toward all few led reads =
    nothing_goes refl toward reads (λ x y a b c d. omega arith)
split_rows_go u m numbers (suc n) r s toward all few led reads =
    let parted = reads_parted r s (split_rows u.across numbers n) (split_row numbers n u.across) led reads in
    let g = split_rows_go u m numbers n r parted.mid toward all (omega arith) led parted.first in
    let near_over = grown n (omega arith) (omega arith) (omega arith) (omega arith) g (none_left n) (none_above u.across) in
    let led' = led_more r parted.mid (split_rows u.across numbers n) led parted.first in
    let h = splits_go u g.table numbers n u.across parted.mid s g.toward all (omega arith) (omega arith) near_over led' parted.then in
    below_goes (suc n) (omega arith) (omega arith) g h

-- tables that differ in splits, whose splits are the same, are one
one_split_table : (t u : BlockTable) → IsBlockTable u → SplitsToward t u → ((x y : ℕ) → x < u.across → y < u.down → split_at t x y ≡ split_at u x y) → t ≡ u
one_split_table t u inv s all =
    same_table t u s.rest.across s.rest.down s.rest.refs
    (same_places 0 t.splits u.splits u.across u.down s.len inv.splits_len (λ x y p q. ap (λ (n : ℕ). get_or t.splits (y * n + x) 0) (sym s.rest.across) ∙ all x y p q))
    s.rest.blocks

pub carried_splits_are_read : CarriedSplitsAreRead
carried_splits_are_read former t block inv h =
    let rest = h.rest in
    let back : SameBlocks t former = record { across = sym rest.across; down = sym rest.down; refs = sym rest.refs; blocks = sym rest.blocks } in
    let toward : SplitsToward former t = record {
      rest = back;
      len = inv.splits_len ∙ ap (λ (n : ℕ). n * former.across) (sym rest.down) ∙ ap (λ (n : ℕ). t.down * n) (sym rest.across);
    } in
    let s = after_all (begin block) (split_rows t.across h.numbers t.down) in
    let g = split_rows_go t former h.numbers t.down (begin block) s toward (record { are = h.are; small = h.small }) (omega arith) (led_begin block)
    (carried_reads block (split_rows t.across h.numbers t.down) h.carried) in
    let one : g.table ≡ t = one_split_table g.table t h.lawful g.toward (λ x y p q. g.inside x y (omega arith) p (omega arith) q) in
    let at_across : read_coded (repeated (λ sy. repeated (split_step sy) former.across) former.down former) (begin block) ≡ Ok (g.table, s) =
    repeated_sizes split_step former (begin block) rest.across rest.down g.is in
    (s, subst (λ (x : BlockTable). read_coded (splits_step former) (begin block) ≡ Ok (x, s)) one at_across)
