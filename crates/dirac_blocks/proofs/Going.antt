-- Steps that lead a table toward a finished one place by place: places are superblocks with their splits, or blocks.
use Rattle.std.proofs.Common.{◌≡◌, ℕ, ◌<◌, ◌≤◌, inl, inr, [], Result, Ok, sym, ap, ◌∙◌, arith}
use Rattle.std.proofs.lemmas.Bool.{cases_lt}
use Rattle.dirac_common.specs.declared.faults.Cause.{Cause}
use Rattle.dirac_arith.specs.Coded.{read_coded, and_then}
use Rattle.dirac_arith.specs.Reading.{Reading, DecisionsAreRead}
use Rattle.dirac_arith.proofs.CodedValues.{then_is_read}
use Rattle.dirac_blocks.specs.Grammar.{TableStep}
use Rattle.dirac_block_table.specs.Tables.{BlockTable}

-- the same at all places left of column `right` and above row `bottom`
pub record Same {A : Type 0} (at : BlockTable → ℕ → ℕ → A) (t u : BlockTable) (right bottom : ℕ) : Type 0 where
  pub each : (x y : ℕ) → x < right → y < bottom → at t x y ≡ at u x y

-- a step leads toward the finished table, and fills a rectangle
pub record Goes {A : Type 0} (Toward : BlockTable → Type 0) (at : BlockTable → ℕ → ℕ → A) (width : ℕ) (u : BlockTable) (step : TableStep) (m : BlockTable) (r s : Reading) (left right top bottom : ℕ) : Type 0 where
  pub table : BlockTable
  pub is : read_coded (step m) r ≡ Ok (table, s)
  pub toward : Toward table
  pub inside : (x y : ℕ) → left ≤ x → x < right → top ≤ y → y < bottom → at table x y ≡ at u x y
  pub keeps : (x y : ℕ) → x < width → at m x y ≡ at u x y → at table x y ≡ at u x y

-- no step
pub nothing_goes : {A : Type 0} {Toward : BlockTable → Type 0} {at : BlockTable → ℕ → ℕ → A} {width : ℕ} {u : BlockTable} {step : TableStep} {m : BlockTable} {r s : Reading} {left right top bottom : ℕ}
    → read_coded (step m) r ≡ Ok (m, r) → Toward m → DecisionsAreRead r [] s → ((x y : ℕ) → left ≤ x → x < right → top ≤ y → y < bottom → ⊥)
    → Goes Toward at width u step m r s left right top bottom
nothing_goes {m = m} is toward reads none =
    record {
      table = m;
      is = is ∙ ap (λ (q : Reading). let x : Result (BlockTable × Reading) Cause = Ok (m, q) in x) (sym reads.moved);
      toward = toward;
      inside = λ x y a b c d. absurd (none x y a b c d);
      keeps = λ x y p agree. agree;
    }

-- two steps, whose rectangles lie beside one another
pub beside_goes : {A : Type 0} {Toward : BlockTable → Type 0} {at : BlockTable → ℕ → ℕ → A} {width : ℕ} {u : BlockTable} {first next : TableStep} {m : BlockTable} {r q s : Reading} {left middle end top bottom : ℕ} (right : ℕ)
    → middle ≤ width → end ≡ right → (g : Goes Toward at width u first m r q left middle top bottom) → Goes Toward at width u next g.table q s middle end top bottom
    → Goes Toward at width u (λ t. and_then (first t) next) m r s left right top bottom
beside_goes {first = first} {next = next} {m = m} {r = r} {middle = middle} right fits is g h =
    record {
      table = h.table;
      is = then_is_read (first m) next r ∙ rw g.is h.is;
      toward = h.toward;
      inside = λ x y a b c d.
          elim (cases_lt x middle) [
            | inl l ↦ h.keeps x y (omega arith) (g.inside x y a l c d)
            | inr l ↦ h.inside x y l (omega arith) c d
          ];
      keeps = λ x y p agree. h.keeps x y p (g.keeps x y p agree);
    }

-- and below one another
pub below_goes : {A : Type 0} {Toward : BlockTable → Type 0} {at : BlockTable → ℕ → ℕ → A} {width : ℕ} {u : BlockTable} {first next : TableStep} {m : BlockTable} {r q s : Reading} {left right top middle end : ℕ} (bottom : ℕ)
    → right ≤ width → end ≡ bottom → (g : Goes Toward at width u first m r q left right top middle) → Goes Toward at width u next g.table q s left right middle end
    → Goes Toward at width u (λ t. and_then (first t) next) m r s left right top bottom
below_goes {first = first} {next = next} {m = m} {r = r} {middle = middle} bottom fits is g h =
    record {
      table = h.table;
      is = then_is_read (first m) next r ∙ rw g.is h.is;
      toward = h.toward;
      inside = λ x y a b c d.
          elim (cases_lt y middle) [
            | inl l ↦ h.keeps x y (omega arith) (g.inside x y a b c l)
            | inr l ↦ h.inside x y a b l (omega arith)
          ];
      keeps = λ x y p agree. h.keeps x y p (g.keeps x y p agree);
    }

-- what was the same stays so
pub kept : {A : Type 0} {Toward : BlockTable → Type 0} {at : BlockTable → ℕ → ℕ → A} {width : ℕ} {u : BlockTable} {step : TableStep} {m : BlockTable} {r s : Reading} {left right top bottom across : ℕ} (wide high : ℕ) {down : ℕ}
    → wide ≤ across → wide ≤ width → high ≤ down → (g : Goes Toward at width u step m r s left right top bottom) → Same at m u across down → Same at g.table u wide high
kept wide high a b c g same = record { each = λ x y p q. g.keeps x y (omega arith) (same.each x y (omega arith) (omega arith)) }

-- all is the same left of a rectangle's end and above it, where it was so left of the rectangle and above it
pub grown : {A : Type 0} {Toward : BlockTable → Type 0} {at : BlockTable → ℕ → ℕ → A} {width : ℕ} {u : BlockTable} {step : TableStep} {m : BlockTable} {r s : Reading} {left right top bottom down across : ℕ} (high : ℕ)
    → high ≤ bottom → high ≤ down → right ≤ across → right ≤ width → (g : Goes Toward at width u step m r s left right top bottom) → Same at m u left down → Same at m u across top → Same at g.table u right high
grown {left = left} {top = top} high a b c d g before over =
    record {
      each = λ x y p q.
          elim (cases_lt x left) [
            | inl l ↦ g.keeps x y (omega arith) (before.each x y l (omega arith))
            | inr l ↦ elim (cases_lt y top) [
              | inl o ↦ g.keeps x y (omega arith) (over.each x y (omega arith) o)
              | inr o ↦ g.inside x y l p o (omega arith)
            ]
          ];
    }

-- no place is left of the first column, or above the first row
pub none_left : {A : Type 0} {at : BlockTable → ℕ → ℕ → A} {t u : BlockTable} (bottom : ℕ) → Same at t u 0 bottom
none_left bottom = record { each = λ x y p q. absurd (omega arith) }

pub none_above : {A : Type 0} {at : BlockTable → ℕ → ℕ → A} {t u : BlockTable} (right : ℕ) → Same at t u right 0
none_above right = record { each = λ x y p q. absurd (omega arith) }
