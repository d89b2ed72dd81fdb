-- Splits that are read are carried.
use Rattle.std.proofs.Common.{◌≡◌, ℕ, zero, suc, ◌+◌, ◌-◌, ◌%◌, ◌^◌, ◌<◌, ◌≤◌, ◌⊎◌, inl, inr, List, [], ◌∷◌, ◌++◌, Result, Ok, refl, sym, ap, ap₂, ◌∙◌, arith, subst}
use Rattle.std.specs.Prelude.{if◌then◌else◌, ◌==◌}
use Rattle.std.proofs.lemmas.Bool.{cases_eq, eq-eqb, ne_eqb}
use Rattle.dirac_common.specs.declared.faults.Cause.{Cause}
use Rattle.dirac_arith.specs.Coded.{read_coded, repeated}
use Rattle.dirac_arith.specs.Deciding.{begin, number_read}
use Rattle.dirac_arith.specs.Interval.{Decision}
use Rattle.dirac_arith.specs.Reading.{Reading, DecisionsAreRead}
use Rattle.dirac_arith.specs.Spelling.{spelling}
use Rattle.dirac_arith.proofs.Carrieds.{IsLed}
use Rattle.dirac_arith.proofs.CodedValues.{then_is_read}
use Rattle.dirac_arith.proofs.Led.{led_begin, led_more, reads_nothing, reads_carried, number_leads}
use Rattle.dirac_arith.proofs.Spellings.{reads_more}
use Rattle.dirac_blocks.specs.Decisions.{Numbers, predicted_split, split_row, split_rows}
use Rattle.dirac_blocks.specs.Grammar.{TableStep, with_split, split_step}
use Rattle.dirac_blocks.specs.Laws.{ReadSplitsAreCarried}
use Rattle.dirac_blocks.specs.Reached.{AllGrey, SameBlocks}
use Rattle.dirac_block_table.specs.Tables.{BlockTable, IsBlockTable, split_at}
use Rattle.dirac_blocks.proofs.Backwards.{passed, moved_to}
use Rattle.dirac_block_table.proofs.Fills.{split_lawful}
use Rattle.dirac_block_table.proofs.Putting.{split_inside}
use Rattle.dirac_blocks.proofs.Shapes.{blocks_join, blocks_refl}
use Rattle.dirac_blocks.proofs.SplitForwards.{SameSplits, split_near, split_here, split_there}

-- lists of numbers that are the same
pub split_row_same : (f g : Numbers) (y z n : ℕ) → ((k : ℕ) → k < n → f y k ≡ g z k) → split_row f y n ≡ split_row g z n
unfolding split_row
split_row_same f g y z zero same = refl
split_row_same f g y z (suc n) same =
    ap₂ (λ (a b : List Decision). a ++ b) (split_row_same f g y z n (λ k l. same k (omega arith))) (ap (λ (v : ℕ). spelling (22 ∷ 23 ∷ []) 24 v) (same n (omega arith)))

pub split_rows_same : (across : ℕ) (f g : Numbers) (n : ℕ) → ((y x : ℕ) → y < n → x < across → f y x ≡ g y x) → split_rows across f n ≡ split_rows across g n
unfolding split_rows
split_rows_same across f g zero same = refl
split_rows_same across f g (suc n) same =
    ap₂ (λ (a b : List Decision). a ++ b) (split_rows_same across f g n (λ y x p q. same y x (omega arith) q)) (split_row_same f g n n across (λ k l. same n k (omega arith) l))

-- a choice with one more value
abbrev pub with_value : {A : Type 0} → (ℕ → A) → ℕ → A → ℕ → A
with_value f n v k = if k == n then v else f k

pub value_there : {A : Type 0} (f : ℕ → A) (n : ℕ) (v : A) (k : ℕ) → k < n → with_value f n v k ≡ f k
value_there f n v k l = rw (ne_eqb k n (λ e. omega arith)) refl

pub value_here : {A : Type 0} (f : ℕ → A) (n : ℕ) (v : A) (k : ℕ) → k ≡ n → with_value f n v k ≡ v
value_here f n v k e = rw (eq-eqb k n e) refl

-- what holds of the values of a choice holds of it with one more
value_holds : {A : Type 0} (P : ℕ → A → Type 0) (f : ℕ → A) (n : ℕ) (v : A) (k : ℕ) → k ≤ n → P n v → (k < n → P k (f k)) → P k (with_value f n v k)
value_holds P f n v k few here there =
    elim (cases_eq k n) [
      | inl is ↦ subst (P k) (sym (value_here f n v k is)) (subst (λ j. P j v) (sym is) here)
      | inr not ↦ subst (P k) (sym (value_there f n v k (omega arith))) (there (omega arith))
    ]

-- places of a row that aren't among its first n, and all other rows
abbrev pub IsBeside : ℕ → ℕ → ℕ → ℕ → Type 0
IsBeside sy n x y = (n ≤ x) ⊎ ((y < sy) ⊎ (sy < y))

at_most_2 : (k : ℕ) → k % 3 ≤ 2
at_most_2 k = omega arith

-- the first n splits of row sy were read
pub record RowCame (m : BlockTable) (r : Reading) (t : BlockTable) (s : Reading) (sy n : ℕ) : Type 0 where
  pub lawful : IsBlockTable t
  pub rest : SameBlocks m t
  pub outside : (x y : ℕ) → x < m.across → IsBeside sy n x y → split_at t x y ≡ split_at m x y
  pub led : IsLed s
  pub numbers : ℕ → ℕ
  pub small : (k : ℕ) → k < n → numbers k < 2 ^ 39 - 1
  pub are : (u : BlockTable) → SameSplits t u n (sy + 1) → (k : ℕ) → k < n → (numbers k + predicted_split u k sy) % 3 ≡ split_at u k sy
  pub reads : DecisionsAreRead r (split_row (λ y. numbers) sy n) s

pub row_came : (m t : BlockTable) (sy n : ℕ) (r s : Reading) → IsBlockTable m → AllGrey m.blocks → n ≤ m.across → sy < m.down → IsLed r
    → read_coded (repeated (split_step sy) n m) r ≡ Ok (t, s) → RowCame m r t s sy n
unfolding split_row repeated split_step
row_came m t sy zero r s inv grey few hy led e =
    let here : RowCame m r m r sy 0 = record {
      lawful = inv;
      rest = blocks_refl m;
      outside = λ x y p o. refl;
      led = led;
      numbers = λ k. 0;
      small = λ k l. absurd (omega arith);
      are = λ u w k l. absurd (omega arith);
      reads = reads_nothing r;
    } in
    moved_to (λ (x : BlockTable) (y : Reading). RowCame m r x y sy 0) e here
row_came m t sy (suc n) r s inv grey few hy led e =
    let q = passed (read_coded (repeated (split_step sy) n m) r) (λ x. read_coded (split_step sy n x.0) x.1) (t, s) (sym (then_is_read (repeated (split_step sy) n m) (split_step sy n) r) ∙ e) in
    let mid = q.value.0 in
    let g = row_came m mid sy n r q.value.1 inv grey (omega arith) hy led q.first in
    let across = g.rest.across in
    let down = g.rest.down in
    let grey' : AllGrey mid.blocks = subst AllGrey (sym g.rest.blocks) grey in
    let last = passed (number_read (22 ∷ 23 ∷ []) 24 q.value.1)
    (λ number. let x : Result (BlockTable × Reading) Cause = Ok (with_split mid n sy ((number.0 + predicted_split mid n sy) % 3), number.1) in x) (t, s) q.next in
    let number = last.value.0 in
    let v = (number + predicted_split mid n sy) % 3 in
    let new = with_split mid n sy v in
    let leads = number_leads q.value.1 last.value.1 (22 ∷ 23 ∷ []) 24 number g.led last.first in
    let numbers = with_value g.numbers n number in
    let row = split_row (λ y. numbers) sy n in
    let same_row : split_row (λ y. g.numbers) sy n ≡ row = split_row_same (λ y. g.numbers) (λ y. numbers) sy sy n (λ k l. sym (value_there g.numbers n number k l)) in
    let same_last : spelling (22 ∷ 23 ∷ []) 24 number ≡ spelling (22 ∷ 23 ∷ []) 24 (numbers n) = ap (λ (w : ℕ). spelling (22 ∷ 23 ∷ []) 24 w) (sym (value_here g.numbers n number n refl)) in
    let beside : (x y : ℕ) → x < m.across → ((x ≡ n → y ≡ sy → ⊥)) → split_at new x y ≡ split_at mid x y = λ x y p o. split_there mid n sy v x y (omega arith) (omega arith) o in
    let here : RowCame m r new last.value.1 sy (suc n) = record {
      lawful = split_lawful mid n sy v g.lawful grey' (at_most_2 (number + predicted_split mid n sy));
      rest = blocks_join m mid new g.rest (record { across = refl; down = refl; refs = refl; blocks = refl });
      outside = λ x y p o. beside x y p (never sy n x y o) ∙ g.outside x y p (wider sy n x y o);
      led = led_more q.value.1 last.value.1 (spelling (22 ∷ 23 ∷ []) 24 number) g.led leads.1;
      numbers = numbers;
      small = λ k l. value_holds (λ j w. w < 2 ^ 39 - 1) g.numbers n number k (omega arith) leads.0 (λ p. g.small k p);
      are = λ u w k l.
          let before : SameSplits mid u n (sy + 1) = record { each = λ x y a b. sym (beside x y (omega arith) (λ c d. omega arith)) ∙ w.each x y (omega arith) b } in
          let over : SameSplits mid u (n + 1) sy = record { each = λ x y a b. sym (beside x y (omega arith) (λ c d. omega arith)) ∙ w.each x y (omega arith) (omega arith) } in
          value_holds (λ j v. (v + predicted_split u j sy) % 3 ≡ split_at u j sy) g.numbers n number k (omega arith)
          (ap (λ (b : ℕ). (number + b) % 3) (sym (split_near mid u n sy before over)) ∙ sym (split_here mid n sy v (omega arith) (split_inside mid n sy g.lawful (omega arith) (omega arith))) ∙ w.each n sy (omega arith) (omega arith)) (λ p. g.are u before k p);
      reads = subst (λ (ds : List Decision). DecisionsAreRead r ds last.value.1)
          (ap₂ (λ (a b : List Decision). a ++ b) same_row same_last)
          (reads_more r q.value.1 last.value.1 (split_row (λ y. g.numbers) sy n) (spelling (22 ∷ 23 ∷ []) 24 number) g.reads leads.1);
    } in
    moved_to (λ (x : BlockTable) (y : Reading). RowCame m r x y sy (suc n)) last.next here
  where
    never : (sy n x y : ℕ) → IsBeside sy (suc n) x y → x ≡ n → y ≡ sy → ⊥
    never sy n x y (inl l) a b = omega arith
    never sy n x y (inr (inl l)) a b = omega arith
    never sy n x y (inr (inr l)) a b = omega arith

    wider : (sy n x y : ℕ) → IsBeside sy (suc n) x y → IsBeside sy n x y
    wider sy n x y (inl l) = inl (omega arith)
    wider sy n x y (inr l) = inr l

-- the first n rows were read
pub record RowsCame (m : BlockTable) (r : Reading) (t : BlockTable) (s : Reading) (n : ℕ) : Type 0 where
  pub lawful : IsBlockTable t
  pub rest : SameBlocks m t
  pub led : IsLed s
  pub numbers : Numbers
  pub small : (x y : ℕ) → x < m.across → y < n → numbers y x < 2 ^ 39 - 1
  pub are : (u : BlockTable) → SameSplits t u m.across n → (x y : ℕ) → x < m.across → y < n → (numbers y x + predicted_split u x y) % 3 ≡ split_at u x y
  pub reads : DecisionsAreRead r (split_rows m.across numbers n) s

pub rows_came : (m t : BlockTable) (n : ℕ) (r s : Reading) → IsBlockTable m → AllGrey m.blocks → n ≤ m.down → IsLed r
    → read_coded (repeated (λ sy. repeated (split_step sy) m.across) n m) r ≡ Ok (t, s) → RowsCame m r t s n
unfolding split_rows repeated
rows_came m t zero r s inv grey few led e =
    let here : RowsCame m r m r 0 = record {
      lawful = inv;
      rest = blocks_refl m;
      led = led;
      numbers = λ y x. 0;
      small = λ x y p l. absurd (omega arith);
      are = λ u w x y p l. absurd (omega arith);
      reads = reads_nothing r;
    } in
    moved_to (λ (x : BlockTable) (y : Reading). RowsCame m r x y 0) e here
rows_came m t (suc n) r s inv grey few led e =
    let step : ℕ → TableStep = λ sy. repeated (split_step sy) m.across in
    let q = passed (read_coded (repeated step n m) r) (λ x. read_coded (step n x.0) x.1) (t, s) (sym (then_is_read (repeated step n m) (step n) r) ∙ e) in
    let mid = q.value.0 in
    let g = rows_came m mid n r q.value.1 inv grey (omega arith) led q.first in
    let grey' : AllGrey mid.blocks = subst AllGrey (sym g.rest.blocks) grey in
    let wide = g.rest.across in
    let high = g.rest.down in
    let h = row_came mid t n m.across q.value.1 s g.lawful grey' (omega arith) (omega arith) g.led q.next in
    let numbers = with_value g.numbers n h.numbers in
    let same_rows : split_rows m.across g.numbers n ≡ split_rows m.across numbers n =
    split_rows_same m.across g.numbers numbers n (λ y x p l. ap (λ (f : ℕ → ℕ). f x) (sym (value_there g.numbers n h.numbers y p))) in
    let same_last : split_row (λ y. h.numbers) n m.across ≡ split_row numbers n m.across =
    split_row_same (λ y. h.numbers) numbers n n m.across (λ k l. ap (λ (f : ℕ → ℕ). f k) (sym (value_here g.numbers n h.numbers n refl))) in
    record {
      lawful = h.lawful;
      rest = blocks_join m mid t g.rest h.rest;
      led = h.led;
      numbers = numbers;
      small = λ x y p l. value_holds (λ j f. f x < 2 ^ 39 - 1) g.numbers n h.numbers y (omega arith) (h.small x p) (λ q. g.small x y p q);
      are = λ u w x y p l.
          value_holds (λ j f. (f x + predicted_split u x j) % 3 ≡ split_at u x j) g.numbers n h.numbers y (omega arith)
          (h.are u (record { each = λ a b c d. w.each a b c (omega arith) }) x p)
          (λ q. g.are u (record { each = λ a b c d. sym (h.outside a b (omega arith) (inr (inl d))) ∙ w.each a b c (omega arith) }) x y p q);
      reads = subst (λ (ds : List Decision). DecisionsAreRead r ds s) (ap₂ (λ (a b : List Decision). a ++ b) same_rows same_last)
          (reads_more r q.value.1 s (split_rows m.across g.numbers n) (split_row (λ y. h.numbers) n m.across) g.reads h.reads);
    }

pub read_splits_are_carried : ReadSplitsAreCarried
read_splits_are_carried former t block inv grey h =
    let g = rows_came former t former.down (begin block) h.0 inv grey (omega arith) (led_begin block) h.1 in
    let across = g.rest.across in
    let down = g.rest.down in
    let lists : split_rows former.across g.numbers former.down ≡ split_rows t.across g.numbers t.down =
    ap (λ (w : ℕ). split_rows w g.numbers former.down) (sym across) ∙ ap (λ (n : ℕ). split_rows t.across g.numbers n) (sym down) in
    record {
      lawful = g.lawful;
      rest = g.rest;
      numbers = g.numbers;
      are = λ sx sy p q. g.are t (record { each = λ a b c d. refl }) sx sy (omega arith) (omega arith);
      small = λ sx sy p q. g.small sx sy (omega arith) (omega arith);
      carried = reads_carried block (split_rows t.across g.numbers t.down) h.0 (subst (λ (ds : List Decision). DecisionsAreRead (begin block) ds h.0) lists g.reads);
    }
