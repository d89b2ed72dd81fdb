-- Each kind of step keeps the rule, and what a seat keeps at the end.
use Rattle.std.proofs.Common.{if◌then◌else◌, ◌≡◌, ℕ, Bool, true, false, suc, ◌+◌, ◌%◌, ◌<◌, ◌≤◌, ◌≢◌, ◌⊎◌, List, [], ◌∷◌, set, get_or, sym, refl, ap, ◌∙◌, subst, inl, inr, ⊎_elim, nat_lt, lt-ltb, le-ltb, length-set, get_or-set_same, arith}
use mathlib.Core.Logic.{dite}
use native.Mathlib.Decide.{dec_le}
use mathlib.Core.Option.{none, some}
use lib.ListN.{get_elem?}
use Rattle.atomic_table.specs.Table.{State, Me, step, keeps, Allows, Splits, Joins, Final, Seen}
use Rattle.atomic_table.proofs.Lists.{at_set, at_snoc, set_else}
use Rattle.dirac_rows.specs.Weights.{total, added_below, times, past_rows}
use Rattle.dirac_rows.specs.Rule.{spent_view, left_by_split, made_by_split, made_by_join, made_by_claim, Draws, FitsTerms, KeepsRule, Looks}
use Rattle.dirac_rows.specs.declared.view.View.{View}
use Rattle.dirac_rows.specs.declared.view.Terms.{Terms}
use Rattle.dirac_rows.proofs.Sums.{one_if, zero_if, one_if_le, weight_at, weight_past, total-append, total-set, term_le, terms_le, total_only, total_le, below_only, below_past, all_below}

abbrev turned : Bool → Bool
turned b = if b then false else true

fits_terms : (t : Terms) (v : View) → 0 < v.shares → (v ≡ spent_view) ⊎ FitsTerms t v → FitsTerms t v
fits_terms t v h = ⊎_elim (λ e. absurd (omega (arith, ap (λ (w : View). w.shares) e))) (λ f. f)

numbered : (t : Terms) (v : View) (n : ℕ) → FitsTerms t v → v.had_none ≡ false → FitsTerms t (made_by_claim v n)
numbered t v n f going = let rows = f.rows_of_terms in let a = total-append (weight_past t.rows) v.drawn (n ∷ []) in let b = f.past_rows_bounded in let off : one_if v.had_none ≡ 0 = ap one_if going in dite (dec_le t.rows n)
    (λ le. let bounded : nat_lt n v.rows ≡ false = le-ltb n v.rows (omega arith) in let here : weight_past t.rows n ≡ 1 = ap zero_if (le-ltb n t.rows le) in let on : one_if (turned (nat_lt n v.rows)) ≡ 1 = ap (λ (x : Bool). one_if (turned x)) bounded in
    record { rows_of_terms = rows; seats_of_terms = f.seats_of_terms; has_a_share = f.has_a_share; none_after_rows = λ _. omega arith; past_rows_bounded = omega arith })
    (λ gt. let row : nat_lt n v.rows ≡ true = lt-ltb n v.rows (omega arith) in let here : weight_past t.rows n ≡ 0 = ap zero_if (lt-ltb n t.rows (omega arith)) in let on : one_if (turned (nat_lt n v.rows)) ≡ 0 = ap (λ (x : Bool). one_if (turned x)) row in
    record { rows_of_terms = rows; seats_of_terms = f.seats_of_terms; has_a_share = f.has_a_share; none_after_rows = λ e. absurd (omega (arith, ap one_if e)); past_rows_bounded = omega arith })

past_le : (t : Terms) (v : View) → (v ≡ spent_view) ⊎ FitsTerms t v → past_rows t.rows v.drawn ≤ v.shares + v.given_up
past_le t v = ⊎_elim (λ e. let z : past_rows t.rows v.drawn ≡ 0 = ap (λ (w : View). past_rows t.rows w.drawn) e in omega arith)
    (λ f. let a = f.past_rows_bounded in let b = f.has_a_share in let c = one_if_le v.had_none in omega arith)

word_le : (t : Terms) (s : State (Unit {0}) View) → KeepsRule t s → get_or s.words 0 0 ≤ t.rows + t.seats
word_le t s k = let n : ℕ = get_or s.words 0 0 in dite (dec_le n t.rows) (λ le. omega arith)
    (λ gt. let a = (below_past t.rows n).1 (omega arith) in let b = k.each_number_once (weight_past t.rows) in let c = total_le (λ (v : View). past_rows t.rows v.drawn) (λ v. v.shares + v.given_up) s.views (λ j v e. past_le t v (k.each_fits j v e)) in
    let d = k.shares_sum in omega arith)

pub draws : (t : Terms) (slots id : ℕ) (m : Me (Unit {0}) View) → t.rows < 4294967296 → t.seats ≤ 64 → 0 < m.0.shares → m.0.had_none ≡ false
    → Allows (KeepsRule t) slots id m 0 (λ n. (n + 1) % 18446744073709551616) (Draws (step slots 0 1 0 none) m)
draws t slots id m rows seats has_share going s k _ at _ =
    let n : ℕ = get_or s.words 0 0 in let w = made_by_claim m.0 n in let fits = fits_terms t m.0 has_share (k.each_fits id m.0 at) in let length_is = k.has_one_word in
    let bounded = word_le t s k in let next : (n + 1) % 18446744073709551616 ≡ suc n = omega arith in
    let word : get_or (set s.words 0 ((n + 1) % 18446744073709551616)) 0 0 ≡ suc n = get_or-set_same s.words 0 ((n + 1) % 18446744073709551616) 0 (omega arith) ∙ next in (
      w,
      keeps,
      tt,
      record {
        has_one_word = length-set s.words 0 ((n + 1) % 18446744073709551616) ∙ k.has_one_word;
        each_number_once = λ f. let a = k.each_number_once f in let b = total-set (λ (v : View). total f v.drawn) s.views id m.0 w at in let c = total-append f m.0.drawn (n ∷ []) in
            let d : total (λ (v : View). total f v.drawn) (set s.views id w) ≡ added_below f n + f n = omega arith in d ∙ ap (added_below f) (sym word);
        shares_sum = let a = k.shares_sum in let b = total-set (λ (v : View). v.shares + v.given_up) s.views id m.0 w at in omega arith;
        each_fits = λ j u e. ⊎_elim (λ p. inr (subst (FitsTerms t) p.1 (numbered t m.0 n fits going))) (λ p. k.each_fits j u p.1) (at_set s.views id j w u e);
      },
      (refl, all_below m.0.drawn n (λ x le. let a = term_le (λ (v : View). times x v.drawn) s.views id m.0 at in let b = k.each_number_once (weight_at x) in let c = (below_only x n).1 le in omega arith)),
    )

left_fits : (t : Terms) (v : View) → 2 ≤ v.shares → FitsTerms t v → FitsTerms t (left_by_split v)
left_fits t v two f = record { rows_of_terms = f.rows_of_terms; seats_of_terms = f.seats_of_terms; has_a_share = omega arith; none_after_rows = f.none_after_rows; past_rows_bounded = f.past_rows_bounded }

made_fits : (t : Terms) (v : View) → FitsTerms t v → FitsTerms t (made_by_split v)
made_fits t v f = record { rows_of_terms = f.rows_of_terms; seats_of_terms = f.seats_of_terms; has_a_share = omega arith; none_after_rows = λ e. absurd (omega (arith, ap one_if e)); past_rows_bounded = omega arith }

pub forks : (t : Terms) (id : ℕ) (v : View) → 2 ≤ v.shares → Splits (KeepsRule t) id v (left_by_split v) (made_by_split v)
forks t id v two s k at = let fits = fits_terms t v (omega arith) (k.each_fits id v at) in record {
  has_one_word = k.has_one_word;
  each_number_once = λ f. let a = k.each_number_once f in let b = total-set (λ (u : View). total f u.drawn) s.views id v (left_by_split v) at in let c = total-append (λ (u : View). total f u.drawn) (set s.views id (left_by_split v)) (made_by_split v ∷ []) in omega arith;
  shares_sum = let a = k.shares_sum in let b = total-set (λ (u : View). u.shares + u.given_up) s.views id v (left_by_split v) at in let c = total-append (λ (u : View). u.shares + u.given_up) (set s.views id (left_by_split v)) (made_by_split v ∷ []) in omega arith;
  each_fits = λ j u e. ⊎_elim
      (λ old. ⊎_elim (λ p. inr (subst (FitsTerms t) p.1 (left_fits t v two fits))) (λ p. k.each_fits j u p.1) (at_set s.views id j (left_by_split v) u old))
      (λ new. inr (subst (FitsTerms t) new (made_fits t v fits)))
      (at_snoc (set s.views id (left_by_split v)) (made_by_split v) u j e);
}

joined_fits : (t : Terms) (v w : View) → FitsTerms t v → FitsTerms t w → FitsTerms t (made_by_join v w)
joined_fits t v w f g = let a = total-append (weight_past t.rows) v.drawn w.drawn in record {
  rows_of_terms = f.rows_of_terms;
  seats_of_terms = f.seats_of_terms;
  has_a_share = f.has_a_share;
  none_after_rows = λ e. let b = f.none_after_rows e in omega arith;
  past_rows_bounded = let b = f.past_rows_bounded in let c = g.past_rows_bounded in let d = g.has_a_share in let h = one_if_le w.had_none in omega arith;
}

pub merges : (t : Terms) (id : ℕ) (v : View) (other : ℕ) (w : View) → 0 < v.shares → 0 < w.shares → Joins (KeepsRule t) id v other w (made_by_join v w) spent_view
merges t id v other w h i s k at apart at_other =
    let both : View = made_by_join v w in let before = sym (set_else s.views id other both apart) ∙ at_other in
    let f = fits_terms t v h (k.each_fits id v at) in let g = fits_terms t w i (k.each_fits other w before) in record {
      has_one_word = k.has_one_word;
      each_number_once = λ f. let a = k.each_number_once f in let b = total-set (λ (u : View). total f u.drawn) s.views id v both at in let c = total-set (λ (u : View). total f u.drawn) (set s.views id both) other w spent_view at_other in
          let d = total-append f v.drawn w.drawn in omega arith;
      shares_sum = let a = k.shares_sum in let b = total-set (λ (u : View). u.shares + u.given_up) s.views id v both at in let c = total-set (λ (u : View). u.shares + u.given_up) (set s.views id both) other w spent_view at_other in omega arith;
      each_fits = λ j u e. ⊎_elim (λ p. inl (sym p.1)) (λ p. ⊎_elim (λ q. inr (subst (FitsTerms t) q.1 (joined_fits t v w f g))) (λ q. k.each_fits j u q.1) (at_set s.views id j both u p.1)) (at_set (set s.views id both) other j spent_view u e);
    }

pub ends : (t : Terms) (id : ℕ) (v : View) (ws : List ℕ) (xs : List (Unit {0})) → 0 < v.shares → v.had_none ≡ true → v.shares + v.given_up ≡ t.seats
    → Final (Seen (KeepsRule t) id v) ws xs → (r : ℕ) → r < t.rows → times r v.drawn ≡ 1
ends t id v ws xs h had_none joined final r row =
    let s = final.0 in let k = final.1.0 in let at = final.1.1 in let n : ℕ = get_or s.words 0 0 in
    let f = fits_terms t v h (k.each_fits id v at) in
    let others : (j : ℕ) (u : View) → get_elem? s.views j ≡ some u → j ≢ id → u ≡ spent_view = λ j u d apart. ⊎_elim (λ e. e)
    (λ g. absurd (let a = terms_le (λ (w : View). w.shares + w.given_up) s.views id j v u apart at d in let b = k.shares_sum in let c = g.has_a_share in omega arith)) (k.each_fits j u d) in
    let mine = total_only (λ (w : View). times r w.drawn) s.views id v at (λ j u d apart. ap (λ (w : View). times r w.drawn) (others j u d apart)) in
    let my_past = total_only (λ (w : View). past_rows t.rows w.drawn) s.views id v at (λ j u d apart. ap (λ (w : View). past_rows t.rows w.drawn) (others j u d apart)) in
    let a = f.none_after_rows had_none in let b = k.each_number_once (weight_past t.rows) in let c = k.each_number_once (weight_at r) in
    dite (dec_le n t.rows) (λ le. let d = (below_past t.rows n).0 le in absurd (omega arith)) (λ gt. let d = (below_only r n).0 (omega arith) in omega arith)

-- what a look tells
pub looks : (t : Terms) (slots id : ℕ) (m : Me (Unit {0}) View) → Allows (KeepsRule t) slots id m 0 (λ n. n) (Looks (step slots 0 0 0 none) m)
looks t slots id m s k _ at _ =
    let n : ℕ = get_or s.words 0 0 in let length_is = k.has_one_word in
    let word : get_or (set s.words 0 n) 0 0 ≡ n = get_or-set_same s.words 0 n 0 (omega arith) in (
      m.0,
      keeps,
      tt,
      record {
        has_one_word = length-set s.words 0 n ∙ k.has_one_word;
        each_number_once = λ f. let a = k.each_number_once f in let b = total-set (λ (v : View). total f v.drawn) s.views id m.0 m.0 at in
            let d : total (λ (v : View). total f v.drawn) (set s.views id m.0) ≡ added_below f n = omega arith in d ∙ ap (added_below f) (sym word);
        shares_sum = let a = k.shares_sum in let b = total-set (λ (v : View). v.shares + v.given_up) s.views id m.0 m.0 at in omega arith;
        each_fits = λ j u e. ⊎_elim (λ p. subst (λ (x : View). (x ≡ spent_view) ⊎ FitsTerms t x) p.1 (k.each_fits id m.0 at)) (λ p. k.each_fits j u p.1) (at_set s.views id j m.0 u e);
      },
      (
        refl,
        λ r. let a = term_le (λ (v : View). times r v.drawn) s.views id m.0 at in let b = k.each_number_once (weight_at r) in
            dite (dec_le n r) (λ le. let c = (below_only r n).1 le in omega arith) (λ gt. let c = (below_only r n).0 (omega arith) in omega arith),
      ),
    )
