-- The indices of codeblocks: which are kept where one is changed, and what an offset tells of them.
use Rattle.std.proofs.Common.{◌≡◌, ◌≢◌, ℕ, zero, suc, ℤ, pos, ◌+◌, ◌-◌, ◌*◌, ◌/◌, ◌%◌, ◌+ℤ◌, ◌<◌, ◌≤◌, true, List, length, set, replicate, refl, sym, ap, ◌∙◌, subst, arith, inl, inr, length-set, eq-eqb, ne_eqb, ext_get_or, mod-lt, div-lt_iff_lt-mul, div-add-mod'}
use Rattle.std.specs.List.{All}
use Rattle.std.proofs.lemmas.Bool.{cases_eq, cases_lt}
use Rattle.std.proofs.lemmas.Int.{ints}
use Rattle.std.proofs.lemmas.List.{get_or-replicate, get_or-set_same, get_or-set_other, get_or_past, length-replicate}
use Rattle.std.proofs.lemmas.List.Elements.{All-set}
use Rattle.std.proofs.lemmas.Nat.{mul-add-lt}
use Rattle.dirac_common.specs.Limits.{IsIndex}
use Rattle.dirac_coeffs.specs.declared.layout.BandLayout.{BandLayout}
use Rattle.dirac_coeffs.specs.Carried.{IsIndexed}
use Rattle.dirac_coeffs.specs.Decisions.{Mark, Marks}
use Rattle.dirac_coeffs.specs.Indices.{place_of, index_at, index_before, all_equal}
use Rattle.dirac_coeffs.specs.Layouts.{is_flagged}

-- places of rows of codeblocks
pub place_less : (layout : BandLayout) (cy cx n : ℕ) → cy < n → cx < layout.across → place_of layout cy cx < n * layout.across
place_less layout cy cx n h l = omega (arith, mul-add-lt cy layout.across cx n h l)

pub place_inside : (layout : BandLayout) (cy cx : ℕ) → cy < layout.down → cx < layout.across → place_of layout cy cx < layout.across * layout.down
place_inside layout cy cx h l = omega (arith, place_less layout cy cx layout.down h l)

-- the indices of the codeblocks before place n are the same
abbrev pub SameBefore : ℕ → List ℕ → List ℕ → Type 0
SameBefore n is js = (d : ℕ) → d < n → index_at is d ≡ index_at js d

pub before_same : (index : ℕ) (is js : List ℕ) (c : ℕ) → SameBefore c is js → index_before index is c ≡ index_before index js c
before_same index is js c same =
    elim (cases_eq c 0) [
      | inl e ↦ rw (eq-eqb c 0 e) refl
      | inr n ↦ rw (ne_eqb c 0 n) (same (c - 1) (omega arith))
    ]

-- what an offset tells of an index it tells of the same indices
pub indexed_same : (layout : BandLayout) (index : ℕ) (is js : List ℕ) (cy cx : ℕ) (mark : Mark) → SameBefore (place_of layout cy cx + 1) is js → IsIndexed layout index is cy cx mark → IsIndexed layout index js cy cx mark
indexed_same layout index is js cy cx mark same x =
    let c = place_of layout cy cx in
    record {
      sum = ap pos (sym (same c (omega arith))) ∙ x.sum ∙ ap (λ i. pos i +ℤ mark.offset) (before_same index is js c (λ d l. same d (omega arith)));
      skipped = x.skipped;
      plain = x.plain;
    }

-- indices of which those from place `from` on are changed, in mode 0 none
pub record Noted (layout : BandLayout) (from : ℕ) (is js : List ℕ) : Type 0 where
  pub len : length js ≡ length is
  pub same : SameBefore from is js
  pub plain : layout.mode ≡ 0 → js ≡ is
  pub lawful : All IsIndex is → All IsIndex js

pub noted_none : {layout : BandLayout} {from : ℕ} {is : List ℕ} → Noted layout from is is
noted_none = record { len = refl; same = λ d l. refl; plain = λ e. refl; lawful = λ all. all }

pub noted_join : {layout : BandLayout} {from a b : ℕ} {is js ks : List ℕ} → from ≤ a → from ≤ b → Noted layout a is js → Noted layout b js ks → Noted layout from is ks
noted_join h k x y =
    record {
      len = y.len ∙ x.len;
      same = λ d l. x.same d (omega arith) ∙ y.same d (omega arith);
      plain = λ e. y.plain e ∙ x.plain e;
      lawful = λ all. y.lawful (x.lawful all);
    }

-- one index is changed
pub set_noted : (layout : BandLayout) (is : List ℕ) (c i : ℕ) → layout.mode ≢ 0 → IsIndex i → Noted layout c is (set is c i)
set_noted layout is c i moded h =
    record {
      len = length-set is c i;
      same = λ d l. sym (get_or-set_other is c d i 0 (λ e. omega arith));
      plain = λ e. absurd (moded e);
      lawful = λ all. All-set IsIndex is c i h all;
    }

-- and is that which the offset tells
pub set_indexed : (layout : BandLayout) (index : ℕ) (is : List ℕ) (cy cx i : ℕ) (mark : Mark) → place_of layout cy cx < length is → layout.mode ≢ 0
    → pos i ≡ pos (index_before index is (place_of layout cy cx)) +ℤ mark.offset → (is_flagged layout ≡ true → mark.skipped ≡ true → mark.offset ≡ pos 0)
    → IsIndexed layout index (set is (place_of layout cy cx) i) cy cx mark
set_indexed layout index is cy cx i mark inside moded sum skipped =
    let c = place_of layout cy cx in
    record {
      sum = ap pos (get_or-set_same is c i 0 inside) ∙ sum ∙ ap (λ j. pos j +ℤ mark.offset) (before_same index is (set is c i) c (λ d l. sym (get_or-set_other is c d i 0 (λ e. omega arith))));
      skipped = skipped;
      plain = λ e. absurd (moded e);
    }

-- where all codeblocks have the band's index, so has the one before
pub equal_before : (n index c : ℕ) → c < n → index_before index (replicate n index) c ≡ index
equal_before n index c h =
    elim (cases_eq c 0) [
      | inl e ↦ rw (eq-eqb c 0 e) refl
      | inr m ↦ rw (ne_eqb c 0 m) (get_or-replicate n (c - 1) index 0 (omega arith))
    ]

pub none_added : (a b : ℕ) → a ≡ b → pos a ≡ pos b +ℤ pos 0
none_added a b e = omega (arith, ints)

nothing_added : (a b : ℕ) (o : ℤ) → pos a ≡ pos b +ℤ o → o ≡ pos 0 → a ≡ b
nothing_added a b o e none = omega (arith, ints)

-- an index that is the one before it is told by the offset 0
pub same_indexed : (layout : BandLayout) (index : ℕ) (is : List ℕ) (cy cx : ℕ) (mark : Mark) → mark.offset ≡ pos 0 → index_at is (place_of layout cy cx) ≡ index_before index is (place_of layout cy cx) → IsIndexed layout index is cy cx mark
same_indexed layout index is cy cx mark none e =
    let c = place_of layout cy cx in
    record {
      sum = none_added (index_at is c) (index_before index is c) e ∙ ap (λ o. pos (index_before index is c) +ℤ o) (sym none);
      skipped = λ f s. none;
      plain = λ m. none;
    }

pub equal_same : (layout : BandLayout) (index : ℕ) (is : List ℕ) (cy cx : ℕ) → is ≡ all_equal layout index → cy < layout.down → cx < layout.across → index_at is (place_of layout cy cx) ≡ index_before index is (place_of layout cy cx)
equal_same layout index is cy cx e h l =
    let n = layout.across * layout.down in
    let c = place_of layout cy cx in
    let inside : c < n = place_inside layout cy cx h l in
    rw e (get_or-replicate n c index 0 inside ∙ sym (equal_before n index c inside))

former_is : (index : ℕ) (is : List ℕ) (c : ℕ) → index_before index is (suc c) ≡ index_at is c
former_is index is c =
    let back : suc c - 1 ≡ c = omega arith in
    rw (ne_eqb (suc c) 0 (λ e. omega arith)) (ap (λ k. index_at is k) back)

-- where each index is the one before it, all are the band's
index_is : (index : ℕ) (is : List ℕ) (n c : ℕ) → ((d : ℕ) → d < n → index_at is d ≡ index_before index is d) → c < n → index_at is c ≡ index
index_is index is n zero same h = same 0 h
index_is index is n (suc c) same h = same (suc c) h ∙ former_is index is c ∙ index_is index is n c same (omega arith)

pub all_are_equal : (layout : BandLayout) (index : ℕ) (is : List ℕ) → 0 < layout.across → length is ≡ layout.across * layout.down
    → ((cy cx : ℕ) → cy < layout.down → cx < layout.across → index_at is (place_of layout cy cx) ≡ index_before index is (place_of layout cy cx)) → is ≡ all_equal layout index
all_are_equal layout index is some len same =
    let w = layout.across in
    let n = w * layout.down in
    let each : (d : ℕ) → d < n → index_at is d ≡ index_before index is d = λ d l.
    let row : d / w < layout.down = (div-lt_iff_lt-mul {k = w} {x = d} {y = layout.down} some).1 (omega arith) in
    let column : d % w < w = mod-lt d some in
    let place : d / w * w + d % w ≡ d = div-add-mod' d w in
    subst (λ i. index_at is i ≡ index_before index is i) place (same (d / w) (d % w) row column) in
    ext_get_or 0 is (replicate n index) (len ∙ sym (length-replicate n index)) (λ k l.
    let inside : k < n = omega arith in
    index_is index is n k each inside ∙ sym (get_or-replicate n k index 0 inside))

-- so it is in mode 0
pub plain_equal : (layout : BandLayout) (index : ℕ) (is : List ℕ) (marks : Marks) → 0 < layout.across → length is ≡ layout.across * layout.down → layout.mode ≡ 0
    → ((cy cx : ℕ) → cy < layout.down → cx < layout.across → IsIndexed layout index is cy cx (marks cy cx)) → is ≡ all_equal layout index
plain_equal layout index is marks some len mode indexed =
    all_are_equal layout index is some len (λ cy cx h l.
    let x = indexed cy cx h l in
    nothing_added (index_at is (place_of layout cy cx)) (index_before index is (place_of layout cy cx)) (marks cy cx).offset x.sum (x.plain mode))

-- each index is a quantiser's, and so is the one before it
pub index_few : (is : List ℕ) (c : ℕ) → All IsIndex is → index_at is c ≤ 99
index_few is c all =
    elim (cases_lt c (length is)) [
      | inl inside ↦ all c 0 inside
      | inr past ↦ omega (arith, get_or_past is c 0 past)
    ]

pub before_few : (index : ℕ) (is : List ℕ) (c : ℕ) → IsIndex index → All IsIndex is → index_before index is c ≤ 99
before_few index is c h all =
    elim (cases_eq c 0) [
      | inl e ↦ rw (eq-eqb c 0 e) h
      | inr n ↦ rw (ne_eqb c 0 n) (index_few is (c - 1) all)
    ]
