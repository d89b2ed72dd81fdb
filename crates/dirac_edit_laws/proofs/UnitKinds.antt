-- What one unit more does to the sequences of a stream.
use Rattle.std.proofs.Common.{◌≡◌, ◌==◌, ◌||◌, if◌then◌else◌, Bool, true, false, ℕ, suc, List, ◌∷◌, ◌++◌, Option, None, inl, inr, refl, sym, ◌∙◌, ap, subst}
use Rattle.std.proofs.lemmas.Bool.{cases_Bool, eqb-true, or_cases, or_from}
use Rattle.dirac_units.specs.Cut.{UnitText}
use Rattle.dirac_units.specs.Info.{fields_are_read, is_picture}
use Rattle.dirac_plan_laws.specs.Headers.{IsPictureCode}
use Rattle.dirac_edit_laws.specs.Texts.{SequenceText, closed_off, opened_by, picture_text_at, points_up_to, sequences_from, with_picture_text}

of_code : (code n : ℕ) → (code == n) ≡ true → IsPictureCode n → IsPictureCode code
of_code code n is known = subst IsPictureCode (sym (eqb-true code n is)) known

known_8 : IsPictureCode 0x08
known_8 = record { read = refl; other = refl; kind = refl }

known_C : IsPictureCode 0x0C
known_C = record { read = refl; other = refl; kind = refl }

known_9 : IsPictureCode 0x09
known_9 = record { read = refl; other = refl; kind = refl }

known_D : IsPictureCode 0x0D
known_D = record { read = refl; other = refl; kind = refl }

known_A : IsPictureCode 0x0A
known_A = record { read = refl; other = refl; kind = refl }

known_E : IsPictureCode 0x0E
known_E = record { read = refl; other = refl; kind = refl }

one_of : (code m n : ℕ) → (code == m || code == n) ≡ true → IsPictureCode m → IsPictureCode n → IsPictureCode code
one_of code m n is first second = elim (or_cases (code == m) (code == n) is) [
  | inl e ↦ of_code code m e first
  | inr e ↦ of_code code n e second
]

pub picture_code : (code : ℕ) → is_picture code ≡ true → IsPictureCode code
picture_code code is = elim (or_cases ((code == 0x08 || code == 0x0C) || (code == 0x09 || code == 0x0D)) (code == 0x0A || code == 0x0E) is) [
  | inr e ↦ one_of code 0x0A 0x0E e known_A known_E
  | inl f ↦ elim (or_cases (code == 0x08 || code == 0x0C) (code == 0x09 || code == 0x0D) f) [
    | inl e ↦ one_of code 0x08 0x0C e known_8 known_C
    | inr e ↦ one_of code 0x09 0x0D e known_9 known_D
  ]
]

-- the kinds of units, as far as sequences are concerned
pub data KindOf (code : ℕ) : Type 0 where
  of_header : code ≡ 0x00 → KindOf code
  of_end : code ≡ 0x10 → KindOf code
  of_picture : (code == 0x00) ≡ false → (code == 0x10) ≡ false → is_picture code ≡ true → IsPictureCode code → KindOf code
  of_other : (code == 0x00) ≡ false → (code == 0x10) ≡ false → is_picture code ≡ false → fields_are_read code ≡ false → KindOf code

pub kind_of : (code : ℕ) → KindOf code
kind_of code = elim (cases_Bool (code == 0x00)) [
  | inl e ↦ of_header (eqb-true code 0x00 e)
  | inr not_header ↦ elim (cases_Bool (code == 0x10)) [
    | inl e ↦ of_end (eqb-true code 0x10 e)
    | inr not_end ↦ elim (cases_Bool (is_picture code)) [
      | inl is ↦ of_picture not_header not_end is (picture_code code is)
      | inr not_picture ↦ of_other not_header not_end not_picture (or_from (code == 0x00) (is_picture code) not_header not_picture)
    ]
  ]
]

abbrev next_sequences : Bool → Bool → Bool → List SequenceText → List SequenceText → List SequenceText → List SequenceText → List SequenceText
next_sequences header end picture a b c d = if header then a else if end then b else if picture then c else d

chosen_sequences : (header end picture : Bool) (h e p : Bool) (a b c d : List SequenceText) → header ≡ h → end ≡ e → picture ≡ p → next_sequences header end picture a b c d ≡ next_sequences h e p a b c d
chosen_sequences header end picture h e p a b c d is is' is'' =
    ap (λ x. next_sequences x end picture a b c d) is ∙ ap (λ x. next_sequences h x picture a b c d) is' ∙ ap (λ x. next_sequences h e x a b c d) is''

-- the sequences behind a unit of each kind
pub behind_header : (index points : ℕ) (now : Option SequenceText) (u : UnitText) (units : List UnitText) → u.info.code ≡ 0x00
    → sequences_from index points now (u ∷ units) ≡ sequences_from (suc index) points (opened_by now u.payload) units
unfolding sequences_from
behind_header index points now u units is =
    let code = u.info.code in
    let up_to = points_up_to points u in
    ap (λ n. next_sequences (n == 0x00) (code == 0x10) (is_picture code) (sequences_from (suc index) points (opened_by now u.payload) units) (closed_off now ++ sequences_from (suc index) points None units)
    (sequences_from (suc index) up_to (with_picture_text now (picture_text_at index up_to u)) units) (sequences_from (suc index) points now units)) is

pub behind_end : (index points : ℕ) (now : Option SequenceText) (u : UnitText) (units : List UnitText) → u.info.code ≡ 0x10
    → sequences_from index points now (u ∷ units) ≡ closed_off now ++ sequences_from (suc index) points None units
unfolding sequences_from
behind_end index points now u units is =
    let code = u.info.code in
    let up_to = points_up_to points u in
    ap (λ n. next_sequences (n == 0x00) (n == 0x10) (is_picture code) (sequences_from (suc index) points (opened_by now u.payload) units) (closed_off now ++ sequences_from (suc index) points None units)
    (sequences_from (suc index) up_to (with_picture_text now (picture_text_at index up_to u)) units) (sequences_from (suc index) points now units)) is

pub behind_picture : (index points : ℕ) (now : Option SequenceText) (u : UnitText) (units : List UnitText) → (u.info.code == 0x00) ≡ false → (u.info.code == 0x10) ≡ false → is_picture u.info.code ≡ true
    → sequences_from index points now (u ∷ units) ≡ sequences_from (suc index) (points_up_to points u) (with_picture_text now (picture_text_at index (points_up_to points u) u)) units
unfolding sequences_from
behind_picture index points now u units not_header not_end is =
    let code = u.info.code in
    let up_to = points_up_to points u in
    chosen_sequences (code == 0x00) (code == 0x10) (is_picture code) false false true (sequences_from (suc index) points (opened_by now u.payload) units) (closed_off now ++ sequences_from (suc index) points None units)
    (sequences_from (suc index) up_to (with_picture_text now (picture_text_at index up_to u)) units) (sequences_from (suc index) points now units) not_header not_end is

pub behind_other : (index points : ℕ) (now : Option SequenceText) (u : UnitText) (units : List UnitText) → (u.info.code == 0x00) ≡ false → (u.info.code == 0x10) ≡ false → is_picture u.info.code ≡ false
    → sequences_from index points now (u ∷ units) ≡ sequences_from (suc index) points now units
unfolding sequences_from
behind_other index points now u units not_header not_end is =
    let code = u.info.code in
    let up_to = points_up_to points u in
    chosen_sequences (code == 0x00) (code == 0x10) (is_picture code) false false false (sequences_from (suc index) points (opened_by now u.payload) units) (closed_off now ++ sequences_from (suc index) points None units)
    (sequences_from (suc index) up_to (with_picture_text now (picture_text_at index up_to u)) units) (sequences_from (suc index) points now units) not_header not_end is
