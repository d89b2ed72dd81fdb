-- The points of a cut, word by word.
use Rattle.std.proofs.Common.{◌≡◌, ◌∙◌, ℕ, ◌+◌, ◌<◌, ◌≤◌, Bool, true, false, List, ◌∷◌, length, drop, get_or, map, ◌&&◌}
use Rattle.std.proofs.Common.{if◌then◌else◌, Option, None, Some, Ok, Err, refl, sym, ap, arith}
use Rattle.std.specs.Prelude.{codes, is_none, is_some, unwrap_or}
use Rattle.std.proofs.lemmas.List.{drop_all, drop_more}
use Rattle.dirac_command_line.specs.declared.points.Points.{Points}
use Rattle.dirac_command_line.specs.declared.words.Command.TheVariants.{Cut}
use Rattle.dirac_command_line.specs.declared.words.WordsStop.TheVariants.{Usage}
use Rattle.dirac_command_line.specs.Options.{point_in}
use Rattle.dirac_command_line.specs.Points.{is_new, points_with}
use Rattle.dirac_command_line.specs.Words.{cut_behind, cut_read, where_it_fits}

-- how many points no word said yet
abbrev pub free : Option ℕ → ℕ
free None = 1
free (Some n) = 0

abbrev pub room : Points → ℕ
room p = free p.from + free p.to

-- a new point takes one up
one_less : (point given : Option ℕ) → (is_some point && is_none given) ≡ true → free point + 1 ≡ free given
one_less None None new = cc
one_less None (Some n) new = cc
one_less (Some n) None new = refl
one_less (Some n) (Some m) new = cc

more_by : (a b c : ℕ) → a + 1 ≡ c → a + b + 1 ≡ c + b
more_by a b c e = omega (arith, e)

more_behind : (a b c : ℕ) → b + 1 ≡ c → a + b + 1 ≡ a + c
more_behind a b c e = omega (arith, e)

room_by : (first second : Bool) (word : List ℕ) (p next : Points) → is_new (codes "--from=") word p.from ≡ first
    → is_new (codes "--to=") word p.to ≡ second
    → (if first then Some (record { from = point_in (codes "--from=") word; to = p.to }) else if second then Some (record { from = p.from; to = point_in (codes "--to=") word }) else None) ≡ Some next
    → room next + 1 ≡ room p
room_by true second word p next new other is =
    let q : Points = record { from = point_in (codes "--from=") word; to = p.to } in
    let same : q ≡ next = cc in
    sym (ap (λ (x : Points). room x + 1) same) ∙ more_by (free (point_in (codes "--from=") word)) (free p.to) (free p.from) (one_less (point_in (codes "--from=") word) p.from new)
room_by false true word p next other new is =
    let q : Points = record { from = p.from; to = point_in (codes "--to=") word } in
    let same : q ≡ next = cc in
    sym (ap (λ (x : Points). room x + 1) same) ∙ more_behind (free p.from) (free (point_in (codes "--to=") word)) (free p.to) (one_less (point_in (codes "--to=") word) p.to new)
room_by false false word p next other none is = cc

pub room_falls : (word : List ℕ) (p next : Points) → points_with p word ≡ Some next → room next + 1 ≡ room p
room_falls word p next is =
    room_by (is_new (codes "--from=") word p.from) (is_new (codes "--to=") word p.to) word p next refl refl is

-- one word more, one that doesn't fit, and no word more
pub words_more : {X : Type 0} (text : X → List ℕ) (xs : List X) (i : ℕ) (x : X) (number : ℕ) (p next : Points)
    → i < length xs → x ≡ get_or xs i x
    → cut_read (map text xs) ≡ cut_behind number p (map text (drop i xs)) → points_with p (text x) ≡ Some next
    → cut_read (map text xs) ≡ cut_behind (number + 1) next (map text (drop (i + 1) xs))
words_more {X} text xs i x number p next inside is so new =
    so ∙ ap (λ ys. cut_behind number p (map text ys)) (drop_more xs i x inside ∙ ap (λ (y : X). y ∷ drop (i + 1) xs) (sym is))
    ∙ ap (where_it_fits number (λ q. cut_behind (number + 1) q (map text (drop (i + 1) xs)))) new

pub word_unfit : {X : Type 0} (text : X → List ℕ) (xs : List X) (i : ℕ) (x : X) (number : ℕ) (p : Points)
    → i < length xs → x ≡ get_or xs i x
    → cut_read (map text xs) ≡ cut_behind number p (map text (drop i xs)) → points_with p (text x) ≡ None
    → Err (Usage number) ≡ cut_read (map text xs)
word_unfit {X} text xs i x number p inside is so none =
    sym (so ∙ ap (λ ys. cut_behind number p (map text ys)) (drop_more xs i x inside ∙ ap (λ (y : X). y ∷ drop (i + 1) xs) (sym is))
    ∙ ap (where_it_fits number (λ q. cut_behind (number + 1) q (map text (drop (i + 1) xs)))) none)

pub words_end : {X : Type 0} (text : X → List ℕ) (xs : List X) (i : ℕ) (number : ℕ) (p : Points) → length xs ≤ i
    → cut_read (map text xs) ≡ cut_behind number p (map text (drop i xs))
    → Ok (Cut (unwrap_or p.from 0) p.to) ≡ cut_read (map text xs)
words_end text xs i number p past so = sym (so ∙ ap (λ ys. cut_behind number p (map text ys)) (drop_all i xs past))
