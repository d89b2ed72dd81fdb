-- The tables that are chosen fit their pictures.
use Rattle.std.proofs.Common.{◌≡◌, ℕ, zero, suc, ◌≤◌, ◌==◌, ◌||◌, nat_le, true, false, List, Option, Some, None, arith, refl, inl, inr, ap, sym, subst, ◌∙◌}
use Rattle.std.specs.Prelude.{is_some, option_map, Result, Ok, Err, IfOk}
use Rattle.std.specs.Option.{ForSome}
use Rattle.std.proofs.lemmas.Bool.{and_parts, cases_Bool}
use Rattle.dirac_types.specs.Settings.{IsAccepted}
use Rattle.dirac_common.specs.declared.picture.Picture.{Picture}
use Rattle.dirac_types.specs.declared.settings.Settings.{Settings}
use Rattle.dirac_sequence.specs.Written.{sequence_of}
use Rattle.dirac_header.specs.Codes.{references_of}
use Rattle.dirac_header.specs.Prediction.{grid_of}
use Rattle.dirac_block_table.specs.Tables.{BlockTable}
use Rattle.dirac_refs.specs.References.{listed}
use Rattle.dirac_picture.specs.Grammar.{is_intra, is_listed, superblocks_over}
use Rattle.dirac_content.specs.Content.{IsPicture, named}
use Rattle.dirac_decide.specs.Deciding.{IsSearched, View, deciding}
use Rattle.dirac_decide.specs.Modes.{count_of_references}
use Rattle.dirac_decide.specs.Splits.{decided}
use Rattle.dirac_decide.proofs.Accepted.{grid_within, some_over}
use Rattle.dirac_decide.proofs.Lawful.{decided_lawful}
use Rattle.dirac_plan.specs.declared.planned.Planned.{Planned}
use Rattle.dirac_motion.specs.Chosen.{IsChoosing, IsChosen, blocks_among, blocks_from, chosen, chosen_unless_intra, view_in}
use Rattle.dirac_motion.proofs.Asked.{covered, is_deciding, is_searched}

-- a number that is there and listed names a picture
pub named_there : (refs : List Picture) (o : Option ℕ) → is_some o ≡ true → is_listed refs o ≡ true → (p : Picture) × (named refs o ≡ Some p)
named_there refs None there found = absurd cc
named_there refs (Some number) there found = found_there (listed refs number) found where
  found_there : (l : Option Picture) → is_some l ≡ true → (p : Picture) × (l ≡ Some p)
  found_there None e = absurd cc
  found_there (Some p) e = (p, refl)

-- it names none only where it isn't there
named_as : (refs : List Picture) (o : Option ℕ) → is_listed refs o ≡ true → is_some (named refs o) ≡ is_some o
named_as refs None found = refl
named_as refs (Some number) found = found

-- as many views as references
refs_as : (s : Settings) (p : Picture) (o : Option Picture) (refs : ℕ) → 1 ≤ refs → refs ≤ 2 → is_some o ≡ nat_le 2 refs → count_of_references (option_map (view_in s p) o) ≡ refs
refs_as s p None zero some most e = absurd (omega arith)
refs_as s p None (suc zero) some most e = refl
refs_as s p None (suc (suc zero)) some most e = absurd cc
refs_as s p None (suc (suc (suc n))) some most e = absurd (omega arith)
refs_as s p (Some r) zero some most e = absurd (omega arith)
refs_as s p (Some r) (suc zero) some most e = absurd cc
refs_as s p (Some r) (suc (suc zero)) some most e = refl
refs_as s p (Some r) (suc (suc (suc n))) some most e = absurd (omega arith)

-- no code has more than two
at_most_two : (code : ℕ) → references_of code ≤ 2
at_most_two code = elim (cases_Bool (code == 0x0D || code == 0x09)) [
  | inl one ↦ rw one (omega arith)
  | inr other ↦ rw other (elim (cases_Bool (code == 0x0E || code == 0x0A)) [
    | inl two ↦ rw two (omega arith)
    | inr none ↦ rw none (omega arith)
  ])
]

at_least_one : (n : ℕ) → nat_le 1 n ≡ true → 1 ≤ n
at_least_one zero e = absurd cc
at_least_one (suc n) e = omega arith

-- the views of a second reference are searched
pub second_searched : (s : Settings) (p : Picture) (o : Option Picture) → IsAccepted s → IsPicture (sequence_of s) p → ForSome (option_map (view_in s p) o) (IsSearched s p)
second_searched s p None a is r e = absurd cc
second_searched s p (Some other) a is r e = subst (λ (v : Option View). ForSome v (IsSearched s p)) refl (λ x f. subst (IsSearched s p) (same other x f) (is_searched s p other a is)) r e where
  same : (q : Picture) (x : View) → Some (view_in s p q) ≡ Some x → view_in s p q ≡ x
  same q x f = cc

-- the table from references that are there
pub fits_from : (s : Settings) (code : ℕ) (p first : Picture) (second : Option Picture) → IsAccepted s → IsPicture (sequence_of s) p
    → count_of_references (option_map (view_in s p) second) ≡ references_of code → IsChosen s code (blocks_from s p first second)
unfolding decided
fits_from s code p first second a is same =
    let d = deciding s p (view_in s p first) (option_map (view_in s p) second) in
    let cover = covered s p a is in
    let grid = grid_within s.blocks in
    let across = some_over p.y.width (grid_of s.blocks).xbsep cover.some_across (omega (arith, grid.columns.0)) in
    let down = some_over p.y.height (grid_of s.blocks).ybsep cover.some_down (omega (arith, grid.rows.0)) in
    let lawful = decided_lawful d (is_deciding s p (view_in s p first) (option_map (view_in s p) second) a is (is_searched s p first a is) (second_searched s p second a is)) across down in
    record {
      across = ap (λ n. superblocks_over n (grid_of s.blocks).xbsep) is.y.across;
      down = ap (λ n. superblocks_over n (grid_of s.blocks).ybsep) is.y.down;
      refs = same;
      table = lawful.table;
      dcs = lawful.samples;
    }

pub chosen_fits : (s : Settings) (refs : List Picture) (q : Planned) (p : Picture) → IsChoosing s refs q p → is_intra q.code ≡ false → IsChosen s q.code (chosen s refs q p)
unfolding chosen
chosen_fits s refs q p asked inter =
    let listed = and_parts (is_listed refs q.ref1) (is_listed refs q.ref2) asked.references.listed in
    let predicted = asked.predicted inter in
    let first = named_there refs q.ref1 (asked.header.first ∙ predicted) listed.0 in
    let many = refs_as s p (named refs q.ref2) (references_of q.code) (at_least_one (references_of q.code) predicted) (at_most_two q.code)
    (named_as refs q.ref2 listed.1 ∙ asked.header.second) in
    subst (λ (o : Option Picture). IsChosen s q.code (blocks_among s p o (named refs q.ref2))) (sym first.1)
    (fits_from s q.code p first.0 (named refs q.ref2) asked.accepted asked.source many)

-- the table from the references that were found
pub chosen_found : {E : Type 0} (s : Settings) (refs : List Picture) (q : Planned) (p first : Picture) (second : Option Picture) (r : Result BlockTable E)
    → named refs q.ref1 ≡ Some first → second ≡ named refs q.ref2 → IfOk r (λ t. t ≡ blocks_from s p first second) → IfOk r (λ t. t ≡ chosen s refs q p)
unfolding chosen
chosen_found s refs q p first second (Ok t) e f is =
    is ∙ ap (blocks_from s p first) f ∙ ap (λ o. blocks_among s p o (named refs q.ref2)) (sym e)
chosen_found s refs q p first second (Err stop) e f is = tt

pub fits_some : (s : Settings) (refs : List Picture) (q : Planned) (p : Picture) (t x : BlockTable) → IsChoosing s refs q p → is_intra q.code ≡ false
    → t ≡ chosen s refs q p → Some t ≡ Some x → IsChosen s q.code x
fits_some s refs q p t x asked inter is e =
    let same : t ≡ x = cc in
    subst (IsChosen s q.code) (sym is ∙ same) (chosen_fits s refs q p asked inter)

pub inter_has : (s : Settings) (refs : List Picture) (q : Planned) (p : Picture) (t : BlockTable) → is_intra q.code ≡ false → t ≡ chosen s refs q p
    → Some t ≡ chosen_unless_intra s refs q p
inter_has s refs q p t inter is = rw inter (ap Some is)
