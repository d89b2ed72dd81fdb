-- The quantiser index by which a picture's unit fits a budget of bytes.
use Rattle.std.specs.Prelude.{◌≡◌, ℕ, ◌+◌, ◌-◌, ◌≤◌, ◌<◌, nat_le, List, [], ◌∷◌, Option, None, Some, ◌⊎◌}
use Rattle.std.specs.List.{find, range_with_len}
use Rattle.dirac_common.specs.declared.limits.TheConstants.{LARGEST_INDEX}
use Rattle.dirac_common.specs.declared.picture.Picture.{Picture}
use Rattle.dirac_types.specs.declared.settings.Settings.{Settings}
use Rattle.dirac_types.specs.Settings.{IsAccepted}
use Rattle.dirac_motion.specs.Chosen.{at_index}
use Rattle.dirac_encode_laws.specs.Coding.{IndexRule, Job, made, made_under, own_index, refs_after}
use Rattle.dirac_encode_laws.specs.Stream.{picture_length}

-- the quantiser indices from this one to the last
abbrev pub indices_from : ℕ → List ℕ
indices_from index = range_with_len index (LARGEST_INDEX + 1 - index)

-- an index that was found, else the last
abbrev pub or_last : Option ℕ → ℕ
or_last None = LARGEST_INDEX
or_last (Some index) = index

-- where these are the lengths of a unit at each index: the first index from this one on at which it has at most that
-- many bytes, and the last where there is none. Lengths need not fall as the index grows
unfoldable pub least_fitting : (ℕ → ℕ) → ℕ → ℕ → ℕ
least_fitting lengths budget index = or_last (find (λ i. nat_le (lengths i) budget) (indices_from index))

-- the length of a planned source's unit at an index: 13 bytes of parse info, and its payload
abbrev pub length_at : Settings → List Picture → Job → ℕ → ℕ
length_at t refs j index = picture_length (made (at_index t index) refs j)

-- each picture has the least index, from the settings' on, whose unit has at most that many bytes
abbrev pub fit : ℕ → IndexRule
fit budget t refs j = least_fitting (length_at t refs j) budget t.index

-- the rule for the quantiser indices: where there is a budget the least by which the unit fits it, or the last; else
-- the settings' index
abbrev pub rule_of : Option ℕ → IndexRule
rule_of None = own_index
rule_of (Some budget) = fit budget

-- the least index, from the first on, at which a unit of these lengths fits the budget, or the last index; at each
-- before it the unit is too long
pub record IsLeast (lengths : ℕ → ℕ) (budget first index : ℕ) : Type 0 where
  pub from : first ≤ index
  pub last : index ≤ LARGEST_INDEX
  pub before : (i : ℕ) → first ≤ i → i < index → budget < lengths i
  pub fits : (lengths index ≤ budget) ⊎ (index ≡ LARGEST_INDEX)

-- a planned source's unit fits the budget, or at no index from the settings' on does it, and it has the last
abbrev pub FitsOrNone : ℕ → Settings → List Picture → Job → Type 0
FitsOrNone budget t refs j =
    (picture_length (made_under (fit budget) t refs j) ≤ budget)
    ⊎ ((fit budget t refs j ≡ LARGEST_INDEX)
    × ((index : ℕ) → t.index ≤ index → index ≤ LARGEST_INDEX → budget < length_at t refs j index))

-- each planned source's unit, with what is listed by then, fits the budget, or does so at no index from the settings'
-- on and has the last
abbrev pub AllFitOrNone : ℕ → Settings → List Picture → List Job → Type 0
AllFitOrNone budget t refs [] = Unit {0}
AllFitOrNone budget t refs (j ∷ jobs) =
    FitsOrNone budget t refs j × AllFitOrNone budget t (refs_after refs (made_under (fit budget) t refs j)) jobs

-- with accepted settings each planned source's unit fits a budget, whatever it is, or does so at no index from the
-- settings' on and has the last
abbrev pub BudgetsAreKept : Type 0
BudgetsAreKept =
    (budget : ℕ) (t : Settings) (refs : List Picture) (jobs : List Job) → IsAccepted t
    → AllFitOrNone budget t refs jobs
