-- How many more words can fit: each that does gives a setting its value, or the path, or the number of pictures, or the
-- budget.
use Rattle.std.proofs.Common.{◌≡◌, Bool, ℕ, zero, suc, ◌+◌, ◌≤◌, ◌&&◌, ◌||◌, true, false, cond, drop, List, [], ◌∷◌}
use Rattle.std.proofs.Common.{◌++◌, refl, ap, ◌∙◌, inl, inr, Option, Some, None, arith}
use Rattle.std.specs.Prelude.{is_some, is_none}
use Rattle.std.specs.List.{list_any}
use Rattle.std.specs.Option.{option_or}
use Rattle.std.proofs.lemmas.Bool.{or_cases}
use Rattle.dirac_types.specs.declared.settings.Name.{Name}
use Rattle.dirac_types.specs.declared.settings.Name.TheVariants as name
use Rattle.dirac_command_line.specs.declared.options.OptionsOf.{OptionsOf}
use Rattle.dirac_command_line.specs.declared.options.OptionsOf.TheVariants as options_of
use Rattle.dirac_command_line.specs.Options.{names, value_in, value_given, path_in, path_given, is_new_setting}
use Rattle.dirac_command_line.specs.Options.{is_new_path, fits}

-- 1 where there is no value yet
abbrev pub wanting : {A : Type 0} → Option A → ℕ
wanting o = cond (is_none o) 1 0

-- the settings of these names to which the words give no value
abbrev pub without_value : List (List ℕ) → List Name → ℕ
without_value before [] = 0
without_value before (name ∷ names) = wanting (value_given name before) + without_value before names

-- how many more words can fit behind these
unfoldable pub room : List (List ℕ) → ℕ
room before =
    without_value before names
    + (wanting (path_given before) + (wanting (value_given name.Count before) + wanting (value_given name.Budget before)))

-- at first all settings, the path, the number and the budget
pub room_first : room [] ≡ 29
unfolding room
room_first = refl

fewer : {A : Type 0} (before here : Option A) → wanting (option_or before here) ≤ wanting before
fewer None None = omega arith
fewer None (Some x) = omega arith
fewer (Some x) here = omega arith

one_fewer : {A : Type 0} (before here : Option A) → (is_some here && is_none before) ≡ true
    → wanting (option_or before here) + 1 ≤ wanting before
one_fewer None None new = cc
one_fewer None (Some x) new = omega arith
one_fewer (Some x) None new = cc
one_fewer (Some x) (Some y) new = cc

option_or_assoc : {A : Type 0} (a b c : Option A) → option_or a (option_or b c) ≡ option_or (option_or a b) c
option_or_assoc None b c = refl
option_or_assoc (Some x) b c = refl

option_or_none : {A : Type 0} (a : Option A) → option_or a None ≡ a
option_or_none None = refl
option_or_none (Some x) = refl

-- the value behind one more word
value_pushed : (name : Name) (before : List (List ℕ)) (word : List ℕ)
    → value_given name (before ++ word ∷ []) ≡ option_or (value_given name before) (value_in name word)
value_pushed name [] word = option_or_none (value_in name word)
value_pushed name (first ∷ before) word =
    ap (option_or (value_in name first)) (value_pushed name before word) ∙ option_or_assoc (value_in name first) (value_given name before) (value_in name word)

-- the path behind one more word
path_pushed : (before : List (List ℕ)) (word : List ℕ)
    → path_given (before ++ word ∷ []) ≡ option_or (path_given before) (path_in word)
path_pushed [] word = option_or_none (path_in word)
path_pushed (first ∷ before) word =
    ap (option_or (path_in first)) (path_pushed before word) ∙ option_or_assoc (path_in first) (path_given before) (path_in word)

-- one more word takes no value away
kept : (before : List (List ℕ)) (word : List ℕ) (ns : List Name)
    → without_value (before ++ word ∷ []) ns ≤ without_value before ns
kept before word [] = omega arith
kept before word (name ∷ ns) =
    let here = fewer (value_given name before) (value_in name word) in
    omega (arith, kept before word ns, ap wanting (value_pushed name before word))

-- a new setting's word gives one more of them its value
one_set : (before : List (List ℕ)) (word : List ℕ) (ns : List Name) → list_any (is_new_setting before word) ns ≡ true
    → without_value (before ++ word ∷ []) ns + 1 ≤ without_value before ns
unfolding is_new_setting
one_set before word [] any = cc
one_set before word (name ∷ ns) any =
    let pushed = ap wanting (value_pushed name before word) in
    elim (or_cases (is_new_setting before word name) (list_any (is_new_setting before word) ns) any) [
      | inl new ↦ omega (arith, one_fewer (value_given name before) (value_in name word) new, kept before word ns, pushed)
      | inr later ↦ omega (arith, fewer (value_given name before) (value_in name word), one_set before word ns later, pushed)
    ]

-- one of them is a later one
later : (b c : Bool) → c ≡ true → (b || c) ≡ true
later true c is = refl
later false c is = is

any_behind : (f : Name → Bool) (n : ℕ) (ns : List Name) → list_any f (drop n ns) ≡ true → list_any f ns ≡ true
any_behind f zero ns any = any
any_behind f (suc n) [] any = cc
any_behind f (suc n) (name ∷ ns) any = later (f name) (list_any f ns) (any_behind f n ns any)

workers_named : (f : Name → Bool) → f name.Workers ≡ true → list_any f names ≡ true
workers_named f is =
    any_behind f 22 names (ap (λ b. b || list_any f (name.Pictures ∷ name.UnitBytes ∷ name.Alike ∷ [])) is)

-- a word that fits takes some of the room
pub room_taken : (of : OptionsOf) (before : List (List ℕ)) (word : List ℕ) → fits of before word ≡ true
    → room (before ++ word ∷ []) + 1 ≤ room before
unfolding room fits is_new_path is_new_setting
room_taken of before word fit = by of fit
  where
    pushed : wanting (path_given (before ++ word ∷ [])) ≡ wanting (option_or (path_given before) (path_in word))
    pushed = ap wanting (path_pushed before word)

    valued : (n : Name)
        → wanting (value_given n (before ++ word ∷ [])) ≡ wanting (option_or (value_given n before) (value_in n word))
    valued n = ap wanting (value_pushed n before word)

    path : wanting (option_or (path_given before) (path_in word)) ≤ wanting (path_given before)
    path = fewer (path_given before) (path_in word)

    value : (n : Name) → wanting (option_or (value_given n before) (value_in n word)) ≤ wanting (value_given n before)
    value n = fewer (value_given n before) (value_in n word)

    -- a setting, or the path, or a value beside the settings
    set : list_any (is_new_setting before word) names ≡ true → room (before ++ word ∷ []) + 1 ≤ room before
    set any = omega (arith, one_set before word names any, path, pushed, valued name.Count, value name.Count, valued name.Budget, value name.Budget)

    to : is_new_path before word ≡ true → room (before ++ word ∷ []) + 1 ≤ room before
    to new = omega (arith, kept before word names, one_fewer (path_given before) (path_in word) new, pushed, valued name.Count, value name.Count, valued name.Budget, value name.Budget)

    counted : is_new_setting before word name.Count ≡ true → room (before ++ word ∷ []) + 1 ≤ room before
    counted new = omega (arith, kept before word names, one_fewer (value_given name.Count before) (value_in name.Count word) new, path, pushed, valued name.Count, valued name.Budget, value name.Budget)

    budgeted : is_new_setting before word name.Budget ≡ true → room (before ++ word ∷ []) + 1 ≤ room before
    budgeted new = omega (arith, kept before word names, one_fewer (value_given name.Budget before) (value_in name.Budget word) new, path, pushed, valued name.Count, value name.Count, valued name.Budget)

    by : (of : OptionsOf) → fits of before word ≡ true → room (before ++ word ∷ []) + 1 ≤ room before
    by options_of.Encode fit =
        elim (or_cases (list_any (is_new_setting before word) names) (is_new_path before word) fit) [ inl any ↦ set any | inr new ↦ to new ]
    by options_of.Make fit =
        elim (or_cases (list_any (is_new_setting before word) names) (is_new_setting before word name.Count) fit) [ inl any ↦ set any | inr new ↦ counted new ]
    by options_of.Rate fit =
        elim (or_cases (list_any (is_new_setting before word) names || is_new_path before word) (is_new_setting before word name.Budget) fit) [
          | inl other ↦ elim (or_cases (list_any (is_new_setting before word) names) (is_new_path before word) other) [ inl any ↦ set any | inr new ↦ to new ]
          | inr new ↦ budgeted new
        ]
    by options_of.Pardecode fit = set (workers_named (is_new_setting before word) fit)
