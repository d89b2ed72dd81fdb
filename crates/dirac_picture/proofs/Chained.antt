-- A plane whose blocks were found is read as its chains are.
use Rattle.std.proofs.Common.{◌≡◌, ℕ, zero, suc, ◌+◌, ◌-◌, ◌*◌, ◌/◌, ◌%◌, ◌<◌, ◌≤◌, ◌⊎◌, inl, inr, if◌then◌else◌, true, false, List, [], ◌∷◌, ◌++◌, length, length-append, take, Option, Some, Ok, refl, ap, ap₂, sym, subst, ◌∙◌, arith, append-nil, append_assoc}
use Rattle.std.specs.Prelude.{slice_get, nat_le}
use Rattle.std.proofs.lemmas.Option.{slice_get_within}
use Rattle.std.proofs.lemmas.List.{length-take-le}
use Rattle.std.proofs.lemmas.Bool.Decides.{nat_tests}
use Rattle.dirac_bits.specs.Cursor.{Cursor}
use Rattle.dirac_bits.specs.Syntax.{read}
use Rattle.dirac_parameters.specs.declared.transform.Transform.{Transform}
use Rattle.dirac_coeffs.specs.declared.layout.CodedBand.{CodedBand}
use Rattle.dirac_coeffs.specs.Grammar.{IsCodedBand}
use Rattle.dirac_coeffs.specs.Sites.{Found, band_at}
use Rattle.dirac_coeffs.proofs.Sited.{band_found}
use Rattle.dirac_picture.specs.Bands.{layout_of, parent_values, values_among}
use Rattle.dirac_picture.specs.Chains as chains
use Rattle.dirac_picture.specs.Chains.{values_before, AreSites, IsChain, IsWholeChain, PlanesAreReadByChains, ReadsPlane}
use Rattle.dirac_picture.specs.Fits.{AreBandsOf}
use Rattle.dirac_picture.specs.Grammar.{bands_behind}
use Rattle.dirac_picture.proofs.Behind.{all_bands, one_band}
use Rattle.dirac_picture.proofs.Taken.{taken_get}

-- bands one behind another, each of which reads to what it is
each_read : (t : Transform) (width height : ℕ) (xs : List (Option Found)) (before rest : List CodedBand) (more : ℕ) (c d : Cursor) → length xs ≡ more → length rest ≡ more → AreSites c xs d
    → ((n : ℕ) (x : Option Found) (b : CodedBand) → slice_get xs n ≡ Some x → slice_get rest n ≡ Some b
    → band_at (layout_of t width height (length before + n)) (parent_values (before ++ take n rest)) x ≡ Ok b)
    → read (bands_behind t width height before more) c ≡ Ok (before ++ rest, d)
each_read t width height [] before [] zero c d e f sites each =
    all_bands t width height before c ∙ ap₂ (λ (l : List CodedBand) (p : Cursor). Ok (l, p)) (sym (append-nil before)) sites
each_read t width height [] before rest (suc more) c d e f sites each = absurd (omega (arith, e))
each_read t width height xs before [] (suc more) c d e f sites each = absurd (omega (arith, f))
each_read t width height (x ∷ xs) before rest zero c d e f sites each = absurd (omega (arith, e))
each_read t width height xs before (b ∷ rest) zero c d e f sites each = absurd (omega (arith, f))
each_read t width height (x ∷ xs) before (b ∷ rest) (suc more) c d e f sites each =
    let at : length before + 0 ≡ length before = omega arith in
    let here : band_at (layout_of t width height (length before)) (parent_values before) x ≡ Ok b =
    subst (λ n. band_at (layout_of t width height n) (parent_values before) x ≡ Ok b) at
    (subst (λ (p : List CodedBand). band_at (layout_of t width height (length before + 0)) (parent_values p) x ≡ Ok b) (append-nil before) (each 0 x b refl refl)) in
    let one = band_found (layout_of t width height (length before)) (parent_values before) c sites.0 x b sites.1 here in
    let less : suc more - 1 ≡ more = omega arith in
    one_band t width height before (suc more) c sites.0 b (omega arith) one
    ∙ ap (λ m. read (bands_behind t width height (before ++ b ∷ []) m) sites.0) less
    ∙ each_read t width height xs (before ++ b ∷ []) rest more sites.0 d (omega (arith, e)) (omega (arith, f)) sites.2
    (λ n y a isy isa.
    let place : length (before ++ b ∷ []) + n ≡ length before + suc n = omega (arith, length-append before (b ∷ [])) in
    subst (λ i. band_at (layout_of t width height i) (parent_values ((before ++ b ∷ []) ++ take n rest)) y ≡ Ok a) (sym place)
    (subst (λ (p : List CodedBand). band_at (layout_of t width height (length before + suc n)) (parent_values p) y ≡ Ok a) (sym (append_assoc before (b ∷ []) (take n rest))) (each (suc n) y a isy isa)))
    ∙ ap (λ (k : List CodedBand). Ok (k, d)) (append_assoc before (b ∷ []) rest)

-- places in woven chains
get_hl : (hl lh hh : List CodedBand) (k : ℕ) → length lh ≡ length hl → length hh ≡ length hl → slice_get (chains.woven hl lh hh) (3 * k) ≡ slice_get hl k
get_hl [] lh hh k e f = refl
get_hl (a ∷ xs) [] hh k e f = absurd (omega (arith, e))
get_hl (a ∷ xs) (b ∷ ys) [] k e f = absurd (omega (arith, f))
get_hl (a ∷ xs) (b ∷ ys) (c ∷ zs) zero e f = refl
get_hl (a ∷ xs) (b ∷ ys) (c ∷ zs) (suc k) e f =
    let at : 3 * suc k ≡ suc (suc (suc (3 * k))) = omega arith in
    ap (slice_get (a ∷ b ∷ c ∷ chains.woven xs ys zs)) at ∙ get_hl xs ys zs k (omega (arith, e)) (omega (arith, f))

get_lh : (hl lh hh : List CodedBand) (k : ℕ) → length lh ≡ length hl → length hh ≡ length hl → slice_get (chains.woven hl lh hh) (3 * k + 1) ≡ slice_get lh k
get_lh [] [] hh k e f = refl
get_lh [] (b ∷ ys) hh k e f = absurd (omega (arith, e))
get_lh (a ∷ xs) [] hh k e f = absurd (omega (arith, e))
get_lh (a ∷ xs) (b ∷ ys) [] k e f = absurd (omega (arith, f))
get_lh (a ∷ xs) (b ∷ ys) (c ∷ zs) zero e f = refl
get_lh (a ∷ xs) (b ∷ ys) (c ∷ zs) (suc k) e f =
    let at : 3 * suc k + 1 ≡ suc (suc (suc (3 * k + 1))) = omega arith in
    ap (slice_get (a ∷ b ∷ c ∷ chains.woven xs ys zs)) at ∙ get_lh xs ys zs k (omega (arith, e)) (omega (arith, f))

get_hh : (hl lh hh : List CodedBand) (k : ℕ) → length lh ≡ length hl → length hh ≡ length hl → slice_get (chains.woven hl lh hh) (3 * k + 2) ≡ slice_get hh k
get_hh [] lh [] k e f = refl
get_hh [] lh (c ∷ zs) k e f = absurd (omega (arith, f))
get_hh (a ∷ xs) [] hh k e f = absurd (omega (arith, e))
get_hh (a ∷ xs) (b ∷ ys) [] k e f = absurd (omega (arith, f))
get_hh (a ∷ xs) (b ∷ ys) (c ∷ zs) zero e f = refl
get_hh (a ∷ xs) (b ∷ ys) (c ∷ zs) (suc k) e f =
    let at : 3 * suc k + 2 ≡ suc (suc (suc (3 * k + 2))) = omega arith in
    ap (slice_get (a ∷ b ∷ c ∷ chains.woven xs ys zs)) at ∙ get_hh xs ys zs k (omega (arith, e)) (omega (arith, f))

woven_length : (hl lh hh : List CodedBand) → length lh ≡ length hl → length hh ≡ length hl → length (chains.woven hl lh hh) ≡ 3 * length hl
woven_length [] lh hh e f = refl
woven_length (a ∷ xs) [] hh e f = absurd (omega (arith, e))
woven_length (a ∷ xs) (b ∷ ys) [] e f = absurd (omega (arith, f))
woven_length (a ∷ xs) (b ∷ ys) (c ∷ zs) e f =
    let rest = woven_length xs ys zs (omega (arith, e)) (omega (arith, f)) in omega (arith, rest)

three : (m : ℕ) → m < 3 → (m ≡ 0) ⊎ ((m ≡ 1) ⊎ (m ≡ 2))
three zero l = inl refl
three (suc zero) l = inr (inl refl)
three (suc (suc zero)) l = inr (inr refl)
three (suc (suc (suc m))) l = absurd (omega arith)

some_same : {X : Type 0} (x y : X) → Some x ≡ Some y → x ≡ y
some_same x y e = cc

-- what holds of each band of the chains by its place holds of all
each_woven : (P : ℕ → CodedBand → Type 0) (z : CodedBand) (hl lh hh : List CodedBand) → length lh ≡ length hl → length hh ≡ length hl → P 0 z
    → ((k : ℕ) (b : CodedBand) → slice_get hl k ≡ Some b → P (1 + 3 * k) b)
    → ((k : ℕ) (b : CodedBand) → slice_get lh k ≡ Some b → P (2 + 3 * k) b)
    → ((k : ℕ) (b : CodedBand) → slice_get hh k ≡ Some b → P (3 + 3 * k) b)
    → (n : ℕ) (b : CodedBand) → slice_get (z ∷ chains.woven hl lh hh) n ≡ Some b → P n b
each_woven P z hl lh hh e f one across down both zero b is = subst (P 0) (some_same z b is) one
each_woven P z hl lh hh e f one across down both (suc m) b is =
    elim (three (m % 3) (omega arith)) [
      | inl j ↦
          let at : 3 * (m / 3) ≡ m = omega (arith, j) in
          let place : 1 + 3 * (m / 3) ≡ suc m = omega (arith, j) in
          subst (λ n. P n b) place (across (m / 3) b (sym (get_hl hl lh hh (m / 3) e f) ∙ ap (slice_get (chains.woven hl lh hh)) at ∙ is))
      | inr more ↦ elim more [
        | inl j ↦
            let at : 3 * (m / 3) + 1 ≡ m = omega (arith, j) in
            let place : 2 + 3 * (m / 3) ≡ suc m = omega (arith, j) in
            subst (λ n. P n b) place (down (m / 3) b (sym (get_lh hl lh hh (m / 3) e f) ∙ ap (slice_get (chains.woven hl lh hh)) at ∙ is))
        | inr j ↦
            let at : 3 * (m / 3) + 2 ≡ m = omega (arith, j) in
            let place : 3 + 3 * (m / 3) ≡ suc m = omega (arith, j) in
            subst (λ n. P n b) place (both (m / 3) b (sym (get_hh hl lh hh (m / 3) e f) ∙ ap (slice_get (chains.woven hl lh hh)) at ∙ is))
      ]
    ]

-- parents
few_four : (n : ℕ) → n < 4 → nat_le 4 n ≡ false
few_four n l = grind (arith, nat_tests, l)

many_four : (n : ℕ) → 4 ≤ n → nat_le 4 n ≡ true
many_four n l = grind (arith, nat_tests, l)

-- LL and the bands of level 1 have none
parent_low : (before : List CodedBand) → length before < 4 → parent_values before ≡ []
unfolding parent_values
parent_low before few =
    ap (λ t. if t then values_among (slice_get before (length before - 3)) else []) (few_four (length before) few)

parent_high : (before : List CodedBand) (p : Option CodedBand) → 4 ≤ length before → slice_get before (length before - 3) ≡ p → parent_values before ≡ values_among p
unfolding parent_values
parent_high before p many is =
    ap (λ t. if t then values_among (slice_get before (length before - 3)) else []) (many_four (length before) many) ∙ ap values_among is

-- the parent of a band is the one before it in its chain
chain_parent : (bands chain : List CodedBand) (first k : ℕ) → first + 3 * k < length bands → 1 ≤ first → first ≤ 3
    → ((i : ℕ) → slice_get bands (first + 3 * i) ≡ slice_get chain i) → parent_values (take (first + 3 * k) bands) ≡ values_before chain k
chain_parent bands chain first zero inside some few same =
    let len : length (take (first + 3 * 0) bands) ≡ first + 3 * 0 = length-take-le (first + 3 * 0) bands (omega (arith, inside)) in
    parent_low (take (first + 3 * 0) bands) (omega (arith, len, few))
chain_parent bands chain first (suc i) inside some few same =
    let n : ℕ = first + 3 * suc i in
    let len : length (take n bands) ≡ n = length-take-le n bands (omega (arith, inside)) in
    let before : length (take n bands) - 3 ≡ first + 3 * i = omega (arith, len) in
    parent_high (take n bands) (slice_get chain i) (omega (arith, len, some))
    (ap (slice_get (take n bands)) before ∙ taken_get bands n (first + 3 * i) (omega arith) ∙ same i)

-- a band of a chain is read behind those before it in its plane
in_chain : (t : Transform) (width height : ℕ) (sites : List (Option Found)) (bands chain : List CodedBand) (first k : ℕ) (b : CodedBand)
    → IsChain t width height sites first chain → 1 ≤ first → first ≤ 3 → ((i : ℕ) → slice_get bands (first + 3 * i) ≡ slice_get chain i)
    → slice_get chain k ≡ Some b → (x : Option Found) → slice_get sites (first + 3 * k) ≡ Some x
    → band_at (layout_of t width height (first + 3 * k)) (parent_values (take (first + 3 * k) bands)) x ≡ Ok b
in_chain t width height sites bands chain first k b is some few same isb x isx =
    let parent = chain_parent bands chain first k (slice_get_within bands (first + 3 * k) b (same k ∙ isb)) some few same in
    subst (λ p. band_at (layout_of t width height (first + 3 * k)) p x ≡ Ok b) (sym parent) (is k x b isx isb)

-- all bands of a plane
read_whole : (t : Transform) (width height : ℕ) (sites : List (Option Found)) (z : CodedBand) (hl lh hh : List CodedBand)
    → length sites ≡ 3 * t.depth + 1
    → IsWholeChain t width height sites 0 (z ∷ []) → IsWholeChain t width height sites 1 hl
    → IsWholeChain t width height sites 2 lh → IsWholeChain t width height sites 3 hh
    → ReadsPlane t width height sites (z ∷ chains.woven hl lh hh)
read_whole t width height sites z hl lh hh count lowest across down both c d are =
    let w = chains.woven hl lh hh in
    let e : length lh ≡ length hl = down.count ∙ sym across.count in
    let f : length hh ≡ length hl = both.count ∙ sym across.count in
    let len : length w ≡ 3 * length hl = woven_length hl lh hh e f in
    each_read t width height sites [] (z ∷ w) (3 * t.depth + 1) c d count (omega (arith, len, across.count)) are
    (λ n x b isx isb.
    let place : 0 + n ≡ n = omega arith in
    subst (λ i. band_at (layout_of t width height i) (parent_values (take n (z ∷ w))) x ≡ Ok b) (sym place)
    (each_woven (λ i a. (y : Option Found) → slice_get sites i ≡ Some y → band_at (layout_of t width height i) (parent_values (take i (z ∷ w))) y ≡ Ok a) z hl lh hh e f
    (λ y isy.
    subst (λ p. band_at (layout_of t width height 0) p y ≡ Ok z) (sym (parent_low [] (omega arith))) (lowest.read 0 y z isy refl))
    (λ k a isa. in_chain t width height sites (z ∷ w) hl 1 k a across.read (omega arith) (omega arith)
    (λ i. ap (slice_get (z ∷ w)) (let at : 1 + 3 * i ≡ suc (3 * i) = omega arith in at) ∙ get_hl hl lh hh i e f) isa)
    (λ k a isa. in_chain t width height sites (z ∷ w) lh 2 k a down.read (omega arith) (omega arith)
    (λ i. ap (slice_get (z ∷ w)) (let at : 2 + 3 * i ≡ suc (3 * i + 1) = omega arith in at) ∙ get_lh hl lh hh i e f) isa)
    (λ k a isa. in_chain t width height sites (z ∷ w) hh 3 k a both.read (omega arith) (omega arith)
    (λ i. ap (slice_get (z ∷ w)) (let at : 3 + 3 * i ≡ suc (3 * i + 2) = omega arith in at) ∙ get_hh hl lh hh i e f) isa)
    n b isb x isx))

lawful_whole : (t : Transform) (width height : ℕ) (sites : List (Option Found)) (z : CodedBand) (hl lh hh : List CodedBand)
    → IsWholeChain t width height sites 0 (z ∷ []) → IsWholeChain t width height sites 1 hl
    → IsWholeChain t width height sites 2 lh → IsWholeChain t width height sites 3 hh
    → AreBandsOf t width height (z ∷ chains.woven hl lh hh)
lawful_whole t width height sites z hl lh hh lowest across down both =
    let e : length lh ≡ length hl = down.count ∙ sym across.count in
    let f : length hh ≡ length hl = both.count ∙ sym across.count in
    let len : length (chains.woven hl lh hh) ≡ 3 * length hl = woven_length hl lh hh e f in
    record {
      count = omega (arith, len, across.count);
      each =
          each_woven (λ i a. IsCodedBand (layout_of t width height i) a) z hl lh hh e f (lowest.lawful 0 z refl)
          (λ k a isa. across.lawful k a isa) (λ k a isa. down.lawful k a isa) (λ k a isa. both.lawful k a isa);
    }

pub planes_are_read_by_chains : PlanesAreReadByChains
planes_are_read_by_chains t width height sites [] hl lh hh whole lowest across down both = absurd (omega (arith, lowest.count))
planes_are_read_by_chains t width height sites (z ∷ y ∷ zs) hl lh hh whole lowest across down both = absurd (omega (arith, lowest.count))
planes_are_read_by_chains t width height sites (z ∷ []) hl lh hh whole lowest across down both =
    (read_whole t width height sites z hl lh hh whole.count lowest across down both, lawful_whole t width height sites z hl lh hh lowest across down both)
