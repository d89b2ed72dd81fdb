-- Raw pictures in bytes.
use Rattle.std.proofs.Common.{◌≡◌, ℕ, zero, suc, ◌+◌, ◌-◌, ◌*◌, ◌/◌, ◌%◌, ◌<◌, ◌≤◌, List, [], ◌∷◌, ◌++◌, length, take, drop, refl, sym, ap, ◌∙◌, arith}
use Rattle.std.proofs.Math.Nat.{mul-add-div_right}
use Rattle.std.proofs.Math.Seq.{take-add, take-append_seam, drop-append_seam}
use Rattle.std.proofs.lemmas.Nat.{div-mul-add, mod-mul-add}
use Rattle.std.proofs.lemmas.List.{drop-drop}
use Rattle.dirac_types.specs.declared.settings.Settings.{Settings}
use Rattle.dirac_sources.specs.Sources.{picture_from, pictures_in, raw_length}
use Rattle.dirac_encode_laws.specs.Laws.{AreNumbered}

pub length-pictures_in : (t : Settings) (count number : ℕ) (bytes : List ℕ) → length (pictures_in t count number bytes) ≡ count
unfolding pictures_in
length-pictures_in t zero number bytes = refl
length-pictures_in t (suc count) number bytes = ap suc (length-pictures_in t count (number + 1) (drop (raw_length t) bytes))

pub numbered_in : (t : Settings) (count number : ℕ) (bytes : List ℕ) → AreNumbered number (pictures_in t count number bytes)
unfolding pictures_in
numbered_in t zero number bytes = tt
numbered_in t (suc count) number bytes = (refl, numbered_in t count (number + 1) (drop (raw_length t) bytes))

-- so many pictures, and then others
pub pictures_parts : (t : Settings) (n m k all next place : ℕ) (bytes : List ℕ) → all ≡ n + m → next ≡ k + n → place ≡ n * raw_length t
    → pictures_in t all k bytes ≡ pictures_in t n k bytes ++ pictures_in t m next (drop place bytes)
unfolding pictures_in
pictures_parts t zero m k all next place bytes a b c =
    let count : all ≡ m = omega (arith, a) in
    let number : k ≡ next = omega (arith, b) in
    let start : 0 ≡ place = omega (arith, c) in
    ap (λ n. pictures_in t n k bytes) count ∙ ap (λ n. pictures_in t m n bytes) number ∙ ap (λ n. pictures_in t m next (drop n bytes)) start
pictures_parts t (suc n) m k zero next place bytes a b c = absurd (omega (arith, a))
pictures_parts t (suc n) m k (suc all) next place bytes a b c =
    let r = raw_length t in
    let there : r + n * r ≡ place = omega (arith, c) in
    ap (λ l. picture_from t k (take r bytes) ∷ l)
    (pictures_parts t n m (k + 1) all next (n * r) (drop r bytes) (omega (arith, a)) (omega (arith, b)) refl
    ∙ ap (λ l. pictures_in t n (k + 1) (drop r bytes) ++ pictures_in t m next l) (drop-drop (n * r) r bytes ∙ ap (λ p. drop p bytes) there))

-- one picture more
pub picture_more : (t : Settings) (n : ℕ) (bytes chunk rest : List ℕ) → drop (n * raw_length t) bytes ≡ chunk ++ rest → length chunk ≡ raw_length t
    → pictures_in t (n + 1) 0 bytes ≡ pictures_in t n 0 bytes ++ picture_from t n chunk ∷ []
unfolding pictures_in
picture_more t n bytes chunk rest is whole =
    let r = raw_length t in
    let first : take r (drop (n * r) bytes) ≡ chunk = ap (take r) is ∙ ap (λ k. take k (chunk ++ rest)) (sym whole) ∙ take-append_seam chunk rest in
    pictures_parts t n 1 0 (n + 1) n (n * r) bytes refl (omega arith) refl ∙ ap (λ c. pictures_in t n 0 bytes ++ picture_from t n c ∷ []) first

-- the bytes behind one picture more, and those before it
pub rest_more : (n r place : ℕ) (bytes chunk rest : List ℕ) → drop (n * r) bytes ≡ chunk ++ rest → length chunk ≡ r → place ≡ (n + 1) * r → drop place bytes ≡ rest
rest_more n r place bytes chunk rest is whole next =
    let there : place ≡ n * r + r = omega (arith, next) in
    ap (λ p. drop p bytes) there ∙ sym (drop-drop r (n * r) bytes) ∙ ap (drop r) is ∙ ap (λ k. drop k (chunk ++ rest)) (sym whole) ∙ drop-append_seam chunk rest

pub front_more : (n r place : ℕ) (bytes chunk rest : List ℕ) → drop (n * r) bytes ≡ chunk ++ rest → length chunk ≡ r → place ≡ (n + 1) * r → take place bytes ≡ take (n * r) bytes ++ chunk
front_more n r place bytes chunk rest is whole next =
    let there : place ≡ n * r + r = omega (arith, next) in
    ap (λ p. take p bytes) there ∙ take-add (n * r) r bytes
    ∙ ap (λ l. take (n * r) bytes ++ l) (ap (take r) is ∙ ap (λ k. take k (chunk ++ rest)) (sym whole) ∙ take-append_seam chunk rest)

-- how many are whole, where so many bytes are left over
pub whole_count : (n r k len : ℕ) → len ≡ n * r + k → k < r → len / r ≡ n
whole_count n r k len e small = ap (λ l. l / r) e ∙ div-mul-add n r k small

pub left_count : (n r k len : ℕ) → len ≡ n * r + k → k < r → len % r ≡ k
left_count n r k len e small = ap (λ l. l % r) e ∙ mod-mul-add n r k small

-- one more is whole
pub whole_more : (n r len : ℕ) → n * r + r ≤ len → 1 ≤ r → n + 1 ≤ len / r
whole_more n r len e some =
    let more : len ≡ (n + 1) * r + (len - (n * r + r)) = omega (arith, e) in
    let parts : len / r ≡ n + 1 + (len - (n * r + r)) / r = ap (λ l. l / r) more ∙ mul-add-div_right some (n + 1) (len - (n * r + r)) in
    omega (arith, parts)
