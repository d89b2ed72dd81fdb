-- The raw bytes of a picture that was made from bytes.
use Rattle.std.proofs.Common.{◌≡◌, ℕ, zero, suc, ◌+◌, ◌*◌, ◌<◌, ◌^◌, List, [], ◌∷◌, ◌++◌, map, take, drop, refl, sym, ap, ap₂, ◌∙◌, arith}
use Rattle.std.specs.List.{AllByRecursion}
use Rattle.std.proofs.lemmas.List.{take-append-drop, drop-drop}
use Rattle.dirac_content.specs.Raw.{byte_of, raw}
use Rattle.dirac_sources.specs.Sources.{picture_in, sample_of}

byte_again : (b : ℕ) → b < 2 ^ 8 → byte_of (sample_of b) ≡ b
byte_again b small = grind (arith, small)

bytes_again : (xs : List ℕ) → AllByRecursion (λ b. b < 2 ^ 8) xs → map byte_of (map sample_of xs) ≡ xs
bytes_again [] all = refl
bytes_again (x ∷ xs) all = ap₂ (λ (y : ℕ) (ys : List ℕ). y ∷ ys) (byte_again x all.0) (bytes_again xs all.1)

pub below_take : (n : ℕ) (xs : List ℕ) → AllByRecursion (λ b. b < 2 ^ 8) xs → AllByRecursion (λ b. b < 2 ^ 8) (take n xs)
below_take zero xs all = tt
below_take (suc n) [] all = tt
below_take (suc n) (x ∷ xs) all = (all.0, below_take n xs all.1)

pub below_drop : (n : ℕ) (xs : List ℕ) → AllByRecursion (λ b. b < 2 ^ 8) xs → AllByRecursion (λ b. b < 2 ^ 8) (drop n xs)
below_drop zero xs all = all
below_drop (suc n) [] all = tt
below_drop (suc n) (x ∷ xs) all = below_drop n xs all.1

-- the first part, the next, and all behind both
three_parts : (bytes : List ℕ) (a b : ℕ) → take a bytes ++ (take b (drop a bytes) ++ drop (a + b) bytes) ≡ bytes
three_parts bytes a b =
    ap (λ l. take a bytes ++ (take b (drop a bytes) ++ l)) (sym (drop-drop b a bytes)) ∙ ap (λ l. take a bytes ++ l) (take-append-drop b (drop a bytes)) ∙ take-append-drop a bytes

pub raw_again : (width height across down number : ℕ) (bytes : List ℕ) → AllByRecursion (λ b. b < 2 ^ 8) bytes → raw (picture_in width height across down number bytes) ≡ bytes
raw_again width height across down number bytes all =
    let a = width * height in
    let b = across * down in
    let y = bytes_again (take a bytes) (below_take a bytes all) in
    let u = bytes_again (take b (drop a bytes)) (below_take b (drop a bytes) (below_drop a bytes all)) in
    let v = bytes_again (drop (a + b) bytes) (below_drop (a + b) bytes all) in
    ap₂ (λ (l m : List ℕ). l ++ m) y (ap₂ (λ (l m : List ℕ). l ++ m) u v) ∙ three_parts bytes a b
