-- Bytes that were read behind others.
use Rattle.std.proofs.Common.{◌≡◌, ◌∙◌, ℕ, ◌+◌, ◌≤◌, Bool, true, if◌then◌else◌, List, ◌++◌, length, take, Option, None, Some, sym, ap, arith, append_assoc, length-append, take_all, take-take}
use Rattle.std.specs.Io.KnownBytes.{Consumes, Keeps, prepend_known}
use Rattle.std.proofs.Math.Seq.{take-append-add, take-length}
use Rattle.std.proofs.lemmas.List.{length-take-le, take-append-le}

-- what was taken from a source stands behind the bytes held
pub taken_behind : (held held' : Option (List ℕ)) (bytes more : List ℕ) → Consumes held held' more → Keeps (prepend_known bytes held) (prepend_known (bytes ++ more) held')
taken_behind None held' bytes more takes = tt
taken_behind (Some xs) None bytes more takes = absurd takes
taken_behind (Some xs) (Some ys) bytes more takes = append_assoc bytes more ys ∙ ap (λ (l : List ℕ). bytes ++ l) (sym takes)

-- what stood there before room was made behind it
pub before_room : (a k : ℕ) (made : Bool) (old room all : List ℕ) → made ≡ true → all ≡ (if made then take (a + k) old ++ room else old) → a ≡ length old → take a all ≡ old
before_room a k made old room all is_made is whole =
    let long : length old ≤ a + k = omega (arith, whole) in
    let kept : take (a + k) old ≡ old = take_all (a + k) old long in
    let same : all ≡ old ++ room =
    is ∙ ap (λ (b : Bool). if b then take (a + k) old ++ room else old) is_made ∙ ap (λ (l : List ℕ). l ++ room) kept in
    ap (take a) same ∙ take-append-le a old room (omega (arith, whole)) ∙ ap (λ n. take n old) whole ∙ take-length old

-- the front of what was read into that room, once the rest of it is cut off
pub cut_room : (m w a n : ℕ) (all read post behind old new : List ℕ) → new ≡ take m (take w ((take a all ++ (read ++ post)) ++ behind)) → m ≤ w → m ≡ a + n → n ≤ length read → a ≤ length all → take a all ≡ old → new ≡ old ++ take n read
cut_room m w a n all read post behind old new is within parts fits inside kept =
    let front = take a all in
    let middle = read ++ post in
    let size : length front ≡ a = length-take-le a all inside in
    let long : m ≤ length (front ++ middle) = omega (arith, length-append front middle, length-append read post, size, parts, fits) in
    let place : m ≡ length front + n = omega (arith, size, parts) in
    is
    ∙ take-take m w ((front ++ middle) ++ behind) within
    ∙ take-append-le m (front ++ middle) behind long
    ∙ ap (λ j. take j (front ++ middle)) place
    ∙ take-append-add front middle n
    ∙ ap (λ (l : List ℕ). front ++ l) (take-append-le n read post fits)
    ∙ ap (λ (l : List ℕ). l ++ take n read) kept
