-- Parts of lists that were read or written.
use Rattle.std.proofs.Common.{◌≡◌, ℕ, ◌+◌, ◌-◌, ◌≤◌, List, ◌++◌, length, take, drop, sym, ap, ◌∙◌, append_assoc, arith}
use Rattle.std.proofs.lemmas.List.{take-append-drop, take_rest, drop-drop, length-take-le, take-append-le}
use Rattle.std.proofs.Math.Seq.{take-length}
use Rattle.std.specs.Prelude.{Some, min}
use Rattle.std.proofs.Common.{◌^◌, ◌<◌, length-drop, length-append}
use Rattle.dirac_io.specs.Reading.{GivesFront}
use Rattle.dirac_io.specs.Memory.{count_left}

-- a front of the piece was written, and n more bytes of the rest
pub written_more : {A : Type 0} (piece front rest : List A) (n : ℕ) → piece ≡ front ++ rest
    → piece ≡ (front ++ take n rest) ++ take (length rest - n) (drop n rest)
written_more piece front rest n is =
    is ∙ ap (λ l. front ++ l) (sym (take-append-drop n rest) ∙ ap (λ l. take n rest ++ l) (sym (take_rest rest n)))
    ∙ sym (append_assoc front (take n rest) (take (length rest - n) (drop n rest)))

-- the bytes copied to the front of a buffer are those that the list lost
pub copied_front : (n from : ℕ) (items copied behind : List ℕ) → n ≤ length (drop from items) → copied ≡ take n (drop from items)
    → drop from items ≡ take n (copied ++ behind) ++ drop (from + n) items
copied_front n from items copied behind room is =
    let whole : length copied ≡ n = ap length is ∙ length-take-le n (drop from items) room in
    let fits : n ≤ length copied = omega arith in
    let front : take n (copied ++ behind) ≡ take n copied = take-append-le n copied behind fits in
    let all : take n copied ≡ copied = ap (λ k. take k copied) (sym whole) ∙ take-length copied in
    sym (take-append-drop n (drop from items))
    ∙ ap (λ l. l ++ drop n (drop from items)) (sym (front ∙ all ∙ is))
    ∙ ap (λ l. take n (copied ++ behind) ++ l) (drop-drop n from items)

-- what a read of a source in memory gives
pub gives_front : (n from most : ℕ) (items bytes rest copied buf : List ℕ)
    → drop from items ≡ bytes → rest ≡ drop from items → 1 ≤ most → 0 < length buf → 0 < length rest
    → length items < 2 ^ 63 → n ≡ min (min most (length buf)) (length rest) → copied ≡ take n rest
    → GivesFront n (copied ++ drop n buf) (Some bytes) (Some (drop (from + n) items)) (count_left bytes) (count_left (drop (from + n) items))
gives_front n from most items bytes rest copied buf is_bytes is_rest some_most some_room some_rest small is_n is_copied =
    let same : length rest ≡ length (drop from items) = ap length is_rest in
    let within : n ≤ length (drop from items) = omega arith in
    let whole : length copied ≡ n = ap length is_copied ∙ length-take-le n rest (omega arith) in
    record {
      some = omega arith;
      room = omega (arith, length-append copied (drop n buf), length-drop n buf);
      given = sym is_bytes ∙ copied_front n from items copied (drop n buf) within (is_copied ∙ ap (take n) is_rest);
      lower = omega (arith, ap length is_bytes, length-drop from items, length-drop (from + n) items);
    }
