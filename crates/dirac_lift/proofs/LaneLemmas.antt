-- What operations on eight lanes leave in each of them.
use Rattle.std.proofs.Common.{◌≡◌, ℕ, zero, suc, ℤ, pos, negsuc, ◌+◌, ◌*◌, ◌^◌, ◌<◌, ◌≤◌, ◌+ℤ◌, unsigned_abs, List, [], ◌∷◌, ◌++◌, length, get_or, map, to_z, of_z, arith, ap, ap₂, sym, refl, subst, ◌∙◌}
use Rattle.std.specs.Int.{w32, int_shr}
use Rattle.std.proofs.lemmas.Int.{ints, to_z-of_z, fits_signed_from_abs}
use Rattle.std.proofs.lemmas.List.{length-map, get_or-map, get_or_append_left, get_or-append-add}
use Rattle.std.proofs.lemmas.Nat.{pow_pos}
use Rattle.std.proofs.lemmas.Simd.{get_or-chunk, length-chunk, get_or-put_chunk_at, get_or-put_chunk_below, get_or-put_chunk_above, length-put_chunk, get_or-zip2, length-zip2}
use Rattle.std.proofs.Math.Nat.{div-le_self}
use lib.Lanes.{zip2, Each2, chunk, pick_l, put_chunk}
use lib.Signed.{shr_z}
use mir.Val.{SFits}
use Rattle.dirac_lift.specs.Lanes.{AreInTurn, AreLanes, IsEight, RunPut, lane}

-- lanes that hold f, lane by lane
pub lanes_same : (f g : ℕ → ℤ) (v : List ℤ) → AreLanes f v → ((j : ℕ) → j < 8 → f j ≡ g j) → AreLanes g v
lanes_same f g v a h = record { eight = a.eight; each = λ j l. a.each j l ∙ h j l }

-- bits of eight lanes, which hold f
pub record BitsAre (f : ℕ → ℤ) (b : List ℕ) : Type 0 where
  pub count : length b ≡ 8
  pub each : (j : ℕ) → j < 8 → get_or b j 0 ≡ of_z w32 (f j)
  pub fit : (j : ℕ) → j < 8 → SFits w32 (f j)

pub bits_of : (f : ℕ → ℤ) (v : List ℤ) → AreLanes f v → BitsAre f (map (of_z w32) v)
bits_of f v a = record {
  count = length-map v (of_z w32) ∙ a.eight.count;
  each = λ j l. get_or-map (of_z w32) v j (pos 0) 0 (omega (arith, l, a.eight.count)) ∙ ap (of_z w32) (a.each j l);
  fit = λ j l. subst (SFits w32) (a.each j l) (a.eight.fit j l);
}

pub own_bits : (v : List ℤ) → IsEight v → BitsAre (lane v) (map (of_z w32) v)
own_bits v e = bits_of (lane v) v (record { eight = e; each = λ j l. refl })

bits_value : (f : ℕ → ℤ) (b : List ℕ) → BitsAre f b → (j : ℕ) → j < 8 → to_z w32 (get_or b j 0) ≡ f j
bits_value f b a j l = ap (to_z w32) (a.each j l) ∙ to_z-of_z w32 (f j) (a.fit j l)

pub lanes_from : (f : ℕ → ℤ) (b : List ℕ) → BitsAre f b → AreLanes f (map (to_z w32) b)
lanes_from f b a =
    let each : (j : ℕ) → j < 8 → get_or (map (to_z w32) b) j (pos 0) ≡ f j = λ j l. get_or-map (to_z w32) b j 0 (pos 0) (omega (arith, l, a.count)) ∙ bits_value f b a j l in
    record {
      eight = record { count = length-map b (to_z w32) ∙ a.count; fit = λ j l. subst (SFits w32) (sym (each j l)) (a.fit j l) };
      each = each;
    }

-- a vector that is handed on
abbrev pub passed : List ℤ → List ℤ
passed v = map (to_z w32) (map (of_z w32) v)

pub handed : (f : ℕ → ℤ) (v : List ℤ) → AreLanes f v → AreLanes f (passed v)
handed f v a = lanes_from f (map (of_z w32) v) (bits_of f v a)

pub handed_own : (v : List ℤ) → IsEight v → AreLanes (lane v) (passed v)
handed_own v e = handed (lane v) v (record { eight = e; each = λ j l. refl })

-- a fact of each pair of lanes
each_pair : (P : ℕ → ℕ → Type 0) (a b : List ℕ) → length a ≡ length b → ((j : ℕ) → j < length a → P (get_or a j 0) (get_or b j 0)) → Each2 P a b
each_pair P [] b e h = tt
each_pair P (x ∷ a) [] e h = tt
each_pair P (x ∷ a) (y ∷ b) e h = (h 0 (omega arith), each_pair P a b (omega arith) (λ j l. h (suc j) (omega arith)))

both_values : (g : ℤ → ℤ → ℤ) (f h : ℕ → ℤ) (a b : List ℕ) → BitsAre f a → BitsAre h b → (j : ℕ) → j < 8 → g (to_z w32 (get_or a j 0)) (to_z w32 (get_or b j 0)) ≡ g (f j) (h j)
both_values g f h a b x y j l = ap₂ g (bits_value f a x j l) (bits_value h b y j l)

-- an operation that takes two vectors lane by lane, and that its lanes fit
pub bits_by : (g : ℤ → ℤ → ℤ) (f h : ℕ → ℤ) (a b : List ℕ) → BitsAre f a → BitsAre h b → ((j : ℕ) → j < 8 → SFits w32 (g (f j) (h j))) → BitsAre (λ j. g (f j) (h j)) (zip2 (λ x y. of_z w32 (g (to_z w32 x) (to_z w32 y))) a b)
bits_by g f h a b x y fit = record {
  count = length-zip2 (λ x y. of_z w32 (g (to_z w32 x) (to_z w32 y))) a b (x.count ∙ sym y.count) ∙ x.count;
  each = λ j l.
      get_or-zip2 (λ x y. of_z w32 (g (to_z w32 x) (to_z w32 y))) a b j 0 0 0 (omega (arith, l, x.count)) (omega (arith, l, y.count))
      ∙ ap (of_z w32) (both_values g f h a b x y j l);
  fit = fit;
}

pub fits_by : (g : ℤ → ℤ → ℤ) (f h : ℕ → ℤ) (a b : List ℕ) → BitsAre f a → BitsAre h b → ((j : ℕ) → j < 8 → SFits w32 (g (f j) (h j))) → Each2 (λ x y. SFits w32 (g (to_z w32 x) (to_z w32 y))) a b
fits_by g f h a b x y fit = each_pair (λ x y. SFits w32 (g (to_z w32 x) (to_z w32 y))) a b (x.count ∙ sym y.count) (λ j l.
    let inside : j < 8 = omega (arith, l, x.count) in
    subst (SFits w32) (sym (both_values g f h a b x y j inside)) (fit j inside))

-- a number through its bits
pub same_number : (x y : ℤ) → x ≡ y → unsigned_abs y < 2 ^ 31 → to_z w32 (of_z w32 x) ≡ y
same_number x y e l = ap (λ z. to_z w32 (of_z w32 z)) e ∙ to_z-of_z w32 y (fits_signed_from_abs w32 y l)

-- sums that are small enough
pub sum_fits : (x y : ℤ) → unsigned_abs x + unsigned_abs y < 2 ^ 31 → SFits w32 (x +ℤ y)
sum_fits x y l = fits_signed_from_abs w32 (x +ℤ y) (omega (arith, ints, l))

-- vectors that are shifted down
abs-shifted : (x : ℤ) (m : ℕ) → 0 < m → unsigned_abs x < 2 ^ 31 → unsigned_abs (shr_z x m) < 2 ^ 31
abs-shifted (pos n) m some l = omega (arith, l, div-le_self n m)
abs-shifted (negsuc n) m some l = omega (arith, l, div-le_self n m)

abbrev IsShift : ℤ → Type 0
IsShift x = (x ≡ pos (unsigned_abs x)) × (unsigned_abs x ≤ 12)

pub bits_shifted : (f h : ℕ → ℤ) (a b : List ℕ) → BitsAre f a → BitsAre h b → ((j : ℕ) → j < 8 → IsShift (h j)) → ((j : ℕ) → j < 8 → unsigned_abs (f j) < 2 ^ 31) → BitsAre (λ j. int_shr (f j) (unsigned_abs (h j))) (zip2 (λ x y. of_z w32 (shr_z (to_z w32 x) (2 ^ y))) a b)
bits_shifted f h a b x y bits small = record {
  count = length-zip2 (λ x y. of_z w32 (shr_z (to_z w32 x) (2 ^ y))) a b (x.count ∙ sym y.count) ∙ x.count;
  each = λ j l.
      get_or-zip2 (λ x y. of_z w32 (shr_z (to_z w32 x) (2 ^ y))) a b j 0 0 0 (omega (arith, l, x.count)) (omega (arith, l, y.count))
      ∙ ap₂ (λ v k. of_z w32 (shr_z v (2 ^ k))) (bits_value f a x j l) (y.each j l ∙ ap (of_z w32) (bits j l).0);
  fit = λ j l. fits_signed_from_abs w32 (int_shr (f j) (unsigned_abs (h j))) (abs-shifted (f j) (2 ^ unsigned_abs (h j)) (pow_pos (unsigned_abs (h j))) (small j l));
}

pub shifts_fit : (f h : ℕ → ℤ) (a b : List ℕ) → BitsAre f a → BitsAre h b → ((j : ℕ) → j < 8 → IsShift (h j)) → Each2 (λ (_ y : ℕ). y < 32) a b
shifts_fit f h a b x y bits = each_pair (λ _ k. k < 32) a b (x.count ∙ sym y.count) (λ j l.
    let inside : j < 8 = omega (arith, l, x.count) in
    let number : get_or b j 0 ≡ unsigned_abs (h j) = y.each j inside ∙ ap (of_z w32) (bits j inside).0 in
    omega (arith, number, (bits j inside).1))

-- what is read from a list, and written to one
pub bits_read : (at : ℕ) (xs : List ℤ) → at + 8 ≤ length xs → ((j : ℕ) → j < 8 → SFits w32 (get_or xs (at + j) (pos 0))) → BitsAre (λ j. get_or xs (at + j) (pos 0)) (map (of_z w32) (chunk at 8 xs))
bits_read at xs room fit = bits_of (λ j. get_or xs (at + j) (pos 0)) (chunk at 8 xs) (record {
  eight = record {
    count = length-chunk at 8 xs room;
    fit = λ j l. subst (SFits w32) (sym (get_or-chunk at 8 xs j (pos 0) l)) (fit j l);
  };
  each = λ j l. get_or-chunk at 8 xs j (pos 0) l;
})

pub run_of_lanes : (at : ℕ) (xs v : List ℤ) → at + 8 ≤ length xs → IsEight v → RunPut at 8 (lane v) xs (put_chunk at xs (passed v))
run_of_lanes at xs v room e =
    let ws : List ℤ = passed v in
    let h : AreLanes (lane v) ws = handed_own v e in
    record {
      len = length-put_chunk at xs ws;
      inside = λ j l. get_or-put_chunk_at at xs ws j (pos 0) (omega (arith, l, h.eight.count)) (omega (arith, room, h.eight.count)) ∙ h.each j l;
      before = λ k l. get_or-put_chunk_below at xs ws k (pos 0) l;
      behind = λ k l. get_or-put_chunk_above at xs ws k (pos 0) (omega (arith, l, h.eight.count));
    }

pub run_same : (at count : ℕ) (f g : ℕ → ℤ) (xs ys : List ℤ) → RunPut at count f xs ys → ((j : ℕ) → j < count → f j ≡ g j) → RunPut at count g xs ys
run_same at count f g xs ys r h = record { len = r.len; inside = λ j l. r.inside j l ∙ h j l; before = r.before; behind = r.behind }

-- lanes of two vectors, one behind the other
abbrev both : List ℤ → List ℤ → List ℕ
both a b = map (of_z w32) a ++ map (of_z w32) b

in_first : (a b : List ℤ) → IsEight a → (j : ℕ) → j < 8 → to_z w32 (get_or (both a b) j 0) ≡ lane a j
in_first a b e j l =
    ap (to_z w32) (get_or_append_left (map (of_z w32) a) (map (of_z w32) b) 0 j (omega (arith, l, (own_bits a e).count)))
    ∙ bits_value (lane a) (map (of_z w32) a) (own_bits a e) j l

in_second : (a b : List ℤ) → IsEight a → IsEight b → (j : ℕ) → j < 8 → to_z w32 (get_or (both a b) (8 + j) 0) ≡ lane b j
in_second a b e f j l =
    ap (λ n. to_z w32 (get_or (both a b) (n + j) 0)) (sym (own_bits a e).count)
    ∙ ap (to_z w32) (get_or-append-add (map (of_z w32) a) (map (of_z w32) b) j 0)
    ∙ bits_value (lane b) (map (of_z w32) b) (own_bits b f) j l

-- a fact of each lane of a few
each_of_4 : (P : ℕ → Type 0) → P 0 → P 1 → P 2 → P 3 → (j : ℕ) → j < 4 → P j
each_of_4 P a b c d zero l = a
each_of_4 P a b c d (suc zero) l = b
each_of_4 P a b c d (suc (suc zero)) l = c
each_of_4 P a b c d (suc (suc (suc zero))) l = d
each_of_4 P a b c d (suc (suc (suc (suc j)))) l = absurd (omega (arith, l))

each_of_8 : (P : ℕ → Type 0) → P 0 → P 1 → P 2 → P 3 → P 4 → P 5 → P 6 → P 7 → (j : ℕ) → j < 8 → P j
each_of_8 P a b c d e f g h zero l = a
each_of_8 P a b c d e f g h (suc zero) l = b
each_of_8 P a b c d e f g h (suc (suc zero)) l = c
each_of_8 P a b c d e f g h (suc (suc (suc zero))) l = d
each_of_8 P a b c d e f g h (suc (suc (suc (suc j)))) l = each_of_4 (λ k. P (suc (suc (suc (suc k))))) e f g h j (omega (arith, l))

-- lanes that are picked from two vectors in turn
abbrev picked : List ℤ → List ℤ → List ℕ → List ℤ
picked a b ks = map (to_z w32) (pick_l 0 (both a b) ks)

pub four_in_turn : (a b : List ℤ) (m : ℕ) → IsEight a → IsEight b → m ≤ 4 → AreInTurn m a b (picked a b (m ∷ (8 + m) ∷ (m + 1) ∷ (8 + (m + 1)) ∷ (m + 2) ∷ (8 + (m + 2)) ∷ (m + 3) ∷ (8 + (m + 3)) ∷ []))
four_in_turn a b m e f l =
    let ks : List ℕ = m ∷ (8 + m) ∷ (m + 1) ∷ (8 + (m + 1)) ∷ (m + 2) ∷ (8 + (m + 2)) ∷ (m + 3) ∷ (8 + (m + 3)) ∷ [] in
    let one : (i : ℕ) → i < 8 → SFits w32 (to_z w32 (get_or (both a b) i 0)) = λ i h. subst (SFits w32) (sym (in_first a b e i h)) (e.fit i h) in
    let two : (i : ℕ) → i < 8 → SFits w32 (to_z w32 (get_or (both a b) (8 + i) 0)) = λ i h. subst (SFits w32) (sym (in_second a b e f i h)) (f.fit i h) in
    record {
      eight = record {
        count = refl;
        fit = each_of_8 (λ j. SFits w32 (lane (picked a b ks) j)) (one m (omega (arith, l))) (two m (omega (arith, l))) (one (m + 1) (omega (arith, l))) (two (m + 1) (omega (arith, l)))
            (one (m + 2) (omega (arith, l))) (two (m + 2) (omega (arith, l))) (one (m + 3) (omega (arith, l))) (two (m + 3) (omega (arith, l)));
      };
      even = each_of_4 (λ j. lane (picked a b ks) (2 * j) ≡ lane a (m + j)) (in_first a b e m (omega (arith, l)) ∙ ap (lane a) (omega arith)) (in_first a b e (m + 1) (omega (arith, l)))
          (in_first a b e (m + 2) (omega (arith, l))) (in_first a b e (m + 3) (omega (arith, l)));
      odd = each_of_4 (λ j. lane (picked a b ks) (2 * j + 1) ≡ lane b (m + j)) (in_second a b e f m (omega (arith, l)) ∙ ap (lane b) (omega arith)) (in_second a b e f (m + 1) (omega (arith, l)))
          (in_second a b e f (m + 2) (omega (arith, l))) (in_second a b e f (m + 3) (omega (arith, l)));
    }
