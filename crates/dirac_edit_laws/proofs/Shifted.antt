-- Pictures whose keys are all moved by the same number leave in the same order.
use Rattle.std.proofs.Common.{◌≡◌, ℕ, ℤ, zero, suc, ◌+ℤ◌, ◌-◌, ◌<◌, if◌then◌else◌, Bool, true, false, List, [], ◌∷◌, ◌++◌, length, map, Option, None, Some, refl, sym, ◌∙◌, ap, ap₂, subst, arith}
use Rattle.std.specs.Prelude.{int_lt, nat_le, slice_get, option_map}
use Rattle.std.specs.List.{remove}
use Rattle.std.proofs.lemmas.Int.{ints}
use Rattle.std.proofs.lemmas.List.{length-map, map-append}
use Rattle.std.proofs.lemmas.Option.{slice_get-map}
use Rattle.dirac_common.specs.declared.picture.Picture.{Picture}
use Rattle.dirac_refs.specs.declared.waiting.Waiting.{Waiting}
use Rattle.dirac_refs.specs.Delivery.{Leaving, delivered, in_delivery_order, flushed, flushed_by, key_at, least, least_among, least_place, others, picture_of, pushed_all}
use Rattle.dirac_refs.proofs.Least.{is_least}
use Rattle.dirac_edit_laws.proofs.Later.{left_from}

-- a picture with its key moved by this, and itself changed so
abbrev pub waiting_with : ℤ → (Picture → Picture) → Waiting → Waiting
waiting_with by f w = record { key = w.key +ℤ by; picture = f w.picture }

less_moved : (a b by : ℤ) → int_lt (a +ℤ by) (b +ℤ by) ≡ int_lt a b
less_moved a b by = grind (arith, ints)

key_moved : (by : ℤ) (f : Picture → Picture) (ws : List Waiting) (n : ℕ) → n < length ws → key_at (map (waiting_with by f) ws) n ≡ key_at ws n +ℤ by
key_moved by f [] n l = absurd (omega arith)
key_moved by f (w ∷ ws) zero l = refl
key_moved by f (w ∷ ws) (suc n) l = key_moved by f ws n (omega arith)

least_moved : (by : ℤ) (f : Picture → Picture) (ws : List Waiting) (n : ℕ) → n < length ws → least_among (map (waiting_with by f) ws) n ≡ least_among ws n
unfolding least_among
least_moved by f ws zero l = refl
least_moved by f ws (suc n) l =
    let all = map (waiting_with by f) ws in
    let before = least_moved by f ws n (omega arith) in
    let place = least_among ws n in
    let inside : place < length ws = omega (arith, (is_least ws n).inside) in
    let here = key_moved by f ws (suc n) l in
    let there : key_at all (least_among all n) ≡ key_at ws place +ℤ by = ap (key_at all) before ∙ key_moved by f ws place inside in
    ap₂ (λ (b : Bool) (m : ℕ). if b then suc n else m) (ap₂ (λ a b. int_lt a b) here there ∙ less_moved (key_at ws (suc n)) (key_at ws place) by) before

place_moved : (by : ℤ) (f : Picture → Picture) (ws : List Waiting) → least_place (map (waiting_with by f) ws) ≡ least_place ws
place_moved by f [] = refl
place_moved by f (w ∷ ws) =
    let all = w ∷ ws in
    let few = length-map all (waiting_with by f) in
    ap (λ n. least_among (map (waiting_with by f) all) (n - 1)) few ∙ least_moved by f all (length all - 1) (omega arith)

picture_moved : (by : ℤ) (f : Picture → Picture) (o : Option Waiting) → picture_of (option_map (waiting_with by f) o) ≡ map f (picture_of o)
picture_moved by f None = refl
picture_moved by f (Some w) = refl

first_moved : (by : ℤ) (f : Picture → Picture) (ws : List Waiting) → least (map (waiting_with by f) ws) ≡ map f (least ws)
first_moved by f ws =
    let g = waiting_with by f in
    ap (λ n. picture_of (slice_get (map g ws) n)) (place_moved by f ws) ∙ ap picture_of (slice_get-map g ws (least_place ws)) ∙ picture_moved by f (slice_get ws (least_place ws))

remove_moved : (g : Waiting → Waiting) (ws : List Waiting) (n : ℕ) → remove (map g ws) n ≡ map g (remove ws n)
remove_moved g [] zero = refl
remove_moved g [] (suc n) = refl
remove_moved g (w ∷ ws) zero = refl
remove_moved g (w ∷ ws) (suc n) = ap (λ t. g w ∷ t) (remove_moved g ws n)

others_moved : (by : ℤ) (f : Picture → Picture) (ws : List Waiting) → others (map (waiting_with by f) ws) ≡ map (waiting_with by f) (others ws)
others_moved by f ws =
    let g = waiting_with by f in
    ap (remove (map g ws)) (place_moved by f ws) ∙ remove_moved g ws (least_place ws)

flushed_by_moved : (n : ℕ) (by : ℤ) (f : Picture → Picture) (ws : List Waiting) → flushed_by n (map (waiting_with by f) ws) ≡ map f (flushed_by n ws)
flushed_by_moved zero by f ws = refl
flushed_by_moved (suc n) by f ws =
    ap₂ (λ (a b : List Picture). a ++ b) (first_moved by f ws) (ap (flushed_by n) (others_moved by f ws) ∙ flushed_by_moved n by f (others ws))
    ∙ sym (map-append (f) (least ws) (flushed_by n (others ws)))

flushed_moved : (by : ℤ) (f : Picture → Picture) (ws : List Waiting) → flushed (map (waiting_with by f) ws) ≡ map f (flushed ws)
flushed_moved by f ws =
    ap (λ n. flushed_by n (map (waiting_with by f) ws)) (length-map ws (waiting_with by f)) ∙ flushed_by_moved (length ws) by f ws

-- pictures that wait on and that left, moved on
record LeaveOnward (by : ℤ) (f : Picture → Picture) (l l' : Leaving) : Type 0 where
  pub waits : l'.waiting ≡ map (waiting_with by f) l.waiting
  pub gone : l'.gone ≡ map f l.gone

delivered_by : (by : ℤ) (f : Picture → Picture) (ws : List Waiting) (b : Bool) → LeaveOnward by f (left_from b ws) (left_from b (map (waiting_with by f) ws))
delivered_by by f ws true = record { waits = refl; gone = refl }
delivered_by by f ws false = record { waits = others_moved by f ws; gone = first_moved by f ws }

delivered_moved : (by : ℤ) (f : Picture → Picture) (ws : List Waiting) → LeaveOnward by f (delivered ws) (delivered (map (waiting_with by f) ws))
delivered_moved by f ws =
    let few : nat_le (length ws) 4 ≡ nat_le (length (map (waiting_with by f) ws)) 4 = ap (λ n. nat_le n 4) (sym (length-map ws (waiting_with by f))) in
    subst (λ (b : Bool). LeaveOnward by f (delivered ws) (left_from b (map (waiting_with by f) ws))) few (delivered_by by f ws (nat_le (length ws) 4))

pushed_moved : (by : ℤ) (f : Picture → Picture) (xs ws : List Waiting) → LeaveOnward by f (pushed_all ws xs) (pushed_all (map (waiting_with by f) ws) (map (waiting_with by f) xs))
pushed_moved by f [] ws = record { waits = refl; gone = refl }
pushed_moved by f (x ∷ xs) ws =
    let g = waiting_with by f in
    let more : map g (ws ++ x ∷ []) ≡ map g ws ++ g x ∷ [] = map-append g ws (x ∷ []) in
    let one : LeaveOnward by f (delivered (ws ++ x ∷ [])) (delivered (map g ws ++ g x ∷ [])) =
    subst (λ (l : List Waiting). LeaveOnward by f (delivered (ws ++ x ∷ [])) (delivered l)) more (delivered_moved by f (ws ++ x ∷ [])) in
    let now = (delivered (ws ++ x ∷ [])).waiting in
    let now' = (delivered (map g ws ++ g x ∷ [])).waiting in
    let rest : LeaveOnward by f (pushed_all now xs) (pushed_all now' (map g xs)) =
    subst (λ (l : List Waiting). LeaveOnward by f (pushed_all now xs) (pushed_all l (map g xs))) (sym one.waits) (pushed_moved by f xs now) in
    record {
      waits = rest.waits;
      gone =
          ap₂ (λ (a b : List Picture). a ++ b) one.gone rest.gone
          ∙ sym (map-append (f) (delivered (ws ++ x ∷ [])).gone (pushed_all now xs).gone);
    }

-- the law
pub flush_moved : (by : ℤ) (f : Picture → Picture) (ws : List Waiting) → in_delivery_order (map (waiting_with by f) ws) ≡ map f (in_delivery_order ws)
flush_moved by f ws =
    let all = pushed_all [] ws in
    let l = pushed_moved by f ws [] in
    ap₂ (λ (a : List Picture) (b : List Waiting). a ++ flushed b) l.gone l.waits ∙ ap (λ x. map f all.gone ++ x) (flushed_moved by f all.waiting)
    ∙ sym (map-append (f) all.gone (flushed all.waiting))
