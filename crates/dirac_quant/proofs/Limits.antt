-- The largest coded magnitude whose coefficient stays small.
use Rattle.std.proofs.Common.{◌≡◌, ◌≢◌, ℕ, zero, suc, ◌+◌, ◌-◌, ◌*◌, ◌/◌, ◌%◌, ◌<◌, ◌≤◌, ◌==◌, if◌then◌else◌, arith}
use Rattle.std.proofs.lemmas.Bool.{ne_eqb}
use Rattle.std.proofs.lemmas.Nat.{mul-le, div-add-mod', mod_below}

abbrev pub restored_by : ℕ → ℕ → ℕ → ℕ
restored_by m f o = if m == 0 then 0 else (m * f + o + 2) / 4

pub limit_fits : (m f o r : ℕ) → r ≡ (16383 - (o + 2)) / f → 0 < f → m ≤ r → restored_by m f o ≤ 4095
limit_fits zero f o r e some l = omega arith
limit_fits (suc m) f o r e some l =
    let up : suc m * f ≤ r * f = mul-le (suc m) f r f l (omega arith) in
    let one : 1 * f ≤ suc m * f = mul-le 1 f (suc m) f (omega arith) (omega arith) in
    let whole : (16383 - (o + 2)) / f * f + (16383 - (o + 2)) % f ≡ 16383 - (o + 2) = div-add-mod' (16383 - (o + 2)) f in
    let back : r * f ≤ 16383 - (o + 2) = rw e (omega (arith, whole)) in
    let small : (suc m * f + o + 2) / 4 ≤ 4095 = omega (arith, up, one, back, some) in
    let some_m : suc m ≢ 0 = λ e. omega (arith, e) in
    rw (ne_eqb (suc m) 0 some_m) small

pub limit_exact : (m f o r : ℕ) → r ≡ (16383 - (o + 2)) / f → 0 < f → r < m → 4095 < restored_by m f o
limit_exact zero f o r e some l = absurd (omega (arith, l))
limit_exact (suc m) f o r e some l =
    let up : (r + 1) * f ≤ suc m * f = mul-le (r + 1) f (suc m) f (omega arith) (omega arith) in
    let more : (r + 1) * f ≡ r * f + f = omega arith in
    let whole : (16383 - (o + 2)) / f * f + (16383 - (o + 2)) % f ≡ 16383 - (o + 2) = div-add-mod' (16383 - (o + 2)) f in
    let back : 16383 - (o + 2) < r * f + f = rw e (omega (arith, whole, mod_below (16383 - (o + 2)) f some)) in
    let large : 4095 < (suc m * f + o + 2) / 4 = omega (arith, up, more, back) in
    let some_m : suc m ≢ 0 = λ e. omega (arith, e) in
    rw (ne_eqb (suc m) 0 some_m) large

pub limit_room : (m f o r : ℕ) → r ≡ (16383 - (o + 2)) / f → 0 < f → 1 ≤ m → m ≤ r → m * f + o + 2 ≤ 16383
limit_room m f o r e some one l =
    let up : m * f ≤ r * f = mul-le m f r f l (omega arith) in
    let least : 1 * f ≤ m * f = mul-le 1 f m f one (omega arith) in
    let whole : (16383 - (o + 2)) / f * f + (16383 - (o + 2)) % f ≡ 16383 - (o + 2) = div-add-mod' (16383 - (o + 2)) f in
    let back : r * f ≤ 16383 - (o + 2) = rw e (omega (arith, whole)) in
    omega (arith, up, least, back, some)

-- a factor is at least 4
pub limit_below : (f o r : ℕ) → r ≡ (16383 - (o + 2)) / f → 4 ≤ f → r < 4096
limit_below f o r e least =
    let whole : (16383 - (o + 2)) / f * f + (16383 - (o + 2)) % f ≡ 16383 - (o + 2) = div-add-mod' (16383 - (o + 2)) f in
    let back : r * f ≤ 16383 - (o + 2) = rw e (omega (arith, whole)) in
    let up : r * 4 ≤ r * f = mul-le r 4 r f (omega arith) least in
    omega (arith, back, up)
