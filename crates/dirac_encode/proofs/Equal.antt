-- Planes and pictures with the same parts are the same.
use Rattle.std.proofs.Common.{◌≡◌, ◌∙◌, ℕ, ℤ, List, ap}
use Rattle.dirac_common.specs.declared.picture.Picture.{Picture}
use Rattle.dirac_common.specs.Table.{Table}

abbrev plane_with : ℕ → ℕ → List ℤ → Table
plane_with width height values = record { width = width; height = height; values = values }

pub same_plane : (a b : Table) → a.width ≡ b.width → a.height ≡ b.height → a.values ≡ b.values → a ≡ b
same_plane a b width height values =
    ap (λ (n : ℕ). plane_with n a.height a.values) width ∙ ap (λ (n : ℕ). plane_with b.width n a.values) height ∙ ap (λ (l : List ℤ). plane_with b.width b.height l) values

abbrev picture_with : ℕ → Table → Table → Table → Picture
picture_with number y u v = record { number = number; y = y; u = u; v = v }

pub same_picture : (a b : Picture) → a.number ≡ b.number → a.y ≡ b.y → a.u ≡ b.u → a.v ≡ b.v → a ≡ b
same_picture a b number y u v =
    ap (λ (n : ℕ). picture_with n a.y a.u a.v) number ∙ ap (λ (t : Table). picture_with b.number t a.u a.v) y
    ∙ ap (λ (t : Table). picture_with b.number b.y t a.v) u ∙ ap (λ (t : Table). picture_with b.number b.y b.u t) v
