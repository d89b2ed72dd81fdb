use Rattle.std.proofs.Common.{◌≡◌, ℤ, Bool, ap, ◌∙◌}
use Rattle.dirac_common.specs.declared.formats.Vector.{Vector}
use Rattle.dirac_block_table.specs.declared.block.Block.{Block}
use Rattle.dirac_obmc.proofs.rows.are_alike.Goals as goal

abbrev block_of : Bool → Bool → Vector → Vector → ℤ → ℤ → ℤ → Block
block_of ref1 ref2 v1 v2 y u v = record { ref1 = ref1; ref2 = ref2; v1 = v1; v2 = v2; dc_y = y; dc_u = u; dc_v = v }

block_same : (a b : Block) → a.ref1 ≡ b.ref1 → a.ref2 ≡ b.ref2 → a.v1 ≡ b.v1 → a.v2 ≡ b.v2 → a.dc_y ≡ b.dc_y → a.dc_u ≡ b.dc_u → a.dc_v ≡ b.dc_v → a ≡ b
block_same a b p q r s t u v =
    ap (λ (x : Bool). block_of x a.ref2 a.v1 a.v2 a.dc_y a.dc_u a.dc_v) p ∙ ap (λ (x : Bool). block_of b.ref1 x a.v1 a.v2 a.dc_y a.dc_u a.dc_v) q
    ∙ ap (λ (x : Vector). block_of b.ref1 b.ref2 x a.v2 a.dc_y a.dc_u a.dc_v) r ∙ ap (λ (x : Vector). block_of b.ref1 b.ref2 b.v1 x a.dc_y a.dc_u a.dc_v) s
    ∙ ap (λ (x : ℤ). block_of b.ref1 b.ref2 b.v1 b.v2 x a.dc_u a.dc_v) t ∙ ap (λ (x : ℤ). block_of b.ref1 b.ref2 b.v1 b.v2 b.dc_y x a.dc_v) u
    ∙ ap (λ (x : ℤ). block_of b.ref1 b.ref2 b.v1 b.v2 b.dc_y b.dc_u x) v

pub returns-then-have_same_vectors : goal.returns-then-have_same_vectors
returns-then-have_same_vectors c e =
    block_same c.args.a c.args.b (c.have_same_references.ensures.first c.if-have_same_references.true) (c.have_same_references.ensures.second c.if-have_same_references.true)
    (c.have_same_vectors.ensures.first c.if-have_same_vectors.true) (c.have_same_vectors.ensures.second c.if-have_same_vectors.true)
    (c.have_same_values.ensures.y e) (c.have_same_values.ensures.u e) (c.have_same_values.ensures.v e)
