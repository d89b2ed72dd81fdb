-- A finished table as it was when some of its lists were read.
use Rattle.std.proofs.Common.{◌≡◌, ℕ, ℤ, ◌+◌, ◌*◌, ◌<◌, inl, inr, Bool, true, false, List, length, map, replicate, ext_get_or, refl, sym, ap, ap₂, ◌∙◌, arith, subst}
use Rattle.std.specs.Prelude.{pos}
use Rattle.std.proofs.lemmas.Bool.{cases_lt}
use Rattle.std.proofs.lemmas.Int.{ints}
use Rattle.std.proofs.lemmas.List.{get_or_past, get_or-map, get_or-replicate, length-map, length-replicate}
use Rattle.dirac_common.specs.declared.formats.Vector.{Vector}
use Rattle.dirac_arith.specs.Carried.{Carries}
use Rattle.dirac_arith.specs.Interval.{Decision}
use Rattle.dirac_vectors.specs.Neighbours.{IsShort}
use Rattle.dirac_block_table.specs.declared.block.Block.{Block}
use Rattle.dirac_common.specs.declared.formats.Component.TheVariants as components
use Rattle.dirac_blocks.specs.declared.parts.ListKind.{ListKind}
use Rattle.dirac_blocks.specs.declared.parts.ListKind.TheVariants as parts
use Rattle.dirac_block_table.specs.declared.reference.Reference.TheVariants as references
use Rattle.dirac_blocks.specs.Carried.{with_list_part, ReadsTo}
use Rattle.dirac_blocks.specs.Grammar.{empty_table, units_step}
use Rattle.dirac_blocks.specs.Laws.{CarriedIsRead}
use Rattle.dirac_block_table.specs.Tables.{BlockTable, IsBlock, IsBlockTable, block_at, grey, no_vector}
use Rattle.dirac_blocks.proofs.Stages.{by, by_at, by_lawful, place_inside}
use Rattle.dirac_blocks.proofs.Spelled.{nothing_yet}
use Rattle.dirac_block_laws.proofs.Stepping.{list_of}
use Rattle.dirac_block_laws.proofs.Told.{told, ToldSame, lists_same}

-- a change that keeps blocks lawful
abbrev pub KeepsLaws : ℕ → (Block → Block) → Type 0
KeepsLaws refs f = (b : Block) → IsBlock refs b → IsBlock refs (f b)

-- a change of blocks that leaves what the modes and a list tell
told_by : (part : ListKind) (f : Block → Block) (t : BlockTable) → ((b : Block) → told part (f b) ≡ told part b) → ToldSame part t (by f t)
told_by part f t same x y =
    let place = y * (4 * t.across) + x in
    elim (cases_lt place (length t.blocks)) [
      | inl inside ↦ sym (same (block_at t x y)) ∙ ap (λ (b : Block). told part b) (sym (get_or-map f t.blocks place grey grey inside))
      | inr past ↦
          let lens : length (map f t.blocks) ≡ length t.blocks = length-map t.blocks f in
          ap (λ (b : Block). told part b) (get_or_past t.blocks place grey past ∙ sym (get_or_past (map f t.blocks) place grey (omega arith)))
    ]

-- what a list tells twice it tells once
absorbs : (part : ListKind) (b c : Block) → with_list_part part b (with_list_part part b c) ≡ with_list_part part b c
absorbs parts.Modes b c = refl
absorbs (parts.Across references.First) b c = refl
absorbs (parts.Across references.Second) b c = refl
absorbs (parts.Down references.First) b c = refl
absorbs (parts.Down references.Second) b c = refl
absorbs (parts.Dc components.Y) b c = refl
absorbs (parts.Dc components.U) b c = refl
absorbs (parts.Dc components.V) b c = refl

-- a block that carries a list of the finished table leads from the table before it to the one behind it
pub leads_on : CarriedIsRead → (part : ListKind) (t : BlockTable) (f g : Block → Block) (block : List ℕ) → IsBlockTable t → KeepsLaws t.refs f → KeepsLaws t.refs g
    → ((b : Block) → with_list_part part (f b) b ≡ g b) → ((b : Block) → told part (g b) ≡ told part b) → Carries block (list_of t part)
    → ReadsTo (units_step part) (by f t) block (by g t)
leads_on law part t f g block inv before after is same carry =
    law part (by f t) (by g t) block (by_lawful f t inv before)
    (record {
      lawful = by_lawful g t inv after;
      rest = record {
        shape = record { across = refl; down = refl; refs = refl; splits = refl };
        blocks = λ i j p q.
            let b = block_at t i j in
            let at = by_at g t i j (place_inside t i j inv p q) in
            ap₂ (λ (x y : Block). with_list_part part x y) (by_at f t i j (place_inside t i j inv p q)) (at ∙ sym (is b)) ∙ absorbs part (f b) b ∙ is b ∙ sym at;
      };
      carried = subst (λ (ds : List Decision). Carries block ds) (lists_same part t (map g t.blocks) (told_by part g t same)) carry;
    })

-- which lists have been read
pub record Known : Type 0 where
  pub across1 : Bool
  pub down1 : Bool
  pub across2 : Bool
  pub down2 : Bool
  pub dc_y : Bool
  pub dc_u : Bool
  pub dc_v : Bool

-- none but the modes
abbrev pub no_values : Known
no_values = record { across1 = false; down1 = false; across2 = false; down2 = false; dc_y = false; dc_u = false; dc_v = false }

-- one list more
abbrev pub next : ListKind → Known → Known
next parts.Modes k = no_values
next (parts.Across references.First) k = record k { across1 = true }
next (parts.Across references.Second) k = record k { across2 = true }
next (parts.Down references.First) k = record k { down1 = true }
next (parts.Down references.Second) k = record k { down2 = true }
next (parts.Dc components.Y) k = record k { dc_y = true }
next (parts.Dc components.U) k = record k { dc_u = true }
next (parts.Dc components.V) k = record k { dc_v = true }

-- a value, once it is read
abbrev said : Bool → ℤ → ℤ
said true v = v
said false v = pos 0

-- a block, as far as it is read
abbrev pub shown : Known → Block → Block
shown k b = record {
  ref1 = b.ref1;
  ref2 = b.ref2;
  v1 = record { x = said k.across1 b.v1.x; y = said k.down1 b.v1.y };
  v2 = record { x = said k.across2 b.v2.x; y = said k.down2 b.v2.y };
  dc_y = said k.dc_y b.dc_y;
  dc_u = said k.dc_u b.dc_u;
  dc_v = said k.dc_v b.dc_v;
}

said_short : (a : Bool) (v : ℤ) → IsShort v → IsShort (said a v)
said_short true v h = h
said_short false v h = record { least = omega (arith, ints); most = omega (arith, ints) }

said_none : (a : Bool) (v : ℤ) → v ≡ pos 0 → said a v ≡ pos 0
said_none true v e = e
said_none false v e = refl

vector_none : (a b : Bool) (v : Vector) → v ≡ no_vector → (let w : Vector = record { x = said a v.x; y = said b v.y } in w ≡ no_vector)
vector_none a b v e =
    ap₂ (λ (x y : ℤ). let w : Vector = record { x = x; y = y } in w)
    (said_none a v.x (ap (λ (w : Vector). let n : ℤ = w.x in n) e)) (said_none b v.y (ap (λ (w : Vector). let n : ℤ = w.y in n) e))

pub shown_lawful : (k : Known) (refs : ℕ) → KeepsLaws refs (shown k)
shown_lawful k refs b h =
    record {
      second = h.second;
      v1 = record { x = said_short k.across1 b.v1.x h.v1.x; y = said_short k.down1 b.v1.y h.v1.y };
      v2 = record { x = said_short k.across2 b.v2.x h.v2.x; y = said_short k.down2 b.v2.y h.v2.y };
      dc_y = said_short k.dc_y b.dc_y h.dc_y;
      dc_u = said_short k.dc_u b.dc_u h.dc_u;
      dc_v = said_short k.dc_v b.dc_v h.dc_v;
      no_v1 = λ e. vector_none k.across1 k.down1 b.v1 (h.no_v1 e);
      no_v2 = λ e. vector_none k.across2 k.down2 b.v2 (h.no_v2 e);
      no_dc = λ e. (said_none k.dc_y b.dc_y (h.no_dc e).0, said_none k.dc_u b.dc_u (h.no_dc e).1, said_none k.dc_v b.dc_v (h.no_dc e).2);
    }

pub shown_next : (part : ListKind) (k : Known) (b : Block) → with_list_part part (shown k b) b ≡ shown (next part k) b
shown_next parts.Modes k b = refl
shown_next (parts.Across references.First) k b = refl
shown_next (parts.Across references.Second) k b = refl
shown_next (parts.Down references.First) k b = refl
shown_next (parts.Down references.Second) k b = refl
shown_next (parts.Dc components.Y) k b = refl
shown_next (parts.Dc components.U) k b = refl
shown_next (parts.Dc components.V) k b = refl

pub shown_told : (part : ListKind) (k : Known) (b : Block) → told part (shown (next part k) b) ≡ told part b
shown_told parts.Modes k b = refl
shown_told (parts.Across references.First) k b = refl
shown_told (parts.Across references.Second) k b = refl
shown_told (parts.Down references.First) k b = refl
shown_told (parts.Down references.Second) k b = refl
shown_told (parts.Dc components.Y) k b = refl
shown_told (parts.Dc components.U) k b = refl
shown_told (parts.Dc components.V) k b = refl

pub by_nothing : (t : BlockTable) → IsBlockTable t → map nothing_yet t.blocks ≡ (empty_table t.across t.down t.refs).blocks
by_nothing t inv =
    let n = 4 * t.down * (4 * t.across) in
    let len : length (map nothing_yet t.blocks) ≡ length t.blocks = length-map t.blocks nothing_yet in
    let len' : length (replicate n grey) ≡ n = length-replicate n grey in
    ext_get_or grey (map nothing_yet t.blocks) (replicate n grey) (len ∙ inv.blocks_len ∙ sym len')
    (λ k l.
    let inside : k < length t.blocks = omega arith in
    let below : k < n = omega (arith, inv.blocks_len) in
    get_or-map nothing_yet t.blocks k grey grey inside ∙ sym (get_or-replicate n k grey grey below))
