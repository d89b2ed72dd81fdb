-- The machine values of a handle, and what it owns. Assumes `Logic`.
use mathlib.Core.Path.{◌≡◌, refl, subst}
use mathlib.Core.Bool.{Bool, true, ◌&&◌}
use mathlib.Core.List.{List, [], ◌∷◌, ◌++◌}
use lib.Dec.{T, lit<}
use seplogic.Ra.Ura.{Ura}
use mir.Syntax.{impl, tnil, dnil}
use mir.Val.{Val, vbool, vstruct, vcons, vnil, of_list, has_ty, WT}
use types.Logic.{Logic}
use types.Kit.{Item, Goal, Seq, Step, step, ‵, ◌$◌, move, drop, fsplit, fjoin, fpick, fpack, feq_i, feq_l}
use denote.RattleType.{Valss}
use denote.Builtin.{RawPtr, bool}
use denote.RawPtr.{Ptr, block_ptr, null_ptr, ptr_val}
use denote.Signature.{Slot, plain}
use denote.Steps.{nothing}
use denote.Struct.Struct.{within}
use denote.Struct.Owning.{shape, to}
use Rattle.std.proofs.BoxSteps.Form.{Bx, handle}
use Rattle.std_alloc.proofs.ResultValues.{and_tt}
use Rattle.core.proofs.alloc.Calls.{Fits, handle_tells, α}
use Rattle.std_heap.specs.contracts.Global as Heap
use Rattle.std_heap.specs.contracts.GlobalAllocator.TheImpl.{ghosts, dict}
use Rattle.std_heap.proofs.Global.TheLaws as heap
use Rattle.dirac_push.specs.contracts.push.PushDecoder as Inner
use Rattle.dirac_push.proofs.push.PushDecoder.TheLaws as inner
use Rattle.jevmutzal.specs.contracts.handle.parts.Parts as Parts
use Rattle.jevmutzal.specs.contracts.handle.Handle as Handle

abbrev pub E : Bx
E = record { row = Inner.the_row; laws = inner.the_row_laws; al = record { row = Heap.the_row; laws = heap.the_row_laws; g = ghosts; d = dict; drops = impl [] tnil dnil } }

abbrev pub FromParts : Slot 0
FromParts = plain (λ _. Parts.the_row Inner.the_row Heap.the_row ghosts)

abbrev pub FromHandle : Slot 0
FromHandle = plain (λ _. Handle.the_row)

-- a handle's machine value: its pointer, its allocator, and whether it is open
abbrev pub three : Val → Val → Bool → Val
three p h t = vstruct (vcons p (vcons h (vcons (vbool t) vnil)))

-- a pointer is of its type, also where it is null
pub ptr_typed : (p : Ptr) → Unit {0} × WT (ptr_val p)
ptr_typed (block_ptr b o) = (tt, tt)
ptr_typed null_ptr = (tt, record { fits = lit< tt })

pub three_typed : (p : Ptr) (h : Val) (t : Bool) → Fits E.al h → T (has_ty (α E.al) h && true) × WT (three (ptr_val p) h t)
three_typed (block_ptr b o) h t fits = (and_tt (has_ty (α E.al) h) fits.0, (tt, (fits.1, (tt, tt))))
three_typed null_ptr h t fits = (and_tt (has_ty (α E.al) h) fits.0, (record { fits = lit< tt }, (fits.1, (tt, tt))))

module _ {M : Type 1} {𝓤 : Ura M} {𝓛 : Logic 𝓤} {K : Type 0} {Γ : List (Item 𝓤)} {G : Goal 𝓤 𝓛.H} where
  pub handle_in : K → (p : Ptr) (hv : Val) (a : Heap.the_row.Denot) (t : Bool) (x : Inner.the_row.Denot)
      → Step K 𝓛 (‵ (Handle.the_row.own_val (record { at = p; alloc = a; is_open = t; decoder = x }) (three (ptr_val p) hv t ∷ [])) ∷ Γ) G (‵ (Handle.the_heap (record { at = p; alloc = a; is_open = t; decoder = x })) ∷ ‵ (handle E a hv) ∷ Γ) G
  handle_in k p hv a t x = step (λ s.
      nothing k $ feq_i k (List Val) (vbool t ∷ []) (vbool t ∷ []) refl $ fjoin k $ move k (2 ∷ 0 ∷ []) $ fjoin k $ feq_i k (List Val) (ptr_val p ∷ []) (ptr_val p ∷ []) refl $ fjoin k $
      feq_i k (List Val) (three (ptr_val p) hv t ∷ []) (three (ptr_val p) hv t ∷ []) refl $ fjoin k $
      fpack k (Valss (RawPtr ∷ Heap.the_row ∷ bool ∷ [])) (within (shape Handle.the_type) (to Handle.the_type (record { at = p; alloc = a; is_open = t; decoder = x })) (three (ptr_val p) hv t ∷ [])) (ptr_val p ∷ [], (hv ∷ [], (vbool t ∷ [], tt))) $ fjoin k $ s)

  pub handle_out : K → (d : Handle.the_row.Denot) (vs : List Val)
      → ((hv : Val) → vs ≡ three (ptr_val d.at) hv d.is_open ∷ [] → Fits E.al hv → Seq K 𝓛 (‵ (Handle.the_heap d) ∷ ‵ (handle E d.alloc hv) ∷ Γ) G)
      → Seq K 𝓛 (‵ (Handle.the_row.own_val d vs) ∷ Γ) G
  handle_out k d vs go =
      fsplit k $ fpick k (λ vss. fsplit k $ feq_l k (λ ev. fsplit k $ feq_l k (λ ep. fsplit k $ handle_tells E.al k d.alloc vss.1.0 (λ hv ea fa. move k (1 ∷ []) $ fsplit k $ feq_l k (λ eb. drop k $ move k (1 ∷ []) $
      go hv
      (subst (λ (ps : List Val). vs ≡ vstruct (of_list (ptr_val d.at ∷ hv ∷ (ps ++ []))) ∷ []) eb
      (subst (λ (ps : List Val). vs ≡ vstruct (of_list (ptr_val d.at ∷ (ps ++ (vss.1.1.0 ++ [])))) ∷ []) ea
      (subst (λ (ps : List Val). vs ≡ vstruct (of_list (ps ++ (vss.1.0 ++ (vss.1.1.0 ++ [])))) ∷ []) ep ev))) fa)))))
