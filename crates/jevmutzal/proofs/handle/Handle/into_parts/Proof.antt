-- `into_parts` takes a handle apart: an open one owns what a box owns, a closed one nothing.
use mathlib.Core.Path.{◌≡◌, refl, sym, subst}
use mathlib.Core.Bool.{Bool, true, false, false≢true}
use mathlib.Core.List.{List, [], ◌∷◌, ◌++◌}
use lib.Dec.{lit<}
use seplogic.Ra.Ura.{Ura}
use mir.Raw.{raw as bare}
use mir.Val.{Val, vptr, of_list}
use base.Logic.{SProp, ent, emp, id⊢, never, fst∗}
use base.Fml.{ftrue, fsep}
use prog.Memory.{Memory}
use prog.Routine.{Routine}
use prog.Wp.{WpFn, Tables}
use types.Logic.{Logic, sem}
use types.Match.{live}
use contract.Monad.{Fun}
use contract.Running.{tables, tables_of}
use sound.WpLaws.{WpFn-mono}
use types.Kit.{Item, ‵, raw, ◌⊛◌, at_ret, ◌$◌, ◌∵◌, !, qed, by, move, keep, drop, use0, use1, join, split, fsplit, fjoin, suffices, done}
use types.Part.{whole, sub, agg}
use types.Run.{stop, fld, no_more, and_then, of_opd, lit, first, branches, skips, exec, returns, returns_within, enter}
use types.ByLocal.{alloc_all, pass_all, free_all, look_at, get, get_in, sets, env}
use denote.Exit.{yes}
use denote.RattleType.{RattleType}
use denote.RawPtr.{Ptr, block_ptr, null_ptr, ptr_val, in_a_block}
use denote.Signature.{type_at}
use denote.Steps.{nothing}
use denote.Triple.Spec.{triple_of}
use denote.Triple.Table.{entered}
use denote.Triple.Walked.{says, Stays, stay_dropped, walk_of, ends_at, Goes-dropped, walk_Meets}
use Rattle.std.specs.Prelude.{Some, None}
use Rattle.std.specs.Box.Ownership.{box_owns}
use Rattle.std.proofs.BoxSteps.Form.{R, τ, word, box_typed, handle}
use Rattle.std.proofs.BoxSteps.Steps.{box_in}
use Rattle.core.proofs.alloc.Calls.{token}
use Rattle.core.proofs.option.Made.{Some-of, none_of}
use Rattle.std_alloc.proofs.ResultValues.{and_tt}
use Rattle.std_heap.specs.contracts.Global as Heap
use Rattle.std_heap.specs.contracts.GlobalAllocator.TheImpl.{ghosts}
use Rattle.dirac_push.specs.contracts.push.PushDecoder as Inner
use Rattle.jevmutzal.specs.contracts.handle.parts.Parts as Parts
use Rattle.jevmutzal.specs.contracts.handle.Handle as Handle
use Rattle.jevmutzal.proofs.Held.{E, FromHandle as From, three, three_typed, ptr_typed, handle_out}
use Rattle.jevmutzal.specs.contracts.handle.Handle.into_parts as F
use Rattle.jevmutzal.specs.contracts.handle.Handle.into_parts.Key.{name as #self}
use Rattle.jevmutzal.proofs.handle.Handle.into_parts.Statement as stated
use Rattle.jevmutzal.proofs.handle.Handle.into_parts.Code as code

abbrev stayed : Stays (F.ended).signature.params (F.ended).kept
stayed = (stay_dropped From yes, tt)

abbrev Inside : RattleType
Inside = Parts.the_row Inner.the_row Heap.the_row ghosts

module _ {M : Type 1} {𝓤 : Ura M} (𝓛 : Logic 𝓤) (at_mem : Memory → SProp 𝓤) (run : Routine → Fun 𝓤) (𝓣 : Tables 𝓤 𝓛.H) where
  open 𝓛 use {H}

  abbrev bound : Bool → Ptr → Heap.the_row.Denot → Inner.the_row.Denot → List Val → (walk_of 𝓛 F.ended stayed (F.clauses 𝓛 at_mem run)).Ghost
  bound t p a x vs = ((tt, tt, tt, (record { at = p; alloc = a; is_open = t; decoder = x }, tt), (vs, tt)), tt)

  at_each : (t : Bool) (p : Ptr) (a : Heap.the_row.Denot) (x : Inner.the_row.Denot) (vs : List Val)
      → ent 𝓤 ((walk_of 𝓛 F.ended stayed (F.clauses 𝓛 at_mem run)).pre (bound t p a x vs)) (WpFn 𝓤 H 𝓣.C 𝓣.Λ code.function (vs ++ []) ((walk_of 𝓛 F.ended stayed (F.clauses 𝓛 at_mem run)).post (bound t p a x vs)))
  at_each true p a x vs =
      let z = bound true p a x vs in
      let Post = (walk_of 𝓛 F.ended stayed (F.clauses 𝓛 at_mem run)).post z in
      let To = type_at (F.signature).result tt in
      qed 𝓛 ((‵ ftrue ⊛ ‵ (fsep (Handle.the_row.own_val (record { at = p; alloc = a; is_open = true; decoder = x }) vs) ftrue)) ∷ raw (emp 𝓤) ∷ []) ∵ split ! $ drop ! $ fsplit ! $
      handle_out ! (record { at = p; alloc = a; is_open = true; decoder = x }) vs (λ hv ws fa.
      in_a_block ! p (λ q. box_owns (token E.al a) (R E) q x) (fst∗ 𝓤 (never 𝓤) (sem 𝓛 (token E.al a (bare (τ E)) null_ptr))) (λ b o e. keep ! (0 ∷ 1 ∷ []) $
      let w = three (vptr b o) hv true in
      let inner = word E hv b o in
      let parts : Inside.Denot = record { ptr = block_ptr b o; alloc = a; value = x } in
      let Γ : List (Item 𝓤) = ‵ (box_owns (token E.al a) (R E) (block_ptr b o) x) ∷ ‵ (handle E a hv) ∷ [] in
      by ! (subst (λ (us : List Val). ent 𝓤 (types.Kit.⋆ 𝓛 Γ) (WpFn 𝓤 H 𝓣.C 𝓣.Λ code.function (us ++ []) Post)) (sym (subst (λ (q : Ptr). vs ≡ three (ptr_val q) hv true ∷ []) e ws))
      (qed 𝓛 Γ ∵ enter ! 𝓣.C 𝓣.Λ code.function (w ∷ []) _ $ alloc_all ! (λ ls. pass_all ! refl (three_typed (block_ptr b o) hv true fa, tt) $
      sets ! (of_opd ! (get_in ! (fld ! refl (stop !)) (sub ! 0 refl (whole !)))) refl (tt, tt) $ sets ! (of_opd ! (get_in ! (fld ! refl (stop !)) (sub ! 1 refl (whole !)))) refl fa $
      sets ! (of_opd ! (get_in ! (fld ! refl (stop !)) (sub ! 2 refl (whole !)))) refl (tt, tt) $ sets ! (of_opd ! (get ! refl)) refl (tt, tt) $
      first ! $ branches ! (get ! refl)
      (λ is_so. sets ! (of_opd ! (get ! refl)) refl (tt, tt) $ sets ! (agg ! (and_then ! (get ! refl) (and_then ! (get ! refl) (no_more !)))) refl (box_typed E hv b o fa) $
      sets ! (agg ! (and_then ! (lit ! tt) (and_then ! (get ! refl) (no_more !)))) refl ((and_tt _ ((box_typed E hv b o fa).0)), (record { fits = lit< tt }, ((box_typed E hv b o fa).1, tt))) $
      returns_within ! Post refl (look_at ! 0 refl) $ free_all ! refl $
      fsplit ! $ box_in E ! (record { ptr = block_ptr b o; alloc = a; value = x }) b o x refl refl $ use1 𝓛 (‵ (Inside.own_val parts (inner ∷ []))) (id⊢ 𝓤 _) $
      use1 𝓛 (‵ (To.own_val (Some parts) (live 1 (of_list (inner ∷ [])) ∷ []))) (Some-of 𝓛 Inside parts inner) $
      suffices ! _ (ends_at 𝓛 F.ended stayed (F.clauses 𝓛 at_mem run) z (live 1 (of_list (inner ∷ []))) (Some parts) (tt, tt) (tt, tt)) $ says ! (λ _. refl, (refl, refl)) $
      nothing ! $ nothing ! $ fjoin ! $ join ! $ nothing ! $ join ! $ done !)
      (λ is_not. absurd is_not))))))
  at_each false (block_ptr b o) a x vs =
      let z = bound false (block_ptr b o) a x vs in
      let Post = (walk_of 𝓛 F.ended stayed (F.clauses 𝓛 at_mem run)).post z in
      let To = type_at (F.signature).result tt in
      qed 𝓛 ((‵ ftrue ⊛ ‵ (fsep (Handle.the_row.own_val (record { at = block_ptr b o; alloc = a; is_open = false; decoder = x }) vs) ftrue)) ∷ raw (emp 𝓤) ∷ []) ∵ split ! $ drop ! $ fsplit ! $
      handle_out ! (record { at = block_ptr b o; alloc = a; is_open = false; decoder = x }) vs (λ hv ws fa. keep ! (1 ∷ []) $
      let w = three (ptr_val (block_ptr b o)) hv false in
      let Γ : List (Item 𝓤) = ‵ (handle E a hv) ∷ [] in
      by ! (subst (λ (us : List Val). ent 𝓤 (types.Kit.⋆ 𝓛 Γ) (WpFn 𝓤 H 𝓣.C 𝓣.Λ code.function (us ++ []) Post)) (sym ws)
      (qed 𝓛 Γ ∵ enter ! 𝓣.C 𝓣.Λ code.function (w ∷ []) _ $ alloc_all ! (λ ls. pass_all ! refl (three_typed (block_ptr b o) hv false fa, tt) $
      sets ! (of_opd ! (get_in ! (fld ! refl (stop !)) (sub ! 0 refl (whole !)))) refl (ptr_typed (block_ptr b o)) $ sets ! (of_opd ! (get_in ! (fld ! refl (stop !)) (sub ! 1 refl (whole !)))) refl fa $
      sets ! (of_opd ! (get_in ! (fld ! refl (stop !)) (sub ! 2 refl (whole !)))) refl (tt, tt) $ sets ! (of_opd ! (get ! refl)) refl (tt, tt) $
      first ! $ branches ! (get ! refl)
      (λ is_so. absurd is_so)
      (λ is_not. skips ! $ exec ! 𝓣.C 𝓣.Λ (env code.Mir.locals ls) code.Mir.t-6 (at_ret _ Post) $
      sets ! (agg ! (and_then ! (lit ! tt) (no_more !))) refl (tt, (record { fits = lit< tt }, tt)) $
      returns ! (look_at ! 0 refl) $ free_all ! refl $ drop ! $
      use0 𝓛 (‵ (To.own_val None (live 0 (of_list []) ∷ []))) (none_of 𝓛 Inside) $
      suffices ! _ (ends_at 𝓛 F.ended stayed (F.clauses 𝓛 at_mem run) z (live 0 (of_list [])) None (tt, tt) (tt, tt)) $ says ! (λ is. absurd (false≢true is), tt) $
      nothing ! $ nothing ! $ fjoin ! $ join ! $ nothing ! $ join ! $ done !)))))
  at_each false null_ptr a x vs =
      let z = bound false null_ptr a x vs in
      let Post = (walk_of 𝓛 F.ended stayed (F.clauses 𝓛 at_mem run)).post z in
      let To = type_at (F.signature).result tt in
      qed 𝓛 ((‵ ftrue ⊛ ‵ (fsep (Handle.the_row.own_val (record { at = null_ptr; alloc = a; is_open = false; decoder = x }) vs) ftrue)) ∷ raw (emp 𝓤) ∷ []) ∵ split ! $ drop ! $ fsplit ! $
      handle_out ! (record { at = null_ptr; alloc = a; is_open = false; decoder = x }) vs (λ hv ws fa. keep ! (1 ∷ []) $
      let w = three (ptr_val null_ptr) hv false in
      let Γ : List (Item 𝓤) = ‵ (handle E a hv) ∷ [] in
      by ! (subst (λ (us : List Val). ent 𝓤 (types.Kit.⋆ 𝓛 Γ) (WpFn 𝓤 H 𝓣.C 𝓣.Λ code.function (us ++ []) Post)) (sym ws)
      (qed 𝓛 Γ ∵ enter ! 𝓣.C 𝓣.Λ code.function (w ∷ []) _ $ alloc_all ! (λ ls. pass_all ! refl (three_typed null_ptr hv false fa, tt) $
      sets ! (of_opd ! (get_in ! (fld ! refl (stop !)) (sub ! 0 refl (whole !)))) refl (ptr_typed null_ptr) $ sets ! (of_opd ! (get_in ! (fld ! refl (stop !)) (sub ! 1 refl (whole !)))) refl fa $
      sets ! (of_opd ! (get_in ! (fld ! refl (stop !)) (sub ! 2 refl (whole !)))) refl (tt, tt) $ sets ! (of_opd ! (get ! refl)) refl (tt, tt) $
      first ! $ branches ! (get ! refl)
      (λ is_so. absurd is_so)
      (λ is_not. skips ! $ exec ! 𝓣.C 𝓣.Λ (env code.Mir.locals ls) code.Mir.t-6 (at_ret _ Post) $
      sets ! (agg ! (and_then ! (lit ! tt) (no_more !))) refl (tt, (record { fits = lit< tt }, tt)) $
      returns ! (look_at ! 0 refl) $ free_all ! refl $ drop ! $
      use0 𝓛 (‵ (To.own_val None (live 0 (of_list []) ∷ []))) (none_of 𝓛 Inside) $
      suffices ! _ (ends_at 𝓛 F.ended stayed (F.clauses 𝓛 at_mem run) z (live 0 (of_list [])) None (tt, tt) (tt, tt)) $ says ! (λ is. absurd (false≢true is), tt) $
      nothing ! $ nothing ! $ fjoin ! $ join ! $ nothing ! $ join ! $ done !)))))

  walk : (z : (walk_of 𝓛 F.ended stayed (F.clauses 𝓛 at_mem run)).Ghost)
      → ent 𝓤 ((walk_of 𝓛 F.ended stayed (F.clauses 𝓛 at_mem run)).pre z) (WpFn 𝓤 H 𝓣.C 𝓣.Λ code.function (z.0.4.0 ++ []) ((walk_of 𝓛 F.ended stayed (F.clauses 𝓛 at_mem run)).post z))
  walk z = at_each z.0.3.0.is_open z.0.3.0.at z.0.3.0.alloc z.0.3.0.decoder z.0.4.0

pub into_parts_spec : {M : Type 1} → stated.statement M
unfolding tables_of
into_parts_spec 𝓤 𝓛 𝓜 𝓡 wired =
    let 𝓣 : Tables 𝓤 𝓛.H = tables_of 𝓤 𝓛.H 𝓜 (tables 𝓤 𝓛.H 𝓜 𝓡 𝓡.env) in
    entered 𝓤 𝓛.H (triple_of 𝓛 F.signature (F.spec 𝓛 𝓜.mem 𝓡.returns)) 𝓣.C 𝓣.Λ #self code.function (code.unfolded 𝓤 𝓛.H 𝓜 𝓡 wired)
    (walk_Meets 𝓛 F.ended stayed (Goes-dropped 𝓛 0 From yes (λ κs x f. refl), tt) (F.clauses 𝓛 𝓜.mem 𝓡.returns) (WpFn 𝓤 𝓛.H 𝓣.C 𝓣.Λ code.function) (WpFn-mono 𝓤 𝓛.H 𝓛.laws 𝓣 code.function)
    (walk 𝓛 𝓜.mem 𝓡.returns 𝓣))
