-- The loan goes to what lies behind the pointer, and the cell follows it.
use Rattle.hot_handles.proofs.held.Steps.{◌≡◌, ℕ, List, [], ◌∷◌, Option, Some, IsSome, refl, sym, ap, ◌∙◌, proved, full_share, Fml, GName, ftrue, flft, fsep, named, Val, vptr, fact, ◌⊑◌, tables, ‵, raw, ◌⊛◌, some, later, at_ret, ◌$◌, ◌∵◌, !, qed, done, move, keep, use1, split, split3, join, fsplit, fsplit3, fjoin, fpack, pick, await, rewrite, suffices, group, frame, sub, whole, look_in, enter, of_opd, stop, fld, hop, addr, first, blocks, exec, returns, alloc_all, pass_all, free_all, look_at, get, through, sets, sets_last, env, a_type, inst_fn, layouts, param, no, RattleType, Ptr, block_ptr, null_ptr, in_a_block, plain, mut_ref_to, nothing, heard, opens, Stays, stay_dropped, Goes-spent_ref, says, walk_of, ends_at}
use seplogic.Ra.Ura.{Ura}
use base.Logic.{ent, sep, fst∗, never}
use mir.Raw.{raw as bare}
use types.Logic.{Logic, sem}
use denote.Memory.{lone, mem, part_at, part_of, cell_at}
use denote.Ref.{MutBor, MutRef, mut_vals, mut_Tells}
use denote.Follow.{follows, lends_Part}
use Rattle.std.proofs.VecSteps.Shapes.{after}
use Rattle.std_heap.specs.contracts.GlobalAllocator.TheImpl.{ghosts}
use Rattle.hot_handles.specs.Lending.{with_held}
use Rattle.hot_handles.specs.Owning.{heap, owns_held}
use Rattle.hot_handles.specs.contracts.held.Held.{the_row}
use Rattle.hot_handles.proofs.held.Words.{word, held}
use Rattle.hot_handles.proofs.held.Content.{held_in, held_out}
use Rattle.hot_handles.specs.contracts.held.Held.lend as f
use Rattle.hot_handles.proofs.held.Held.lend.Statement.{statement}
use Rattle.hot_handles.proofs.held.Held.lend.Code as code

module _ {M : Type 1} {𝓤 : Ura M} (𝓛 : Logic 𝓤) (R : RattleType) (self : (the_row R).Denot) (b o b' o' : ℕ) where
  -- the right to free what lies behind the pointer, and the pointer
  abbrev Right : Fml
  Right = ghosts.dealloc_token heap (bare (lone R.mir)) (block_ptr b' o')

  abbrev Cell : Ptr → Fml
  Cell at = cell_at full_share (the_row R).mir (word at ∷ []) b o

  -- with any value there they are a cell's content again
  refilled : self.at ≡ block_ptr b' o' → (x : R.Denot) → ent 𝓤 (sep 𝓤 (sem 𝓛 ((mem R).own_at x b' o')) (sep 𝓤 (sem 𝓛 Right) (sem 𝓛 (Cell (block_ptr b' o'))))) (sem 𝓛 ((mem (the_row R)).own_at (with_held self x) b o))
  unfolding part_of
  refilled at_block x = qed 𝓛 (‵ (part_at R full_share x b' o') ∷ ‵ Right ∷ ‵ (Cell (block_ptr b' o')) ∷ []) ∵ fjoin ! $
      rewrite ! 0 (λ (p : Ptr). ‵ (owns_held R p (Some x))) (sym at_block) refl $ held_in R ! (with_held self x) $
      rewrite ! 1 (λ (p : Ptr). ‵ (Cell p)) (sym at_block) refl $ move ! (1 ∷ []) $ fjoin ! $
      fpack ! (List Val) (λ us. fsep (cell_at full_share (the_row R).mir us b o) ((the_row R).own_val (with_held self x) us)) (word self.at ∷ []) $ done !

pub lend_spec : {M : Type 1} → statement M
lend_spec 𝓤 𝓛 𝓜 𝓡 wired T laws =
    let ended = f.ended T in let c = f.clauses T 𝓛 𝓜.mem 𝓡.returns in let 𝓣 = tables 𝓤 𝓛.H 𝓜 𝓡 𝓡.env in let R : RattleType = param 0 T in let H : RattleType = the_row R in
    let types = layouts (a_type ∷ []) (T, tt) in let function = inst_fn types code.function in
    let stayed : Stays ended.signature.params ended.kept = (stay_dropped (mut_ref_to (0 ∷ []) tt (plain (λ _. H))) no, tt) in let W = walk_of 𝓛 ended stayed c in
    proved 𝓛 ended stayed c 𝓜 𝓡 (Goes-spent_ref 𝓛 2 (0 ∷ []) tt (plain (λ _. H)), tt)
    (f.Key.name types) function (code.unfolded 𝓤 𝓛.H 𝓜 𝓡 wired (T, tt))
    (λ κs. (mut_vals, tt)) (λ κs. (mut_Tells (named 0) κs.0 H, tt)) (λ κs qs bounds a _ are.
    let κ = κs.0 in let q = qs.0 in let self = a.0 in let b = self.ref_ptr.0 in let o = self.ref_ptr.1 in let cell = self.now in
    let y : W.Ghost = ((κs, qs, bounds, a, (mut_vals self, tt)), tt) in
    qed 𝓛 (((‵ (flft κ q) ⊛ ‵ (flft κs.1.0 qs.1.0) ⊛ ‵ ftrue) ⊛ ‵ ((MutRef (named 0) κ H).own_val self (mut_vals self)) ⊛ ‵ ftrue) ∷ (raw (fact 𝓤 (κs.1.0 ⊑ T.lives)) ⊛ raw (fact 𝓤 (IsSome cell.value))) ∷ []) ∵
    move ! (1 ∷ []) $ split ! $ move ! (1 ∷ []) $ heard ! _ (λ full. let x : T.Denot = (held cell.value full).0 in let holds = (held cell.value full).1 in
    -- [the bound; the tokens with the reference]
    move ! (1 ∷ []) $ split ! $ move ! (1 ∷ []) $ split ! $ move ! (2 ∷ []) $ split ! $ keep ! (2 ∷ 0 ∷ 1 ∷ []) $
    -- [the reference; the token of its lifetime; the other one with nothing]
    enter ! _ _ _ _ _ $ alloc_all ! (λ l. pass_all ! refl ((tt, tt), tt) $
    fsplit3 ! $ move ! (1 ∷ 2 ∷ 3 ∷ []) $ opens ! tt H b o (λ us. move ! (1 ∷ []) $ held_out R ! cell us (λ is.
    rewrite ! 0 (λ (content : Option T.Denot). ‵ (owns_held R cell.at content)) holds refl $
    in_a_block ! cell.at (λ p. owns_held R p (Some x)) (fst∗ 𝓤 (never 𝓤) (sem 𝓛 (ghosts.dealloc_token heap (bare (lone R.mir)) null_ptr))) (λ b' o' at_block. fsplit ! $
    rewrite ! 2 (λ (vs : List Val). ‵ (cell_at full_share H.mir vs b o)) (is ∙ ap (λ (p : Ptr). word p ∷ []) at_block) refl $
    -- [what lies behind the pointer; the right to free it; the pointer; the open borrow, in three entries]
    first ! $ blocks ! $
    sets_last ! (addr ! (through ! refl (fld ! refl (hop ! (look_in ! 2 (sub ! 0 refl (whole !))) (stop !))))) refl (tt, tt) $
    exec ! 𝓣.C 𝓣.Λ (env function.locals l) (after 1 function.body) (at_ret _ (W.post y)) $
    sets ! (of_opd ! (get ! refl)) refl (tt, tt) $
    move ! (3 ∷ 4 ∷ 5 ∷ []) $ group ! 6 $
    let lent : GName → MutBor T.Denot = λ γ. record { ref_ptr = (b', o'); ghost_name = γ; now = x } in
    use1 𝓛 (later (some (λ (γ : GName). ‵ ((MutRef (named 0) κ R).own_val (lent γ) (vptr b' o' ∷ [])) ⊛ ‵ (flft κ q) ⊛ ‵ (follows H R self.ghost_name γ (with_held cell)))))
    (lends_Part 𝓛 H R (with_held cell) (named 0) κ q b o b' o' self.ghost_name (sep 𝓤 (sem 𝓛 (Right 𝓛 R cell b o b' o')) (sem 𝓛 (Cell 𝓛 R cell b o b' o' (block_ptr b' o')))) (refilled 𝓛 R cell b o b' o' at_block) (H.coded.code cell) (H.coded.code cell) x) $ await ! tt $ pick ! (λ γ. split3 ! $
    returns ! (look_at ! 0 refl) $ free_all ! refl $ keep ! (0 ∷ 1 ∷ 2 ∷ 4 ∷ []) $
    -- [the loan; the token; that the cell follows; the other token]
    suffices ! _ (ends_at 𝓛 ended stayed c y (vptr b' o') (lent γ) (tt, tt) (tt, tt)) $
    nothing ! $ nothing ! $ fjoin ! $ move ! (2 ∷ 4 ∷ []) $ join ! $ group ! 3 $ frame ! $ says ! holds $ done !)))))))
