-- A cell lies in memory as what it holds does, so a reference to it may be used as one to that.
use Rattle.hot_handles.proofs.held.Steps.{◌≡◌, ℕ, [], ◌∷◌, refl, proved, full_share, emp, GName, ftrue, flft, named, ty_ptr, vptr, tables, ‵, raw, ◌⊛◌, some, later, at_ret, ◌$◌, ◌∵◌, !, qed, done, move, keep, use1, use2, split, split3, join, fsplit3, fjoin, pick, await, suffices, group, frame, enter, of_opd, stop, addr, first, blocks, exec, returns, alloc_all, pass_all, free_all, look_at, get, through, sets, sets_last, env, no, plain, mut_ref_to, nothing, Stays, stay_dropped, Goes-spent_ref, says, walk_of, ends_at, RattleType}
use seplogic.Ra.Ura.{Ura}
use mir.Syntax.{Ty, Fn, Callee, local, value_local, ty_ref, mut, erased, place, deref, copy, rv_opd, addr_of, assign, seq, block, return}
use base.Fml.{Lft, Share}
use base.Logic.{SProp, ent, sep, ex}
use contract.Monad.{fact}
use contract.Running.{Running}
use prog.Model.{Model}
use prog.Wp.{Closed}
use types.Kit.{by, updating, now, show}
use types.Logic.{Logic, sem}
use types.Mut.{open_ref}
use denote.Memory.{mem, part_at}
use denote.Ref.{MutBor, MutRef, mut_vals, mut_Tells}
use denote.Follow.{follows, lends_Part}
use denote.Triple.Clauses.{Clauses, Ended, closing}
use denote.Triple.Spec.{Meets}
use Rattle.std.proofs.VecSteps.Shapes.{after}
use Rattle.std.specs.Borrow.{Lends}
use Rattle.hot_handles.specs.contracts.held.Held.{the_row}

-- The function that casts a reference to a cell into one to what the cell holds: ν and μ name the two types behind a reference, σ and τ spell them.
abbrev pub casting : Ty → Ty → Ty → Ty → Fn
casting ν μ σ τ = record {
  lifetimes = 1;
  outlives = [];
  ty_params = [];
  givens = 0;
  params = 1;
  locals = local (ty_ref (named 0) mut μ) value_local ∷ local (ty_ref (named 0) mut ν) value_local ∷ local (ty_ref erased mut μ) value_local ∷ local ty_ptr value_local ∷ local ty_ptr value_local ∷ [];
  body = seq
      (block (seq (assign (place 3 []) (addr_of (place 1 (deref σ ∷ [])))) (seq (assign (place 4 []) (rv_opd (copy (place 3 [])))) (assign (place 2 []) (addr_of (place 4 (deref τ ∷ [])))))))
      (seq (assign (place 0 []) (rv_opd (copy (place 2 [])))) return);
}

-- a cell's type S, and the type R of what it holds
module _ (S R : RattleType) (as_held : S.Denot → (the_row R).Denot) (as_slot : (the_row R).Denot → S.Denot) where
  abbrev H : RattleType
  H = the_row R

  abbrev pub ended : Ended
  ended = record {
    signature = record { lifetimes = 1; outlives = []; params = mut_ref_to (0 ∷ []) tt (plain (λ κs. S)) ∷ []; result = mut_ref_to (0 ∷ []) tt (plain (λ κs. H)) };
    kept = (no, tt);
  }

  abbrev stayed : Stays ended.signature.params ended.kept
  stayed = (stay_dropped (mut_ref_to (0 ∷ []) tt (plain (λ _. S))) no, tt)

  module _ {M : Type 1} {𝓤 : Ura M} (𝓛 : Logic 𝓤) where
    -- the cell ends as the content does, which is the cell's at first
    abbrev pub clauses : Clauses 𝓤 ended
    clauses = λ κs a. record { ghost = Unit {0}; requires = λ _. emp 𝓤; ensures = λ _ r e. sep 𝓤 (sem 𝓛 (Lends S H a.0 r as_slot)) (fact 𝓤 (r.now ≡ as_held a.0.now)) }

    module _ (there : (s : S.Denot) (b o : ℕ) → ent 𝓤 (sem 𝓛 (part_at S full_share s b o)) (sem 𝓛 (part_at H full_share (as_held s) b o)))
        (back : (h : H.Denot) (b o : ℕ) → ent 𝓤 (sem 𝓛 (part_at H full_share h b o)) (sem 𝓛 (part_at S full_share (as_slot h) b o))) where
      module _ (κ : Lft) (q : Share) (self : MutBor S.Denot) where
        -- the reference, as one to what the cell holds
        abbrev lent : GName → MutBor H.Denot
        lent γ = record { ref_ptr = self.ref_ptr; ghost_name = γ; now = as_held self.now }

        -- and what is had with it: the token, and that the cell follows
        abbrev Lent : GName → SProp 𝓤
        Lent γ = sep 𝓤 (sem 𝓛 ((MutRef (named 0) κ H).own_val (lent γ) (mut_vals self))) (sep 𝓤 (𝓛.A.lft κ q) (sem 𝓛 (follows S H self.ghost_name γ as_slot)))

        recast : ent 𝓤 (sep 𝓤 (sem 𝓛 ((MutRef (named 0) κ S).own_val self (mut_vals self))) (𝓛.A.lft κ q)) (𝓛.H.⇛ (ex 𝓤 Lent))
        recast =
            let b = self.ref_ptr.0 in let o = self.ref_ptr.1 in let y = as_held self.now in
            let again : (h : H.Denot) → ent 𝓤 (sep 𝓤 (sem 𝓛 (part_at H full_share h b o)) (sem 𝓛 ftrue)) (sem 𝓛 (part_at S full_share (as_slot h) b o)) =
            λ h. qed 𝓛 (‵ (part_at H full_share h b o) ∷ ‵ ftrue ∷ []) ∵ keep ! (0 ∷ []) $ by ! (back h b o) in
            qed 𝓛 (‵ ((MutRef (named 0) κ S).own_val self (mut_vals self)) ∷ ‵ (flft κ q) ∷ []) ∵ updating ! $
            fsplit3 ! $ move ! (1 ∷ 2 ∷ 3 ∷ []) $ open_ref ! tt (mem S) {b = b} {o = o} $ use1 𝓛 (‵ (part_at H full_share y b o)) (there self.now b o) $
            nothing ! $ move ! (2 ∷ 3 ∷ 4 ∷ 1 ∷ 0 ∷ []) $ group ! 5 $
            use1 𝓛 (later (some (λ (γ : GName). ‵ ((MutRef (named 0) κ H).own_val (lent γ) (vptr b o ∷ [])) ⊛ ‵ (flft κ q) ⊛ ‵ (follows S H self.ghost_name γ as_slot))))
            (lends_Part 𝓛 S H as_slot (named 0) κ q b o b o self.ghost_name (sem 𝓛 ftrue) again (S.coded.code self.now) (S.coded.code self.now) y) $ await ! tt $ pick ! (λ γ.
            keep ! (0 ∷ []) $ now ! $ show ! Lent γ $ done !)

      module _ (𝓜 : Model 𝓤 𝓛.H) (𝓡 : Running 𝓤 𝓛.H 𝓜) (k : Callee) (ν μ σ τ : Ty) where
        pub casts : Closed 𝓤 𝓛.H (tables 𝓤 𝓛.H 𝓜 𝓡 𝓡.env).C (tables 𝓤 𝓛.H 𝓜 𝓡 𝓡.env).Λ k (casting ν μ σ τ) → Meets 𝓛 ended.signature ((tables 𝓤 𝓛.H 𝓜 𝓡 𝓡.env).C k) (closing 𝓛 ended clauses)
        casts closed =
            let W = walk_of 𝓛 ended stayed clauses in let 𝓣 = tables 𝓤 𝓛.H 𝓜 𝓡 𝓡.env in let function = casting ν μ σ τ in
            proved 𝓛 ended stayed clauses 𝓜 𝓡 (Goes-spent_ref 𝓛 1 (0 ∷ []) tt (plain (λ _. S)), tt) k function closed
            (λ κs. (mut_vals, tt)) (λ κs. (mut_Tells (named 0) κs.0 S, tt)) (λ κs qs bounds a _ are.
            let κ = κs.0 in let q = qs.0 in let self = a.0 in let y : W.Ghost = ((κs, qs, bounds, a, (mut_vals self, tt)), tt) in
            qed 𝓛 (((‵ (flft κ q) ⊛ ‵ ftrue) ⊛ ‵ ((MutRef (named 0) κ S).own_val self (mut_vals self)) ⊛ ‵ ftrue) ∷ raw (emp 𝓤) ∷ []) ∵
            split ! $ split ! $ move ! (2 ∷ []) $ split ! $ keep ! (0 ∷ 2 ∷ []) $
            enter ! _ _ _ _ _ $ alloc_all ! (λ l. pass_all ! refl ((tt, tt), tt) $
            first ! $ blocks ! $
            sets ! (addr ! (through ! refl (stop !))) refl (tt, tt) $
            sets ! (of_opd ! (get ! refl)) refl (tt, tt) $
            sets_last ! (addr ! (through ! refl (stop !))) refl (tt, tt) $
            exec ! 𝓣.C 𝓣.Λ (env function.locals l) (after 1 function.body) (at_ret _ (W.post y)) $
            sets ! (of_opd ! (get ! refl)) refl (tt, tt) $
            use2 𝓛 (later (some (λ (γ : GName). ‵ ((MutRef (named 0) κ H).own_val (lent κ q self γ) (mut_vals self)) ⊛ ‵ (flft κ q) ⊛ ‵ (follows S H self.ghost_name γ as_slot)))) (recast κ q self) $
            await ! tt $ pick ! (λ γ. split3 ! $
            returns ! (look_at ! 0 refl) $ free_all ! refl $ keep ! (0 ∷ 1 ∷ 2 ∷ []) $
            -- [the reference; the token; that the cell follows]
            suffices ! _ (ends_at 𝓛 ended stayed clauses y (vptr self.ref_ptr.0 self.ref_ptr.1) (lent κ q self γ) (tt, tt) (tt, tt)) $
            nothing ! $ nothing ! $ fjoin ! $ nothing ! $ move ! (3 ∷ 0 ∷ []) $ join ! $ group ! 3 $ frame ! $ says ! refl $ done !)))
