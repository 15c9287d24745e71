-- The box gets the pointer, and the value.
use Rattle.hot_handles.proofs.held.Steps.{◌≡◌, List, [], ◌∷◌, ◌++◌, Option, Some, IsSome, refl, sym, ap, ◌∙◌, proved_at, id⊢, Val, fact, ◌⊑◌, tables, WpFn, ‵, raw, ◌⊛◌, some, later, prop, at_ret, ◌$◌, ◌∵◌, !, qed, done, move, keep, drop, use1, split, split3, join, fsplit, fjoin, feq_i, pick, await, rewrite, regoal, suffices, sub, whole, enter, of_opd, stop, fld, no_more, and_then, first, blocks, exec, returns, alloc_all, pass_all, free_all, look_at, get, get_in, sets, lands_last, env, a_type, inst_fn, layouts, param, no, yes, RattleType, owns, ptr_val, plain, types_at, nothing, heard, calls_at_last, Lasts, lasts, triple_of, framed, Stays, stay_dropped, Goes-dropped, says, walk_of, ends_at}
use denote.Param.NoDrop.{glues}
use Rattle.std.specs.Box.{box_allocator}
use Rattle.std.proofs.VecSteps.Shapes.{after}
use Rattle.std_heap.specs.contracts.Global.{the_row as A}
use Rattle.std_heap.specs.contracts.GlobalAllocator.TheImpl.{ghosts, dict}
use Rattle.std_heap.proofs.GlobalAllocator.TheImpl.Met.{passed}
use Rattle.std_heap.proofs.Global.TheLaws as heap
use Rattle.hot_handles.specs.Owning.{owns_held}
use Rattle.hot_handles.specs.contracts.held.Held.{the_row}
use Rattle.hot_handles.specs.contracts.Destruct++none.drop.Key.{symbol}
use Rattle.hot_handles.proofs.held.Words.{word, held, one_word, this_word, pointer_fits}
use Rattle.hot_handles.proofs.held.Content.{held_out, word_fits}
use Rattle.hot_handles.proofs.held.Boxes.{Heap, Boxed, heap_laws, boxed_laws, ages, shares, token, tokens, aged, bound, heap_drop}
use Rattle.std_alloc.specs.contracts.boxed.Box.from_raw as g
use Rattle.std_alloc.proofs.boxed.Box.from_raw.Met.{met}
use Rattle.hot_handles.specs.contracts.held.Held.into_box as f
use Rattle.hot_handles.proofs.held.Held.into_box.Statement.{statement}
use Rattle.hot_handles.proofs.held.Held.into_box.Code as code

pub into_box_spec : {M : Type 1} → statement M
unfolding Rattle.hot_handles.proofs.Destruct++none.drop.Code.code
into_box_spec 𝓤 𝓛 𝓜 𝓡 wired T laws =
    let ended = f.ended T in let c = f.clauses T 𝓛 𝓜.mem 𝓡.returns in let 𝓣 = tables 𝓤 𝓛.H 𝓜 𝓡 𝓡.env in let R : RattleType = param 0 T in
    let types = layouts (a_type ∷ []) (T, tt) in let function = inst_fn types code.function in
    let stayed : Stays ended.signature.params ended.kept = (stay_dropped (plain (λ _. the_row R)) no, (stay_dropped (plain (λ _. A)) yes, tt)) in let W = walk_of 𝓛 ended stayed c in
    let F = g.ended T Heap ghosts dict heap_drop in
    let G = triple_of 𝓛 (g.signature T Heap ghosts dict heap_drop) (g.spec T Heap ghosts dict heap_drop 𝓛 𝓜.mem 𝓡.returns) in
    proved_at 𝓛 ended stayed c 𝓜 𝓡 (Goes-dropped 𝓛 1 (plain (λ _. the_row R)) no (λ κs x w. refl), (Goes-dropped 𝓛 1 (plain (λ _. A)) yes (λ κs x w. refl), tt))
    (f.Key.name types) function (code.unfolded 𝓤 𝓛.H 𝓜 𝓡 wired (T, tt)) (λ y are.
    let self = y.0.3.0 in let alloc = y.0.3.1.0 in let κ = y.0.0.0 in let q = y.0.1.0 in
    qed 𝓛 ((token 𝓛 κ q ⊛ ‵ (owns (types_at ended.signature.params y.0.0) y.0.3 y.0.4)) ∷ (raw (fact 𝓤 (κ ⊑ T.lives)) ⊛ raw (fact 𝓤 (IsSome self.value))) ∷ []) ∵
    move ! (1 ∷ []) $ split ! $ move ! (1 ∷ []) $ heard ! _ (λ full. let x : T.Denot = (held self.value full).0 in let holds = (held self.value full).1 in
    -- [the bound; the token with what the parameters own]
    move ! (1 ∷ []) $ split ! $ move ! (1 ∷ []) $ fsplit ! $ held_out R ! self y.0.4.0 (λ is. move ! (1 ∷ []) $ fsplit ! $ one_word ! A heap.the_row_laws alloc y.0.4.1.0 (λ a is_a fits.
    regoal ! (λ (us : List Val). prop (WpFn 𝓤 𝓛.H 𝓣.C 𝓣.Λ function (us ++ (y.0.4.1.0 ++ [])) (W.post y))) is refl $
    regoal ! (λ (us : List Val). prop (WpFn 𝓤 𝓛.H 𝓣.C 𝓣.Λ function (word self.at ∷ (us ++ [])) (W.post y))) is_a refl $
    let at = self.at in
    let z : G.Ghost = ((ages κ, shares q, tt, (alloc, (at, tt)), (a ∷ [], (ptr_val at ∷ [], tt))), x) in
    -- [the allocator; nothing; what the cell holds; the token; the bound]
    move ! (2 ∷ []) $ rewrite ! 0 (λ (content : Option T.Denot). ‵ (owns_held R at content)) holds refl $
    move ! (4 ∷ 0 ∷ []) $ join ! $ bound ! T κ $
    move ! (2 ∷ []) $ feq_i ! (List Val) (ptr_val at ∷ []) (ptr_val at ∷ []) refl $ fjoin ! $ move ! (2 ∷ 0 ∷ []) $ fjoin ! $
    move ! (2 ∷ []) $ aged ! κ q $ join ! $ join ! $
    use1 𝓛 (raw (G.pre z)) (id⊢ 𝓤 _) $
    enter ! _ _ _ _ _ $ alloc_all ! (λ l. pass_all ! refl (word_fits R at, (fits, tt)) $
    sets ! (of_opd ! (get_in ! (fld ! refl (stop !)) (sub ! 0 refl (whole !)))) refl (pointer_fits at) $
    first ! $ blocks ! $
    calls_at_last ! (framed 𝓤 𝓛.H 𝓜 𝓣) G (met 𝓤 𝓛 𝓜 𝓡 (code.calls-std_alloc::boxed::Box::from_raw 𝓡.env wired) T Heap laws heap_laws ghosts dict heap_drop
    (passed 𝓡.env (code.calls-std_heap::GlobalAllocator::allocate 𝓡.env wired) (code.calls-std_heap::GlobalAllocator::deallocate 𝓡.env wired) (code.calls-std_heap::GlobalAllocator::grow 𝓡.env wired) (code.calls-std_heap::GlobalAllocator::shrink 𝓡.env wired) _ 𝓤 𝓛 𝓜 𝓡)
    (glues symbol 𝓡.env (code.calls-hot_handles::Destruct++none::drop 𝓡.env wired) Heap heap_laws _ 𝓤 𝓛 𝓜 𝓡)) z
    (and_then ! (get ! refl) (and_then ! (get ! refl) (no_more !))) (λ b.
    use1 𝓛 (later (some (λ (r : (Boxed T).Denot). (tokens 𝓛 κ q ⊛ ‵ ((Boxed T).own_val r (b ∷ []))) ⊛
    some (λ (ls : Lasts F z.0.0 z.0.3). ‵ (lasts F z.0.0 z.0.3 ls) ⊛ (raw (fact 𝓤 (r.value ≡ x)) ⊛ raw (fact 𝓤 (box_allocator r ≡ alloc))))))) (id⊢ 𝓤 _) $
    await ! tt $ pick ! (λ r. split ! $ move ! (1 ∷ []) $ pick ! (λ ls. split3 ! $ drop ! $ heard ! _ (λ same. drop ! $ split ! $ move ! (1 ∷ []) $
    this_word ! (Boxed T) (boxed_laws T laws) r b (λ fits_b.
    lands_last ! refl fits_b $ exec ! 𝓣.C 𝓣.Λ (env function.locals l) (after 2 function.body) (at_ret _ (W.post y)) $
    sets ! (of_opd ! (get ! refl)) refl fits_b $
    returns ! (look_at ! 0 refl) $ free_all ! refl $
    suffices ! _ (ends_at 𝓛 ended stayed c y b r (tt, (tt, tt)) (tt, (tt, tt))) $ says ! (holds ∙ ap Some (sym same)) $
    nothing ! $ nothing ! $ fjoin ! $ nothing ! $ fjoin ! $ join ! $ move ! (1 ∷ []) $ split ! $ nothing ! $ move ! (1 ∷ 0 ∷ []) $ join ! $ keep ! (0 ∷ 2 ∷ []) $ join ! $ done !))))))))))
