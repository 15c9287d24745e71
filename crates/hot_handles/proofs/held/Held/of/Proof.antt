-- The box's pointer is kept, and what the box owns behind it.
use Rattle.hot_handles.proofs.held.Steps.{List, [], ◌∷◌, ◌++◌, Some, refl, ap, proved_at, Goes-dropped, id⊢, emp, Val, fact, ◌⊑◌, tables, WpFn, ‵, raw, ◌⊛◌, some, later, prop, ◌$◌, ◌∵◌, !, qed, done, move, keep, drop, use1, split, join, fsplit, fjoin, feq_l, pick, await, regoal, suffices, agg, enter, of_opd, no_more, and_then, returns, alloc_all, pass_all, free_all, look_at, get, sets, lands_as, a_type, inst_fn, dcons, dnil, bounded, param, no, RattleType, owns, Ptr, RawPtr, plain, types_at, nothing, only, calls_at, Lasts, lasts, triple_of, framed, Stays, stay_dropped, says, walk_of, ends_at}
use denote.Param.NoDrop.{glues}
use Rattle.std_heap.specs.contracts.GlobalAllocator.TheImpl.{ghosts, dict}
use Rattle.std_heap.proofs.GlobalAllocator.TheImpl.Met.{passed}
use Rattle.hot_handles.specs.Owning.{owns_held}
use Rattle.hot_handles.specs.contracts.held.Held.{the_row}
use Rattle.hot_handles.specs.contracts.Destruct++none.drop.Key.{symbol}
use Rattle.hot_handles.proofs.held.Words.{word, one_word, pointer_fits}
use Rattle.hot_handles.proofs.held.Content.{held_in, word_fits}
use Rattle.hot_handles.proofs.held.Boxes.{Heap, Boxed, heap_laws, boxed_laws, ages, shares, token, tokens, aged, bound, heap_drop}
use Rattle.std_alloc.specs.contracts.boxed.Box.into_raw as g
use Rattle.std_alloc.proofs.boxed.Box.into_raw.Met.{met}
use Rattle.hot_handles.specs.contracts.held.Held.of as f
use Rattle.hot_handles.proofs.held.Held.of.Statement.{statement}
use Rattle.hot_handles.proofs.held.Held.of.Code as code

pub of_spec : {M : Type 1} → statement M
unfolding Rattle.hot_handles.proofs.Destruct++none.drop.Code.code
of_spec 𝓤 𝓛 𝓜 𝓡 wired T laws dropping dropped =
    let ended = f.ended T dropping in let c = f.clauses T dropping 𝓛 𝓜.mem 𝓡.returns in let 𝓣 = tables 𝓤 𝓛.H 𝓜 𝓡 𝓡.env in let R : RattleType = param 0 T in
    let types = bounded (a_type ∷ []) (T, tt) (dcons dropping dnil) in let function = inst_fn types code.function in
    let stayed : Stays ended.signature.params ended.kept = (stay_dropped (plain (λ _. Boxed T)) no, tt) in let W = walk_of 𝓛 ended stayed c in
    let F = g.ended T Heap ghosts dict heap_drop dropping in
    let G = triple_of 𝓛 (g.signature T Heap ghosts dict heap_drop dropping) (g.spec T Heap ghosts dict heap_drop dropping 𝓛 𝓜.mem 𝓡.returns) in
    proved_at 𝓛 ended stayed c 𝓜 𝓡 (Goes-dropped 𝓛 1 (plain (λ _. Boxed T)) no (λ κs x w. refl), tt)
    (f.Key.name types) function (code.unfolded 𝓤 𝓛.H 𝓜 𝓡 wired (T, tt) dropping) (λ y are.
    let box = y.0.3.0 in let κ = y.0.0.0 in let q = y.0.1.0 in
    qed 𝓛 ((token 𝓛 κ q ⊛ ‵ (owns (types_at ended.signature.params y.0.0) y.0.3 y.0.4)) ∷ (raw (fact 𝓤 (κ ⊑ T.lives)) ⊛ raw (emp 𝓤)) ∷ []) ∵
    split ! $ move ! (1 ∷ []) $ fsplit ! $ one_word ! (Boxed T) (boxed_laws T laws) box y.0.4.0 (λ b is fits.
    regoal ! (λ (us : List Val). prop (WpFn 𝓤 𝓛.H 𝓣.C 𝓣.Λ function (us ++ []) (W.post y))) is refl $
    let z : G.Ghost = ((ages κ, shares q, tt, (box, tt), (b ∷ [], tt)), tt) in
    -- [the box; nothing; the token; the bound]
    fjoin ! $ move ! (1 ∷ []) $ aged ! κ q $ join ! $ move ! (1 ∷ []) $ bound ! T κ $ move ! (1 ∷ 0 ∷ []) $ join ! $ use1 𝓛 (raw (G.pre z)) (id⊢ 𝓤 _) $
    enter ! _ _ _ _ _ $ alloc_all ! (λ l. pass_all ! refl (fits, tt) $
    sets ! (of_opd ! (get ! refl)) refl fits $
    calls_at ! (framed 𝓤 𝓛.H 𝓜 𝓣) G (met 𝓤 𝓛 𝓜 𝓡 (code.calls-std_alloc::boxed::Box::into_raw 𝓡.env wired) T Heap laws heap_laws ghosts dict heap_drop dropping
    (passed 𝓡.env (code.calls-std_heap::GlobalAllocator::allocate 𝓡.env wired) (code.calls-std_heap::GlobalAllocator::deallocate 𝓡.env wired) (code.calls-std_heap::GlobalAllocator::grow 𝓡.env wired) (code.calls-std_heap::GlobalAllocator::shrink 𝓡.env wired) _ 𝓤 𝓛 𝓜 𝓡)
    (glues symbol 𝓡.env (code.calls-hot_handles::Destruct++none::drop 𝓡.env wired) Heap heap_laws _ 𝓤 𝓛 𝓜 𝓡) dropped) z
    (and_then ! (get ! refl) (no_more !)) (λ v.
    use1 𝓛 (later (some (λ (at : Ptr). (tokens 𝓛 κ q ⊛ ‵ (RawPtr.own_val at (v ∷ []))) ⊛
    some (λ (ls : Lasts F z.0.0 z.0.3). ‵ (lasts F z.0.0 z.0.3 ls) ⊛ ‵ (owns_held R at (Some box.value)))))) (id⊢ 𝓤 _) $
    await ! tt $ pick ! (λ at. split ! $ move ! (1 ∷ []) $ pick ! (λ ls. split ! $ drop ! $ move ! (1 ∷ []) $ split ! $ move ! (1 ∷ []) $ feq_l ! (λ is_at.
    -- [the tokens; what the box owned]
    lands_as ! (ap only is_at) refl (pointer_fits at) $
    sets ! (agg ! (and_then ! (get ! refl) (no_more !))) refl (word_fits R at) $
    returns ! (look_at ! 0 refl) $ free_all ! refl $ split ! $ keep ! (2 ∷ 0 ∷ []) $
    let held : (the_row R).Denot = record { at = at; value = Some box.value } in held_in R ! held $
    suffices ! _ (ends_at 𝓛 ended stayed c y (word at) held (tt, tt) (tt, tt)) $ says ! refl $
    nothing ! $ nothing ! $ fjoin ! $ join ! $ nothing ! $ move ! (2 ∷ 0 ∷ []) $ join ! $ join ! $ done !)))))))
