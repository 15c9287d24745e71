-- A null pointer, and nothing.
use Rattle.hot_handles.proofs.held.Steps.{[], ◌∷◌, None, refl, proved, emp, ftrue, flft, fact, ◌⊑◌, raw, ‵, ◌⊛◌, ◌$◌, ◌∵◌, !, qed, done, move, keep, split, join, suffices, agg, enter, lit, no_more, and_then, returns, alloc_all, pass_all, free_all, look_at, sets, a_type, inst_fn, layouts, param, null_ptr, nothing, says, ends_at}
use Rattle.hot_handles.proofs.held.Words.{word}
use Rattle.hot_handles.proofs.held.Content.{word_fits, held_in}
use Rattle.hot_handles.specs.contracts.held.Held.{the_row}
use Rattle.hot_handles.specs.contracts.held.Held.empty as f
use Rattle.hot_handles.proofs.held.Held.empty.Statement.{statement}
use Rattle.hot_handles.proofs.held.Held.empty.Code as code

pub empty_spec : {M : Type 1} → statement M
empty_spec 𝓤 𝓛 𝓜 𝓡 wired T laws =
    let c = f.clauses T 𝓛 𝓜.mem 𝓡.returns in let types = layouts (a_type ∷ []) (T, tt) in
    proved 𝓛 (f.ended T) tt c 𝓜 𝓡 tt (f.Key.name types) (inst_fn types code.function) (code.unfolded 𝓤 𝓛.H 𝓜 𝓡 wired (T, tt)) (λ κs. tt) (λ κs. tt) (λ κs qs bounds a _ are.
    let κ = κs.0 in let q = qs.0 in let held : (the_row (param 0 T)).Denot = record { at = null_ptr; value = None } in
    qed 𝓛 (((‵ (flft κ q) ⊛ ‵ ftrue) ⊛ ‵ ftrue) ∷ (raw (fact 𝓤 (κ ⊑ T.lives)) ⊛ raw (emp 𝓤)) ∷ []) ∵ split ! $ keep ! (0 ∷ []) $
    enter ! _ _ _ _ _ $ alloc_all ! (λ l. pass_all ! refl tt $
    sets ! (agg ! (and_then ! (lit ! tt) (no_more !))) refl (word_fits (param 0 T) null_ptr) $
    returns ! (look_at ! 0 refl) $ free_all ! refl $
    nothing ! $ held_in (param 0 T) ! held $
    suffices ! _ (ends_at 𝓛 (f.ended T) tt c ((κs, qs, bounds, a, tt), tt) (word null_ptr) held tt tt) $ says ! refl $
    nothing ! $ join ! $ move ! (1 ∷ 0 ∷ []) $ join ! $ done !))
