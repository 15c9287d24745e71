-- Machine values of one word, and pointers as them.
use Rattle.hot_handles.proofs.held.Steps.{◌≡◌, Option, Some, None, IsSome, List, [], ◌∷◌, refl, sym, ap, subst, lit<, T, Val, vstruct, vnil, vcons, has_ty, WT, ty_ptr, impl, tnil, dnil, Item, Goal, Seq, ‵, ◌$◌, rewrite, only, ftrue, RattleType, Laws, layout, Ptr, block_ptr, null_ptr, ptr_val}
use seplogic.Ra.Ura.{Ura}
use types.Logic.{Logic}
use Rattle.core.proofs.alloc.Calls.{handle_tells}

-- a struct of a pointer
abbrev pub word : Ptr → Val
word at = vstruct (vcons (ptr_val at) vnil)

-- a machine value is one of a type
abbrev pub Fits : RattleType → Val → Type 0
Fits R v = T (has_ty (layout R) v) × WT v

pub pointer_fits : (at : Ptr) → T (has_ty ty_ptr (ptr_val at)) × WT (ptr_val at)
pointer_fits (block_ptr b o) = (tt, tt)
pointer_fits null_ptr = (tt, record { fits = lit< tt })

-- what an option has
pub held : {A : Type 0} (o : Option A) → IsSome o → (x : A) × (o ≡ Some x)
held None e = cc
held (Some x) e = (x, refl)

module _ {M : Type 1} {𝓤 : Ura M} {𝓛 : Logic 𝓤} {K : Type 0} {Γ : List (Item 𝓤)} {G : Goal 𝓤 𝓛.H} where
  -- what is owned of a value is owned at one machine value, which fits
  pub one_word : K → (R : RattleType) → Laws R → (x : R.Denot) (vs : List Val) → ((v : Val) → vs ≡ v ∷ [] → Fits R v → Seq K 𝓛 (‵ (R.own_val x (v ∷ [])) ∷ Γ) G) → Seq K 𝓛 (‵ (R.own_val x vs) ∷ Γ) G
  one_word t R laws = handle_tells (record { row = R; laws = laws; g = record { dealloc_token = λ a τ p. ftrue }; d = impl [] tnil dnil; drops = impl [] tnil dnil }) t

  pub this_word : K → (R : RattleType) → Laws R → (x : R.Denot) (v : Val) → (Fits R v → Seq K 𝓛 (‵ (R.own_val x (v ∷ [])) ∷ Γ) G) → Seq K 𝓛 (‵ (R.own_val x (v ∷ [])) ∷ Γ) G
  this_word t R laws x v k = one_word t R laws x (v ∷ []) (λ u is fits. rewrite t 0 (λ (us : List Val). ‵ (R.own_val x us)) (sym is) refl $ k (subst (Fits R) (sym (ap only is)) fits))
