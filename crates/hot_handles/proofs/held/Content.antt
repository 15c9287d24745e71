-- What a cell holds is one word, and beside it the value, which owns what a box owns.
use Rattle.hot_handles.proofs.held.Steps.{◌≡◌, List, [], ◌∷◌, refl, lit<, Val, Item, Goal, Seq, Step, ‵, ◌$◌, fsplit, fjoin, step, owned, facts, RattleType, Is, shows, Ptr, block_ptr, null_ptr, ptr_val, rawptr_vals, rawptr_Tells, rawptr_pure}
use Rattle.hot_handles.proofs.held.Words.{Fits, word}
use seplogic.Ra.Ura.{Ura}
use types.Logic.{Logic}
use denote.Struct.Owning.{shape, to}
use denote.Struct.Struct.{Struct, Struct-Makes, Struct-Tells}
use Rattle.hot_handles.specs.Owning.{owns_held}
use Rattle.hot_handles.specs.contracts.held.Held.{the_row, the_type}

module _ (R : RattleType) where
  abbrev Word : RattleType
  Word = Struct (shape (the_type R))

  pub word_fits : (at : Ptr) → Fits (the_row R) (word at)
  word_fits (block_ptr b o) = (tt, (tt, tt))
  word_fits null_ptr = (tt, (record { fits = lit< tt }, tt))

  module _ {M : Type 1} {𝓤 : Ura M} {𝓛 : Logic 𝓤} {K : Type 0} {Γ : List (Item 𝓤)} {G : Goal 𝓤 𝓛.H} where
    -- it goes, and what it owns is left
    pub held_out : K → (h : (the_row R).Denot) (vs : List Val) → (vs ≡ word h.at ∷ [] → Seq K 𝓛 (‵ (owns_held R h.at h.value) ∷ Γ) G) → Seq K 𝓛 (‵ ((the_row R).own_val h vs) ∷ Γ) G
    held_out t h vs k = fsplit t $ facts t Word (Is Word) (shows 𝓛 Word) (to (the_type R) h) vs (λ is. k (Struct-Tells (shape (the_type R)) (rawptr_vals, tt) (rawptr_Tells, tt) (to (the_type R) h) vs is))

    -- and is made of that
    pub held_in : K → (h : (the_row R).Denot) → Step K 𝓛 (‵ ((the_row R).own_val h (word h.at ∷ [])) ∷ Γ) G (‵ (owns_held R h.at h.value) ∷ Γ) G
    held_in t h = step (λ rest. owned t Word (Is Word) (Struct-Makes 𝓛 (shape (the_type R)) (rawptr_pure, tt)) (to (the_type R) h) (word h.at ∷ []) ((ptr_val h.at ∷ [], tt), (refl, (refl, tt))) $ fjoin t $ rest)
