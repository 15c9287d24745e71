-- What a call of a generic function of boxes is handed, where the box is one of C's heap for a value of a type parameter.
use Rattle.hot_handles.proofs.held.Steps.{[], ◌∷◌, refl, full_share, ftrue, flft, impl, tnil, List, Item, Goal, Step, step, ‵, raw, ◌⊛◌, ◌$◌, move, use0, split, join, fact, fact_i, ◌⊑◌, no, dnil, RattleType, Laws, layout, param, param_laws}
use seplogic.Ra.Ura.{Ura}
use mir.Raw.{raw as bare}
use mir.Syntax.{Dict, tcons}
use base.Fml.{Lft, Share}
use types.Logic.{Logic}
use contract.Lifetimes.{Lfts, Shares}
use denote.Param.{arg}
use denote.Param.Laws.{arg_laws}
use Rattle.std_alloc.specs.contracts.boxed.Box as Box
use Rattle.std_alloc.proofs.boxed.Box.TheLaws as box
use Rattle.std_heap.specs.contracts.Global.{the_row as heap_row}
use Rattle.std_heap.specs.contracts.GlobalAllocator.TheImpl.{ghosts}
use Rattle.std_heap.proofs.Global.TheLaws as heap
use Rattle.hot_handles.specs.contracts.Destruct++none.drop.Key.{symbol}

-- the heap's handle, as a call has it
abbrev pub Heap : RattleType
Heap = arg (bare (layout heap_row)) no heap_row

pub heap_laws : Laws Heap
heap_laws = arg_laws (bare (layout heap_row)) no heap_row heap.the_row_laws refl

-- its drop, of which there is nothing to drop
abbrev pub heap_drop : Dict
heap_drop = impl (symbol ∷ []) (tcons (layout Heap) tnil) dnil

-- the box
abbrev pub Boxed : RattleType → RattleType
Boxed T = Box.the_row (param 0 T) heap_row ghosts

pub boxed_laws : (T : RattleType) → Laws T → Laws (Boxed T)
boxed_laws T laws = box.the_row_laws (param 0 T) heap_row ghosts (param_laws 0 T laws) heap.the_row_laws

-- the lifetimes of a call: that of the parameter, and none
abbrev pub ages : Lft → Lfts 2
ages κ = (κ, ([], tt))

abbrev pub shares : Share → Shares 2
shares q = (q, (full_share, tt))

module _ {M : Type 1} {𝓤 : Ura M} (𝓛 : Logic 𝓤) (κ : Lft) (q : Share) where
  -- the tokens of a function with one lifetime, and those of a call
  abbrev pub token : Item 𝓤
  token = ‵ (flft κ q) ⊛ ‵ ftrue

  abbrev pub tokens : Item 𝓤
  tokens = ‵ (flft κ q) ⊛ ‵ (flft [] full_share) ⊛ ‵ ftrue

module _ {M : Type 1} {𝓤 : Ura M} {𝓛 : Logic 𝓤} {K : Type 0} {Γ : List (Item 𝓤)} {G : Goal 𝓤 𝓛.H} where
  pub aged : K → (κ : Lft) (q : Share) → Step K 𝓛 (tokens 𝓛 κ q ∷ Γ) G (token 𝓛 κ q ∷ Γ) G
  aged t κ q = step (λ rest. split t $ move t (1 ∷ []) $ use0 𝓛 (‵ (flft [] full_share)) (𝓛.lfts.lft-nil full_share) $ join t $ move t (1 ∷ 0 ∷ []) $ join t $ rest)

  -- a call asks too that the heap's handle outlives what names no lifetime
  pub bound : K → (T : RattleType) (κ : Lft) {asked : Item 𝓤} → Step K 𝓛 ((raw (fact 𝓤 (κ ⊑ T.lives)) ⊛ raw (fact 𝓤 ([] ⊑ heap_row.lives)) ⊛ asked) ∷ Γ) G ((raw (fact 𝓤 (κ ⊑ T.lives)) ⊛ asked) ∷ Γ) G
  bound t T κ = step (λ rest. split t $ move t (1 ∷ []) $ use0 𝓛 (raw (fact 𝓤 ([] ⊑ heap_row.lives))) (fact_i 𝓤 _ _ (heap.the_within [])) $ join t $ move t (1 ∷ 0 ∷ []) $ join t $ rest)
