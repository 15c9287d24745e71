-- What a step teaches its pass of its number and of its last load of the root.
use Rattle.linearizability.proofs.Common.{◌≡◌, ◌⊎◌, inl, inr, ℕ, Bool, true, false, nat_eq, if◌then◌else◌, Option, Some, None, refl, Act, Claim, Fill, Ready, Release, LoadRef, LoadFixed, Lock, Unlock, Publish, Mark, LoadEpoch, Advance, SetPin, ClearPin, LoadPin, LoadState, GiveBack, Load, Known, Core, learned, claim_learned, anchor_learned}
use Rattle.record_words.specs.declared.records.Rec.{Rec}
use Rattle.versions.specs.Core.{Fate, Free, Held, Ready as ReadyBy, InTree, Unlinked, Marked}
use Rattle.rowex_core.specs.declared.event.Target.TheVariants.{Anchor, Node as NodeTarget}
use Rattle.rowex_core.specs.declared.event.Spot.TheVariants.{Root, Slot, Value}

-- the number stays, and so does the last load of the root
abbrev Leaves : Known → Known → Type 0
Leaves k j = (j.pass ≡ k.pass) × (j.fresh ≡ k.fresh)

-- or the number stays, and this was a load of the root: it showed all changes
abbrev pub Teaches : Core → Known → Known → Type 0
Teaches c k j = (j.pass ≡ k.pass) × ((j.fresh ≡ k.fresh) ⊎ (j.fresh.front ≡ c.changes))

claim_leaves : (c : Core) (r : Rec) (found : ℕ) (k : Known) (f : Fate) → Leaves k (claim_learned c r found f k)
claim_leaves c r found k Free = (refl, refl)
claim_leaves c r found k (Held q) = (refl, refl)
claim_leaves c r found k (ReadyBy q) = (refl, refl)
claim_leaves c r found k (InTree s) = (refl, refl)
claim_leaves c r found k (Unlinked s l q) = (refl, refl)
claim_leaves c r found k (Marked s l e) = (refl, refl)

anchor_leaves : (c : Core) (found : ℕ) (k : Known) (o : Option ℕ) → Leaves k (anchor_learned c found o k)
anchor_leaves c found k None = (refl, refl)
anchor_leaves c found k (Some q) = (refl, refl)

either_leaves : (b : Bool) (j i k : Known) → Leaves k j → Leaves k i → Leaves k (if b then j else i)
either_leaves true j i k e f = e
either_leaves false j i k e f = f

pub teaches : (c : Core) (act : Act) (k : Known) → Teaches c k (learned c act k)
teaches c (Claim r found) k = let h = claim_leaves c r found k (c.fate r) in (h.0, inl h.1)
teaches c (Fill r offset w) k = (refl, inl refl)
teaches c (Ready r) k = (refl, inl refl)
teaches c (Release r) k = (refl, inl refl)
teaches c (LoadRef Root w) k = (refl, inr refl)
teaches c (LoadRef (Slot n j) w) k = (refl, inl refl)
teaches c (LoadRef (Value l) w) k = (refl, inl refl)
teaches c (LoadFixed r offset w) k = (refl, inl refl)
teaches c (Lock Anchor found) k = let h = anchor_leaves c found k c.anchor in (h.0, inl h.1)
teaches c (Lock (NodeTarget n) found) k = let h = either_leaves (nat_eq found 2) _ _ k (refl, refl) (refl, refl) in (h.0, inl h.1)
teaches c (Unlock Anchor) k = (refl, inl refl)
teaches c (Unlock (NodeTarget n)) k = (refl, inl refl)
teaches c (Publish spot w) k = (refl, inl refl)
teaches c (Mark r epoch) k = (refl, inl refl)
teaches c (LoadEpoch w) k = (refl, inl refl)
teaches c (Advance expected found) k = (refl, inl refl)
teaches c (SetPin w) k = (refl, inl refl)
teaches c ClearPin k = (refl, inl refl)
teaches c (LoadPin o w) k = (refl, inl refl)
teaches c (LoadState r w) k = let h = either_leaves (nat_eq w 0) _ _ k (refl, refl) (refl, refl) in (h.0, inl h.1)
teaches c (GiveBack r epoch found) k = (refl, inl refl)
teaches c (Load words) k = (refl, inr refl)
