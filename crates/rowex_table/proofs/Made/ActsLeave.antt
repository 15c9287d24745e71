-- What each act leaves its pass of what it knew.
use Rattle.rowex_table.proofs.Common.{◌≡◌, ◌+◌, ℕ, List, Bool, true, false, nat_eq, Option, None, refl, sym, ap, subst, ◌∙◌, Note, Layout, Rec, Fate, Free, HeldBy, ReadyBy, InTree, UnlinkedBy, Marked, Act, Claim, Fill, Ready, Release, LoadRef, LoadFixed, Lock, Unlock, Publish, Mark, LoadEpoch, Advance, SetPin, ClearPin, LoadPin, LoadState, GiveBack, Load, Root, Slot, Value, Anchor, NodeTarget, Known, Core, IsEvent, claim_learned, anchor_learned, learned}
use Rattle.std.proofs.Common.{Some}
use Rattle.std.specs.Prelude.{if◌then◌else◌}
use Rattle.std.proofs.lemmas.List.{append-nil}
use Rattle.rowex_table.specs.Runs.{silent}
use Rattle.rowex_table.specs.Stays.{LeavesFresh, IsNext}

module _ (k : Known) where
  claimed : (c : Core) (r : Rec) (found : ℕ) (f : Fate) → IsNext (Claim r found) k (record (claim_learned c r found f k) { steps = k.steps + 1 })
  claimed c r found Free = record { pass = refl; steps = refl; notes = refl; front = λ t. refl; fresh = λ t. refl; failed = λ t. absurd t; own = λ t. absurd t; locks = λ t. refl; anchor = λ t. refl; values = λ t. refl; pin = λ t. refl; round = λ t. refl; facts = λ t. refl }
  claimed c r found (HeldBy q) = record { pass = refl; steps = refl; notes = refl; front = λ t. refl; fresh = λ t. refl; failed = λ t. absurd t; own = λ t. absurd t; locks = λ t. refl; anchor = λ t. refl; values = λ t. refl; pin = λ t. refl; round = λ t. refl; facts = λ t. refl }
  claimed c r found (ReadyBy q) = record { pass = refl; steps = refl; notes = refl; front = λ t. refl; fresh = λ t. refl; failed = λ t. absurd t; own = λ t. absurd t; locks = λ t. refl; anchor = λ t. refl; values = λ t. refl; pin = λ t. refl; round = λ t. refl; facts = λ t. refl }
  claimed c r found (InTree s) = record { pass = refl; steps = refl; notes = refl; front = λ t. refl; fresh = λ t. refl; failed = λ t. absurd t; own = λ t. absurd t; locks = λ t. refl; anchor = λ t. refl; values = λ t. refl; pin = λ t. refl; round = λ t. refl; facts = λ t. refl }
  claimed c r found (UnlinkedBy s l q) = record { pass = refl; steps = refl; notes = refl; front = λ t. refl; fresh = λ t. refl; failed = λ t. absurd t; own = λ t. absurd t; locks = λ t. refl; anchor = λ t. refl; values = λ t. refl; pin = λ t. refl; round = λ t. refl; facts = λ t. refl }
  claimed c r found (Marked s l epoch) = record { pass = refl; steps = refl; notes = refl; front = λ t. refl; fresh = λ t. refl; failed = λ t. absurd t; own = λ t. absurd t; locks = λ t. refl; anchor = λ t. refl; values = λ t. refl; pin = λ t. refl; round = λ t. refl; facts = λ t. refl }

  anchored : (c : Core) (found : ℕ) (o : Option ℕ) → IsNext (Lock Anchor found) k (record (anchor_learned c found o k) { steps = k.steps + 1 })
  anchored c found None = record { pass = refl; steps = refl; notes = refl; front = λ t. refl; fresh = λ t. refl; failed = λ t. absurd t; own = λ t. refl; locks = λ t. refl; anchor = λ t. absurd t; values = λ t. absurd t; pin = λ t. refl; round = λ t. refl; facts = λ t. refl }
  anchored c found (Some q) = record { pass = refl; steps = refl; notes = refl; front = λ t. refl; fresh = λ t. refl; failed = λ t. absurd t; own = λ t. refl; locks = λ t. refl; anchor = λ t. absurd t; values = λ t. absurd t; pin = λ t. refl; round = λ t. refl; facts = λ t. refl }

  one_of : (act : Act) (b : Bool) (x y : Known) → IsNext act k (record x { steps = k.steps + 1 }) → IsNext act k (record y { steps = k.steps + 1 }) →
      IsNext act k (let z : Known = if b then x else y in record z { steps = k.steps + 1 })
  one_of act true x y f g = f
  one_of act false x y f g = g

  pub as_before : (c : Core) (act : Act) → IsNext act k (learned c act k)
  as_before c (Claim r found) = claimed c r found (c.fate r)
  as_before c (Lock Anchor found) = anchored c found c.anchor
  as_before c (Lock (NodeTarget n) found) = one_of (Lock (NodeTarget n) found) (nat_eq found 2) _ _
      (record { pass = refl; steps = refl; notes = refl; front = λ t. refl; fresh = λ t. refl; failed = λ t. absurd t; own = λ t. refl; locks = λ t. absurd t; anchor = λ t. refl; values = λ t. absurd t; pin = λ t. refl; round = λ t. refl; facts = λ t. refl })
      (record { pass = refl; steps = refl; notes = refl; front = λ t. refl; fresh = λ t. refl; failed = λ t. absurd t; own = λ t. refl; locks = λ t. absurd t; anchor = λ t. refl; values = λ t. absurd t; pin = λ t. refl; round = λ t. refl; facts = λ t. refl })
  as_before c (LoadRef Root w) = record { pass = refl; steps = refl; notes = refl; front = λ t. absurd t; fresh = λ t. absurd t; failed = λ t. refl; own = λ t. refl; locks = λ t. refl; anchor = λ t. refl; values = λ t. refl; pin = λ t. refl; round = λ t. refl; facts = λ t. absurd t }
  as_before c (LoadRef (Slot n i) w) = record { pass = refl; steps = refl; notes = refl; front = λ t. absurd t; fresh = λ t. refl; failed = λ t. refl; own = λ t. refl; locks = λ t. refl; anchor = λ t. refl; values = λ t. refl; pin = λ t. refl; round = λ t. refl; facts = λ t. absurd t }
  as_before c (LoadRef (Value l) w) = record { pass = refl; steps = refl; notes = refl; front = λ t. absurd t; fresh = λ t. refl; failed = λ t. refl; own = λ t. refl; locks = λ t. refl; anchor = λ t. refl; values = λ t. absurd t; pin = λ t. refl; round = λ t. refl; facts = λ t. absurd t }
  as_before c (LoadFixed r offset w) = record { pass = refl; steps = refl; notes = refl; front = λ t. absurd t; fresh = λ t. refl; failed = λ t. refl; own = λ t. refl; locks = λ t. refl; anchor = λ t. refl; values = λ t. refl; pin = λ t. refl; round = λ t. refl; facts = λ t. absurd t }
  as_before c (Fill r offset w) = record { pass = refl; steps = refl; notes = refl; front = λ t. refl; fresh = λ t. refl; failed = λ t. refl; own = λ t. absurd t; locks = λ t. refl; anchor = λ t. refl; values = λ t. refl; pin = λ t. refl; round = λ t. refl; facts = λ t. refl }
  as_before c (Ready r) = record { pass = refl; steps = refl; notes = refl; front = λ t. refl; fresh = λ t. refl; failed = λ t. refl; own = λ t. absurd t; locks = λ t. refl; anchor = λ t. refl; values = λ t. refl; pin = λ t. refl; round = λ t. refl; facts = λ t. refl }
  as_before c (Release r) = record { pass = refl; steps = refl; notes = refl; front = λ t. refl; fresh = λ t. refl; failed = λ t. refl; own = λ t. absurd t; locks = λ t. refl; anchor = λ t. refl; values = λ t. refl; pin = λ t. refl; round = λ t. refl; facts = λ t. refl }
  as_before c (Publish Root w) = record { pass = refl; steps = refl; notes = refl; front = λ t. absurd t; fresh = λ t. refl; failed = λ t. refl; own = λ t. absurd t; locks = λ t. absurd t; anchor = λ t. absurd t; values = λ t. absurd t; pin = λ t. refl; round = λ t. refl; facts = λ t. absurd t }
  as_before c (Publish (Slot n i) w) = record { pass = refl; steps = refl; notes = refl; front = λ t. absurd t; fresh = λ t. refl; failed = λ t. refl; own = λ t. absurd t; locks = λ t. absurd t; anchor = λ t. refl; values = λ t. absurd t; pin = λ t. refl; round = λ t. refl; facts = λ t. absurd t }
  as_before c (Publish (Value l) w) = record { pass = refl; steps = refl; notes = refl; front = λ t. absurd t; fresh = λ t. refl; failed = λ t. refl; own = λ t. absurd t; locks = λ t. absurd t; anchor = λ t. refl; values = λ t. absurd t; pin = λ t. refl; round = λ t. refl; facts = λ t. absurd t }
  as_before c (Unlock Anchor) = record { pass = refl; steps = refl; notes = refl; front = λ t. refl; fresh = λ t. refl; failed = λ t. refl; own = λ t. refl; locks = λ t. refl; anchor = λ t. absurd t; values = λ t. absurd t; pin = λ t. refl; round = λ t. refl; facts = λ t. refl }
  as_before c (Unlock (NodeTarget n)) = record { pass = refl; steps = refl; notes = refl; front = λ t. refl; fresh = λ t. refl; failed = λ t. refl; own = λ t. refl; locks = λ t. absurd t; anchor = λ t. refl; values = λ t. absurd t; pin = λ t. refl; round = λ t. refl; facts = λ t. refl }
  as_before c (Mark r epoch) = record { pass = refl; steps = refl; notes = refl; front = λ t. refl; fresh = λ t. refl; failed = λ t. refl; own = λ t. absurd t; locks = λ t. refl; anchor = λ t. refl; values = λ t. absurd t; pin = λ t. refl; round = λ t. refl; facts = λ t. refl }
  as_before c (LoadEpoch w) = record { pass = refl; steps = refl; notes = refl; front = λ t. refl; fresh = λ t. refl; failed = λ t. refl; own = λ t. refl; locks = λ t. refl; anchor = λ t. refl; values = λ t. refl; pin = λ t. refl; round = λ t. absurd t; facts = λ t. refl }
  as_before c (Advance expected found) = record { pass = refl; steps = refl; notes = refl; front = λ t. refl; fresh = λ t. refl; failed = λ t. refl; own = λ t. refl; locks = λ t. refl; anchor = λ t. refl; values = λ t. refl; pin = λ t. refl; round = λ t. refl; facts = λ t. refl }
  as_before c (SetPin w) = record { pass = refl; steps = refl; notes = refl; front = λ t. refl; fresh = λ t. refl; failed = λ t. refl; own = λ t. refl; locks = λ t. refl; anchor = λ t. refl; values = λ t. refl; pin = λ t. absurd t; round = λ t. refl; facts = λ t. refl }
  as_before c ClearPin = record { pass = refl; steps = refl; notes = refl; front = λ t. refl; fresh = λ t. refl; failed = λ t. refl; own = λ t. refl; locks = λ t. refl; anchor = λ t. refl; values = λ t. refl; pin = λ t. absurd t; round = λ t. refl; facts = λ t. refl }
  as_before c (LoadPin o w) = record { pass = refl; steps = refl; notes = refl; front = λ t. refl; fresh = λ t. refl; failed = λ t. refl; own = λ t. refl; locks = λ t. refl; anchor = λ t. refl; values = λ t. refl; pin = λ t. refl; round = λ t. absurd t; facts = λ t. refl }
  as_before c (LoadState r w) = one_of (LoadState r w) (nat_eq w 0) _ _
      (record { pass = refl; steps = refl; notes = refl; front = λ t. refl; fresh = λ t. refl; failed = λ t. absurd t; own = λ t. refl; locks = λ t. refl; anchor = λ t. refl; values = λ t. refl; pin = λ t. refl; round = λ t. refl; facts = λ t. refl })
      (record { pass = refl; steps = refl; notes = refl; front = λ t. refl; fresh = λ t. refl; failed = λ t. absurd t; own = λ t. refl; locks = λ t. refl; anchor = λ t. refl; values = λ t. refl; pin = λ t. refl; round = λ t. refl; facts = λ t. refl })
  as_before c (GiveBack r epoch found) = record { pass = refl; steps = refl; notes = refl; front = λ t. refl; fresh = λ t. refl; failed = λ t. refl; own = λ t. refl; locks = λ t. refl; anchor = λ t. refl; values = λ t. refl; pin = λ t. refl; round = λ t. refl; facts = λ t. refl }
  as_before c (Load words) = record { pass = refl; steps = refl; notes = refl; front = λ t. absurd t; fresh = λ t. absurd t; failed = λ t. refl; own = λ t. refl; locks = λ t. refl; anchor = λ t. refl; values = λ t. absurd t; pin = λ t. refl; round = λ t. refl; facts = λ t. absurd t }

module _ (layout : Layout) (k j : Known) where
  pub act_leaves : (act : Act) → IsEvent layout act silent k j → IsNext act k j
  act_leaves act e =
      let next = as_before k e.core act in
      let noted = ap (λ (notes : List Note). let z : Known = record (learned e.core act k) { notes = notes } in z) (append-nil k.notes ∙ sym next.notes) in
      subst (IsNext act k) (sym (e.learned_is ∙ noted)) next

  -- and whatever is noted with it, a step that is no load of the root leaves what the last one found
  pub act_fresh : (act : Act) (said : Known → List Note) → IsEvent layout act said k j → LeavesFresh act → j.fresh ≡ k.fresh
  act_fresh act said e leaves = ap (λ (z : Known). z.fresh) e.learned_is ∙ (as_before k e.core act).fresh leaves

-- no step adds a note of its own
pub learned_notes : (c : Core) (act : Act) (k : Known) → (learned c act k).notes ≡ k.notes
learned_notes c act k = (as_before k c act).notes
