-- What a pass knows that it has, it has, and no more.
use Rattle.rowex_core.proofs.Common.{◌≡◌, ℕ, zero, suc, ◌&&◌, [], Bool, true, false, nat_eq, if◌then◌else◌, Option, Some, None, refl, sym, ap, ◌∙◌, subst, arith, Contains, eqb-true, All-weaker, All-contains_itself, Entry, a_node, Fate, HeldBy, ReadyBy, InTree, UnlinkedBy, same_rec, same_rec_refl}
use Rattle.rowex_core.specs.declared.known.Holding.{Holding}
use Rattle.rowex_core.specs.declared.known.Holding.TheVariants.{Held, Ready as IsReady, Unlinked}
use Rattle.rowex_core.specs.declared.known.Owned.{Owned}
use Rattle.rowex_core.specs.declared.known.Locked.{Locked}
use Rattle.rowex_core.specs.declared.known.Known.{Known}
use Rattle.rowex_core.specs.Cores.{Core}
use Rattle.rowex_core.specs.Sharing.{Share, share, holding_of, is_by, is_in_tree, owned, locked, anchored_at, fate_of, IsOwned, IsLocked, HasAll}
use Rattle.rowex_core.specs.Knowing.{Knows, Recalls}
use Rattle.rowex_core.proofs.Lists.{kept, was_there}
use Rattle.rowex_core.proofs.Sharing.{by_itself, is_by_true}

ours : (q p : ℕ) (x h : Holding) → (if nat_eq p q then Some x else None) ≡ Some h → (p ≡ q) × (x ≡ h)
ours q p x h e = go (nat_eq p q) refl e
  where
    go : (b : Bool) → nat_eq p q ≡ b → (if b then Some x else None) ≡ Some h → (p ≡ q) × (x ≡ h)
    go true t y = (eqb-true p q t, let z : x ≡ h = cc in z)
    go false t y = absurd cc

held_as : (q : ℕ) (f : Fate) (h : Holding) → holding_of q f ≡ Some h → f ≡ fate_of q h
held_as q (HeldBy p) h e = let t = ours q p Held h e in ap HeldBy t.0 ∙ ap (fate_of q) t.1
held_as q (ReadyBy p) h e = let t = ours q p IsReady h e in ap ReadyBy t.0 ∙ ap (fate_of q) t.1
held_as q (UnlinkedBy s l p) h e = let t = ours q p (Unlinked s l) h e in ap (UnlinkedBy s l) t.0 ∙ ap (fate_of q) t.1
held_as q _ h e = absurd cc

as_held : (q : ℕ) (h : Holding) → holding_of q (fate_of q h) ≡ Some h
as_held q Held = rw (by_itself q) refl
as_held q IsReady = rw (by_itself q) refl
as_held q (Unlinked s l) = rw (by_itself q) refl

module _ (c : Core) (k : Known) (h : Knows c k) where
  own_is : (o : Owned) → Contains k.own o → IsOwned k.pass c o
  own_is o has = go (holding_of k.pass (c.fate o.rec)) refl (subst (λ l. Contains l o) (sym (ap (λ (z : Share). z.own o.rec) h.own)) (kept (λ x. same_rec o.rec x.rec) k.own o (same_rec_refl o.rec) has))
    where
      go : (g : Option Holding) → holding_of k.pass (c.fate o.rec) ≡ g → Contains (owned o.rec (c.words o.rec) g) o → IsOwned k.pass c o
      go None e (i, low, is) = absurd (omega arith)
      go (Some g) e (zero, low, is) = (held_as k.pass (c.fate o.rec) g e ∙ ap (λ (z : Owned). fate_of k.pass z.holding) is, ap (λ (z : Owned). z.words) is)
      go (Some g) e (suc i, low, is) = absurd (omega arith)

  lock_is : (l : Locked) → Contains k.locks l → IsLocked k.pass c l
  lock_is l has = go (c.fate (a_node l.node)) refl (is_by k.pass (c.lock l.node)) refl (subst (λ z. Contains z l) (sym (ap (λ (z : Share). z.locks l.node) h.own)) (kept (λ x. nat_eq l.node x.node) k.locks l (by_itself l.node) has))
    where
      only : Contains (locked l.node (c.words (a_node l.node)) true) l → c.words (a_node l.node) ≡ l.words
      only (zero, low, is) = ap (λ (z : Locked). z.words) is
      only (suc i, low, is) = absurd (omega arith)

      none : Contains {X = Locked} [] l → ⊥
      none (i, low, is) = omega arith

      go : (f : Fate) → c.fate (a_node l.node) ≡ f → (b : Bool) → is_by k.pass (c.lock l.node) ≡ b → Contains (locked l.node (c.words (a_node l.node)) (is_in_tree f && b)) l → IsLocked k.pass c l
      go (InTree s) e true t has = (is_by_true k.pass (c.lock l.node) t, (s, e), only has)
      go (InTree s) e false t has = absurd (none has)
      go _ e b t has = absurd (none has)

  -- What a pass knows that it has, it has, and no more.
  pub knows_all : HasAll c k
  knows_all = record {
    own = All-weaker (Contains k.own) (IsOwned k.pass c) own_is k.own (All-contains_itself k.own);
    all_own = λ r g e. was_there (λ o. same_rec r o.rec) k.own (record { rec = r; holding = g; words = c.words r })
        (subst (λ l. Contains l (record { rec = r; holding = g; words = c.words r })) (ap (owned r (c.words r)) (sym (as_held k.pass g) ∙ ap (holding_of k.pass) (sym e)) ∙ ap (λ (z : Share). z.own r) h.own) (0, omega arith, refl));
    locks = All-weaker (Contains k.locks) (IsLocked k.pass c) lock_is k.locks (All-contains_itself k.locks);
    all_locks = λ n e t. was_there (λ l. nat_eq n l.node) k.locks (record { node = n; words = c.words (a_node n) })
        (subst (λ l. Contains l (record { node = n; words = c.words (a_node n) })) (held n e t.0 t.1 ∙ ap (λ (z : Share). z.locks n) h.own) (0, omega arith, refl));
    anchor = λ e is. anchor_is (is_by k.pass c.anchor) refl e (ap (λ (z : Share). z.anchor) h.own ∙ is);
    all_anchor = λ e. sym (ap (λ (z : Share). z.anchor) h.own) ∙ rw (e, by_itself k.pass) refl;
  }
    where
      held : (n : ℕ) → c.lock n ≡ Some k.pass → (s : ℕ) → c.fate (a_node n) ≡ InTree s → locked n (c.words (a_node n)) true ≡ (share k.pass c).locks n
      held n e s t = rw (t, e, by_itself k.pass) refl

      anchor_is : (b : Bool) → is_by k.pass c.anchor ≡ b → (e : Option Entry) → anchored_at c.root b ≡ Some e → (c.anchor ≡ Some k.pass) × (c.root ≡ e)
      anchor_is true t e is = (is_by_true k.pass c.anchor t, let z : Some c.root ≡ Some e = is in cc)
      anchor_is false t e is = absurd cc

  pub pin_is : c.pins k.pass ≡ k.pin
  pin_is = ap (λ (z : Share). z.pin) h.own

  pub round_is : c.rounds k.pass ≡ k.round
  round_is = ap (λ (z : Share). z.round) h.own

  pub recalls : Recalls c k
  recalls = record { front = h.seen.front; facts = h.seen.facts; pin = pin_is }
