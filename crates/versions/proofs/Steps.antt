-- Each step keeps the whole core lawful.
use Rattle.versions.proofs.Common.{◌≡◌, ◌⊎◌, ◌≢◌, inl, inr, ℕ, true, false, if◌then◌else◌, refl, ap, sym, ◌∙◌, subst, Option, Some, None, eqb, [], take, ◌≤◌, arith, le_refl, cases_Bool, false≢true, eqb-true, Change, Entry, Tree, Rec, a_node, a_leaf, map_of, none-some}
use Rattle.versions.specs.Heap.{Heap}
use Rattle.versions.specs.State.{Out, IsLinked, Stands, IsSameRecord}
use Rattle.versions.specs.Core.{Fate, Free, Held, Ready, InTree, Unlinked, Marked, life_of, BareCore, view, pin_version}
use Rattle.versions.specs.declared.Pin.{Pin}
use Rattle.versions.specs.Steps.{bare_opening, same_rec, with_fate, is_linked, next_fate, IsVersionPublish, with_lock, unlocked, after_mark, ChangesNoOther, IsLockable, IsLawfulCore, IsCoreStep, claims, fills, readies, releases, locks_anchor, unlocks_anchor, locks, unlocks, publishes, marks, loads_epoch, advances, pins, unpins, loads_pin, gives_back}
use Rattle.versions.proofs.Core.{same_rec_refl, same_rec_true, linked_cases, legal_publish_lawful, fate_lawful, give_back_lawful, fill_lawful, set_pin_lawful, clear_pin_lawful}
use Rattle.versions.proofs.Core.Pace.{set_pin_paced, load_epoch_paced, load_pin_paced, mark_paced, publish_paced, fate_paced, lock_paced, anchor_paced, advance_paced, clear_pin_paced, reach_kept}
use Rattle.versions.proofs.Told.{publish_told, content_in_order}
use Rattle.versions.proofs.Heap.Stored.{opening_lawful}
use Rattle.finite_map.specs.Maps.{IsRising}
use Rattle.versions.specs.Told.{content}
use Rattle.versions.proofs.State.{steady}

pub some_pass_injective : {p q : ℕ} → Some p ≡ Some q → p ≡ q
some_pass_injective e = cc

-- A record that no pass can have locked gets another fate.
fate_locked : (c : BareCore) (r : Rec) (f g : Fate) → IsLawfulCore c → c.fate r ≡ g → ((q : ℕ) → IsLockable q g → ⊥) → (n q : ℕ) → c.lock n ≡ Some q → IsLockable q ((with_fate c.shared r f).fate (a_node n))
fate_locked c r f g law e none n q l = go (cases_Bool (same_rec (a_node n) r))
  where
    old : IsLockable q (c.fate (a_node n))
    old = law.locked n q l

    go : (same_rec (a_node n) r ≡ true) ⊎ (same_rec (a_node n) r ≡ false) → IsLockable q (if same_rec (a_node n) r then f else c.fate (a_node n))
    go (inl h) = absurd (none q (subst (IsLockable q) (ap c.fate (same_rec_true (a_node n) r h) ∙ e) old))
    go (inr h) = rw h old

module _ (c : BareCore) (q : ℕ) (law : IsLawfulCore c) where
  fate_step : (r : Rec) (f g : Fate) → c.fate r ≡ g → ((p : ℕ) → IsLockable p g → ⊥) → life_of f ≡ life_of g → ((a b s : ℕ) → f ≡ Marked a b s → ⊥) → IsLawfulCore (record c { shared = with_fate c.shared r f })
  fate_step r f g e none life unmarked = record {
    state = fate_lawful c r f law.state (life ∙ sym (ap life_of e));
    paced = fate_paced c r f unmarked law.paced;
    told = law.told;
    locked = fate_locked c r f g law e none;
  }

  fill_step : (r : Rec) (heap : Heap) → c.fate r ≡ Held q → ChangesNoOther c.heap heap r → IsLawfulCore (record c { heap = heap })
  fill_step r heap e f = record {
    state = fill_lawful c heap law.state
        (λ n. either (a_node n) (λ h. f.nodes n h)) (λ n. either (a_leaf n) (λ h. f.leaves n h));
    paced = law.paced;
    told = law.told;
    locked = law.locked;
  }
    where
      either : (i : Rec) {P : Type 0} → (r ≢ i → P) → (life_of (c.fate i) ≡ Out) ⊎ P
      either i {P} g = elim (cases_Bool (same_rec r i)) [ inl h ↦ inl (ap (λ z. life_of (c.fate z)) (sym (same_rec_true r i h)) ∙ ap life_of e) | inr h ↦ inr (g (λ z. false≢true (sym h ∙ subst (λ y. same_rec r y ≡ true) z (same_rec_refl r)))) ]

  publish_locked : (heap : Heap) (root : Option Entry) (t : Option Tree) (x : Change) → IsVersionPublish c q heap root t x → (n p : ℕ) → c.lock n ≡ Some p →
      IsLockable p (next_fate c.past.now q (is_linked t (a_node n)) (c.fate (a_node n)))
  publish_locked heap root t x l n p e = go (c.fate (a_node n)) refl (law.locked n p e) (linked_cases t (a_node n))
    where
      go : (f : Fate) → c.fate (a_node n) ≡ f → IsLockable p f → (IsLinked t (a_node n) × (is_linked t (a_node n) ≡ true)) ⊎ ((¬ (IsLinked t (a_node n))) × (is_linked t (a_node n) ≡ false)) →
          IsLockable p (next_fate c.past.now q (is_linked t (a_node n)) f)
      go (InTree s) i m (inl (h, z)) = rw z tt
      go (InTree s) i m (inr (h, z)) = rw z (some_pass_injective (sym (l.goes n s i h) ∙ e))
      go (Unlinked s o k) i m z = m
      go Free i m z = absurd m
      go (Held k) i m z = absurd m
      go (Ready k) i m z = absurd m
      go (Marked s o k) i m z = absurd m

  mark_locked : (r : Rec) (f l : ℕ) → (n p : ℕ) → (after_mark c.shared r f l (c.rounds q).epoch).lock n ≡ Some p → IsLockable p ((after_mark c.shared r f l (c.rounds q).epoch).fate (a_node n))
  mark_locked r f l n p e = go (cases_Bool (same_rec (a_node n) r)) e
    where
      go : (same_rec (a_node n) r ≡ true) ⊎ (same_rec (a_node n) r ≡ false) → (if same_rec (a_node n) r then None else c.lock n) ≡ Some p →
          IsLockable p (if same_rec (a_node n) r then Marked f l (c.rounds q).epoch else c.fate (a_node n))
      go (inl h) z = absurd (none-some _ (rw h at z))
      go (inr h) z = rw h (law.locked n p (rw h at z))

  lock_locked : (n s : ℕ) → c.fate (a_node n) ≡ InTree s → (o : Option ℕ) → (i p : ℕ) → (with_lock c.shared n o).lock i ≡ Some p → IsLockable p (c.fate (a_node i))
  lock_locked n s e o i p l = go (cases_Bool (eqb i n)) l
    where
      go : (eqb i n ≡ true) ⊎ (eqb i n ≡ false) → (if eqb i n then o else c.lock i) ≡ Some p → IsLockable p (c.fate (a_node i))
      go (inl h) z = subst (λ y. IsLockable p (c.fate (a_node y))) (sym (eqb-true i n h)) (subst (IsLockable p) (sym e) tt)
      go (inr h) z = law.locked i p (rw h at z)

not_marked : {q a b s : ℕ} → Held q ≡ Marked a b s → ⊥
not_marked e = cc

ready_marked : {q a b s : ℕ} → Ready q ≡ Marked a b s → ⊥
ready_marked e = cc

free_marked : {a b s : ℕ} → Free ≡ Marked a b s → ⊥
free_marked e = cc

-- Each step keeps the whole core lawful.
pub step_lawful : (c : BareCore) (q : ℕ) (d : BareCore) → IsLawfulCore c → IsCoreStep c q d → IsLawfulCore d
step_lawful c q d law (claims r e) = fate_step c q law r (Held q) Free e (λ p m. m) refl (λ a b s z. not_marked z)
step_lawful c q d law (fills r heap e f) = fill_step c q law r heap e f
step_lawful c q d law (readies r e) = fate_step c q law r (Ready q) (Held q) e (λ p m. m) refl (λ a b s z. ready_marked z)
step_lawful c q d law (releases r e) = fate_step c q law r Free (Held q) e (λ p m. m) refl (λ a b s z. free_marked z)
step_lawful c q d law (locks_anchor e) = record { state = law.state; paced = anchor_paced c (Some q) law.paced; told = law.told; locked = law.locked }
step_lawful c q d law (unlocks_anchor e) = record { state = law.state; paced = anchor_paced c None law.paced; told = law.told; locked = law.locked }
step_lawful c q d law (locks n s e f) = record { state = law.state; paced = lock_paced c n (Some q) law.paced; told = law.told; locked = lock_locked c q law n s f (Some q) }
step_lawful c q d law (unlocks n s e f) = record { state = law.state; paced = lock_paced c n None law.paced; told = law.told; locked = lock_locked c q law n s f None }
step_lawful c q d law (publishes heap root t x l) = record {
  state = legal_publish_lawful c q heap root t x law.state l;
  paced = publish_paced c q root t x law.paced;
  told = publish_told c q heap root t x law.state law.told l;
  locked = publish_locked c q law heap root t x l;
}
step_lawful c q d law (marks r f l e late) = record {
  state = fate_lawful (record c { shared = unlocked c.shared r }) r (Marked f l (c.rounds q).epoch) law.state (sym (ap life_of e));
  paced = mark_paced c q r f l late law.paced;
  told = law.told;
  locked = mark_locked c q law r f l;
}
step_lawful c q d law loads_epoch = record { state = law.state; paced = load_epoch_paced c q law.paced; told = law.told; locked = law.locked }
step_lawful c q d law advances = record { state = law.state; paced = advance_paced c law.paced; told = law.told; locked = law.locked }
step_lawful c q d law (pins e) = record { state = set_pin_lawful c q law.state; paced = set_pin_paced c q law.state law.paced; told = law.told; locked = law.locked }
step_lawful c q d law (unpins p e) = record { state = clear_pin_lawful c q law.state; paced = clear_pin_paced c q law.paced; told = law.told; locked = law.locked }
step_lawful c q d law (loads_pin o) = record { state = law.state; paced = load_pin_paced c q o law.paced; told = law.told; locked = law.locked }
step_lawful c q d law (gives_back r f l s e b all) = record {
  state = give_back_lawful c law.state law.paced q r f l s e b all;
  paced = fate_paced c r Free (λ a b s z. free_marked z) law.paced;
  told = law.told;
  locked = fate_locked c r Free (Marked f l s) law e (λ p m. m);
}

-- The opening core is lawful.
pub opening_core : (heap : Heap) → IsLawfulCore (bare_opening heap)
opening_core heap = record {
  state = opening_lawful heap (λ q. None);
  paced = record {
    floors = λ q p e. absurd (none-some _ e);
    loads = λ q. (omega arith, le_refl 0, le_refl 0);
    after = λ q o p e. absurd (none-some _ e);
    marks = λ r f l s m q p e. absurd (none-some _ e);
    bounds = λ q o p e h. absurd (none-some _ e);
  };
  told = record { count = refl; content_is = λ n h. empty n h; legal = tt };
  locked = λ n q e. absurd (none-some _ e);
}
  where
    empty : (n : ℕ) → n ≤ 0 → content None ≡ map_of (take n [])
    empty n h = let e : n ≡ 0 = omega arith in rw e refl

-- The content of each version is the map of the changes before it, in strict key order.
pub content_is_map : (c : BareCore) → IsLawfulCore c → (n : ℕ) → n ≤ c.past.now →
    (content (c.past.version n) ≡ map_of (take n c.changes)) × IsRising (content (c.past.version n))
content_is_map c law n h = (law.told.content_is n h, content_in_order (c.past.version n) (λ t e. (law.state.trees n t h e).0))

-- No record of a pinned pass's reach is Free or Held.
pub core_reach : (c : BareCore) → IsLawfulCore c → (q : ℕ) (p : Pin) → c.pins q ≡ Some p → (n : ℕ) → p.version ≤ n → n ≤ c.past.now →
    (r : Rec) (u : Tree) → Stands c.past n r u → (c.fate r ≢ Free) × ((o : ℕ) → c.fate r ≢ Held o)
core_reach c law = reach_kept c law.state

-- What is in reach keeps its fixed words and stems.
pub core_steady : (c : BareCore) → IsLawfulCore c → (q : ℕ) (p : Pin) → c.pins q ≡ Some p → (r : Rec) (n o : ℕ) (u v : Tree) →
    p.version ≤ n → n ≤ c.past.now → p.version ≤ o → o ≤ c.past.now → Stands c.past n r u → Stands c.past o r v → IsSameRecord u v
core_steady c law q p e = (steady (view c) law.state p.version (law.state.reach q p.version (ap pin_version e))).same
