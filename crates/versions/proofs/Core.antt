-- Each step keeps the core lawful as a state.
pub mod Growth
pub mod Pace
pub mod Values
use Rattle.versions.proofs.Common.{◌≡◌, ◌⊎◌, inl, inr, ℕ, ◌<◌, true, false, if◌then◌else◌, refl, ap, sym, ◌∙◌, subst, Option, Some, None, eqb, eq-eqb, eqb-true, cases_Bool, false≢true, or_cases, or_left, or_right, Entry, Tree, leaf, node, fork, Rec, a_node, a_leaf, Change}
use Rattle.versions.specs.Heap.{Heap}
use Rattle.versions.specs.State.{Out, Links, IsLinked, IsLawfulState}
use Rattle.versions.specs.Core.{has_seen, Fate, Free, Held, Ready, InTree, Unlinked, Marked, life_of, BareCore, pin_version, view, HasLawfulEpochs}
use Rattle.versions.specs.declared.Pin.{Pin}
use Rattle.versions.specs.Steps.{same_rec, with_fate, links, is_linked, next_fate, after_publish, IsVersionPublish, after_set_pin, with_pin}
use Rattle.versions.proofs.State.Publish.{publish_lawful, IsNext, comes, stays_out, stays, goes, gone}
use Rattle.versions.proofs.State.Quiet.{quiet_lawful}
use Rattle.versions.proofs.Core.Growth.{IsUnlinkedSince, give_back, not_now}

pub same_rec_refl : (r : Rec) → same_rec r r ≡ true
same_rec_refl (a_node n) = eq-eqb n n refl
same_rec_refl (a_leaf n) = eq-eqb n n refl

pub same_rec_true : (r i : Rec) → same_rec r i ≡ true → r ≡ i
same_rec_true (a_node n) (a_node m) e = ap a_node (eqb-true n m e)
same_rec_true (a_node n) (a_leaf m) e = absurd (false≢true e)
same_rec_true (a_leaf n) (a_node m) e = absurd (false≢true e)
same_rec_true (a_leaf n) (a_leaf m) e = ap a_leaf (eqb-true n m e)

pub links_true : (t : Tree) (r : Rec) → links t r ≡ true → Links t r
links_true (leaf n k v) r e = same_rec_true r (a_leaf n) e
links_true (node n h b) r e = elim (or_cases (same_rec r (a_node n)) (links b r) e) [ inl x ↦ inl (same_rec_true r (a_node n) x) | inr x ↦ inr (links_true b r x) ]
links_true (fork p a b) r e = elim (or_cases (links a r) (links b r) e) [ inl x ↦ inl (links_true a r x) | inr x ↦ inr (links_true b r x) ]

pub true_links : (t : Tree) (r : Rec) → Links t r → links t r ≡ true
true_links (leaf n k v) r e = subst (λ z. same_rec r z ≡ true) e (same_rec_refl r)
true_links (node n h b) r (inl e) = or_left (same_rec r (a_node n)) (links b r) (subst (λ z. same_rec r z ≡ true) e (same_rec_refl r))
true_links (node n h b) r (inr x) = or_right (same_rec r (a_node n)) (links b r) (true_links b r x)
true_links (fork p a b) r (inl x) = or_left (links a r) (links b r) (true_links a r x)
true_links (fork p a b) r (inr x) = or_right (links a r) (links b r) (true_links b r x)

pub linked_cases : (t : Option Tree) (r : Rec) → (IsLinked t r × (is_linked t r ≡ true)) ⊎ ((¬ (IsLinked t r)) × (is_linked t r ≡ false))
linked_cases None r = inr ((λ x. x), refl)
linked_cases (Some t) r = elim (cases_Bool (links t r)) [ inl e ↦ inl (links_true t r e, e) | inr e ↦ inr ((λ x. false≢true (sym e ∙ true_links t r x)), e) ]

-- The lives after a publish are those that it may make.
next_linked : (now q : ℕ) (L : Type 0) (f : Fate) → L → ((s : ℕ) × (f ≡ InTree s)) ⊎ (f ≡ Ready q) → IsNext now L (life_of f) (life_of (next_fate now q true f))
next_linked now q L f l (inl (s, e)) = subst (λ z. IsNext now L (life_of z) (life_of (next_fate now q true z))) (sym e) (stays l)
next_linked now q L f l (inr e) = subst (λ z. IsNext now L (life_of z) (life_of (next_fate now q true z))) (sym e) (comes l)

next_unlinked : (now q : ℕ) (L : Type 0) (f : Fate) → ¬ L → IsNext now L (life_of f) (life_of (next_fate now q false f))
next_unlinked now q L Free n = stays_out n
next_unlinked now q L (Held p) n = stays_out n
next_unlinked now q L (Ready p) n = stays_out n
next_unlinked now q L (InTree f) n = goes n
next_unlinked now q L (Unlinked f l p) n = gone n
next_unlinked now q L (Marked f l s) n = gone n

lives : (c : BareCore) (q : ℕ) (heap : Heap) (root : Option Entry) (t : Option Tree) (x : Change) → IsVersionPublish c q heap root t x →
    (r : Rec) → IsNext c.past.now (IsLinked t r) (life_of (c.fate r)) (life_of (next_fate c.past.now q (is_linked t r) (c.fate r)))
lives c q heap root t x p r = elim (linked_cases t r) [ inl y ↦ rw y.1 (next_linked c.past.now q (IsLinked t r) (c.fate r) y.0 (p.comes r y.0)) | inr y ↦ rw y.1 (next_unlinked c.past.now q (IsLinked t r) (c.fate r) y.0) ]

-- A legal publish keeps the core lawful.
pub legal_publish_lawful : (c : BareCore) (q : ℕ) (heap : Heap) (root : Option Entry) (t : Option Tree) (x : Change) →
    IsLawfulState (view c) → IsVersionPublish c q heap root t x → IsLawfulState (view (after_publish c q heap root t x))
legal_publish_lawful c q heap root t x law p =
    publish_lawful (view c) law heap root (λ r. life_of (next_fate c.past.now q (is_linked t r) (c.fate r))) t
    (record { top = p.top; tree = p.tree; near = p.near; kept = p.kept; kept_leaves = p.kept_leaves; lives = lives c q heap root t x p })

-- A step at one record that leaves its life keeps the core lawful: Claim, Ready, Release, Mark.
pub fate_lawful : (c : BareCore) (r : Rec) (f : Fate) → IsLawfulState (view c) → life_of f ≡ life_of (c.fate r) → IsLawfulState (view (record c { shared = with_fate c.shared r f }))
fate_lawful c r f law e =
    quiet_lawful (view c) law c.heap (λ i. life_of (if same_rec i r then f else c.fate i)) (λ q. pin_version (c.pins q)) (record {
      nodes = λ n. inr refl;
      leaves = λ n. inr refl;
      lives = λ i. inl (at i (cases_Bool (same_rec i r)));
      pins = λ q m h. inl h;
    })
  where
    at : (i : Rec) → ((same_rec i r ≡ true) ⊎ (same_rec i r ≡ false)) → life_of (if same_rec i r then f else c.fate i) ≡ life_of (c.fate i)
    at i (inl h) = rw h (e ∙ ap (λ z. life_of (c.fate z)) (sym (same_rec_true i r h)))
    at i (inr h) = rw h refl

pub pin_of : (o : Option Pin) (m : ℕ) → pin_version o ≡ Some m → (p : Pin) × (o ≡ Some p) × (p.version ≡ m)
pin_of None m e = absurd cc
pin_of (Some p) m e = (p, refl, let x : p.version ≡ m = cc in x)

-- GiveBack keeps the core lawful: no pinned pass can find the record.
pub give_back_lawful : (c : BareCore) → IsLawfulState (view c) → HasLawfulEpochs c.shared → (o : ℕ) (r : Rec) (f l s : ℕ) → c.fate r ≡ Marked f l s →
    s < (c.rounds o).bound → ((q : ℕ) (p : Pin) → c.pins q ≡ Some p → has_seen (c.rounds o).seen q ≡ true) → IsLawfulState (view (record c { shared = with_fate c.shared r Free }))
give_back_lawful c law pace o r f l s e h all =
    quiet_lawful (view c) law c.heap (λ i. life_of (if same_rec i r then Free else c.fate i)) (λ q. pin_version (c.pins q)) (record {
      nodes = λ n. inr refl;
      leaves = λ n. inr refl;
      lives = λ i. at i (cases_Bool (same_rec i r));
      pins = λ q m h. inl h;
    })
  where
    unlinked : (q m : ℕ) → pin_version (c.pins q) ≡ Some m → IsUnlinkedSince c.past m r
    unlinked q m x =
        let y = pin_of (c.pins q) m x in
        subst (λ z. IsUnlinkedSince c.past z r) y.2 (give_back c law pace o r f l s e h q y.0 y.1 (all q y.0 y.1))

    at : (i : Rec) → ((same_rec i r ≡ true) ⊎ (same_rec i r ≡ false)) →
        (life_of (if same_rec i r then Free else c.fate i) ≡ life_of (c.fate i)) ⊎
        ((life_of (if same_rec i r then Free else c.fate i) ≡ Out) × IsUnlinkedSince c.past c.past.now i ×
        ((q m : ℕ) → pin_version (c.pins q) ≡ Some m → IsUnlinkedSince c.past m i))
    at i (inl x) = inr (rw x refl, rw (same_rec_true i r x) (not_now c law r f l s e), λ q m y. rw (same_rec_true i r x) (unlinked q m y))
    at i (inr x) = inl (rw x refl)

-- Fill keeps the core lawful: the record is outside its life.
pub fill_lawful : (c : BareCore) (heap : Heap) → IsLawfulState (view c) → ((n : ℕ) → (life_of (c.fate (a_node n)) ≡ Out) ⊎ (c.heap.nodes n ≡ heap.nodes n)) →
    ((n : ℕ) → (life_of (c.fate (a_leaf n)) ≡ Out) ⊎ (c.heap.leaves n ≡ heap.leaves n)) → IsLawfulState (view (record c { heap = heap }))
fill_lawful c heap law f g =
    quiet_lawful (view c) law heap (λ r. life_of (c.fate r)) (λ q. pin_version (c.pins q))
    (record { nodes = f; leaves = g; lives = λ r. inl refl; pins = λ q m h. inl h })

-- SetPin keeps the core lawful.
pub set_pin_lawful : (c : BareCore) (q : ℕ) → IsLawfulState (view c) → IsLawfulState (view (record c { shared = after_set_pin c.shared q (c.rounds q).epoch }))
set_pin_lawful c q law =
    quiet_lawful (view c) law c.heap (λ r. life_of (c.fate r)) (λ i. pin_version ((after_set_pin c.shared q (c.rounds q).epoch).pins i))
    (record { nodes = λ n. inr refl; leaves = λ n. inr refl; lives = λ r. inl refl; pins = λ i m h. at i m (cases_Bool (eqb i q)) h })
  where
    pin : Pin
    pin = record { word = (c.rounds q).epoch; version = c.past.now; floor = c.epoch }

    at : (i m : ℕ) → ((eqb i q ≡ true) ⊎ (eqb i q ≡ false)) → pin_version (if eqb i q then Some (record { word = (c.rounds q).epoch; version = c.past.now; floor = c.epoch }) else c.pins i) ≡ Some m →
        (pin_version (c.pins i) ≡ Some m) ⊎ (m ≡ c.past.now)
    at i m (inr e) h = inl (rw e at h)
    at i m (inl e) h =
        let x : Some c.past.now ≡ Some m = rw e at h in inr cc

-- ClearPin keeps the core lawful.
pub clear_pin_lawful : (c : BareCore) (q : ℕ) → IsLawfulState (view c) → IsLawfulState (view (record c { shared = with_pin c.shared q None }))
clear_pin_lawful c q law =
    quiet_lawful (view c) law c.heap (λ r. life_of (c.fate r)) (λ i. pin_version ((with_pin c.shared q None).pins i))
    (record { nodes = λ n. inr refl; leaves = λ n. inr refl; lives = λ r. inl refl; pins = λ i m h. at i m (cases_Bool (eqb i q)) h })
  where
    at : (i m : ℕ) → ((eqb i q ≡ true) ⊎ (eqb i q ≡ false)) → pin_version (if eqb i q then None else c.pins i) ≡ Some m →
        (pin_version (c.pins i) ≡ Some m) ⊎ (m ≡ c.past.now)
    at i m (inr e) h = inl (rw e at h)
    at i m (inl e) h = absurd (let x : None ≡ Some m = rw e at h in cc)
