-- A step that leaves the versions keeps the state lawful.
use Rattle.versions.proofs.Common.{◌≡◌, ◌≢◌, ◌⊎◌, inl, inr, ℕ, refl, ap, sym, ◌∙◌, subst, Option, Some, None, le_refl, Entry, Tree, leaf, node, fork, subtrie, Rec, a_node, a_leaf}
use Rattle.versions.specs.Heap.{Heap, IsCopied, IsShown}
use Rattle.versions.specs.State.{IsRecord, Links, Life, Out, Spans, last_of, State, Stands, IsSameRecord, IsTop, IsReach, IsLawfulState, IsLived}
use Rattle.versions.proofs.State.Publish.{links_within}
use Rattle.versions.proofs.Core.Growth.{IsUnlinkedSince}
use Rattle.versions.proofs.Heap.{determined}

-- A step that leaves the versions: it writes words of records outside their lives only, ends lives that no pin and
-- not the newest version reaches, and pins at the newest version.
pub record IsQuiet (s : State) (heap : Heap) (life : Rec → Life) (pin : ℕ → Option ℕ) : Type 0 where
  pub nodes : (n : ℕ) → (s.life (a_node n) ≡ Out) ⊎ (s.heap.nodes n ≡ heap.nodes n)
  pub leaves : (n : ℕ) → (s.life (a_leaf n) ≡ Out) ⊎ (s.heap.leaves n ≡ heap.leaves n)
  pub lives : (r : Rec) → (life r ≡ s.life r) ⊎
      ((life r ≡ Out) × IsUnlinkedSince s.past s.now r × ((q m : ℕ) → pin q ≡ Some m → IsUnlinkedSince s.past m r))
  pub pins : (q m : ℕ) → pin q ≡ Some m → (s.pin q ≡ Some m) ⊎ (m ≡ s.now)

abbrev pub quieted : State → Heap → (Rec → Life) → (ℕ → Option ℕ) → State
quieted s heap life pin = record { heap = heap; root = s.root; past = s.past; life = life; pin = pin }

pub shown_if_same_words : (m o : Heap) (t : Tree) → ((n : ℕ) → Links t (a_node n) → m.nodes n ≡ o.nodes n) →
    ((n : ℕ) → Links t (a_leaf n) → m.leaves n ≡ o.leaves n) → IsShown m t → IsShown o t
shown_if_same_words m o (leaf n k v) e f i = sym (f n refl) ∙ i
shown_if_same_words m o (node n h b) e f i = (sym (e n (inl refl)) ∙ i.0, shown_if_same_words m o b (λ x l. e x (inr l)) (λ x l. f x (inr l)) i.1)
shown_if_same_words m o (fork p a b) e f i =
    (shown_if_same_words m o a (λ x l. e x (inl l)) (λ x l. f x (inl l)) i.0, shown_if_same_words m o b (λ x l. e x (inr l)) (λ x l. f x (inr l)) i.1)

module _ (s : State) (law : IsLawfulState s) (heap : Heap) (life : Rec → Life) (pin : ℕ → Option ℕ) (p : IsQuiet s heap life pin) where
  abbrev o : State
  o = quieted s heap life pin

  down : (n : ℕ) (r : Rec) (u : Tree) → Stands o.past n r u → Stands s.past n r u
  down n r u st = record { tree = st.tree; is_version = st.is_version; within = st.within; is_record = st.is_record }

  up : (n : ℕ) (r : Rec) (u : Tree) → Stands s.past n r u → Stands o.past n r u
  up n r u st = record { tree = st.tree; is_version = st.is_version; within = st.within; is_record = st.is_record }

  -- a life that is left is that of before
  same_life : (r : Rec) (n : ℕ) → Spans s.now (life r) n → life r ≡ s.life r
  same_life r n h = elim (p.lives r) [ inl e ↦ e | inr e ↦ absurd (subst (λ l. Spans s.now l n) e.0 h) ]

  -- the words of a record in its life are those of before
  copied : (r : Rec) (u : Tree) (n : ℕ) → Spans s.now (s.life r) n → IsRecord r u → IsCopied s.heap u → IsCopied heap u
  copied r (fork q a b) n h i c = tt
  copied r (leaf m k v) n h i c = elim (p.leaves m) [ inl e ↦ absurd (subst (λ l. Spans s.now l n) (ap s.life i ∙ e) h) | inr e ↦ sym e ∙ c ]
  copied r (node m g b) n h i c = elim (p.nodes m) [ inl e ↦ absurd (subst (λ l. Spans s.now l n) (ap s.life i ∙ e) h) | inr e ↦ sym e ∙ c ]

  linked_alive : (t : Tree) → s.version s.now ≡ Some t → (r : Rec) → Links t r → Spans s.now (s.life r) s.now
  linked_alive t e r l =
      let x = links_within t r l in
      law.present s.now (le_refl s.now) (le_refl s.now) r x.0 (record { tree = t; is_version = e; within = x.1; is_record = x.2 })

  shown_now : (t : Tree) → s.version s.now ≡ Some t → IsShown s.heap t → IsShown heap t
  shown_now t e i = shown_if_same_words s.heap heap t (λ n l. kept (a_node n) l (p.nodes n)) (λ n l. kept (a_leaf n) l (p.leaves n)) i
    where
      kept : {A : Type 0} (r : Rec) → Links t r → (s.life r ≡ Out) ⊎ A → A
      kept r l (inl out) = absurd (subst (λ z. Spans s.now z s.now) out (linked_alive t e r l))
      kept r l (inr x) = x

  top_now : (root : Option Entry) (f : Option Tree) → s.version s.now ≡ f → IsTop s.heap root f → IsTop heap root f
  top_now None None e i = tt
  top_now None (Some t) e i = elim i [ ]
  top_now (Some x) None e i = elim i [ ]
  top_now (Some x) (Some t) e i = (i.0, shown_now t e i.1)

  now_reach : (m : ℕ) → IsReach s m → ((r : Rec) → (life r ≡ s.life r) ⊎ IsUnlinkedSince s.past m r) → IsReach o m
  now_reach m reach left n lo hi r u st = elim (left r) [ inl e ↦ subst (λ l. Spans s.now l n) (sym e) (reach n lo hi r u (down n r u st)) | inr x ↦ absurd (x n lo hi u (down n r u st)) ]

  left_now : (r : Rec) → (life r ≡ s.life r) ⊎ IsUnlinkedSince s.past s.now r
  left_now r = elim (p.lives r) [ inl e ↦ inl e | inr e ↦ inr e.1 ]

  left_pin : (q m : ℕ) → pin q ≡ Some m → (r : Rec) → (life r ≡ s.life r) ⊎ IsUnlinkedSince s.past m r
  left_pin q m f r = elim (p.lives r) [ inl e ↦ inl e | inr e ↦ inr (e.2 q m f) ]

  quiet_lived : (r : Rec) → IsLived s.now (life r)
  quiet_lived r = elim (p.lives r) [ inl e ↦ subst (IsLived s.now) (sym e) (law.lived r) | inr e ↦ subst (IsLived s.now) (sym e.0) tt ]

  quiet_reach : (q m : ℕ) → pin q ≡ Some m → IsReach o m
  quiet_reach q m f = elim (p.pins q m f) [ inl e ↦ now_reach m (law.reach q m e) (left_pin q m f) | inr e ↦ now_reach m (subst (IsReach s) (sym e) law.present) (left_pin q m f) ]

  quiet_frozen : (r : Rec) (u : Tree) → Spans s.now (life r) (last_of s.now (life r)) → Stands o.past (last_of s.now (life r)) r u → IsCopied heap u
  quiet_frozen r u h st =
      let e = same_life r (last_of s.now (life r)) h in
      let g : Spans s.now (s.life r) (last_of s.now (s.life r)) = subst (λ l. Spans s.now l (last_of s.now l)) e h in
      copied r u (last_of s.now (s.life r)) g st.is_record
      (law.frozen r u g (subst (λ l. Stands s.past (last_of s.now l) r u) e (down (last_of s.now (life r)) r u st)))

  quiet_same : (r : Rec) (n : ℕ) (u v : Tree) → Spans s.now (life r) n → Stands o.past n r u → Stands o.past (last_of s.now (life r)) r v → IsSameRecord u v
  quiet_same r n u v h su sv =
      let e = same_life r n h in
      law.same r n u v (subst (λ l. Spans s.now l n) e h) (down n r u su)
      (subst (λ l. Stands s.past (last_of s.now l) r v) e (down (last_of s.now (life r)) r v sv))

  pub quiet_lawful : IsLawfulState (quieted s heap life pin)
  quiet_lawful = record {
    trees = law.trees;
    top = top_now s.root (s.version s.now) refl law.top;
    lived = quiet_lived;
    alive = λ r n h. let x = law.alive r n (subst (λ l. Spans s.now l n) (same_life r n h) h) in (x.0, up n r x.0 x.1);
    present = now_reach s.now law.present left_now;
    frozen = quiet_frozen;
    same = quiet_same;
    reach = quiet_reach;
  }

-- A store to a node that the new tree doesn't link changes no tree: so a legal publish is to a node that it links.
pub slot_linked : (m o : Heap) (x : ℕ) (s t : Tree) → ((n : ℕ) → n ≢ x → m.nodes n ≡ o.nodes n) → ((n : ℕ) → m.leaves n ≡ o.leaves n) →
    IsShown m s → IsShown o t → subtrie s ≡ subtrie t → ¬ (Links t (a_node x)) → s ≡ t
slot_linked m o x s t f g i j e l =
    determined m s t i (shown_if_same_words o m t (λ n h. sym (f n (λ z. l (subst (λ y. Links t (a_node y)) z h)))) (λ n h. sym (g n)) j) e
