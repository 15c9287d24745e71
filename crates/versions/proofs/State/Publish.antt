-- A publish keeps the state lawful.
use Rattle.versions.proofs.Common.{◌≡◌, ◌⊎◌, inl, inr, ℕ, suc, ◌<◌, ◌≤◌, refl, ap, sym, ◌∙◌, subst, arith, Option, Some, None, le_refl, le_trans, eqb, cond-true, cond-false, eq-eqb, ne_eqb, cases_lt, Entry, Tree, leaf, node, fork, IsTrie, IsBuilt, Within, here, inside, zero_side, one_side, Rec, a_node, a_leaf, trie_within, built_within, some_same}
use Rattle.versions.specs.Heap.{NodeWords, LeafWords, Heap, IsCopied, IsShown, KeepsAllButOneEntry}
use Rattle.versions.specs.State.{IsRecord, Links, Life, Out, Linked, Retired, Spans, last_of, State, Stands, IsSameRecord, IsTop, IsReach, IsLawfulState, IsLived, with_version, IsLinked}
use Rattle.versions.proofs.State.{same_trans, spans_last, spans_ended}
use Rattle.versions.proofs.Heap.{shown_within, copied_if_shown, kin_step, near_subtrie, near_refl, node_number, leaf_number}

-- What a publish makes of a record's life, where `L` says that the new version links it.
pub data IsNext (now : ℕ) (L : Type 0) : Life → Life → Type 0 where
  comes : L → IsNext now L Out (Linked (suc now))
  stays_out : ¬ L → IsNext now L Out Out
  stays : {since : ℕ} → L → IsNext now L (Linked since) (Linked since)
  goes : {since : ℕ} → ¬ L → IsNext now L (Linked since) (Retired since now)
  gone : {since last : ℕ} → ¬ L → IsNext now L (Retired since last) (Retired since last)

-- The state after a publish: these words, this root, these lives, and one version more.
abbrev pub published : State → Heap → Option Entry → (Rec → Life) → Option Tree → State
published s heap root life t = record {
  heap = heap;
  root = root;
  past = record { now = suc s.now; version = with_version s.version (suc s.now) t };
  life = life;
  pin = s.pin;
}

-- A publish stores one word, after which the words show `t`, and no retired record is linked again.
pub record IsPublish (s : State) (heap : Heap) (root : Option Entry) (life : Rec → Life) (t : Option Tree) : Type 0 where
  pub top : IsTop heap root t
  pub tree : (u : Tree) → t ≡ Some u → IsTrie u × IsBuilt u
  pub near : KeepsAllButOneEntry s.heap heap
  pub kept : (n : ℕ) → IsLinked t (a_node n) ⊎ (s.heap.nodes n ≡ heap.nodes n)
  pub kept_leaves : (n : ℕ) → IsLinked t (a_leaf n) ⊎ (s.heap.leaves n ≡ heap.leaves n)
  pub lives : (r : Rec) → IsNext s.now (IsLinked t r) (s.life r) (life r)

pub version_old : (f : ℕ → Option Tree) (n : ℕ) (t : Option Tree) (i : ℕ) → i < n → with_version f n t i ≡ f i
version_old f n t i h = cond-false (eqb i n) t (f i) (ne_eqb i n (λ e. omega arith))

pub version_new : (f : ℕ → Option Tree) (n : ℕ) (t : Option Tree) → with_version f n t n ≡ t
version_new f n t = cond-true (eqb n n) t (f n) (eq-eqb n n refl)

pub links_within : (t : Tree) (r : Rec) → Links t r → (u : Tree) × Within u t × IsRecord r u
links_within (leaf n k v) r l = (leaf n k v, here, l)
links_within (node n h b) r (inl l) = (node n h b, here, l)
links_within (node n h b) r (inr l) = let x = links_within b r l in (x.0, inside x.1, x.2)
links_within (fork p a b) r (inl l) = let x = links_within a r l in (x.0, zero_side x.1, x.2)
links_within (fork p a b) r (inr l) = let x = links_within b r l in (x.0, one_side x.1, x.2)

pub within_links : {u t : Tree} → Within u t → (r : Rec) → IsRecord r u → Links t r
within_links {u} here r i = head u i
  where
    head : (u : Tree) → IsRecord r u → Links u r
    head (leaf n k v) i = i
    head (node n h b) i = inl i
    head (fork p a b) i = elim i [ ]
within_links (inside w) r i = inr (within_links w r i)
within_links (zero_side w) r i = inl (within_links w r i)
within_links (one_side w) r i = inr (within_links w r i)

next_down : (now : ℕ) (L : Type 0) (l m : Life) (n : ℕ) → IsLived now l → IsNext now L l m → Spans (suc now) m n →
    (Spans now l n × (n ≤ now)) ⊎ ((n ≡ suc now) × L)
next_down now L l m n i (comes x) h = inr (omega arith, x)
next_down now L l m n i (stays_out x) h = elim h [ ]
next_down now L l m n i (stays {since = f} x) h = elim (cases_lt now n) [ inl y ↦ inr (omega arith, x) | inr y ↦ inl ((h.0, y), y) ]
next_down now L l m n i (goes {since = f} x) h = inl (h, h.1)
next_down now L l m n i (gone {since = f} {last = e} x) h = inl (h, omega arith)

next_up : (now : ℕ) (L : Type 0) (l m : Life) (n : ℕ) → IsNext now L l m → n ≤ now → Spans now l n → Spans (suc now) m n
next_up now L l m n (comes x) b h = elim h [ ]
next_up now L l m n (stays_out x) b h = elim h [ ]
next_up now L l m n (stays x) b h = omega arith
next_up now L l m n (goes x) b h = h
next_up now L l m n (gone x) b h = h

next_new : (now : ℕ) (L : Type 0) (l m : Life) → IsLived now l → IsNext now L l m → L → Spans (suc now) m (suc now)
next_new now L l m i (comes x) h = (le_refl (suc now), le_refl (suc now))
next_new now L l m i (stays_out x) h = absurd (x h)
next_new now L l m i (stays {since = f} x) h = (omega arith, le_refl (suc now))
next_new now L l m i (goes x) h = absurd (x h)
next_new now L l m i (gone x) h = absurd (x h)

next_lived : (now : ℕ) (L : Type 0) (l m : Life) → IsLived now l → IsNext now L l m → IsLived (suc now) m
next_lived now L l m i (comes x) = le_refl (suc now)
next_lived now L l m i (stays_out x) = tt
next_lived now L l m i (stays {since = f} x) = omega arith
next_lived now L l m i (goes {since = f} x) = (i, le_refl (suc now))
next_lived now L l m i (gone {since = f} {last = e} x) = omega arith

-- The last version is the new one where it is linked; else it is the old one.
next_last : (now : ℕ) (L : Type 0) (l m : Life) → IsNext now L l m → Spans (suc now) m (last_of (suc now) m) →
    (L × (last_of (suc now) m ≡ suc now)) ⊎ ((¬ L) × (last_of (suc now) m ≡ last_of now l))
next_last now L l m (comes x) h = inl (x, refl)
next_last now L l m (stays_out x) h = elim h [ ]
next_last now L l m (stays x) h = inl (x, refl)
next_last now L l m (goes x) h = inr (x, refl)
next_last now L l m (gone x) h = inr (x, refl)

-- One record in two heaps, the second of which differs by one entry a subtrie, and by values of leaves.
pub same_step : (m o : Heap) → KeepsAllButOneEntry m o → (r : Rec) (u v : Tree) → IsRecord r u → IsRecord r v → IsBuilt u → IsTrie u → IsTrie v →
    IsShown m u → IsShown o v → IsSameRecord u v
same_step m o near r (fork p a b) v x y c l k i j = elim x [ ]
same_step m o near r (leaf n a b) (fork q e f) x y c l k i j = elim y [ ]
same_step m o near r (node n a b) (fork q e f) x y c l k i j = elim y [ ]
same_step m o near r (leaf n a b) (node q e f) x y c l k i j = absurd cc
same_step m o near r (node n a b) (leaf q e f) x y c l k i j = absurd cc
same_step m o near r (leaf n a b) (leaf q e f) x y c l k i j =
    let z : n ≡ q = leaf_number (sym x ∙ y) in
    ap (λ (z : LeafWords). z.key) (sym i) ∙ (near.0 n ∙ ap (λ (z : LeafWords). z.key) (ap o.leaves z ∙ j))
same_step m o near r (node n a b) (node q e f) x y c l k i j =
    let z : n ≡ q = node_number (sym x ∙ y) in (
      ap (λ (z : NodeWords). z.fixed) (sym i.0) ∙ (near.1 n ∙ ap (λ (z : NodeWords). z.fixed) (ap o.nodes z ∙ j.0)),
      kin_step m o near b f c.2 l k i.1 j.1 (near_subtrie m o near z i.0 j.0),
    )

-- A record that is linked on both sides was in its life before.
next_stays : (now : ℕ) (L : Type 0) (l m : Life) (n : ℕ) → IsNext now L l m → L → Spans now l n → n ≤ now → (last_of now l ≡ now) × Spans now l now
next_stays now L l m n (comes x) y h b = elim h [ ]
next_stays now L l m n (stays_out x) y h b = elim h [ ]
next_stays now L l m n (stays x) y h b = (refl, (le_trans h.0 h.1, le_refl now))
next_stays now L l m n (goes x) y h b = absurd (x y)
next_stays now L l m n (gone x) y h b = absurd (x y)

pub top_shown : (m : Heap) (root : Option Entry) (f : Option Tree) (t : Tree) → IsTop m root f → f ≡ Some t → IsShown m t
top_shown m None None t i e = absurd cc
top_shown m None (Some u) t i e = elim i [ ]
top_shown m (Some x) None t i e = elim i [ ]
top_shown m (Some x) (Some u) t i e = subst (IsShown m) (some_same e) i.1

module _ (s : State) (law : IsLawfulState s) (heap : Heap) (root : Option Entry) (life : Rec → Life) (t : Option Tree)
    (p : IsPublish s heap root life t) where
  abbrev o : State
  o = published s heap root life t

  -- what stood in an old version still does, and the other way round
  up : (n : ℕ) (r : Rec) (u : Tree) → n ≤ s.now → Stands s.past n r u → Stands o.past n r u
  up n r u h st = record {
    tree = st.tree;
    is_version = version_old s.version (suc s.now) t n (omega arith) ∙ st.is_version;
    within = st.within;
    is_record = st.is_record;
  }

  down : (n : ℕ) (r : Rec) (u : Tree) → n ≤ s.now → Stands o.past n r u → Stands s.past n r u
  down n r u h st = record {
    tree = st.tree;
    is_version = sym (version_old s.version (suc s.now) t n (omega arith)) ∙ st.is_version;
    within = st.within;
    is_record = st.is_record;
  }

  in_new : (r : Rec) (u : Tree) (st : Stands o.past (suc s.now) r u) → t ≡ Some st.tree
  in_new r u st = sym (version_new s.version (suc s.now) t) ∙ st.is_version

  tree_new : (r : Rec) (u : Tree) → Stands o.past (suc s.now) r u → IsTrie u × IsBuilt u × IsShown heap u
  tree_new r u st =
      let e = in_new r u st in
      let x = p.tree st.tree e in
      (trie_within st.within x.0, built_within st.within x.1, shown_within heap st.within (top_shown heap root t st.tree p.top e))

  links_new : (r : Rec) (u : Tree) → Stands o.past (suc s.now) r u → IsLinked t r
  links_new r u st = subst (λ z. IsLinked z r) (sym (in_new r u st)) (within_links st.within r st.is_record)

  stands_new : (r : Rec) → IsLinked t r → (u : Tree) × Stands o.past (suc s.now) r u
  stands_new r l = go t refl l
    where
      go : (f : Option Tree) → t ≡ f → IsLinked f r → (u : Tree) × Stands o.past (suc s.now) r u
      go None e l = elim l [ ]
      go (Some v) e l =
          let x = links_within v r l in
          (x.0, record { tree = v; is_version = version_new s.version (suc s.now) t ∙ e; within = x.1; is_record = x.2 })

  now_trees : (n : ℕ) (u : Tree) → n ≤ suc s.now → o.version n ≡ Some u → IsTrie u × IsBuilt u
  now_trees n u h e = go (cases_lt s.now n)
    where
      go : (s.now < n) ⊎ (n ≤ s.now) → IsTrie u × IsBuilt u
      go (inr y) = law.trees n u y (sym (version_old s.version (suc s.now) t n (omega arith)) ∙ e)
      go (inl y) =
          let z : n ≡ suc s.now = omega arith in
          p.tree u (sym (version_new s.version (suc s.now) t) ∙ (ap o.version (sym z) ∙ e))

  now_alive : (r : Rec) (n : ℕ) → Spans (suc s.now) (life r) n → (u : Tree) × Stands o.past n r u
  now_alive r n h = go (next_down s.now (IsLinked t r) (s.life r) (life r) n (law.lived r) (p.lives r) h)
    where
      go : (Spans s.now (s.life r) n × (n ≤ s.now)) ⊎ ((n ≡ suc s.now) × IsLinked t r) → (u : Tree) × Stands o.past n r u
      go (inl x) = let y = law.alive r n x.0 in (y.0, up n r y.0 x.1 y.1)
      go (inr x) = subst (λ m. (u : Tree) × Stands o.past m r u) (sym x.0) (stands_new r x.1)

  -- what is linked in a version since `m` is in its life, where it was before
  now_reach : (m : ℕ) → IsReach s m → IsReach o m
  now_reach m reach n lo hi r u st = go (cases_lt s.now n)
    where
      go : (s.now < n) ⊎ (n ≤ s.now) → Spans (suc s.now) (life r) n
      go (inr y) = next_up s.now (IsLinked t r) (s.life r) (life r) n (p.lives r) y (reach n lo y r u (down n r u y st))
      go (inl y) =
          let z : n ≡ suc s.now = omega arith in
          subst (Spans (suc s.now) (life r)) (sym z)
          (next_new s.now (IsLinked t r) (s.life r) (life r) (law.lived r) (p.lives r) (links_new r u (subst (λ i. Stands o.past i r u) z st)))

  unlinked_copied : (r : Rec) (u : Tree) → ¬ (IsLinked t r) → IsRecord r u → IsCopied s.heap u → IsCopied heap u
  unlinked_copied r (leaf n k v) l i c = elim (p.kept_leaves n) [ inl x ↦ absurd (l (subst (IsLinked t) (sym i) x)) | inr x ↦ sym x ∙ c ]
  unlinked_copied r (fork q a b) l i c = tt
  unlinked_copied r (node n h b) l i c = elim (p.kept n) [ inl x ↦ absurd (l (subst (IsLinked t) (sym i) x)) | inr x ↦ sym x ∙ c ]

  now_last : (r : Rec) → Spans (suc s.now) (life r) (last_of (suc s.now) (life r)) →
      (IsLinked t r × (last_of (suc s.now) (life r) ≡ suc s.now)) ⊎ ((¬ (IsLinked t r)) × (last_of (suc s.now) (life r) ≡ last_of s.now (s.life r)))
  now_last r h = next_last s.now (IsLinked t r) (s.life r) (life r) (p.lives r) h

  -- where the record is not linked any more, its last version is that of before
  old_last : (r : Rec) (n : ℕ) → Spans (suc s.now) (life r) n → ¬ (IsLinked t r) → Spans s.now (s.life r) n × (n ≤ s.now)
  old_last r n h x = elim (next_down s.now (IsLinked t r) (s.life r) (life r) n (law.lived r) (p.lives r) h) [ inl y ↦ y | inr y ↦ absurd (x y.1) ]

  now_frozen : (r : Rec) (u : Tree) → Spans (suc s.now) (life r) (last_of (suc s.now) (life r)) →
      Stands o.past (last_of (suc s.now) (life r)) r u → IsCopied heap u
  now_frozen r u h st = go (now_last r h)
    where
      go : (IsLinked t r × (last_of (suc s.now) (life r) ≡ suc s.now)) ⊎ ((¬ (IsLinked t r)) × (last_of (suc s.now) (life r) ≡ last_of s.now (s.life r))) → IsCopied heap u
      go (inl x) = copied_if_shown heap u (tree_new r u (subst (λ i. Stands o.past i r u) x.1 st)).2
      go (inr x) =
          let y = old_last r (last_of (suc s.now) (life r)) h x.0 in
          unlinked_copied r u x.0 st.is_record
          (law.frozen r u (subst (Spans s.now (s.life r)) x.1 y.0)
          (subst (λ i. Stands s.past i r u) x.1 (down (last_of (suc s.now) (life r)) r u y.1 st)))

  -- a record that stood before, and stands in the new version
  across : (r : Rec) (n : ℕ) (u v : Tree) → IsLinked t r → Spans s.now (s.life r) n → n ≤ s.now → Stands s.past n r u → Stands o.past (suc s.now) r v → IsSameRecord u v
  across r n u v l h b su sv =
      let x = next_stays s.now (IsLinked t r) (s.life r) (life r) n (p.lives r) l h b in
      let w = law.alive r s.now x.1 in
      let tree = law.trees s.now w.1.tree (le_refl s.now) w.1.is_version in
      same_trans u w.0 v (law.same r n u w.0 h su (subst (λ i. Stands s.past i r w.0) (sym x.0) w.1))
      (same_step s.heap heap p.near r w.0 v w.1.is_record sv.is_record (built_within w.1.within tree.1) (trie_within w.1.within tree.0)
      (tree_new r v sv).0
      (shown_within s.heap w.1.within (top_shown s.heap s.root (s.version s.now) w.1.tree law.top w.1.is_version))
      (tree_new r v sv).2)

  both_new : (r : Rec) (u v : Tree) → Stands o.past (suc s.now) r u → Stands o.past (suc s.now) r v → IsSameRecord u v
  both_new r u v su sv =
      let x = tree_new r u su in
      let y = tree_new r v sv in
      same_step heap heap (near_refl heap) r u v su.is_record sv.is_record x.1 x.0 y.0 x.2 y.2

  now_same : (r : Rec) (n : ℕ) (u v : Tree) → Spans (suc s.now) (life r) n → Stands o.past n r u → Stands o.past (last_of (suc s.now) (life r)) r v → IsSameRecord u v
  now_same r n u v h su sv = go (now_last r (spans_last (suc s.now) (life r) n (next_lived s.now (IsLinked t r) (s.life r) (life r) (law.lived r) (p.lives r)) h))
    where
      there : (w : Tree) → IsLinked t r → Stands o.past (suc s.now) r w → (Spans s.now (s.life r) n × (n ≤ s.now)) ⊎ ((n ≡ suc s.now) × IsLinked t r) → IsSameRecord u w
      there w l st (inl x) = across r n u w l x.0 x.1 (down n r u x.1 su) st
      there w l st (inr x) = both_new r u w (subst (λ i. Stands o.past i r u) x.0 su) st

      go : (IsLinked t r × (last_of (suc s.now) (life r) ≡ suc s.now)) ⊎ ((¬ (IsLinked t r)) × (last_of (suc s.now) (life r) ≡ last_of s.now (s.life r))) → IsSameRecord u v
      go (inl x) =
          there v x.0 (subst (λ i. Stands o.past i r v) x.1 sv)
          (next_down s.now (IsLinked t r) (s.life r) (life r) n (law.lived r) (p.lives r) h)
      go (inr x) =
          let y = old_last r n h x.0 in
          let e = spans_ended s.now (s.life r) n (law.lived r) y.0 in
          law.same r n u v y.0 (down n r u y.1 su)
          (down (last_of s.now (s.life r)) r v e.1 (subst (λ i. Stands o.past i r v) x.1 sv))

  -- The new state is lawful.
  pub publish_lawful : IsLawfulState (published s heap root life t)
  publish_lawful = record {
    trees = now_trees;
    top = rw (version_new s.version (suc s.now) t) p.top;
    lived = λ r. next_lived s.now (IsLinked t r) (s.life r) (life r) (law.lived r) (p.lives r);
    alive = now_alive;
    present = now_reach (suc s.now) (λ n lo hi r u st. absurd (omega arith));
    frozen = now_frozen;
    same = now_same;
    reach = λ q m e. now_reach m (law.reach q m e);
  }
