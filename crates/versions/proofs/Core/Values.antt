-- A value stored under the lock of what names its leaf is a legal publish; and nobody else has that lock.
use Rattle.versions.proofs.Common.{◌≡◌, ◌≢◌, ◌⊎◌, inl, inr, ℕ, ◌-◌, ◌<◌, ◌≤◌, [], ltb, refl, ap, sym, ◌∙◌, subst, arith, Option, Some, None, le_refl, cases_eq, cases_lt, cond-true, cond-false, lt-ltb, le-ltb, Change, Replaced, Entry, Leaf, Place, size, item, entry_at, Tree, leaf, node, fork, subtrie, IsTrie, IsBuilt, some_same, Rec, a_node, a_leaf}
use Rattle.versions.specs.Heap.{NodeWords, LeafWords, Heap, IsShown}
use Rattle.versions.specs.State.{Links, IsLinked, IsTop, IsLawfulState, Spans, IsLived}
use Rattle.versions.specs.Core.{BareCore, view, Fate, Free, Held, Ready, InTree, Unlinked, Marked, life_of}
use Rattle.versions.specs.Told.{IsChange}
use Rattle.versions.specs.Trades.{HasTraded}
use Rattle.versions.specs.Steps.{HasLockedNamer, in_root, in_node, IsVersionPublish, at_value}
use Rattle.versions.proofs.State.Publish.{top_shown, links_within, within_links}
use Rattle.versions.proofs.Core.Growth.{in_tree_now}
use Rattle.versions.proofs.Heap.{leaf_parts}
use Rattle.versions.proofs.Heap.Revalued.{revalued, subtrie_revalued, trie_revalued, built_revalued, links_before, links_revalued, IsValueStored, shown_revalued, exchange_revalued, IsNamer, namer_links, one_namer, namer_within}

-- A leaf at a place of a node's body: the node names it.
entry_names : (n : ℕ) (b : Tree) (i l : ℕ) → entry_at (subtrie b) i ≡ Leaf l → IsNamer (Some n) b (Some n) l
entry_names n (leaf m k v) i l e = (let x : l ≡ m = cc in x, refl)
entry_names n (node m x b) i l e = absurd cc
entry_names n (fork p a b) i l e = go (entry_names n a i l) (entry_names n b (i - size (subtrie a)) l) (cases_lt i (size (subtrie a)))
  where
    go : (entry_at (subtrie a) i ≡ Leaf l → IsNamer (Some n) a (Some n) l) → (entry_at (subtrie b) (i - size (subtrie a)) ≡ Leaf l → IsNamer (Some n) b (Some n) l) →
        (i < size (subtrie a)) ⊎ (size (subtrie a) ≤ i) → IsNamer (Some n) (fork p a b) (Some n) l
    go f g (inl low) = inl (f (sym (cond-true (ltb i (size (subtrie a))) _ _ (lt-ltb i (size (subtrie a)) low)) ∙ e))
    go f g (inr high) = inr (g (sym (cond-false (ltb i (size (subtrie a))) _ _ (le-ltb i (size (subtrie a)) high)) ∙ e))

-- who has locked it
abbrev pub locker : BareCore → Option ℕ → Option ℕ
locker c None = c.anchor
locker c (Some n) = c.lock n

-- What names the leaf in the newest tree, and that the pass has locked it.
pub record NamerNow (c : BareCore) (q l : ℕ) : Type 0 where
  pub tree : Tree
  pub now : c.past.version c.past.now ≡ Some tree
  pub by : Option ℕ
  pub names : IsNamer None tree by l
  pub locked : locker c by ≡ Some q

pub namer_now : (c : BareCore) → IsLawfulState (view c) → (q l : ℕ) → HasLockedNamer c q l → NamerNow c q l
namer_now c law q l (in_root anchor root) = go c.root (c.past.version c.past.now) root refl law.top
  where
    leaf_at_root : (t : Tree) → subtrie t ≡ Place (Leaf l) → IsNamer None t None l
    leaf_at_root (leaf n k v) e = (leaf_parts (sym e), refl)
    leaf_at_root (node n x b) e = absurd cc
    leaf_at_root (fork p a b) e = absurd cc

    go : (r : Option Entry) (f : Option Tree) → r ≡ Some (Leaf l) → c.past.version c.past.now ≡ f → IsTop c.heap r f → NamerNow c q l
    go None f h g i = absurd cc
    go (Some x) None h g i = elim i [ ]
    go (Some x) (Some t) h g i =
        let y : x ≡ Leaf l = cc in
        record { tree = t; now = g; by = None; names = leaf_at_root t (i.0 ∙ ap Place y); locked = anchor }
namer_now c law q l (in_node n since place lock fate low names) =
    let (b, stands, shows) = in_tree_now c law n since fate in
    record {
      tree = stands.tree;
      now = stands.is_version;
      by = Some n;
      names = namer_within None stands.within (Some n) l (entry_names n b place l (ap (λ z. entry_at z place) shows ∙ names));
      locked = lock;
    }

module _ (c : BareCore) (law : IsLawfulState (view c)) where
  shown_of : (t : Tree) → c.past.version c.past.now ≡ Some t → IsShown c.heap t
  shown_of t now = top_shown c.heap c.root (c.past.version c.past.now) t law.top now

  trie_of : (t : Tree) → c.past.version c.past.now ≡ Some t → IsTrie t × IsBuilt t
  trie_of t now = law.trees c.past.now t (le_refl c.past.now) now

  -- No two passes have locked what names a leaf.
  pub one_locker : (p q l : ℕ) → HasLockedNamer c p l → HasLockedNamer c q l → p ≡ q
  one_locker p q l f g =
      let x = namer_now c law p l f in
      let y = namer_now c law q l g in
      let same : y.tree ≡ x.tree = some_same (sym y.now ∙ x.now) in
      let by : x.by ≡ y.by =
      one_namer c.heap None x.tree (trie_of x.tree x.now).0 (shown_of x.tree x.now) x.by y.by l x.names (subst (λ z. IsNamer None z y.by l) same y.names) in
      let z : Some p ≡ Some q = sym x.locked ∙ (ap (locker c) by ∙ y.locked) in cc

  linked_fate : (f : Fate) → IsLived c.past.now (life_of f) → Spans c.past.now (life_of f) c.past.now → (s : ℕ) × (f ≡ InTree s)
  linked_fate Free i h = elim h [ ]
  linked_fate (Held q) i h = elim h [ ]
  linked_fate (Ready q) i h = elim h [ ]
  linked_fate (InTree s) i h = (s, refl)
  linked_fate (Unlinked s l q) i h = absurd (omega arith)
  linked_fate (Marked s l q) i h = absurd (omega arith)

  pub in_tree_if_linked : (t : Tree) → c.past.version c.past.now ≡ Some t → (r : Rec) → Links t r → (s : ℕ) × (c.fate r ≡ InTree s)
  in_tree_if_linked t now r h =
      let u = links_within t r h in
      linked_fate (c.fate r) (law.lived r)
      (law.present c.past.now (le_refl c.past.now) (le_refl c.past.now) r u.0 (record { tree = t; is_version = now; within = u.1; is_record = u.2 }))

  -- The leaf is in the tree.
  pub named_in_tree : (q l : ℕ) → HasLockedNamer c q l → (since : ℕ) × (c.fate (a_leaf l) ≡ InTree since)
  named_in_tree q l h = let x = namer_now c law q l h in in_tree_if_linked x.tree x.now (a_leaf l) (namer_links None x.tree x.by l x.names)

  -- The store of its value
  module _ (q l w : ℕ) (named : HasLockedNamer c q l) (heap : Heap) (stored : IsValueStored c.heap heap l w) where
    abbrev found : NamerNow c q l
    found = namer_now c law q l named

    abbrev pub then_ : Tree
    then_ = revalued l w found.tree

    abbrev change : Change
    change = record { pass = q; key = (c.heap.leaves l).key; value = w; kind = Replaced }

    is_linked_leaf : Links found.tree (a_leaf l)
    is_linked_leaf = namer_links None found.tree found.by l found.names

    top_then : (e : Option Entry) (f : Option Tree) → f ≡ Some found.tree → IsTop c.heap e f → IsTop heap e (Some then_)
    top_then None None h i = absurd cc
    top_then None (Some u) h i = elim i [ ]
    top_then (Some x) None h i = elim i [ ]
    top_then (Some x) (Some u) h i =
        let same : u ≡ found.tree = some_same h in
        (subtrie_revalued l w found.tree ∙ (ap subtrie (sym same) ∙ i.0), shown_revalued c.heap heap l w found.tree stored (shown_of found.tree found.now))

    told : IsChange (c.past.version c.past.now) change (Some then_)
    told =
        subst (λ z. IsChange z change (Some then_)) (sym found.now)
        (l, (item l (c.heap.leaves l).key (c.heap.leaves l).value, refl, exchange_revalued c.heap l w found.tree (trie_of found.tree found.now).0 (shown_of found.tree found.now) is_linked_leaf))

    now_linked : (r : Rec) → Links then_ r → Links found.tree r
    now_linked r = links_before l w found.tree r

    other_leaf : (n : ℕ) → (n ≡ l) ⊎ (n ≢ l) → IsLinked (Some then_) (a_leaf n) ⊎ (c.heap.leaves n ≡ heap.leaves n)
    other_leaf n (inl e) = inl (links_revalued l w found.tree (a_leaf n) (subst (λ z. Links found.tree (a_leaf z)) (sym e) is_linked_leaf))
    other_leaf n (inr e) = inr (sym (stored.leaves n e))

    pub value_publish : IsVersionPublish c q heap c.root (Some then_) change
    value_publish = record {
      store = at_value l named stored.nodes stored.leaves refl;
      near = (
        λ n. same_key n (cases_eq n l),
        λ n. ap (λ (z : NodeWords). z.fixed) (sym (stored.nodes n)),
        λ n. inl (ap (λ (z : NodeWords). z.subtrie) (sym (stored.nodes n))),
      );
      kept = λ n. inr (sym (stored.nodes n));
      kept_leaves = λ n. other_leaf n (cases_eq n l);
      own = refl;
      next = record {
        top = top_then c.root (c.past.version c.past.now) found.now law.top;
        tree = λ u e. subst (λ z. IsTrie z × IsBuilt z) (some_same e)
            (trie_revalued l w found.tree (trie_of found.tree found.now).0, built_revalued l w found.tree (trie_of found.tree found.now).1);
        comes = λ r h. inl (in_tree_if_linked found.tree found.now r (now_linked r h));
        goes = λ n f e h. absurd (h (links_revalued l w found.tree (a_node n) (still n f e)));
        change = told;
      };
    }
      where
        same_key : (n : ℕ) → (n ≡ l) ⊎ (n ≢ l) → (c.heap.leaves n).key ≡ (heap.leaves n).key
        same_key n (inl e) = rw e (ap (λ (z : LeafWords). z.key) (sym stored.stored))
        same_key n (inr e) = ap (λ (z : LeafWords). z.key) (sym (stored.leaves n e))

        still : (n f : ℕ) → c.fate (a_node n) ≡ InTree f → Links found.tree (a_node n)
        still n f e =
            let u = (in_tree_now c law n f e).1 in
            subst (λ z. Links z (a_node n)) (some_same (sym u.is_version ∙ found.now)) (within_links u.within (a_node n) u.is_record)

    -- It links no record anew, and unlinks none.
    pub value_trade : HasTraded (c.past.version c.past.now) (Some then_) [] []
    value_trade = subst (λ z. HasTraded z (Some then_) [] []) (sym found.now) (record {
      comes = λ i h. inl (now_linked i h);
      came = λ i h. absurd h;
      goes = λ i h. inl (links_revalued l w found.tree i h);
      went = λ i h. absurd h;
      apart = tt;
    })
