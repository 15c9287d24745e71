-- A legal publish stores to a record that is linked then; and what it makes of what another pass has.
use Rattle.rowex_core.proofs.Common.{◌≡◌, ◌≢◌, ◌⊎◌, inl, inr, ℕ, suc, ◌<◌, ◌&&◌, ◌||◌, List, [], ◌∷◌, ◌++◌, length, Bool, true, false, Option, Some, None, refl, sym, ap, ◌∙◌, subst, arith, le_refl, filter, eq-eqb, cases_Bool, false≢true, filter-append, Removed, Entry, Leaf, Node, Place, Tree, leaf, node, fork, subtrie, Has, IsTrie, IsBuilt, IsLower, Item, IsMore, added, behind, first, within_has, Rec, a_node, a_leaf, Heap, NodeWords, IsShown, IsRecord, IsLived, IsTop, IsLinked, Links, Spans, Fate, Free, Held, ReadyBy, InTree, UnlinkedBy, Marked, life_of, same_rec, links, is_linked, next_fate, IsLockable, items_of, item_of, IsChanged, IsChange, links_within, within_links, determined, shown_within, node_number, leaf_number, same_rec_true, links_true, linked_cases, some_pass_injective}
use Rattle.tries.proofs.Tree.{has_first}
use Rattle.versions.proofs.State.Quiet.{slot_linked}
use Rattle.rowex_core.specs.declared.event.Act.TheVariants.{Publish}
use Rattle.rowex_core.specs.declared.event.Spot.{Spot}
use Rattle.rowex_core.specs.declared.event.Spot.TheVariants.{Root, Slot, Value}
use Rattle.rowex_core.specs.Reading.{node_words_of, leaf_of}
use Rattle.rowex_core.specs.Cores.{Core, IsLawful, heap_of}
use Rattle.rowex_core.specs.Events.{after, stored_words, stored_root, next_tree, change_between, IsLegalPublish, IsLockedAt}
use Rattle.rowex_core.specs.Sharing.{share, holding_of, is_by, is_in_tree, owned, locked, anchored_at}
use Rattle.rowex_core.specs.Knowing.{records_of, records_in}
use Rattle.rowex_core.proofs.Cores.Valuing.{valued_linked}
use Rattle.rowex_core.proofs.Sharing.{same_share, by_another, is_by_true, and_false}

-- From a list of leaves to itself there is no change.

pub no_change : (q : ℕ) (xs : List Item) → (change_between q xs xs).kind ≡ Removed
no_change q [] = refl
no_change q (x ∷ xs) = rw (eq-eqb x.number x.number refl) (no_change q xs)

more_longer : {x : Item} {xs ys : List Item} → IsMore x xs ys → length ys ≡ suc (length xs)
more_longer added = refl
more_longer (behind m) = ap suc (more_longer m)

pub always_changed : (q : ℕ) (s t : Option Tree) → s ≡ t → ¬ (IsChange s (change_between q (items_of s) (items_of t)) t)
always_changed q s t e (n, m) = go (subst (λ z. (n : ℕ) × IsChanged (change_between q (items_of s) (items_of z)).kind (item_of n (change_between q (items_of s) (items_of z))) (items_of s) (items_of z)) (sym e) (n, m))
  where
    go : (n : ℕ) × IsChanged (change_between q (items_of s) (items_of s)).kind (item_of n (change_between q (items_of s) (items_of s))) (items_of s) (items_of s) → ⊥
    go (n, m) =
        let l = subst (λ z. IsChanged z (item_of n (change_between q (items_of s) (items_of s))) (items_of s) (items_of s)) (no_change q (items_of s)) m in
        let x = more_longer l in omega arith

-- A store to a node that is not linked then leaves the tree.
same_top : (m o : Heap) (e : Option Entry) (n : ℕ) (s t : Option Tree) → IsTop m e s → IsTop o e t →
    ((i : ℕ) → i ≢ n → m.nodes i ≡ o.nodes i) → ((i : ℕ) → m.leaves i ≡ o.leaves i) → ¬ (IsLinked t (a_node n)) → s ≡ t
same_top m o None n None None i j f g l = refl
same_top m o None n None (Some t) i j f g l = absurd j
same_top m o None n (Some s) t i j f g l = absurd i
same_top m o (Some e) n None t i j f g l = absurd i
same_top m o (Some e) n (Some s) None i j f g l = absurd j
same_top m o (Some e) n (Some s) (Some t) i j f g l = ap Some (slot_linked m o n s t f g i.1 j.1 (i.0 ∙ sym j.0) l)

-- every record but the one that is stored to keeps its words
pub other_words : (c : Core) (n j w : ℕ) (r : Rec) → r ≢ a_node n → stored_words c (Slot n j) w r ≡ c.words r
other_words c n j w r ne = elim (cases_Bool (same_rec r (a_node n))) [ inl e ↦ absurd (ne (same_rec_true r (a_node n) e)) | inr e ↦ rw e refl ]

module _ (c : Core) (q : ℕ) (law : IsLawful c) where
  -- The node that a legal publish stores to is linked then.
  pub stored_linked : (n j w : ℕ) → IsLegalPublish c q (Slot n j) w → IsLinked (next_tree c (Slot n j) w) (a_node n)
  stored_linked n j w l = go (linked_cases (next_tree c (Slot n j) w) (a_node n))
    where
      go : (IsLinked (next_tree c (Slot n j) w) (a_node n) × (is_linked (next_tree c (Slot n j) w) (a_node n) ≡ true)) ⊎
          ((¬ (IsLinked (next_tree c (Slot n j) w) (a_node n))) × (is_linked (next_tree c (Slot n j) w) (a_node n) ≡ false)) → IsLinked (next_tree c (Slot n j) w) (a_node n)
      go (inl x) = x.0
      go (inr x) = absurd (always_changed q (c.past.version c.past.now) (next_tree c (Slot n j) w)
          (same_top (heap_of c.words) (heap_of (stored_words c (Slot n j) w)) c.root n _ _ law.core.state.top l.top
          (λ i ne. ap node_words_of (sym (other_words c n j w (a_node i) (λ e. ne (node_number e)))))
          (λ i. ap leaf_of (sym (other_words c n j w (a_leaf i) (λ e. absurd cc)))) x.0) l.change)

  -- A record that is not linked then keeps its words.
  pub unlinked_words : (spot : Spot) (w : ℕ) → IsLegalPublish c q spot w → (r : Rec) → ¬ (IsLinked (next_tree c spot w) r) → stored_words c spot w r ≡ c.words r
  unlinked_words Root w l r o = refl
  unlinked_words (Value m) w l r o =
      elim (cases_Bool (same_rec r (a_leaf m))) [
        | inl e ↦ absurd (o (subst (IsLinked (next_tree c (Value m) w)) (sym (same_rec_true r (a_leaf m) e)) (valued_linked c q m w law l.locked)))
        | inr e ↦ rw e refl
      ]
  unlinked_words (Slot n j) w l r o = other_words c n j w r (λ e. o (subst (IsLinked (next_tree c (Slot n j) w)) (sym e) (stored_linked n j w l)))

is_false : (b : Bool) → ¬ (b ≡ true) → b ≡ false
is_false true n = absurd (n refl)
is_false false n = refl

-- Each record is linked once.

-- the records that a list has of r, where it has it once or not at all
abbrev pub once : Rec → Bool → List Rec
once r true = r ∷ []
once r false = []

-- a node in a body is lower than the body's bound
lower_links : (m : Heap) (h n : ℕ) (t : Tree) → IsLower h t → IsBuilt t → IsShown m t → Links t (a_node n) → (m.nodes n).fixed.height < h
lower_links m h n (leaf o k v) low b s l = absurd cc
lower_links m h n (node o x t) low b s (inl e) = subst (λ z. (m.nodes z).fixed.height < h) (sym (node_number e)) (subst (λ (z : NodeWords). z.fixed.height < h) (sym s.0) low)
lower_links m h n (node o x t) low b s (inr l) = let y = lower_links m x.height n t b.1 b.2 s.1 l in omega arith
lower_links m h n (fork p t u) low b s (inl l) = lower_links m h n t low.0 b.0 s.0 l
lower_links m h n (fork p t u) low b s (inr l) = lower_links m h n u low.1 b.1 s.1 l

same_subtrie : (m : Heap) (r : Rec) (s t : Tree) → IsRecord r s → IsRecord r t → IsShown m s → IsShown m t → subtrie s ≡ subtrie t
same_subtrie m r (leaf n k v) (leaf o l w) a b i j = let e : n ≡ o = leaf_number (sym a ∙ b) in ap (λ z. Place (Leaf z)) e
same_subtrie m r (node n x s) (node o y t) a b i j =
    let e : n ≡ o = node_number (sym a ∙ b) in
    let h : x.height ≡ y.height = ap (λ (z : NodeWords). z.fixed.height) (sym i.0 ∙ (ap m.nodes e ∙ j.0)) in
    λ k. Place (Node (e k) (h k))
same_subtrie m r (leaf n k v) (node o y t) a b i j = absurd (let z : a_leaf n ≡ a_node o = sym a ∙ b in cc)
same_subtrie m r (node n x s) (leaf o l w) a b i j = absurd (let z : a_node n ≡ a_leaf o = sym a ∙ b in cc)
same_subtrie m r (fork p a b) t x y i j = absurd x
same_subtrie m r (leaf n k v) (fork p a b) x y i j = absurd y
same_subtrie m r (node n z s) (fork p a b) x y i j = absurd y

-- the sides of a fork have no record in common
sides_apart : (m : Heap) (p : ℕ) (a b : Tree) → IsTrie (fork p a b) → IsShown m a → IsShown m b → (r : Rec) → Links a r → Links b r → ⊥
sides_apart m p a b trie i j r x y =
    let s = links_within a r x in
    let t = links_within b r y in
    let e : s.0 ≡ t.0 = determined m s.0 t.0 (shown_within m s.1 i) (shown_within m t.1 j) (same_subtrie m r s.0 t.0 s.2 t.2 (shown_within m s.1 i) (shown_within m t.1 j)) in
    let k = first s.0 in
    let zero = trie.3 k (within_has s.1 k (has_first s.0)) in
    let one = trie.4 k (within_has t.1 k (subst (λ z. Has z k) e (has_first s.0))) in
    false≢true (sym zero ∙ one)

records_once : (m : Heap) (t : Tree) → IsTrie t → IsBuilt t → IsShown m t → (r : Rec) → filter (same_rec r) (records_of t) ≡ once r (links t r)
records_once m (leaf n k v) trie built shown r = elim (cases_Bool (same_rec r (a_leaf n))) [ inl e ↦ rw e (ap (λ (z : Rec). z ∷ []) (sym (same_rec_true r (a_leaf n) e))) | inr e ↦ rw e refl ]
records_once m (node n x b) trie built shown r = go (cases_Bool (same_rec r (a_node n))) (records_once m b trie built.2 shown.1 r)
  where
    go : ((same_rec r (a_node n) ≡ true) ⊎ (same_rec r (a_node n) ≡ false)) → filter (same_rec r) (records_of b) ≡ once r (links b r) → filter (same_rec r) (a_node n ∷ records_of b) ≡ once r (same_rec r (a_node n) || links b r)
    go (inr e) h = rw e h
    go (inl e) h = rw e (ap (λ (z : List Rec). a_node n ∷ z) (h ∙ ap (once r) none) ∙ ap (λ (z : Rec). z ∷ []) (sym (same_rec_true r (a_node n) e)))
      where
        none : links b r ≡ false
        none = is_false (links b r) (λ t. let l = links_true b r t in let low = lower_links m x.height n b built.1 built.2 shown.1 (subst (Links b) (same_rec_true r (a_node n) e) l) in
            let same : (m.nodes n).fixed.height ≡ x.height = ap (λ (z : NodeWords). z.fixed.height) shown.0 in omega arith)
records_once m (fork p a b) trie built shown r =
    filter-append (same_rec r) (records_of a) (records_of b) ∙
    (λ i. records_once m a trie.0 built.0 shown.0 r i ++ records_once m b trie.1 built.1 shown.1 r i) ∙ join (cases_Bool (links a r)) (cases_Bool (links b r))
  where
    join : ((links a r ≡ true) ⊎ (links a r ≡ false)) → ((links b r ≡ true) ⊎ (links b r ≡ false)) → once r (links a r) ++ once r (links b r) ≡ once r (links a r || links b r)
    join (inl e) (inl f) = absurd (sides_apart m p a b trie shown.0 shown.1 r (links_true a r e) (links_true b r f))
    join (inl e) (inr f) = rw (e, f) refl
    join (inr e) h = rw e refl

-- A record of the newest version is in the tree.

spans_now : (now : ℕ) (f : Fate) → Rattle.versions.specs.State.IsLived now (life_of f) → Spans now (life_of f) now → (since : ℕ) × (f ≡ InTree since)
spans_now now Free l s = absurd s
spans_now now (Held p) l s = absurd s
spans_now now (ReadyBy p) l s = absurd s
spans_now now (InTree f) l s = (f, refl)
spans_now now (UnlinkedBy f e p) l s = absurd (omega arith)
spans_now now (Marked f e p) l s = absurd (omega arith)

pub linked_now : (c : Core) → IsLawful c → (r : Rec) → IsLinked (c.past.version c.past.now) r → (since : ℕ) × (c.fate r ≡ InTree since)
linked_now c law r l = go (c.past.version c.past.now) refl l
  where
    go : (t : Option Tree) → c.past.version c.past.now ≡ t → IsLinked t r → (since : ℕ) × (c.fate r ≡ InTree since)
    go None e h = absurd h
    go (Some t) e h =
        let u = links_within t r h in
        spans_now c.past.now (c.fate r) (law.core.state.lived r)
        (law.core.state.present c.past.now (le_refl c.past.now) (le_refl c.past.now) r u.0 (record { tree = t; is_version = e; within = u.1; is_record = u.2 }))

pub true_linked : (t : Option Tree) (r : Rec) → IsLinked t r → is_linked t r ≡ true
true_linked t r h = elim (linked_cases t r) [ inl x ↦ x.1 | inr x ↦ absurd (x.0 h) ]

-- a record is linked in the newest version where its fate says so
pub linked_where : (c : Core) → IsLawful c → (r : Rec) → is_linked (c.past.version c.past.now) r ≡ is_in_tree (c.fate r)
linked_where c law r = go (linked_cases (c.past.version c.past.now) r)
  where
    there : (f : Fate) → c.fate r ≡ f → ¬ (IsLinked (c.past.version c.past.now) r) → is_in_tree f ≡ false
    there (InTree since) e n =
        let stood = law.core.state.alive r c.past.now (subst (λ z. Spans c.past.now (life_of z) c.past.now) (sym e) (subst (λ z. IsLived c.past.now (life_of z)) e (law.core.state.lived r), le_refl c.past.now)) in
        absurd (n (subst (λ z. IsLinked z r) (sym stood.1.is_version) (within_links stood.1.within r stood.1.is_record)))
    there _ e n = refl

    go : (IsLinked (c.past.version c.past.now) r × (is_linked (c.past.version c.past.now) r ≡ true)) ⊎ ((¬ (IsLinked (c.past.version c.past.now) r)) × (is_linked (c.past.version c.past.now) r ≡ false)) →
        is_linked (c.past.version c.past.now) r ≡ is_in_tree (c.fate r)
    go (inl (h, e)) = e ∙ sym (ap is_in_tree (linked_now c law r h).1)
    go (inr (h, e)) = e ∙ sym (there (c.fate r) refl h)

-- the records of the newest version, each once
pub listed_once : (c : Core) → IsLawful c → (r : Rec) → filter (same_rec r) (records_in (c.past.version c.past.now)) ≡ once r (is_in_tree (c.fate r))
listed_once c law r = go (c.past.version c.past.now) c.root law.core.state.top (λ t e. law.core.state.trees c.past.now t (le_refl c.past.now) e) ∙ ap (once r) (linked_where c law r)
  where
    go : (o : Option Tree) (e : Option Entry) → IsTop (heap_of c.words) e o → ((t : Tree) → o ≡ Some t → IsTrie t × IsBuilt t) → filter (same_rec r) (records_in o) ≡ once r (is_linked o r)
    go None e top trees = refl
    go (Some t) None top trees = absurd top
    go (Some t) (Some e) top trees = records_once (heap_of c.words) t (trees t refl).0 (trees t refl).1 top.1 r

-- What a publish by pass p makes of what pass q has

unlinked_stays : (now p : ℕ) (b : Bool) (since last o : ℕ) → is_in_tree (next_fate now p b (UnlinkedBy since last o)) ≡ false
unlinked_stays now p true since last o = refl
unlinked_stays now p false since last o = refl

module _ (c : Core) (p : ℕ) (spot : Spot) (w : ℕ) (law : IsLawful c) (l : IsLegalPublish c p spot w) where
  -- a record is linked then, and was in the tree or made ready by p; or it is not, and keeps its words
  pub data Linking (r : Rec) : Type 0 where
    stays : (since : ℕ) → c.fate r ≡ InTree since → is_linked (next_tree c spot w) r ≡ true → Linking r
    comes : c.fate r ≡ ReadyBy p → is_linked (next_tree c spot w) r ≡ true → Linking r
    out : ¬ (IsLinked (next_tree c spot w) r) → is_linked (next_tree c spot w) r ≡ false → stored_words c spot w r ≡ c.words r → Linking r

  pub linking : (r : Rec) → Linking r
  linking r = elim (linked_cases (next_tree c spot w) r) [ inl x ↦ elim (l.comes r x.0) [ inl f ↦ stays f.0 f.1 x.1 | inr f ↦ comes f x.1 ] | inr x ↦ out x.0 x.1 (unlinked_words c p law spot w l r x.0) ]

  module _ (q : ℕ) (ne : p ≢ q) where
    held_then : (f : Fate) → holding_of q (next_fate c.past.now p false f) ≡ holding_of q f
    held_then (InTree s) = rw (by_another ne) refl
    held_then _ = refl

    own_then : (r : Rec) → (share q (after c p (Publish spot w))).own r ≡ (share q c).own r
    own_then r = go (linking r)
      where
        go : Linking r → owned r (stored_words c spot w r) (holding_of q (next_fate c.past.now p (is_linked (next_tree c spot w) r) (c.fate r))) ≡ owned r (c.words r) (holding_of q (c.fate r))
        go (stays s f e) = rw (e, f) refl
        go (comes f e) = rw (e, f) (rw (by_another ne) refl)
        go (out h e same) = rw (e, same) (ap (owned r (c.words r)) (held_then (c.fate r)))

    stored : (s : Spot) → IsLockedAt c p s → (n : ℕ) → c.lock n ≡ Some q → stored_words c s w (a_node n) ≡ c.words (a_node n)
    stored Root h n e = refl
    stored (Value m) h n e = refl
    stored (Slot m j) h n e = other_words c m j w (a_node n) (λ x. ne (some_pass_injective (sym h.2 ∙ (ap c.lock (sym (node_number x)) ∙ e))))

    lock_then : (n : ℕ) → c.lock n ≡ Some q → (f : Fate) → c.fate (a_node n) ≡ f → IsLockable q f → Linking (a_node n) → is_in_tree (next_fate c.past.now p (is_linked (next_tree c spot w) (a_node n)) f) ≡ is_in_tree f
    lock_then n a (InTree s) f m (stays t g e) = rw e refl
    lock_then n a (InTree s) f m (comes g e) = absurd (let x : InTree s ≡ ReadyBy p = sym f ∙ g in cc)
    lock_then n a (InTree s) f m (out h e same) = absurd (ne (some_pass_injective (sym (l.goes n s f h) ∙ a)))
    lock_then n a (UnlinkedBy s e o) f m k = unlinked_stays c.past.now p (is_linked (next_tree c spot w) (a_node n)) s e o
    lock_then n a _ f m k = absurd m

    locks_then : (n : ℕ) → (share q (after c p (Publish spot w))).locks n ≡ (share q c).locks n
    locks_then n = go (cases_Bool (is_by q (c.lock n)))
      where
        go : ((is_by q (c.lock n) ≡ true) ⊎ (is_by q (c.lock n) ≡ false)) →
            locked n (stored_words c spot w (a_node n)) (is_in_tree (next_fate c.past.now p (is_linked (next_tree c spot w) (a_node n)) (c.fate (a_node n))) && is_by q (c.lock n)) ≡
            locked n (c.words (a_node n)) (is_in_tree (c.fate (a_node n)) && is_by q (c.lock n))
        go (inl e) = let a = is_by_true q (c.lock n) e in
            rw (stored spot l.locked n a, lock_then n a (c.fate (a_node n)) refl (law.core.locked n q a) (linking (a_node n))) refl
        go (inr e) = rw (e, and_false (is_in_tree (c.fate (a_node n))), and_false (is_in_tree (next_fate c.past.now p (is_linked (next_tree c spot w) (a_node n)) (c.fate (a_node n))))) refl

    anchor_then : (s : Spot) → IsLockedAt c p s → anchored_at (stored_root c s w) (is_by q c.anchor) ≡ anchored_at c.root (is_by q c.anchor)
    anchor_then Root h = rw (h, by_another ne) refl
    anchor_then (Slot n j) h = refl
    anchor_then (Value m) h = refl

    -- of another pass's: nothing
    pub publish_share : share q (after c p (Publish spot w)) ≡ share q c
    publish_share = same_share own_then locks_then (anchor_then spot l.locked) refl refl
