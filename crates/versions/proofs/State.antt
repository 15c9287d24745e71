-- The laws of the core.
pub mod Publish
pub mod Quiet
use Rattle.versions.proofs.Common.{◌≡◌, ◌⊎◌, inl, inr, ℕ, ◌<◌, ◌≤◌, ap, sym, ◌∙◌, subst, arith, le_refl, le_trans, Key, IsParted, Fixed, Tree, leaf, node, fork, subtrie, Has, IsTrie, IsBuilt, here, inside, Entry, Leaf, Node, Place, Follows, child, seek, between, IsUnder, Rec, a_node, within_trans, trie_within, built_within, descend, within_child, subtrie_child, follows_kin, kin_trans, kin_sym, parting, some_same}
use Rattle.versions.specs.Heap.{NodeWords, IsCopied}
use Rattle.versions.specs.State.{rec_of, IsRecord, Life, Out, Linked, Retired, Spans, last_of, State, Stands, IsSameRecord, IsReach, IsLawfulState, WasAbsentSince, IsLed, IsLived, KeepsFixedWordsSince}
use Rattle.versions.proofs.Heap.{node_number}

pub record_of_subtrie : (e : Entry) (u : Tree) → subtrie u ≡ Place e → IsRecord (rec_of e) u
record_of_subtrie (Leaf n) (leaf m k v) x = cc
record_of_subtrie (Leaf n) (node m h b) x = absurd cc
record_of_subtrie (Leaf n) (fork p a b) x = absurd cc
record_of_subtrie (Node n g) (leaf m k v) x = absurd cc
record_of_subtrie (Node n g) (node m h b) x = cc
record_of_subtrie (Node n g) (fork p a b) x = absurd cc

pub is_trie : (s : State) → IsLawfulState s → (n : ℕ) (r : Rec) (u : Tree) → n ≤ s.now → (st : Stands s.past n r u) → IsTrie st.tree
is_trie s law n r u h st = (law.trees n st.tree h st.is_version).0

pub is_built : (s : State) → IsLawfulState s → (n : ℕ) (r : Rec) (u : Tree) → n ≤ s.now → Stands s.past n r u → IsBuilt u
is_built s law n r u h st = built_within st.within (law.trees n st.tree h st.is_version).1

-- What stands in a node that stands in a version.
pub stands_child : (s : State) (n m : ℕ) (h : Fixed) (c : Tree) (k : Key) (r : Rec) → Stands s.past n r (node m h c) →
    Stands s.past n (rec_of (seek k (subtrie c))) (child k c)
stands_child s n m h c k r st = record {
  tree = st.tree;
  is_version = st.is_version;
  within = within_trans (within_trans (within_child k c) (inside here)) st.within;
  is_record = record_of_subtrie (seek k (subtrie c)) (child k c) (subtrie_child k c);
}

pub spans_ended : (now : ℕ) (l : Life) (n : ℕ) → IsLived now l → Spans now l n → (n ≤ last_of now l) × (last_of now l ≤ now)
spans_ended now Out n i h = elim h [ ]
spans_ended now (Linked f) n i h = (h.1, le_refl now)
spans_ended now (Retired f e) n i h = (h.1, omega arith)

pub spans_last : (now : ℕ) (l : Life) (n : ℕ) → IsLived now l → Spans now l n → Spans now l (last_of now l)
spans_last now Out n i h = elim h [ ]
spans_last now (Linked f) n i h = (i, le_refl now)
spans_last now (Retired f e) n i h = (i.0, le_refl e)

-- One step of a search in a version in which the record stands.
led_down : (s : State) → IsLawfulState s → (m n o : ℕ) (h : Fixed) (c : Tree) (k : Key) (r : Rec) → m ≤ n → n ≤ s.now → Stands s.past n r (node o h c) →
    (Follows k c ⊎ WasAbsentSince s.past m k) → IsLed s.past m k (seek k (subtrie c))
led_down s law m n o h c k r lo hi st f =
    (n, child k c, lo, hi, stands_child s n o h c k r st, subtrie_child k c, go f)
  where
    either : Follows k (child k c) ⊎ ¬ (Has st.tree k) → Follows k (child k c) ⊎ WasAbsentSince s.past m k
    either (inl x) = inl x
    either (inr x) = inr (n, lo, hi, λ t e h. x (subst (λ z. Has z k) (some_same (sym e ∙ st.is_version)) h))

    go : Follows k c ⊎ WasAbsentSince s.past m k → Follows k (child k c) ⊎ WasAbsentSince s.past m k
    go (inl x) = either (descend (within_trans (inside here) st.within) (is_trie s law n r (node o h c) hi st) k x)
    go (inr x) = inr x

-- The record that a search was led to, in the last version of its life.
led_last : (s : State) → IsLawfulState s → (m : ℕ) → (k : Key) (n x : ℕ) (g : Fixed) (o : ℕ) (b : Tree) → m ≤ o → o ≤ s.now →
    Spans s.now (s.life (a_node n)) o → Stands s.past o (a_node n) (node x g b) → (Follows k b ⊎ WasAbsentSince s.past m k) →
    (u : Tree) → Stands s.past (last_of s.now (s.life (a_node n))) (a_node n) u → IsLed s.past m k (seek k (s.heap.nodes n).subtrie)
led_last s law m k n x g o b lo hi spans st f u t =
    go u t (law.same (a_node n) o (node x g b) u spans st t)
    (law.frozen (a_node n) u (spans_last s.now (s.life (a_node n)) o (law.lived (a_node n)) spans) t)
  where
    go : (u : Tree) → Stands s.past (last_of s.now (s.life (a_node n))) (a_node n) u → IsSameRecord (node x g b) u → IsCopied s.heap u →
        IsLed s.past m k (seek k (s.heap.nodes n).subtrie)
    go (leaf y l v) t i c = elim i [ ]
    go (fork y l v) t i c = elim i [ ]
    go (node y j d) t i c =
        let bounds = spans_ended s.now (s.life (a_node n)) o (law.lived (a_node n)) spans in
        let e : (s.heap.nodes n).subtrie ≡ subtrie d = ap (λ (z : NodeWords). z.subtrie) (ap s.heap.nodes (node_number t.is_record) ∙ c) in
        subst (λ z. IsLed s.past m k (seek k z)) (sym e)
        (led_down s law m (last_of s.now (s.life (a_node n))) y j d k (a_node n) (le_trans lo bounds.0) bounds.1 t
        (carried f))
      where
        carried : Follows k b ⊎ WasAbsentSince s.past m k → Follows k d ⊎ WasAbsentSince s.past m k
        carried (inl h) = inl (follows_kin i.1 (is_built s law o (a_node n) (node x g b) hi st).0 k h)
        carried (inr h) = inr h

-- A key's search through a record that it was led to, by the words as they are now, is led to the child.
pub hindsight : (s : State) → IsLawfulState s → (m : ℕ) → IsReach s m → (k : Key) (n h : ℕ) →
    IsLed s.past m k (Node n h) → IsLed s.past m k (seek k (s.heap.nodes n).subtrie)
hindsight s law m reach k n h (o, leaf x l v, a, b, st, e, f) = absurd cc
hindsight s law m reach k n h (o, fork x l v, a, b, st, e, f) = absurd cc
hindsight s law m reach k n h (o, node x g b, lo, hi, st, e, f) =
    let spans = reach o lo hi (a_node n) (node x g b) st in
    let at_last = law.alive (a_node n) (last_of s.now (s.life (a_node n))) (spans_last s.now (s.life (a_node n)) o (law.lived (a_node n)) spans) in
    led_last s law m k n x g o b lo hi spans st f at_last.0 at_last.1

-- Keys below two entries of a record part at the fork between them, in whichever versions of its life.
pub state_parting : (s : State) → IsLawfulState s → (r : Rec) (n o x y : ℕ) (g h : Fixed) (b c : Tree) → n ≤ s.now → o ≤ s.now →
    Spans s.now (s.life r) n → Spans s.now (s.life r) o → Stands s.past n r (node x g b) → Stands s.past o r (node y h c) →
    (i j : ℕ) → i < j → (k l : Key) → IsUnder b i k → IsUnder c j l → IsParted (between (subtrie b) i j) k l
state_parting s law r n o x y g h b c bn bo sn so tn tp i j lt k l u v =
    go last.0 last.1 (law.same r n (node x g b) last.0 sn tn last.1) (law.same r o (node y h c) last.0 so tp last.1)
  where
    last : (w : Tree) × Stands s.past (last_of s.now (s.life r)) r w
    last = law.alive r (last_of s.now (s.life r)) (spans_last s.now (s.life r) n (law.lived r) sn)

    go : (w : Tree) → Stands s.past (last_of s.now (s.life r)) r w → IsSameRecord (node x g b) w → IsSameRecord (node y h c) w → IsParted (between (subtrie b) i j) k l
    go (leaf a d e) t f z = elim f [ ]
    go (fork a d e) t f z = elim f [ ]
    go (node a d e) t f z =
        parting (kin_trans f.1 (kin_sym z.1)) (trie_within (within_trans (inside here) tn.within) (is_trie s law n r (node x g b) bn tn))
        (trie_within (within_trans (inside here) tp.within) (is_trie s law o r (node y h c) bo tp)) i j lt k l u v

pub same_trans : (a b c : Tree) → IsSameRecord a b → IsSameRecord b c → IsSameRecord a c
same_trans (leaf n k v) (leaf m l w) (leaf o x y) e f = e ∙ f
same_trans (node n h b) (node m i c) (node o j d) e f = (e.0 ∙ f.0, kin_trans e.1 f.1)
same_trans (leaf n k v) (leaf m l w) (node o x y) e f = elim f [ ]
same_trans (leaf n k v) (leaf m l w) (fork o x y) e f = elim f [ ]
same_trans (node n k v) (node m l w) (leaf o x y) e f = elim f [ ]
same_trans (node n k v) (node m l w) (fork o x y) e f = elim f [ ]
same_trans (leaf n k v) (node m l w) c e f = elim e [ ]
same_trans (leaf n k v) (fork m l w) c e f = elim e [ ]
same_trans (node n k v) (leaf m l w) c e f = elim e [ ]
same_trans (node n k v) (fork m l w) c e f = elim e [ ]
same_trans (fork n k v) b c e f = elim e [ ]

same_sym : (u v : Tree) → IsSameRecord u v → IsSameRecord v u
same_sym (leaf n k v) (leaf m l w) f = sym f
same_sym (node n h b) (node m i c) f = (sym f.0, kin_sym f.1)
same_sym (leaf n k v) (node m i c) f = elim f [ ]
same_sym (leaf n k v) (fork p a b) f = elim f [ ]
same_sym (node n h b) (leaf m l w) f = elim f [ ]
same_sym (node n h b) (fork p a c) f = elim f [ ]
same_sym (fork p a b) v f = elim f [ ]

-- What is in reach keeps its fixed words and stems.
pub steady : (s : State) → IsLawfulState s → (m : ℕ) → IsReach s m → KeepsFixedWordsSince s.past m
steady s law m reach = record {
  trees = law.trees;
  same = λ r n o u v ln hn lo ho st su.
      let sn = reach n ln hn r u st in
      let so = reach o lo ho r v su in
      let l = law.alive r (last_of s.now (s.life r)) (spans_last s.now (s.life r) n (law.lived r) sn) in
      same_trans u l.0 v (law.same r n u l.0 sn st l.1) (same_sym v l.0 (law.same r o v l.0 so su l.1));
}

-- What was linked since a version is in its life; so is what was linked since a later one.
pub reach_later : (s : State) (m o : ℕ) → m ≤ o → IsReach s m → IsReach s o
reach_later s m o h reach n lo hi r u st = reach n (le_trans h lo) hi r u st
