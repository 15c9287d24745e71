-- What is chosen at a node, and what follows from it.
use Rattle.plain_trie_records.proofs.Common.{◌≡◌, ◌≢◌, ◌⊎◌, inl, inr, ℕ, zero, suc, ◌+◌, ◌<◌, ◌≤◌, max, Bool, true, false, List, length, nat_lt, refl, ap, ap₂, sym, ◌∙◌, subst, arith, Some, if◌then◌else◌, ◌↔◌, IsTrue, not, slice_get, slice_set, lt-ltb, le-ltb, cases_lt, false≢true, affected_first, affected_count, grown, grafted, Place, Fork, places, size, NodeView, piece, height_of, greatest_height, IsEntry, IsBuiltFrom, Entry, Leaf, Node, Risen, Whole, Split, subtrie_of, below, body, case_of, is_leaf, stage, IsAffectedNode, WayBelow, part_of_two, size_affected, tip_child, tip_of_one_place, affected, subtrie_forked, IsLeafOrFork, Item, Key, bit, spot, child, seek, Subtrie, Fixed, Tree, leaf, node, fork, subtrie}
use Rattle.std.specs.Prelude.{MatchBool}
use Rattle.insert_cases.specs.declared.choice.Case.{Case}
use Rattle.insert_cases.specs.declared.choice.Case.TheVariants.{LeafPushdown}
use Rattle.plain_trie_records.specs.declared.leaf.LeafRecord.{LeafRecord}
use Rattle.plain_trie_records.specs.Cases.{IsOneSide, IsByCase, AddsByCase, DoesLevel, DoesCase, IsNewNode, IsPutBetween, DoesLevels, TakesFork, is_overflow, is_split}
use Rattle.plain_trie_records.specs.Rising.{IsAddable, LacksNode}
use Rattle.plain_trie_records.specs.Risen.{AllStay, OthersStay}
use Rattle.plain_trie_records.proofs.rising.Rising.{IsHere, child_addable, part, range}

-- ---- what becomes of a node's record
-- so where the new node is whole if there is room, and else one side is left
pub does_grown : (ms : List NodeView) (n : ℕ) (old view : NodeView) (h m first : ℕ) (shown : Subtrie) (whole : Bool) → IsTrue whole ↔ (m < 32) → slice_get ms n ≡ Some view →
    MatchBool whole (IsBuiltFrom view shown) (IsOneSide view shown) → DoesCase ms n (case_of h m false) old first shown × (not whole ≡ is_overflow (case_of h m false))
does_grown ms n old view h m first shown true e at is = let f : nat_lt m 32 ≡ true = lt-ltb m 32 (e.0 refl) in rw f ((view, at, is), refl)
does_grown ms n old view h m first shown false e at is =
    let f : nat_lt m 32 ≡ false = elim (cases_lt m 32) [ inl g ↦ absurd (false≢true (e.1 g)) | inr g ↦ le-ltb m 32 g ] in rw f ((view, at, is), refl)

-- and so where it is to take in a fork
pub takes_fork : (old view : NodeView) (p : ℕ) (z o : Entry) (at : ℕ) (whole up : Bool) → IsTrue whole ↔ (length old.entries < 32) → up ≡ not whole →
    (let shown = grafted at (Fork p (Place z) (Place o)) (piece old) in MatchBool whole (IsBuiltFrom view shown) (IsOneSide view shown)) → TakesFork old view at up
takes_fork old view p z o at true up e rose is =
    record { position = p; zero_entry = z; one_entry = o; room = λ l. (is, rose); full = λ m. absurd (let l = e.0 refl in omega arith) }
takes_fork old view p z o at false up e rose is =
    record { position = p; zero_entry = z; one_entry = o; room = λ l. absurd (false≢true (e.1 l)); full = λ m. (is, rose) }

-- ---- the node at which a search stands
low_case : (m : ℕ) (b : Bool) → case_of 1 m false ≡ case_of 1 m b
low_case m true = refl
low_case m false = refl

-- an entry of height 0 that a tree begins with is a leaf's
low_leaf : (t : Tree) (e : Entry) → subtrie t ≡ Place e → IsEntry e → height_of e ≡ 0 → IsLeafOrFork t × (is_leaf t ≡ true)
low_leaf (leaf n k v) e is i z = (tt, refl)
low_leaf (node n x b) e is i z = let q : e ≡ Node n x.height = cc in absurd (let o = subst IsEntry q i in omega (arith, o.0, z, ap height_of q))
low_leaf (fork p a b) e is i z = absurd cc

-- the height of a new node over two leaves
pair_low : (v : NodeView) (b : Bool) (p l : ℕ) (e : Entry) → height_of e ≡ 0 → IsBuiltFrom v (subtrie_forked b p (Leaf l) (Place e)) → v.height ≡ 1
pair_low v b p l e low built = over ∙ low_pair b
  where
    over : v.height ≡ 1 + greatest_height (places (subtrie_forked b p (Leaf l) (Place e)))
    over = built.height_is ∙ ap (λ es. 1 + greatest_height es) (built.lawful.shows.entries_are ∙ ap places built.shows_it)

    low_pair : (b : Bool) → 1 + greatest_height (places (subtrie_forked b p (Leaf l) (Place e))) ≡ 1
    low_pair true = ap (λ g. 1 + max g (max 0 0)) low
    low_pair false = ap (λ g. 1 + max 0 (max g 0)) low

module _ {ns : List NodeView} {ls : List LeafRecord} {x : Item} {p n h : ℕ} {t : Tree} (i : IsAddable ns ls x p (Node n h) t) (u : IsHere ns ls x p n h t) (first last : ℕ)
    (from : affected_first p (spot x.key (subtrie u.body)) (subtrie u.body) ≡ first) (upto : affected_count p (spot x.key (subtrie u.body)) (subtrie u.body) + first ≡ last + 1) where
  -- the node is the affected one
  at_here : IsLeafOrFork (affected p x.key u.body) → (c : Case) → c ≡ case_of u.fixed.height (size (subtrie u.body)) (is_leaf (affected p x.key u.body)) →
      IsAffectedNode x.key p (node n u.fixed u.body) (record { level = 0; first = first; last = last; case = c })
  at_here o c e = record {
    number = n;
    fixed = u.fixed;
    inner = u.body;
    is = refl;
    above = λ l g. absurd (omega (arith, g));
    part = o;
    first = sym from;
    range = range i u first last from upto o;
    case = e;
  }

  -- and gets the leaf itself
  pub taken_by_case : (first < last) ⊎ (h ≡ 1) → (m : ℕ) → m ≡ size (subtrie u.body) → (ms : List NodeView) (up : Bool) → up ≡ is_overflow (case_of h m false) →
      DoesCase ms n (case_of h m false) u.shown.0.view first (grown p (bit x.key p) (Leaf x.number) first (piece u.shown.0.view)) → IsByCase ns ms x.key p x.number (node n u.fixed u.body) up
  unfolding at_here
  taken_by_case takes m counts ms up rose does =
      let single = is_leaf (affected p x.key u.body) in
      let same : case_of h m false ≡ case_of h m single = elim takes [
        | inl o ↦ ap (case_of h m) (sym (part_of_two (affected p x.key u.body) (omega (arith, upto, size_affected x.key p u.body))).1)
        | inr one ↦ subst (λ z. case_of z m false ≡ case_of z m single) (sym one) (low_case m single)
      ] in
      record {
        choice = record { level = 0; first = first; last = last; case = case_of h m false };
        affected = at_here (part i u first last from upto takes) (case_of h m false) (same ∙ ap₂ (λ a b. case_of a b single) (sym u.high) counts);
        view = u.shown.0.view;
        at = u.shown.0.at;
        does = does;
        rises = rose;
      }

  -- or a new node takes the place of the leaf below it
  pub pushed_by_case : (entry : Entry) → last ≤ first → 1 < h → height_of entry ≡ 0 → entry ≡ seek x.key (subtrie u.body) → IsEntry entry → (ms us : List NodeView) (b up : Bool) → up ≡ false →
      IsPutBetween ms us n first u.shown.0.view (subtrie_forked b p (Leaf x.number) (Place entry)) → IsByCase ns us x.key p x.number (node n u.fixed u.body) up
  unfolding at_here
  pushed_by_case entry few high zero_high sought stands ms us b up rose put =
      let tip = tip_child p x.key u.body (tip_of_one_place (affected p x.key u.body) (omega (arith, upto, size_affected x.key p u.body))) in
      let leafy = low_leaf (child x.key u.body) entry (child_addable i u entry sought).head stands zero_high in
      let single : is_leaf (affected p x.key u.body) ≡ true = ap is_leaf tip.0 ∙ leafy.1 in
      let tall_as : nat_lt 1 u.fixed.height ≡ true = lt-ltb 1 u.fixed.height (omega (arith, u.high)) in
      let low : put.view.height ≡ 1 = pair_low put.view b p x.number entry zero_high put.built in
      record {
        choice = record { level = 0; first = first; last = last; case = LeafPushdown };
        affected = at_here (subst IsLeafOrFork (sym tip.0) leafy.0) LeafPushdown (rw (single, tall_as) refl);
        view = u.shown.0.view;
        at = u.shown.0.at;
        does = (
          record u.shown.0.view { entries = slice_set u.shown.0.view.entries first (Node (length ms) put.view.height) },
          put.after,
          (length ms, ap (λ g. let w : NodeView = record u.shown.0.view { entries = slice_set u.shown.0.view.entries first (Node (length ms) g) } in w) low),
        );
        rises = rose;
      }

-- ---- below a node
-- a leaf and the new one are a fork
pub forked_split : (r : Risen) (b : Bool) (p l : ℕ) (e : Entry) → subtrie_of r ≡ subtrie_forked b p (Leaf l) (Place e) → is_split r ≡ true
forked_split (Whole d) true p l e is = absurd cc
forked_split (Whole d) false p l e is = absurd cc
forked_split (Split q z o) b p l e is = refl

pub leaf_by_case : (ns ms : List NodeView) (k : Key) (p l n : ℕ) (t : Tree) (up : Bool) → subtrie t ≡ Place (Leaf n) → up ≡ true → AddsByCase ns ms k p l t up
leaf_by_case ns ms k p l n (leaf m j v) up is rose = rose
leaf_by_case ns ms k p l n (node m x b) up is rose = absurd cc
leaf_by_case ns ms k p l n (fork q a b) up is rose = tt

pub node_by_case : (ns ms : List NodeView) (k : Key) (p l : ℕ) (e : Entry) (t : Tree) (up : Bool) → subtrie t ≡ Place e → 0 < height_of e → AddsByCase ns ms k p l t up → IsByCase ns ms k p l t up
node_by_case ns ms k p l e (leaf m j v) up is high d = absurd (let q : Leaf m ≡ e = cc in omega (arith, ap height_of q))
node_by_case ns ms k p l e (node m x b) up is high d = d
node_by_case ns ms k p l e (fork q a b) up is high d = absurd cc

-- with fewer before it a node is as new
pub new_node : (n m : ℕ) (e : Entry) → n ≤ m → IsNewNode m e → IsNewNode n e
new_node n m (Leaf l) h i = elim i [ ]
new_node n m (Node l g) h i = omega (arith, h, i)

none_child : (n : ℕ) (k : Key) (b : Tree) → LacksNode n b → LacksNode n (child k b)
none_child n k (leaf m l v) none = none
none_child n k (node m x d) none = none
none_child n k (fork q a c) none =
    elim (bit k q) as (λ o. LacksNode n (if o then child k c else child k a)) [ true ↦ none_child n k c none.1 | false ↦ none_child n k a none.0 ]

none_below : (n : ℕ) (k : Key) (t : Tree) → LacksNode n t → LacksNode n (below k t)
none_below n k (leaf m l v) none = none
none_below n k (node m x b) none = none_child n k b none.1
none_below n k (fork q a c) none = none

none_stage : (n : ℕ) (k : Key) (t : Tree) (l m : ℕ) (y : Fixed) (d : Tree) → LacksNode n t → stage k t l ≡ node m y d → n ≢ m
none_stage n k t zero m y d none e = (subst (LacksNode n) e none).0
none_stage n k t (suc l) m y d none e = none_stage n k (below k t) l m y d (none_below n k t none) e

-- what stays where another record is written
others_rise : (ns ms us : List NodeView) (n : ℕ) → OthersStay ms us n → (k : Key) (l : ℕ) (t : Tree) (low up : Bool) → LacksNode n t → DoesLevels ns ms k l t low up → DoesLevels ns us k l t low up
others_rise ns ms us n others k zero t low up none r = r
others_rise ns ms us n others k (suc l) (leaf m j v) low up none r = elim r [ ]
others_rise ns ms us n others k (suc l) (node m y b) low up none r = (
  r.0,
  others_rise ns ms us n others k l (child k b) low r.0 (none_child n k b none.1) r.1,
  record { before = r.2.before; after = r.2.after; old_at = r.2.old_at; new_at = others m r.2.after none.0 r.2.new_at; does = r.2.does },
)
others_rise ns ms us n others k (suc l) (fork q a b) low up none r = elim r [ ]

pub above_by_case : (ns ms us : List NodeView) (k : Key) (p l n : ℕ) (y : Fixed) (b : Tree) (rose up : Bool) → LacksNode n b → WayBelow p k b → OthersStay ms us n →
    DoesLevel ns us n (height_of (seek k (subtrie b))) (spot k (subtrie b)) rose up → IsByCase ns ms k p l (child k b) rose → IsByCase ns us k p l (node n y b) up
above_by_case ns ms us k p l n y b rose up none way others does d = record {
  choice = record { level = suc d.choice.level; first = d.choice.first; last = d.choice.last; case = d.choice.case };
  affected = record {
    number = d.affected.number;
    fixed = d.affected.fixed;
    inner = d.affected.inner;
    is = d.affected.is;
    above = above;
    part = d.affected.part;
    first = d.affected.first;
    range = d.affected.range;
    case = d.affected.case;
  };
  view = d.view;
  at = d.at;
  does = (d.does.0, others d.affected.number d.does.0 apart d.does.1, d.does.2);
  rises = (rose, others_rise ns ms us n others k d.choice.level (child k b) (is_overflow d.choice.case) rose (none_child n k b none) d.rises, does);
}
  where
    above : (j : ℕ) → j < suc d.choice.level → WayBelow p k (body (stage k (node n y b) j))
    above zero g = way
    above (suc j) g = d.affected.above j (omega (arith, g))

    apart : n ≢ d.affected.number
    apart = none_stage n k (child k b) d.choice.level d.affected.number d.affected.fixed d.affected.inner (none_child n k b none) d.affected.is

-- further nodes may come
later_rise : (ns ms us : List NodeView) → AllStay ms us → (k : Key) (l : ℕ) (t : Tree) (low up : Bool) → DoesLevels ns ms k l t low up → DoesLevels ns us k l t low up
later_rise ns ms us all k zero t low up r = r
later_rise ns ms us all k (suc l) (leaf m j v) low up r = elim r [ ]
later_rise ns ms us all k (suc l) (node m y b) low up r = (
  r.0,
  later_rise ns ms us all k l (child k b) low r.0 r.1,
  record { before = r.2.before; after = r.2.after; old_at = r.2.old_at; new_at = all m r.2.after r.2.new_at; does = r.2.does },
)
later_rise ns ms us all k (suc l) (fork q a b) low up r = elim r [ ]

pub later_by_case : (ns ms us : List NodeView) (k : Key) (p l : ℕ) (t : Tree) (up : Bool) → AllStay ms us → AddsByCase ns ms k p l t up → AddsByCase ns us k p l t up
later_by_case ns ms us k p l (leaf m j v) up all d = d
later_by_case ns ms us k p l (node m x b) up all d = record {
  choice = d.choice;
  affected = d.affected;
  view = d.view;
  at = d.at;
  does = (d.does.0, all d.affected.number d.does.0 d.does.1, d.does.2);
  rises = later_rise ns ms us all k d.choice.level (node m x b) (is_overflow d.choice.case) up d.rises;
}
later_by_case ns ms us k p l (fork q a b) up all d = tt
