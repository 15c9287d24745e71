-- The tree that words show is made the newest version.
pub mod Stores
use Rattle.rowex_replay_state.proofs.Common.{◌≡◌, ◌⊎◌, inl, inr, ℕ, suc, List, [], ◌∷◌, ◌++◌, length, map, get_or, slice_get, Option, Some, None, Bool, true, false, refl, sym, ap, ◌∙◌, subst, cases_Bool, false≢true, eq-eqb, get_or_from_slice_get, Entry, Change, Rec, a_node, a_leaf, IsLinked, items_of, Free, ReadyBy, InTreeSince, is_linked, next_fate, Core, HasRecord, heap_of, AgreeByNumber, IsInTree, tree_of, change_between}
use Rattle.rowex_replay_state.specs.Changed.{IsFoundChange}
use Rattle.rowex_replay_state.specs.Versions.{AreWordsOf, IsVersion, IsReadVersion, Tells, read_item}
use Rattle.rowex_replay_state.specs.declared.linked.Item.{Item as ReadItem}
use Rattle.rowex_replay_state.specs.declared.linked.Linked.{Linked}
use Rattle.rowex_replay_state.specs.declared.fate.Fate.{Fate as Stored}
use Rattle.rowex_replay_state.specs.declared.fate.Fate.TheVariants.{Ready as IsReady, InTree as IsTree}
use Rattle.rowex_replay_state.specs.Fates.{stored_fate}
use Rattle.rowex_replay_state.specs.Records.{RecordsView, MayPublishTree, AreNextRecords, words_in, fate_in}
use Rattle.rowex_replay_state.specs.States.{StateView, IsStateOf}
use Rattle.rowex_replay_state.specs.Publishing.{IsWordStored, AreWordsPacked, MayMakeVersion, published}
use Rattle.rowex_replay_state.proofs.Tables as table
use Rattle.rowex_replay_state.proofs.States.{tree_stored}
use Rattle.rowex_replay_state.proofs.Sound.{count, used}
use Rattle.rowex_replay_state.proofs.records.Linking.{flag, flag_is, linked_flag, came, comes, of_table, is_version, same_leaves, words_read, table_of}

not_true : (b : Bool) → (b ≡ true → ⊥) → b ≡ false
not_true b f = elim (cases_Bool b) [ inl e ↦ absurd (f e) | inr e ↦ e ]

module _ (s : StateView) (c : Core) (words : Rec → List ℕ) (q : ℕ) (root : Option Entry) (st : IsWordStored s c words) (linked : Linked)
    (tells : Tells (table_of s.records) (tree_of (heap_of words) root) linked) where
  -- the tests of fates say what is asked of the records
  come_stored : (r : Rec) (f : Stored) → MayPublishTree s.records q linked.nodes.items linked.leaves.items → fate_in s.records r ≡ Some f → flag linked r ≡ true →
      ((since : ℕ) × (f ≡ IsTree since)) ⊎ (f ≡ IsReady q)
  unfolding flag
  come_stored (a_node n) f m e on = m.nodes_come n f e on
  come_stored (a_leaf n) f m e on = m.leaves_come n f e on

  pub all_come : IsVersion (table_of s.records) words root → MayPublishTree s.records q linked.nodes.items linked.leaves.items →
      (r : Rec) → IsLinked (tree_of (heap_of words) root) r → ((since : ℕ) × (c.fate r ≡ InTreeSince since)) ⊎ (c.fate r ≡ ReadyBy q)
  all_come version m r in_tree =
      let there = of_table s.records c.layout words c.fate c.lock st.at.records r (version.spelled r in_tree).0 in
      let x = table.fate_there s.records c.layout words c.fate c.lock st.at.records r there in
      subst (λ z. ((since : ℕ) × (z ≡ InTreeSince since)) ⊎ (z ≡ ReadyBy q)) (sym (st.at.records.fates_are r x.0 x.1))
      (comes q x.0 (come_stored r x.0 m x.1 ((linked_flag (table_of s.records) (tree_of (heap_of words) root) linked tells r).1 in_tree)))

  pub all_go : MayPublishTree s.records q linked.nodes.items linked.leaves.items → (n : ℕ) → IsInTree c n → ¬ (IsLinked (tree_of (heap_of words) root) (a_node n)) → c.lock n ≡ Some q
  all_go m n (since, e) out =
      let there : HasRecord c.layout (a_node n) = used c (a_node n) st.lawful (λ x. let y : Free ≡ InTreeSince since = sym x ∙ e in cc) in
      let x = table.fate_there s.records c.layout words c.fate c.lock st.at.records (a_node n) there in
      let y = table.lock_there s.records c.layout words c.fate c.lock st.at.records (a_node n) there in
      let off = not_true (get_or linked.nodes.items n false) (λ on. out ((tells.nodes_are n).0 on)) in
      st.at.records.locks_are n y.0 y.1 ∙ (sym (get_or_from_slice_get s.records.locks n y.0 None y.1) ∙ m.nodes_go n x.0 x.1 off (since, tree_stored x.0 since (sym (st.at.records.fates_are (a_node n) x.0 x.1) ∙ e)))

  pub may_link_from : MayMakeVersion c q words root → MayPublishTree s.records q linked.nodes.items linked.leaves.items
  may_link_from may = record {
    nodes_come = λ i f e on. came q f (subst (λ z. ((since : ℕ) × (z ≡ InTreeSince since)) ⊎ (z ≡ ReadyBy q)) (st.at.records.fates_are (a_node i) f e) (may.comes (a_node i) ((tells.nodes_are i).0 on)));
    leaves_come = λ i f e on. came q f (subst (λ z. ((since : ℕ) × (z ≡ InTreeSince since)) ⊎ (z ≡ ReadyBy q)) (st.at.records.fates_are (a_leaf i) f e) (may.comes (a_leaf i) ((tells.leaves_are i).0 on)));
    nodes_go = λ i f e off (since, is).
        let there = table.has_fate s.records c.layout words c.fate c.lock st.at.records (a_node i) f e in
        let y = table.lock_there s.records c.layout words c.fate c.lock st.at.records (a_node i) there in
        get_or_from_slice_get s.records.locks i y.0 None y.1 ∙ (sym (st.at.records.locks_are i y.0 y.1) ∙
        may.goes i since (st.at.records.fates_are (a_node i) f e ∙ ap stored_fate is) (λ l. false≢true (sym off ∙ (tells.nodes_are i).1 l)));
  }

  -- the change that is found is the one that the publish makes
  pub found : (o : Option Change) → IsVersion (table_of s.records) words root → (AgreeByNumber (map read_item s.items) (map read_item linked.items.items) → IsFoundChange q (map read_item s.items) (map read_item linked.items.items) o) →
      IsFoundChange q (items_of (c.past.version c.past.now)) (items_of (tree_of (heap_of words) root)) o
  found o version h =
      subst (λ xs. IsFoundChange q xs (items_of (tree_of (heap_of words) root)) o) (sym st.at.items)
      (subst (λ ys. IsFoundChange q (map read_item s.items) ys o) tells.items_are
      (h (subst (λ xs. AgreeByNumber xs (map read_item linked.items.items)) st.at.items
      (subst (λ ys. AgreeByNumber (items_of (c.past.version c.past.now)) ys) (sym tells.items_are) (same_leaves s c words root st version.top)))))

  -- the records after it
  next_words : (t : RecordsView) → (t.nodes ≡ s.records.nodes) × (t.leaves ≡ s.records.leaves) → (r : Rec) (x : List ℕ) → words_in t r ≡ Some x → words r ≡ x
  next_words t (a, b) (a_node n) x e = st.at.records.words_are (a_node n) x (subst (λ z. slice_get z n ≡ Some x) a e)
  next_words t (a, b) (a_leaf n) x e = st.at.records.words_are (a_leaf n) x (subst (λ z. slice_get z n ≡ Some x) b e)

  next_is : (now : ℕ) (r : Rec) (f e : Stored) → now ≡ c.past.now → fate_in s.records r ≡ Some e → stored_fate f ≡ next_fate now q (flag linked r) (stored_fate e) →
      next_fate c.past.now q (is_linked (tree_of (heap_of words) root) r) (c.fate r) ≡ stored_fate f
  next_is now r f e same there is =
      sym (is ∙ ap (λ z. next_fate z q (flag linked r) (stored_fate e)) same ∙ ap (λ z. next_fate c.past.now q z (stored_fate e)) (flag_is (table_of s.records) (tree_of (heap_of words) root) linked tells r)
      ∙ ap (next_fate c.past.now q (is_linked (tree_of (heap_of words) root) r)) (sym (st.at.records.fates_are r e there)))

  next_fates : (now : ℕ) (t : RecordsView) → now ≡ c.past.now → AreNextRecords now q linked.nodes.items linked.leaves.items s.records t → (r : Rec) (f : Stored) → fate_in t r ≡ Some f →
      next_fate c.past.now q (is_linked (tree_of (heap_of words) root) r) (c.fate r) ≡ stored_fate f
  unfolding flag
  next_fates now t same next (a_node n) f e = let x = next.node_fates n f e in next_is now (a_node n) f x.0 same x.1 x.2
  next_fates now t same next (a_leaf n) f e = let x = next.leaf_fates n f e in next_is now (a_leaf n) f x.0 same x.1 x.2

  pub published_is : (now : ℕ) (t : RecordsView) (x : Change) → now ≡ length s.changes → AreNextRecords now q linked.nodes.items linked.leaves.items s.records t →
      x ≡ change_between q (items_of (c.past.version c.past.now)) (items_of (tree_of (heap_of words) root)) →
      IsStateOf (record s { records = t; root = root; changes = s.changes ++ x ∷ []; items = linked.items.items }) (published c q words root)
  published_is now t x same next is = record {
    records = record {
      layout_is = next.layout ∙ st.at.records.layout_is;
      node_count = (ap length next.words.0 ∙ st.at.records.node_count.0, next.node_count ∙ st.at.records.node_count.1, ap length next.locks ∙ st.at.records.node_count.2);
      leaf_count = (ap length next.words.1 ∙ st.at.records.leaf_count.0, next.leaf_count ∙ st.at.records.leaf_count.1);
      words_are = next_words t next.words;
      fates_are = next_fates now t (same ∙ ap length (sym st.at.changes) ∙ count c st.lawful) next;
      locks_are = λ n o e. st.at.records.locks_are n o (subst (λ z. slice_get z n ≡ Some o) next.locks e);
    };
    passes = st.at.passes;
    anchor = st.at.anchor;
    root = refl;
    epoch = st.at.epoch;
    changes = ap (λ xs. xs ++ change_between q (items_of (c.past.version c.past.now)) (items_of (tree_of (heap_of words) root)) ∷ []) st.at.changes ∙ ap (λ z. s.changes ++ z ∷ []) (sym is);
    items = rw (eq-eqb (suc c.past.now) (suc c.past.now) refl) (sym tells.items_are);
  }

-- ---- the answers

pub none_read : (s : StateView) (q : ℕ) (root : Option Entry) → ((words : Rec → List ℕ) → AreWordsOf (table_of s.records) words → IsReadVersion (table_of s.records) words root None) →
    (c : Core) (words : Rec → List ℕ) → IsWordStored s c words → AreWordsPacked c words → ¬ (MayMakeVersion c q words root)
none_read s q root read c words st packed may = read words (words_read s.records c.layout words c.fate c.lock st.at.records) (is_version s c words q root st packed may)

pub not_linked : (s : StateView) (q : ℕ) (root : Option Entry) (linked : Linked) →
    ((words : Rec → List ℕ) → AreWordsOf (table_of s.records) words → IsReadVersion (table_of s.records) words root (Some linked)) →
    ¬ (MayPublishTree s.records q linked.nodes.items linked.leaves.items) → (c : Core) (words : Rec → List ℕ) → IsWordStored s c words → AreWordsPacked c words → ¬ (MayMakeVersion c q words root)
not_linked s q root linked read fails c words st packed may =
    fails (may_link_from s c words q root st linked (read words (words_read s.records c.layout words c.fate c.lock st.at.records)).1 may)

pub not_changed : (s : StateView) (q : ℕ) (root : Option Entry) (linked : Linked) →
    ((words : Rec → List ℕ) → AreWordsOf (table_of s.records) words → IsReadVersion (table_of s.records) words root (Some linked)) →
    (AgreeByNumber (map read_item s.items) (map read_item linked.items.items) → IsFoundChange q (map read_item s.items) (map read_item linked.items.items) None) →
    (c : Core) (words : Rec → List ℕ) → IsWordStored s c words → AreWordsPacked c words → ¬ (MayMakeVersion c q words root)
not_changed s q root linked read none c words st packed may =
    let x = read words (words_read s.records c.layout words c.fate c.lock st.at.records) in
    found s c words q root st linked x.1 None x.0 none may.change

pub publishes : (s : StateView) (q : ℕ) (root : Option Entry) (linked : Linked) (x : Change) (now : ℕ) (t : RecordsView) →
    ((words : Rec → List ℕ) → AreWordsOf (table_of s.records) words → IsReadVersion (table_of s.records) words root (Some linked)) →
    MayPublishTree s.records q linked.nodes.items linked.leaves.items →
    (AgreeByNumber (map read_item s.items) (map read_item linked.items.items) → IsFoundChange q (map read_item s.items) (map read_item linked.items.items) (Some x)) →
    now ≡ length s.changes → AreNextRecords now q linked.nodes.items linked.leaves.items s.records t → (c : Core) (words : Rec → List ℕ) → IsWordStored s c words →
    MayMakeVersion c q words root × IsStateOf (record s { records = t; root = root; changes = s.changes ++ x ∷ []; items = linked.items.items }) (published c q words root)
publishes s q root linked x now t read m one same next c words st =
    let y = read words (words_read s.records c.layout words c.fate c.lock st.at.records) in
    let z = found s c words q root st linked y.1 (Some x) y.0 one in (
      record {
        top = y.0.top;
        tree = y.0.tree;
        comes = all_come s c words q root st linked y.1 y.0 m;
        goes = λ n since e. all_go s c words q root st linked y.1 m n (since, e);
        change = subst (λ w. Rattle.versions.specs.Told.IsChange (c.past.version c.past.now) w (tree_of (heap_of words) root)) z.0 z.1;
      },
      published_is s c words q root st linked y.1 now t x same next z.0,
    )

-- ---- what was read and found, of the same lists

pub read_is : (a b x y : List (List ℕ)) (root : Option Entry) (o p : Option Linked) → a ≡ x → b ≡ y → o ≡ p →
    ((words : Rec → List ℕ) → AreWordsOf (record { nodes = a; leaves = b }) words → IsReadVersion (record { nodes = a; leaves = b }) words root o) → (words : Rec → List ℕ) → AreWordsOf (record { nodes = x; leaves = y }) words → IsReadVersion (record { nodes = x; leaves = y }) words root p
read_is a b x y root o p e f g h = rw (← e, ← f, ← g) h

pub found_is : (q : ℕ) (a b x y : List ReadItem) (o p : Option Change) → a ≡ x → b ≡ y → o ≡ p → (AgreeByNumber (map read_item a) (map read_item b) → IsFoundChange q (map read_item a) (map read_item b) o) →
    AgreeByNumber (map read_item x) (map read_item y) → IsFoundChange q (map read_item x) (map read_item y) p
found_is q a b x y o p e f g h = rw (← e, ← f, ← g) h

pub next_of : (now q : ℕ) (a b x y : List Bool) (s t : RecordsView) → a ≡ x → b ≡ y → AreNextRecords now q a b s t → AreNextRecords now q x y s t
next_of now q a b x y s t e f h = rw (← e, ← f) h
