-- What a publish asks of the records and makes of them.
use Rattle.rowex_replay_state.proofs.Common.{◌≡◌, ◌≢◌, ◌↔◌, ◌⊎◌, inl, inr, ◌<◌, ℕ, List, [], get_or, Option, Bool, true, false, sym, ap, ◌∙◌, subst, props, ∥∥₁_elim, cases_Bool, false≢true, slice_get-get_or, Entry, Layout, Tree, Item, Rec, a_node, a_leaf, IsTop, IsLinked, items_of, Fate, Free, Held, ReadyBy, InTreeSince, Unlinked, Marked, is_linked, linked_cases, leaf_of, Core, HasRecord, IsPastFilling, heap_of, AgreeByNumber, tree_of, by_number, top_items}
use Rattle.rowex_replay_state.specs.Versions.{AreWordsOf, HasRecordIn, IsVersion, Tells, Table}
use Rattle.rowex_replay_state.specs.declared.linked.Linked.{Linked}
use Rattle.rowex_replay_state.specs.declared.fate.Fate.{Fate as Stored}
use Rattle.rowex_replay_state.specs.declared.fate.Fate.TheVariants.{Free as IsFree, Held as IsHeld, Ready as IsReady, InTree as IsTree, Unlinked as IsUnlinked, Marked as IsMarked}
use Rattle.rowex_replay_state.specs.Fates.{stored_fate}
use Rattle.rowex_replay_state.specs.Links.{AllMayBeLinked, AllMayBeUnlinked}
use Rattle.rowex_replay_state.specs.Records.{RecordsView, AreRecordsOf, MayPublishTree}
use Rattle.rowex_replay_state.specs.States.{StateView}
use Rattle.rowex_replay_state.specs.Publishing.{IsWordStored, AreWordsPacked, MayMakeVersion}
use Rattle.rowex_replay_state.proofs.States.{tree_stored}
use Rattle.rowex_replay_state.proofs.Sound.{used}

-- ---- the tests of fates

pub refused : {b : Bool} {P M : Type 0} → b ≡ false → ((b ≡ true) ↔ P) → (M → P) → (false ≡ true → M) × (M → false ≡ true)
refused f test from = ((λ t. absurd (false≢true t)), λ m. sym f ∙ test.1 (from m))

pub linked_by : (s : RecordsView) (q : ℕ) (nodes leaves : List Bool) (b : Bool) → AllMayBeLinked q nodes s.node_fates → AllMayBeLinked q leaves s.leaf_fates →
    ((b ≡ true) ↔ AllMayBeUnlinked q nodes s.locks s.node_fates) → (b ≡ true → MayPublishTree s q nodes leaves) × (MayPublishTree s q nodes leaves → b ≡ true)
linked_by s q nodes leaves b come leaves_come test =
    ((λ t. record { nodes_come = come; leaves_come = leaves_come; nodes_go = test.0 t }), λ m. test.1 m.nodes_go)

-- ---- the words that are read

abbrev pub table_of : RecordsView → Table
table_of s = record { nodes = s.nodes; leaves = s.leaves }

pub words_read : (s : RecordsView) (layout : Layout) (words : Rec → List ℕ) (fate : Rec → Fate) (lock : ℕ → Option ℕ) → AreRecordsOf s layout words fate lock → AreWordsOf (table_of s) words
words_read s layout words fate lock a = record {
  nodes_are = λ n h. a.words_are (a_node n) (get_or s.nodes n []) (slice_get-get_or s.nodes n [] h);
  leaves_are = λ n h. a.words_are (a_leaf n) (get_or s.leaves n []) (slice_get-get_or s.leaves n [] h);
}

in_table : (s : RecordsView) (layout : Layout) (words : Rec → List ℕ) (fate : Rec → Fate) (lock : ℕ → Option ℕ) → AreRecordsOf s layout words fate lock → (r : Rec) → HasRecord layout r → HasRecordIn (table_of s) r
in_table s layout words fate lock a (a_node n) h = subst (λ z. n < z) (sym a.node_count.0) h
in_table s layout words fate lock a (a_leaf n) h = subst (λ z. n < z) (sym a.leaf_count.0) h

pub of_table : (s : RecordsView) (layout : Layout) (words : Rec → List ℕ) (fate : Rec → Fate) (lock : ℕ → Option ℕ) → AreRecordsOf s layout words fate lock → (r : Rec) → HasRecordIn (table_of s) r → HasRecord layout r
of_table s layout words fate lock a (a_node n) h = subst (λ z. n < z) a.node_count.0 h
of_table s layout words fate lock a (a_leaf n) h = subst (λ z. n < z) a.leaf_count.0 h

-- what is in the tree or made ready is whole and used
whole : (q : ℕ) (f : Fate) → ((since : ℕ) × (f ≡ InTreeSince since)) ⊎ (f ≡ ReadyBy q) → IsPastFilling f × (f ≢ Free)
whole q f (inl (since, e)) = rw e (tt, λ x. cc)
whole q f (inr e) = rw e (tt, λ x. cc)

pub is_version : (s : StateView) (c : Core) (words : Rec → List ℕ) (q : ℕ) (root : Option Entry) → IsWordStored s c words → AreWordsPacked c words → MayMakeVersion c q words root → IsVersion (table_of s.records) words root
is_version s c words q root st packed may = record {
  top = may.top;
  tree = may.tree;
  spelled = λ r linked.
      let w = whole q (c.fate r) (may.comes r linked) in
      (in_table s.records c.layout words c.fate c.lock st.at.records r (used c r st.lawful w.1), packed r w.0);
}

-- ---- a number names one leaf

item-set : IsSet Item
item-set = Prim.hlevel props

pub same_leaves : (s : StateView) (c : Core) (words : Rec → List ℕ) (root : Option Entry) → IsWordStored s c words → IsTop (heap_of words) root (tree_of (heap_of words) root) →
    AgreeByNumber (items_of (c.past.version c.past.now)) (items_of (tree_of (heap_of words) root))
same_leaves s c words root st top = λ x y i j e. ∥∥₁_elim st.lawful (item-set x y) (λ lawful.
    by_number (heap_of c.words) (heap_of words) _ _ (λ n. ap leaf_of (sym (st.leaves n)))
    (top_items (heap_of c.words) c.root (c.past.version c.past.now) lawful.core.state.top) (top_items (heap_of words) root (tree_of (heap_of words) root) top) x y i j e)

-- ---- comes and goes

-- the flag of a record
unfoldable pub flag : Linked → Rec → Bool
flag linked (a_node n) = get_or linked.nodes.items n false
flag linked (a_leaf n) = get_or linked.leaves.items n false

pub flag_is : (table : Table) (t : Option Tree) (linked : Linked) → Tells table t linked → (r : Rec) → flag linked r ≡ is_linked t r
unfolding flag
flag_is table t linked tells (a_node n) = elim (linked_cases t (a_node n)) [
  | inl x ↦ (tells.nodes_are n).1 x.0 ∙ sym x.1
  | inr x ↦ elim (cases_Bool (get_or linked.nodes.items n false)) [ inl e ↦ absurd (x.0 ((tells.nodes_are n).0 e)) | inr e ↦ e ∙ sym x.1 ]
]
flag_is table t linked tells (a_leaf n) = elim (linked_cases t (a_leaf n)) [
  | inl x ↦ (tells.leaves_are n).1 x.0 ∙ sym x.1
  | inr x ↦ elim (cases_Bool (get_or linked.leaves.items n false)) [ inl e ↦ absurd (x.0 ((tells.leaves_are n).0 e)) | inr e ↦ e ∙ sym x.1 ]
]

pub linked_flag : (table : Table) (t : Option Tree) (linked : Linked) → Tells table t linked → (r : Rec) → (flag linked r ≡ true → IsLinked t r) × (IsLinked t r → flag linked r ≡ true)
unfolding flag
linked_flag table t linked tells (a_node n) = ((tells.nodes_are n).0, (tells.nodes_are n).1)
linked_flag table t linked tells (a_leaf n) = ((tells.leaves_are n).0, (tells.leaves_are n).1)

pub came : (q : ℕ) (f : Stored) → ((since : ℕ) × (stored_fate f ≡ InTreeSince since)) ⊎ (stored_fate f ≡ ReadyBy q) → ((since : ℕ) × (f ≡ IsTree since)) ⊎ (f ≡ IsReady q)
came q f (inl (since, e)) = inl (since, tree_stored f since e)
came q (IsReady p) (inr e) = inr (let x : ReadyBy p ≡ ReadyBy q = e in cc)
came q IsFree (inr e) = absurd (let x : Free ≡ ReadyBy q = e in cc)
came q (IsHeld p) (inr e) = absurd (let x : Held p ≡ ReadyBy q = e in cc)
came q (IsTree i) (inr e) = absurd (let x : InTreeSince i ≡ ReadyBy q = e in cc)
came q (IsUnlinked i l p) (inr e) = absurd (let x : Unlinked i l p ≡ ReadyBy q = e in cc)
came q (IsMarked i l p) (inr e) = absurd (let x : Marked i l p ≡ ReadyBy q = e in cc)

pub comes : (q : ℕ) (f : Stored) → ((since : ℕ) × (f ≡ IsTree since)) ⊎ (f ≡ IsReady q) → ((since : ℕ) × (stored_fate f ≡ InTreeSince since)) ⊎ (stored_fate f ≡ ReadyBy q)
comes q f (inl (since, e)) = inl (since, ap stored_fate e)
comes q f (inr e) = inr (ap stored_fate e)
