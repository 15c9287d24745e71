-- The words of a finished load show its tree from the root.
use Rattle.bulk_load.proofs.Common.{◌≡◌, ◌≢◌, ◌⊎◌, inl, inr, ℕ, zero, suc, ◌+◌, ◌-◌, ◌*◌, ◌^◌, ◌<◌, ◌≤◌, Bool, nat_lt, if◌then◌else◌, List, [], Option, Some, None, get_or, length, refl, ap, sym, subst, ◌∙◌, arith, All, cases_lt, le-ltb, lt-ltb, none-some, All-from_get_or, trie_if_local, some_injective, Entry, Leaf, Node, MAX_BYTES, Place, size, size_pos, EPOCH_WORD, ROOT_WORD, ANCHOR_WORD, FIRST_PIN, LINE_WORDS, Layout, Epoch, Root, Anchor, PinOf, NodeWord, LeafWord, HasEntryWord, entry_word, node_start, leaf_start, leaf_size, address, IsInTable, state_word, size_fits, Item, items, IsLocal, Tree, leaf, node, fork, subtrie, IsTrie, IsBuilt, lower_positive, Rec, a_node, a_leaf, Heap, IsShown, IsLinked, IsTop, items_of, linked_cases, Core, heap_of, fields_in, HasRecord, FitsIn, IsLoad, after, loaded_root, loaded_tree, tree_of, opening, IsPacked, node_words_of, leaf_of, word_at, tag_of, entry_of_word}
use Rattle.record_words.specs.declared.TheConstants.{LEAF_CLASSES}
use Rattle.record_words.specs.Layout.{uncommitted_in}
use Rattle.bulk_load.specs.declared.builder.Builder.{Builder}
use Rattle.bulk_load.specs.declared.tips.Tip.{Tip}
use Rattle.bulk_load.specs.Loading.{IsOnePiece, IsPiece, IsTreeOf, MayTakePlaceOf}
use Rattle.bulk_load.specs.Stacks.{LeftPiece, whole_of, with_right}
use Rattle.bulk_load.proofs.Stacks.{length_tips}
use Rattle.bulk_load.specs.Tips.{tip, tips_of}
use Rattle.record_words.specs.declared.layout.Location.{Location}
use Rattle.versions.specs.Core.{Free, InTree}
use Rattle.versions.specs.Steps.{is_linked}
use Rattle.record_words.specs.Decoding.{entry_of}
use Rattle.rowex_core.proofs.Cores.Valuing.{tree_read}
use Rattle.bulk_load.specs.Finished.{HasHeader, IsFinished, IsNoCount, LinksCommitted}
use Rattle.bulk_load.specs.Tables.{HoldsTree, end_of_class, leaf_class, state_in}
use Rattle.bulk_load.proofs.Tables.{below_end, few_classes}
use Rattle.bulk_load.specs.Views.{load_act}
use Rattle.bulk_load.proofs.records.Fields.{node_field, leaf_field}
use Rattle.bulk_load.proofs.Tables.Putting.{node_stays, leaf_stays, shown_by}

-- the entry of a tree in a table has a word
pub has_entry_word : (layout : Layout) (table : List ℕ) (t : Tree) (e : Entry) → HoldsTree layout table (Some t) → IsBuilt t → subtrie t ≡ Place e → HasEntryWord (Some e)
has_entry_word layout table (leaf n k v) (Leaf m) h b e =
    let same : n ≡ m = cc in let inside = (h.records (a_leaf n) refl).0 in omega (arith, same, inside, layout.leaves_in_range.1)
has_entry_word layout table (node n x c) (Node m g) h b e =
    let same : n ≡ m = cc in let high : x.height ≡ g = cc in let inside = (h.records (a_node n) (inl refl)).0 in let one = lower_positive x.height c b.1 in let bound = b.3.bound in
    let most : MAX_BYTES ≡ 240 = refl in
    (omega (arith, same, inside, layout.nodes_in_range.1), omega (arith, one, high), omega (arith, bound, high, most))
has_entry_word layout table (leaf n k v) (Node m g) h b e = absurd cc
has_entry_word layout table (node n x c) (Leaf m) h b e = absurd cc
has_entry_word layout table (fork p a c) f h b e = absurd cc

-- a node record stands in no tree
abbrev HasSpare : Layout → Option Tree → Type 0
HasSpare layout t = (n : ℕ) × (n < layout.nodes) × ¬ IsLinked t (a_node n)

-- a tree of one entry
pub one_entry : (t : Tree) → size (subtrie t) ≡ 1 → (e : Entry) × (subtrie t ≡ Place e)
one_entry (leaf n k v) one = (Leaf n, refl)
one_entry (node n x b) one = (Node n x.height, refl)
one_entry (fork p a b) one = absurd (omega (arith, one, size_pos (subtrie a), size_pos (subtrie b)))

module _ (layout : Layout) (old new : List ℕ) (t : Option Tree) (e : Option Entry) (h : HoldsTree layout old t) (top : IsTop (heap_of (fields_in layout old)) e t)
    (lawful : (u : Tree) → t ≡ Some u → IsTrie u × IsBuilt u) (entry : HasEntryWord e) (small : All (λ w. w < 2 ^ 64) new) (long : length new ≡ length old)
    (root : get_or new ROOT_WORD 0 ≡ entry_word e) (others : (k : ℕ) → IsNoCount k → k ≢ ROOT_WORD → get_or new k 0 ≡ get_or old k 0) where
  fields_same : (r : Rec) → fields_in layout new r ≡ fields_in layout old r
  fields_same (a_node n) = node_stays layout old new n (λ j l. others (node_start layout n + j) (inr (omega arith)) (λ e. omega (arith, e)))
  fields_same (a_leaf n) = leaf_stays layout old new n (λ j l. others (leaf_start layout n + j) (inr (omega arith)) (λ e. omega (arith, e)))

  abbrev heap : Heap
  heap = heap_of (fields_in layout new)

  shown_then : (u : Tree) → IsShown (heap_of (fields_in layout old)) u → IsShown heap u
  shown_then u s = shown_by (heap_of (fields_in layout old)) heap u (λ n i. ap node_words_of (fields_same (a_node n))) (λ n i. ap leaf_of (fields_same (a_leaf n))) s

  top_then : (f : Option Entry) (s : Option Tree) → IsTop (heap_of (fields_in layout old)) f s → IsTop heap f s
  top_then None None i = tt
  top_then None (Some u) i = i
  top_then (Some f) None i = i
  top_then (Some f) (Some u) i = (i.0, shown_then u i.1)

  root_is : loaded_root new ≡ e
  root_is = ap entry_of root ∙ entry_of_word e entry

  pub tree_is : loaded_tree layout new ≡ t
  tree_is = ap (tree_of heap) root_is ∙ tree_read heap e t (top_then e t top) lawful

  is_load : IsLoad layout new
  is_load = record {
    small = small;
    root = (subst HasEntryWord (sym root_is) entry, ap entry_word root_is ∙ sym root);
    top = subst (λ f. IsTop heap f (loaded_tree layout new)) (sym root_is) (subst (IsTop heap e) (sym tree_is) (top_then e t top));
    tree = λ u i. lawful u (sym tree_is ∙ i);
    records = λ r i.
        let was = h.records r (subst (λ s. IsLinked s r) tree_is i) in
        subst (λ ws. HasRecord layout r × IsPacked r ws × FitsIn layout r ws) (sym (fields_same r)) was;
  }

  abbrev core : Core
  core = after (opening layout) 0 (load_act new)

  state_is : (r : Rec) → HasRecord layout r → state_in layout new r ≡ state_in layout old r
  state_is (a_node n) has = others (node_start layout n) (inr (omega arith)) (λ e. omega (arith, e))
  state_is (a_leaf n) has = others (leaf_start layout n) (inr (omega arith)) (λ e. omega (arith, e))

  abbrev tag_word : Bool → ℕ
  tag_word linked = state_word (tag_of None (if linked then InTree (length (items_of (loaded_tree layout new))) else Free))

  state_shown : (r : Rec) → HasRecord layout r → state_in layout new r ≡ tag_word (is_linked (loaded_tree layout new) r)
  state_shown r has = elim (linked_cases (loaded_tree layout new) r) [
    | inl x ↦ state_is r has ∙ (h.live r (subst (λ s. IsLinked s r) tree_is x.0) ∙ sym (ap tag_word x.1))
    | inr x ↦ state_is r has ∙ (h.free r has (λ i. x.0 (subst (λ s. IsLinked s r) (sym tree_is) i)) ∙ sym (ap tag_word x.1))
  ]

  word_shown : (location : Location) → IsInTable layout location → get_or new (address layout location) 0 ≡ word_at core location
  word_shown Epoch i = others EPOCH_WORD (inl (omega arith)) (λ e. omega (arith, e)) ∙ h.blank.epoch
  word_shown Root i = root ∙ sym (ap entry_word root_is)
  word_shown Anchor i = others ANCHOR_WORD (inr (omega arith)) (λ e. omega (arith, e)) ∙ h.blank.anchor
  word_shown (PinOf q) i = others (FIRST_PIN + LINE_WORDS * q) (inr (omega arith)) (λ e. omega (arith, e)) ∙ h.blank.pins q i
  word_shown (NodeWord n zero) i = ap (λ k. get_or new k 0) (let z : node_start layout n + 0 ≡ node_start layout n = omega arith in z) ∙ state_shown (a_node n) i.0
  word_shown (NodeWord n (suc j)) i =
      ap (λ k. get_or new k 0) (let z : node_start layout n + suc j ≡ node_start layout n + (1 + j) = omega arith in z) ∙ sym (node_field layout new n j (let low = i.1 in omega (arith, low)))
  word_shown (LeafWord n zero) i = ap (λ k. get_or new k 0) (let z : leaf_start layout n + 0 ≡ leaf_start layout n = omega arith in z) ∙ state_shown (a_leaf n) i.0
  word_shown (LeafWord n (suc j)) i =
      ap (λ k. get_or new k 0) (let z : leaf_start layout n + suc j ≡ leaf_start layout n + (1 + j) = omega arith in z) ∙
      sym (leaf_field layout new n j (let low = i.1 in let fits = size_fits layout n in omega (arith, low, fits.1)) ∙
      ap (λ b. if b then get_or new (leaf_start layout n + (1 + j)) 0 else 0) (lt-ltb (1 + j) (leaf_size layout n) (let low = i.1 in omega (arith, low))))

  pub finished : (xs : List Item) → items_of t ≡ xs → HasSpare layout t → IsFinished layout new xs
  finished xs content spare = record {
    load = is_load;
    shows = record { size = long ∙ h.blank.size; each = word_shown };
    items = ap items_of tree_is ∙ content;
    spare = subst (HasSpare layout) (sym tree_is) spare;
  }

-- ---- the root's entry
pub root_tip : (l : Builder) (y : Tree) → IsTreeOf l y → size (subtrie y) ≡ 1 → (s : Tip) → s ≡ get_or l.tips.items 0 s → subtrie y ≡ Place s.entry
root_tip l y t one s is =
    let (e, at) = one_entry y one in let same : s ≡ tip 0 e = is ∙ ap (λ ss. get_or ss 0 s) (t.tips_are ∙ ap (tips_of 0) at) in
    at ∙ ap (λ (z : Tip). Place z.entry) (sym same)

-- the words with the root's entry, and the tree that they show
written : (layout : Layout) (old new : List ℕ) (t : Option Tree) (e : Option Entry) → HoldsTree layout old t → IsTop (heap_of (fields_in layout old)) e t →
    ((u : Tree) → t ≡ Some u → IsTrie u × IsBuilt u) → HasEntryWord e → HasHeader e old new → (xs : List Item) → items_of t ≡ xs → HasSpare layout t →
    IsFinished layout new xs × (loaded_tree layout new ≡ t)
written layout old new t e h top lawful entry is xs content spare =
    let small = All-from_get_or (λ w. w < 2 ^ 64) new 0 (λ i low. is.small i) in
    (finished layout old new t e h top lawful entry small is.size is.root is.others xs content spare, tree_is layout old new t e h top lawful entry small is.size is.root is.others)

pub tree_written : (layout : Layout) (old new : List ℕ) (y : Tree) (e : Entry) → HoldsTree layout old (Some y) → IsLocal y → IsBuilt y → subtrie y ≡ Place e → HasEntryWord (Some e) →
    HasHeader (Some e) old new → (xs : List Item) → items y ≡ xs → HasSpare layout (Some y) → IsFinished layout new xs × (loaded_tree layout new ≡ Some y)
tree_written layout old new y e h ordered built at entry is xs content spare = written layout old new (Some y) (Some e) h (at, h.shows y refl)
    (λ u i. subst (λ v. IsTrie v × IsBuilt v) (some_injective i) (trie_if_local y ordered, built)) entry is xs content spare

pub nothing_written : (layout : Layout) (old new : List ℕ) → HoldsTree layout old None → HasHeader None old new → (xs : List Item) → xs ≡ [] →
    IsFinished layout new xs × (loaded_tree layout new ≡ None)
nothing_written layout old new h is xs none = written layout old new None None h tt (λ u i. absurd (none-some u i)) tt is xs (sym none) (0, layout.nodes_in_range.0, λ i. i)

-- ---- committed records
-- each record of the tree is committed, where no more are uncommitted than stand after the taken ones
pub links_committed : (layout : Layout) (words : List ℕ) (t : Option Tree) (nodes : ℕ) (cursors : List ℕ) → loaded_tree layout words ≡ t →
    ((n : ℕ) → IsLinked t (a_node n) → (n < layout.nodes) × (n < nodes)) →
    ((n : ℕ) → IsLinked t (a_leaf n) → (n < layout.leaves) × (n < get_or cursors (leaf_class layout n) 0)) →
    uncommitted_in words 0 ≤ layout.nodes - nodes →
    ((class : ℕ) → class < LEAF_CLASSES → uncommitted_in words (suc class) ≤ end_of_class layout class - get_or cursors class 0) → LinksCommitted layout words
links_committed layout words t nodes cursors is node_low leaf_low few_nodes few_leaves = record {
  nodes = λ n linked. let low = node_low n (subst (λ s. IsLinked s (a_node n)) is linked) in omega (arith, low.0, low.1, few_nodes);
  leaves = λ n linked.
      let low = leaf_low n (subst (λ s. IsLinked s (a_leaf n)) is linked) in let class = leaf_class layout n in
      let few = few_leaves class (few_classes layout n) in let inside = below_end layout n low.0 in omega (arith, low.1, few, inside);
}

-- ---- the one piece
pub tips_count : (l : Builder) (t : Tree) → IsTreeOf l t → length l.tips.items ≡ size (subtrie t)
tips_count l t h = ap length h.tips_are ∙ length_tips 0 (subtrie t)

pub lone_piece : (l : Builder) (t : Tree) → IsTreeOf l t → (count : ℕ) → count ≡ length l.tips.items → IsPiece l [] t None count 0
lone_piece l t h count e = record { tree = h; count_is = e ∙ tips_count l t h; behind_is = refl }

-- how many tips it has, once it is closed
pub closed_count : (n result : ℕ) → 1 ≤ n → result ≡ (if nat_lt 1 n then 1 else n) → result ≡ 1
closed_count n result some e = go (cases_lt 1 n)
  where
    go : (1 < n) ⊎ (n ≤ 1) → result ≡ 1
    go (inl h) = e ∙ ap (λ b. if b then 1 else n) (lt-ltb 1 n h)
    go (inr h) = e ∙ (ap (λ b. if b then 1 else n) (le-ltb 1 n h) ∙ (let one : n ≡ 1 = omega (arith, h, some) in one))

-- a node record is left then
pub node_left : (l : Builder) (t : Tree) (xs : List Item) → IsOnePiece l t xs → (count : ℕ) → count ≡ length l.tips.items → l.nodes + (if nat_lt 1 count then 1 else 0) < l.layout.nodes
node_left l t xs a count long = go (cases_lt 1 count)
  where
    some : 1 ≤ count
    some = omega (arith, long, tips_count l t a.tree, size_pos (subtrie t))

    taken : Bool → ℕ
    taken closes = if closes then 1 else 0

    go : (1 < count) ⊎ (count ≤ 1) → l.nodes + (if nat_lt 1 count then 1 else 0) < l.layout.nodes
    go (inl h) = let one = ap taken (lt-ltb 1 count h) in elim a.room [ inl r ↦ omega (arith, r, one) | inr r ↦ omega (arith, r, one, long, h) ]
    go (inr h) = let none = ap taken (le-ltb 1 count h) in elim a.room [ inl r ↦ omega (arith, r, none) | inr r ↦ omega (arith, r, none, long, some) ]

-- the tree that stands for it then, of one entry
pub closed_tree : (l m : Builder) (t : Tree) (xs : List Item) → IsOnePiece l t xs → (count result : ℕ) → count ≡ length l.tips.items → result ≡ (if nat_lt 1 count then 1 else count) →
    ((ls : List LeftPiece) (z : Tree) (right : Option LeftPiece) → IsPiece l ls z right count 0 → (y : Tree) × MayTakePlaceOf y z result × IsTreeOf m (whole_of ls (with_right y right))) →
    (y : Tree) × IsTreeOf m y × (items y ≡ xs) × (size (subtrie y) ≡ 1)
closed_tree l m t xs a count result long is closes =
    let (y, st, ty) = closes [] t None (lone_piece l t a.tree count long) in
    (y, ty, st.same_items ∙ a.content, st.count_is ∙ closed_count count result (omega (arith, long, tips_count l t a.tree, size_pos (subtrie t))) is)
