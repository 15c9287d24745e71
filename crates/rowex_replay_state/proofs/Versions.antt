-- What was read from a root, and whether it is a lawful version.
use Rattle.rowex_replay_state.proofs.Common.{◌≡◌, ◌⊎◌, ◌↔◌, inl, inr, ℕ, List, [], ◌++◌, Bool, true, false, length, get_or, map, replicate, Option, Some, None, refl, ap, sym, ◌∙◌, subst, arith, false≢true, cases_lt, get_or-replicate, get_or_past, length-replicate, Place, Entry, Tree, subtrie, IsTrie, IsBuilt, items, Rec, a_node, a_leaf, IsShown, Links, IsTop, IsLinked, items_of, heap_of, tree_of}
use Rattle.tries.proofs.Content.{trie_if_local, local_if_trie}
use Rattle.versions.specs.Read.{read}
use Rattle.versions.proofs.Read.{read_exact}
use Rattle.rowex_replay_state.specs.declared.linked.Linked.{Linked}
use Rattle.rowex_replay_state.specs.Versions.{IsEncoded, IsReadVersion, read_item, Table}
use Rattle.rowex_replay_state.specs.Parts.{ShowsPart, HasMarks, IsTreeRead}
use Rattle.rowex_replay_state.proofs.parts.Parts.{from_start}

-- Nothing is told yet.
pub record IsEmpty (table : Table) (linked : Linked) : Type 0 where
  pub no_items : linked.items.items ≡ []
  pub nodes_are : linked.nodes.items ≡ replicate (length table.nodes) false
  pub leaves_are : linked.leaves.items ≡ replicate (length table.leaves) false

unmarked : (n m : ℕ) → get_or (replicate n false) m false ≡ true → ⊥
unmarked n m e = elim (cases_lt m n) [ inl h ↦ false≢true (sym (get_or-replicate n m false false h) ∙ e) | inr h ↦ false≢true (sym (get_or_past (replicate n false) m false (let l = length-replicate {A = Bool} n false in omega arith)) ∙ e) ]

no_mark : (marks : List Bool) (n m : ℕ) → marks ≡ replicate n false → get_or marks m false ≡ true → ⊥
no_mark marks n m i e = unmarked n m (subst (λ z. get_or z m false ≡ true) i e)

pub empty_room : (table : Table) (linked : Linked) → IsEmpty table linked → HasMarks table linked
empty_room table linked e = record {
  all_nodes = ap length e.nodes_are ∙ length-replicate (length table.nodes) false;
  all_leaves = ap length e.leaves_are ∙ length-replicate (length table.leaves) false;
}

-- From an empty root nothing is linked.
pub empty_read : (table : Table) (words : Rec → List ℕ) (linked : Linked) → IsEmpty table linked → IsReadVersion table words None (Some linked)
empty_read table words linked e = (
  record { top = tt; tree = λ t i. absurd cc; spelled = λ r l. absurd l },
  record {
    items_are = ap (map read_item) e.no_items;
    all_nodes = (empty_room table linked e).all_nodes;
    all_leaves = (empty_room table linked e).all_leaves;
    nodes_are = λ n. (no_mark linked.nodes.items (length table.nodes) n e.nodes_are, λ l. absurd l);
    leaves_are = λ n. (no_mark linked.leaves.items (length table.leaves) n e.leaves_are, λ l. absurd l);
  },
)

module _ (table : Table) (words : Rec → List ℕ) (e : Entry) where
  read_of : (t : Tree) → ShowsPart table words 0 (Place e) t → tree_of (heap_of words) (Some e) ≡ Some t
  read_of t part = read_exact (heap_of words) e t part.built part.shown part.subtrie_is

  version_of : (o : Option Tree) (t : Tree) → o ≡ Some t → ShowsPart table words 0 (Place e) t → IsTop (heap_of words) (Some e) o × ((u : Tree) → o ≡ Some u → IsTrie u × IsBuilt u) × ((r : Rec) → IsLinked o r → IsEncoded table words r)
  version_of None t i part = absurd cc
  version_of (Some u) t i part =
      let s : t ≡ u = cc in (
        subst (λ z. (subtrie z ≡ Place e) × IsShown (heap_of words) z) s (part.subtrie_is, part.shown),
        λ v j. subst (λ z. IsTrie z × IsBuilt z) (let k : t ≡ v = cc in k) (trie_if_local t part.local, part.built),
        λ r l. part.spelled r (subst (λ z. Links z r) (sym s) l),
      )

  linked_in : (o : Option Tree) (t : Tree) (r : Rec) → o ≡ Some t → Links t r ↔ IsLinked o r
  linked_in o t r i = (subst (λ z. IsLinked z r) (sym i), subst (λ z. IsLinked z r) i)

  -- A mark is set exactly for what the tree links.
  from_none : (o : Option Tree) (t : Tree) (r : Rec) (before after : Bool) → o ≡ Some t → (before ≡ true → ⊥) → (after ≡ true) ↔ ((before ≡ true) ⊎ Links t r) → (after ≡ true) ↔ IsLinked o r
  from_none o t r before after i none f = (λ h. (linked_in o t r i).0 (elim (f.0 h) [ inl x ↦ absurd (none x) | inr x ↦ x ]), λ l. f.1 (inr ((linked_in o t r i).1 l)))

  pub top_read : (old new : Linked) → IsEmpty table old → HasMarks table new → IsTreeRead (ShowsPart table words 0 (Place e)) true old new → IsReadVersion table words (Some e) (Some new)
  top_read old new empty room read =
      let t = read.0 in
      let i = read_of t read.1 in
      let m = version_of (tree_of (heap_of words) (Some e)) t i read.1 in (
        record { top = m.0; tree = m.1; spelled = m.2 },
        record {
          items_are = read.2.items_are ∙ (ap (λ u. map read_item u ++ items t) empty.no_items ∙ sym (ap items_of i));
          all_nodes = room.all_nodes;
          all_leaves = room.all_leaves;
          nodes_are = λ n. from_none (tree_of (heap_of words) (Some e)) t (a_node n) (get_or old.nodes.items n false) (get_or new.nodes.items n false) i (no_mark old.nodes.items (length table.nodes) n empty.nodes_are) (read.2.nodes_are n);
          leaves_are = λ n. from_none (tree_of (heap_of words) (Some e)) t (a_leaf n) (get_or old.leaves.items n false) (get_or new.leaves.items n false) i (no_mark old.leaves.items (length table.leaves) n empty.leaves_are) (read.2.leaves_are n);
        },
      )

  part_of : (o : Option Tree) → IsTop (heap_of words) (Some e) o → ((u : Tree) → o ≡ Some u → IsTrie u × IsBuilt u) → ((r : Rec) → IsLinked o r → IsEncoded table words r) →
      (t : Tree) × ShowsPart table words 0 (Place e) t
  part_of None top tree spelled = absurd top
  part_of (Some t) top tree spelled =
      (t, record { subtrie_is = top.0; shown = top.1; local = local_if_trie t (tree t refl).0; built = (tree t refl).1; from = from_start t; spelled = spelled })

  pub top_none : (old new : Linked) → IsTreeRead (ShowsPart table words 0 (Place e)) false old new → IsReadVersion table words (Some e) None
  top_none old new read m = let p = part_of (tree_of (heap_of words) (Some e)) m.top m.tree m.spelled in read p.0 p.1
