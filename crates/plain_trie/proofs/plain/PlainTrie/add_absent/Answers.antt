-- The search ends at the key's own leaf, or the key is absent and gets one, which rises to the root.
use Rattle.std.proofs.Common.{◌≡◌, ℕ, ◌∷◌, [], ◌++◌, Bool, arith, List, suc, length, refl, ap, sym, ◌∙◌, subst, Option, Some, None, rules}
use Rattle.std.proofs.lemmas.Result.{err_from_is_err_and}
use Rattle.std.specs.Vec.{vec_capacity, vec_len}
use Rattle.key_bits.specs.Bits.{IsFirstDifference, bit_of}
use Rattle.compound_node.specs.Nodes.{NodeView, height_of}
use Rattle.compound_node.specs.declared.entries.Entry.{Entry}
use Rattle.finite_map.specs.Maps.{value_at}
use Rattle.insert_cases.proofs.Ways.{some_injective}
use Rattle.tries.specs.Content.{item}
use Rattle.tries.specs.Search.{found}
use Rattle.plain_trie_records.specs.declared.leaf.LeafRecord.{LeafRecord}
use Rattle.plain_trie_records.specs.Cases.{AddsByCase, is_split}
use Rattle.plain_trie_records.specs.Heights.{KeepsHeights}
use Rattle.plain_trie_records.specs.Rising.{IsAddable}
use Rattle.plain_trie_records.proofs.Cases.{later_by_case, new_node}
use Rattle.plain_trie_records.proofs.Heights.{heights_same, heights_then}
use Rattle.plain_trie.specs.Cases.{MakesRoot}
use Rattle.plain_trie.specs.Views.{PlainView, trie_map}
use Rattle.plain_trie.proofs.plain.Inserting.{leaf_addable, raised_becomes}
use Rattle.plain_trie.proofs.Views.{end_missed, end_read}
use Rattle.plain_trie.proofs.plain.PlainTrie.add_absent.Goals as goal
use Rattle.plain_trie.proofs.plain.PlainTrie.add_absent.Goals.{In-Some-mismatch, After-push_reserved}

-- ---- the key is there
pub returns-in_default-mismatch-clause-ok : goal.returns-in_default-mismatch-clause-ok
returns-in_default-mismatch-clause-ok c =
    let l = c.index.result.now in
    let same : c.args.key.now ≡ l.key = c.in_default-mismatch.ensures.none.0 (search (rules, c.in_default-mismatch.is)) in
    let read = end_read c.find_leaf-held.ensures l (rw (← c.self.view_is) c.index.ensures) in
    ((c.in-Some.top, c.find_leaf-held.ensures, sym (same ∙ ap (λ (r : LeafRecord). r.key) read)), refl)

-- ---- or it is absent
absent : (c : In-Some-mismatch) → value_at (trie_map c.args.self.now) c.args.key.now ≡ None
absent c =
    end_missed c.find_leaf-held.ensures c.index.result.now (rw (← c.self.view_is) c.index.ensures)
    (λ e. c.in-Some-mismatch.ensures.first.differ (ap (λ l. bit_of l c.in-Some-mismatch.position) (sym e)))

same_view : (ns ms : List NodeView) (ls us : List LeafRecord) (o : Option Entry) (a b c : ℕ) → ms ≡ ns → us ≡ ls → c ≡ a →
    ◌≡◌ {A = PlainView} (record { nodes = ms; leaves = us; top = o; node_capacity = c; leaf_capacity = b }) (record { nodes = ns; leaves = ls; top = o; node_capacity = a; leaf_capacity = b })
same_view ns ms ls us o a b c e f g = rw (e, f, g) refl

pub returns-in_err-leaf-clause-err : goal.returns-in_err-leaf-clause-err
returns-in_err-leaf-clause-err c =
    rw (err_from_is_err_and c.from_residual-in_err-leaf.result c.from_residual-in_err-leaf.ensures.1).1 (
      absent (goal.at.returns-in_err-leaf-clause-err c).In-Some-mismatch,
      search rules,
      same_view _ _ _ _ _ _ _ _ c.make_room.ensures.same_nodes c.make_room.ensures.same_leaves c.in_err-leaf.ensures.err ∙
          ap (λ (u : PlainView). let w : PlainView = record u { leaf_capacity = vec_capacity c.make_room.new.leaves } in w) c.self.view_is,
    )

pub returns-in_err-leaf-clause-heights : goal.returns-in_err-leaf-clause-heights
returns-in_err-leaf-clause-heights c =
    subst (KeepsHeights c.args.self.now.nodes) (sym (c.make_room.ensures.same_nodes ∙ ap (λ (u : PlainView). u.nodes) c.self.view_is)) (heights_same c.args.self.now.nodes)

-- ---- the new leaf
module _ (c : After-push_reserved) where
  kept : c.make_room.new.nodes.items ≡ c.args.self.now.nodes
  kept = c.make_room.ensures.same_nodes ∙ ap (λ (u : PlainView). u.nodes) c.self.view_is

  number : c.in_ok-leaf.leaf ≡ length c.args.self.now.leaves
  number = c.in_ok-leaf.ensures.number ∙ (c.self.inside.leaves.ok.0 ∙ ap (λ (u : PlainView). length u.leaves) c.self.view_is)

  leaves : c.push_reserved.new.self.items ≡ c.args.self.now.leaves ++ record { key = c.args.key.now; value = c.args.value } ∷ []
  leaves =
      c.push_reserved.ensures.items ∙ (ap (λ (xs : List LeafRecord). xs ++ record { key = c.copy.result; value = c.args.value } ∷ []) (c.make_room.ensures.same_leaves ∙ ap (λ (u : PlainView). u.leaves) c.self.view_is) ∙
      ap (λ x. c.args.self.now.leaves ++ record { key = x; value = c.args.value } ∷ []) c.copy.ensures.same)

  differ : IsFirstDifference c.args.key.now (found c.args.key.now c.find_leaf-held.ensures.tree).key c.in-Some-mismatch.position
  differ =
      subst (λ (l : LeafRecord). IsFirstDifference c.args.key.now l.key c.in-Some-mismatch.position)
      (end_read c.find_leaf-held.ensures c.index.result.now (rw (← c.self.view_is) c.index.ensures)) c.in-Some-mismatch.ensures.first

  addable : IsAddable c.make_room.new.nodes.items c.push_reserved.new.self.items (item c.in_ok-leaf.leaf c.args.key.now c.args.value) c.in-Some-mismatch.position c.in-Some.top c.find_leaf-held.ensures.tree
  addable =
      leaf_addable c.args.self.now c.make_room.new.nodes.items c.push_reserved.new.self.items c.in-Some.top c.find_leaf-held.ensures.tree c.args.key.now c.args.value c.in_ok-leaf.leaf c.in-Some-mismatch.position
      c.find_leaf-held.ensures.stands kept leaves number c.copy.ensures.key differ

pub raise_newcomer-risen-requires-clause-place : goal.raise_newcomer-risen-requires-clause-place
raise_newcomer-risen-requires-clause-place c = (c.push_reserved.new.self.items, c.args.value, c.find_leaf-held.ensures.tree, addable (goal.at.raise_newcomer-risen-requires-clause-place c).After-push_reserved)

pub make_root-requires-clause-place : goal.make_root-requires-clause-place
make_root-requires-clause-place c =
    let us = c.push_reserved.new.self.items in
    let up = c.raise_newcomer-risen.ensures.raised us c.args.value c.find_leaf-held.ensures.tree (addable (goal.at.make_root-requires-clause-place c).After-push_reserved) in
    (c.make_room.new.nodes.items, us, item c.in_ok-leaf.leaf c.args.key.now c.args.value, c.in-Some-mismatch.position, c.find_leaf-held.ensures.tree, suc (height_of c.in-Some.top), up)

pub invariant_of-self-2 : goal.invariant_of-self-2
invariant_of-self-2 c =
    let t = c.find_leaf-held.ensures.tree in
    let ns = c.make_room.new.nodes.items in
    let us = c.push_reserved.new.self.items in
    let x = item c.in_ok-leaf.leaf c.args.key.now c.args.value in
    let up = c.raise_newcomer-risen.ensures.raised us c.args.value t (addable (goal.at.invariant_of-self-2 c).After-push_reserved) in
    let w : PlainView = record { nodes = c.make_root.new.nodes.items; leaves = us; top = Some c.make_root.result; node_capacity = vec_capacity c.make_root.new.nodes; leaf_capacity = vec_capacity c.push_reserved.new.self } in
    (raised_becomes c.args.self.now w ns c.in-Some.top c.make_root.result t x c.in-Some-mismatch.position _ c.find_leaf-held.ensures.stands refl (c.make_root.ensures.raised ns us x c.in-Some-mismatch.position t _ up)).0

pub returns-clause-ok : goal.returns-clause-ok
returns-clause-ok c =
    let t = c.find_leaf-held.ensures.tree in
    let ns = c.make_room.new.nodes.items in
    let us = c.push_reserved.new.self.items in
    let x = item c.in_ok-leaf.leaf c.args.key.now c.args.value in
    let up = c.raise_newcomer-risen.ensures.raised us c.args.value t (addable (goal.at.returns-clause-ok c).After-push_reserved) in
    let w : PlainView = record { nodes = c.make_root.new.nodes.items; leaves = us; top = Some c.make_root.result; node_capacity = vec_capacity c.make_root.new.nodes; leaf_capacity = vec_capacity c.push_reserved.new.self } in (
      absent (goal.at.returns-clause-ok c).In-Some-mismatch,
      (raised_becomes c.args.self.now w ns c.in-Some.top c.make_root.result t x c.in-Some-mismatch.position _ c.find_leaf-held.ensures.stands refl (c.make_root.ensures.raised ns us x c.in-Some-mismatch.position t _ up)).1,
    )

pub returns-clause-heights : goal.returns-clause-heights
returns-clause-heights c =
    let us = c.make_root.new.nodes.items in
    subst (λ vs. KeepsHeights vs us) (kept (goal.at.returns-clause-heights c).After-push_reserved)
    (heights_then c.make_room.new.nodes.items c.raise_newcomer-risen.new.nodes.items us c.raise_newcomer-risen.ensures.heights c.make_root.ensures.heights c.make_root.ensures.all)

-- ---- which case it was
pub returns-clause-case : goal.returns-clause-case
returns-clause-case c = λ none s is.
    let d = (goal.at.returns-clause-case c).After-push_reserved in
    let v = c.args.self.now in
    let k = c.args.key.now in
    let p = c.in-Some-mismatch.position in
    let t = c.find_leaf-held.ensures.tree in
    let n = length v.leaves in
    let mid = c.raise_newcomer-risen.new.nodes.items in
    let last = c.make_root.new.nodes.items in
    let up = is_split c.raise_newcomer-risen.result in
    let e = subst (λ m. AddsByCase v.nodes mid k p m t up) (number d)
    (subst (λ xs. AddsByCase xs mid k p c.in_ok-leaf.leaf t up) (kept d) (c.raise_newcomer-risen.ensures.case c.push_reserved.new.self.items c.args.value t (addable d))) in
    let w : PlainView = record { nodes = last; leaves = c.push_reserved.new.self.items; top = Some c.make_root.result; node_capacity = vec_capacity c.make_root.new.nodes; leaf_capacity = vec_capacity c.push_reserved.new.self } in
    let rooted : MakesRoot v w up = λ split. new_node (length v.nodes) (vec_len c.raise_newcomer-risen.new.nodes) c.make_root.result
    (omega (arith, ap length (kept d), c.raise_newcomer-risen.ensures.heights.longer, c.raise_newcomer-risen.new.nodes.ok.0)) (c.make_root.ensures.new split) in
    subst (λ z. (q : ℕ) × IsFirstDifference k (found k z).key q × ((o : Bool) × AddsByCase v.nodes last k q n z o × MakesRoot v w o)) (some_injective (sym c.find_leaf-held.ensures.stands.is ∙ is))
    (p, differ d, (up, later_by_case v.nodes mid last k p n t up c.make_root.ensures.all e, rooted))
