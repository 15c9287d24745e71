-- The pairs below a node are those at its places, one place after the other.
use Rattle.plain_trie_records.proofs.Common.{◌≡◌, ◌≢◌, ◌∙◌, ℕ, ◌+◌, ◌<◌, List, [], ◌∷◌, ◌++◌, take, drop, get_or, ap, sym, subst, arith, length, append_assoc, MatchResult, append-nil, take_all, take-append-drop, slice_get_within, Map, IsScanOf, range_of, Place, height_of, Entry, Leaf, Node, items, pairs, Tree, subtrie}
use Rattle.std.proofs.lemmas.Result.{err_from_is_err_and}
use Rattle.plain_trie_records.specs.Store.{ShowsSound}
use Rattle.plain_trie_records.proofs.scanning.Parts.{items_of_all, leaves-append, leaves_more}
use Rattle.plain_trie_records.proofs.scanning.Scanning.{pairs-append, some_more}
use Rattle.plain_trie_records.proofs.Store.Searching.{read_at}
use Rattle.plain_trie_records.proofs.scanning.Standing.{IsNodeAt, below, leaf_pairs, no_tree, node_at, node_within}
use Rattle.plain_trie_records.proofs.scanning.+scan_below.Goals as goal
use Rattle.plain_trie_records.specs.declared.leaf.LeafRecord.{LeafRecord}
use Rattle.plain_trie_records.proofs.scanning.+scan_below.Goals.{After-entry}

at_entry : (u : Tree) (e f : Entry) → subtrie u ≡ Place e → e ≡ f → subtrie u ≡ Place f
at_entry u e f head is = subst (λ (d : Entry). subtrie u ≡ Place d) is head

-- the pairs of one place more, and of all places
step : (m : Map) (ts : List Tree) (j : ℕ) → j < length ts → (m ++ pairs (items_of_all (take j ts))) ++ pairs (items (get_or ts j no_tree)) ≡ m ++ pairs (items_of_all (take (j + 1) ts))
step m ts j h =
    append_assoc m (pairs (items_of_all (take j ts))) (pairs (items (get_or ts j no_tree))) ∙
    ap (λ z. m ++ z) (sym (pairs-append (items_of_all (take j ts)) (items (get_or ts j no_tree))) ∙ ap pairs (sym (leaves_more ts j no_tree h)))

rest : (m : Map) (ts : List Tree) (j : ℕ) → (m ++ pairs (items_of_all (take j ts))) ++ pairs (items_of_all (drop j ts)) ≡ m ++ pairs (items_of_all ts)
rest m ts j =
    append_assoc m (pairs (items_of_all (take j ts))) (pairs (items_of_all (drop j ts))) ∙
    ap (λ z. m ++ z) (sym (pairs-append (items_of_all (take j ts)) (items_of_all (drop j ts))) ∙ ap pairs (sym (leaves-append (take j ts) (drop j ts)) ∙ ap items_of_all (take-append-drop j ts)))

-- ---- a leaf
pub index-requires : goal.index-requires
index-requires t c =
    let (u, e, i) = c.requires.shown in
    let (l, at, is) = leaf_pairs c.args.nodes.now.items c.args.leaves.now.items c.in-Leaf.number u (at_entry u c.args.entry (Leaf c.in-Leaf.number) e c.in-Leaf.is) i in
    omega (arith, slice_get_within c.args.leaves.now.items c.in-Leaf.number l at, c.args.leaves.now.ok.0)

pub returns-in-Leaf : goal.returns-in-Leaf
returns-in-Leaf t c = record {
  scan = λ u m e i s.
      let r = c.args.range in
      let (l, at, is) = leaf_pairs c.args.nodes.now.items c.args.leaves.now.items c.in-Leaf.number u (at_entry u c.args.entry (Leaf c.in-Leaf.number) e c.in-Leaf.is) i in
      let same : c.index.result.now ≡ l = read_at c.args.leaves.now.items c.in-Leaf.number l c.index.result.now at c.index.ensures in
      subst (λ (z : Map). MatchResult c.scan_leaf.result (λ _. IsScanOf (m ++ z) r.from.now r.upto.now r.limit c.scan_leaf.new.scan) (λ _. take r.limit (range_of (m ++ z) r.from.now r.upto.now) ≢ []))
      (ap (λ (l : LeafRecord). (l.key, l.value) ∷ []) same ∙ sym is) (c.scan_leaf.ensures.scan m s);
}

-- ---- a node
pub index-node-requires : goal.index-node-requires
index-node-requires t c =
    let (u, e, i) = c.requires.shown in
    omega (arith, node_within c.args.nodes.now.items c.args.leaves.now.items c.in-Node.number c.in-Node.height u (at_entry u c.args.entry (Node c.in-Node.number c.in-Node.height) e c.in-Node.is) i, c.args.nodes.now.ok.0)

pub loop-slot-init : goal.loop-slot-init
loop-slot-init t c u m e i s = subst (λ (z : Map). IsScanOf z c.args.range.from.now c.args.range.upto.now c.args.range.limit c.args.scan.now) (sym (append-nil m)) s

here : (t : ℕ) (c : After-entry t) (u : Tree) → subtrie u ≡ Place c.args.entry → ShowsSound c.args.nodes.now.items c.args.leaves.now.items u →
    IsNodeAt c.args.nodes.now.items c.args.leaves.now.items c.in-Node.number c.in-Node.height u c.index-node.result.now
here t c u e i =
    node_at c.args.nodes.now.items c.args.leaves.now.items c.in-Node.number c.in-Node.height u (at_entry u c.args.entry (Node c.in-Node.number c.in-Node.height) e c.in-Node.is) i
    c.index-node.result.now c.index-node.ensures c.count-slot-end.ensures.lawful

within : (t : ℕ) (c : After-entry t) (u : Tree) → subtrie u ≡ Place c.args.entry → ShowsSound c.args.nodes.now.items c.args.leaves.now.items u → c.loop-slot.slot < length (below u)
within t c u e i = omega (arith, (here t c u e i).count, slice_get_within c.index-node.result.now.entries c.loop-slot.slot c.entry.result c.entry.ensures.entry)

pub scan_below-requires : goal.scan_below-requires
scan_below-requires t c =
    let (u, e, i) = c.requires.shown in
    let n = here t (goal.at.scan_below-requires t c).After-entry u e i in
    let p = n.part c.loop-slot.slot c.entry.result c.entry.ensures.entry in
    (omega (arith, c.decreases, ap height_of c.in-Node.is, n.high, c.entry.ensures.stands.1), (get_or (below u) c.loop-slot.slot no_tree, p.0, p.1))

pub returns-in_err-scan_below-in-Node : goal.returns-in_err-scan_below-in-Node
returns-in_err-scan_below-in-Node t c = record {
  scan = λ u m e i s.
      let d = (goal.at.returns-in_err-scan_below-in-Node t c).After-entry in
      let n = here t d u e i in
      let j = c.loop-slot.slot in
      let ts = below u in
      let p = n.part j c.entry.result c.entry.ensures.entry in
      let r = c.args.range in
      let before : Map = m ++ pairs (items_of_all (take j ts)) in
      let h = c.in_err-scan_below-in-Node.ensures.scan (get_or ts j no_tree) before p.0 p.1 (c.loop-slot.invariant u m e i s) in
      let more = some_more r.from.now r.upto.now r.limit (before ++ pairs (items (get_or ts j no_tree))) (pairs (items_of_all (drop (j + 1) ts))) h in
      let whole : (before ++ pairs (items (get_or ts j no_tree))) ++ pairs (items_of_all (drop (j + 1) ts)) ≡ m ++ pairs (items u) =
      ap (λ z. z ++ pairs (items_of_all (drop (j + 1) ts))) (step m ts j (within t d u e i)) ∙ (rest m ts (j + 1) ∙ ap (λ z. m ++ pairs z) (sym n.all)) in
      rw (err_from_is_err_and c.from_residual.result c.from_residual.ensures.1).1 (subst (λ (z : Map). take r.limit (range_of z r.from.now r.upto.now) ≢ []) whole more);
}

pub loop-slot-preserved : goal.loop-slot-preserved
loop-slot-preserved t c u m e i s =
    let d = (goal.at.loop-slot-preserved t c).After-entry in
    let n = here t d u e i in
    let j = c.loop-slot.slot in
    let p = n.part j c.entry.result c.entry.ensures.entry in
    let r = c.args.range in
    subst (λ (z : Map). IsScanOf z r.from.now r.upto.now r.limit c.scan_below.new.scan) (step m (below u) j (within t d u e i))
    (c.in_ok-scan_below-in-Node.ensures.scan (get_or (below u) j no_tree) (m ++ pairs (items_of_all (take j (below u)))) p.0 p.1 (c.loop-slot.invariant u m e i s))

pub returns-after-loop-slot : goal.returns-after-loop-slot
returns-after-loop-slot t c = record {
  scan = λ u m e i s.
      let r = c.args.range in
      let n =
      node_at c.args.nodes.now.items c.args.leaves.now.items c.in-Node.number c.in-Node.height u (at_entry u c.args.entry (Node c.in-Node.number c.in-Node.height) e c.in-Node.is) i
      c.index-node.result.now c.index-node.ensures c.count-slot-end.ensures.lawful in
      let all : items_of_all (take c.loop-slot.slot (below u)) ≡ items u = ap items_of_all (take_all c.loop-slot.slot (below u) (omega (arith, n.count, c.count-slot-end.ensures.count))) ∙ sym n.all in
      subst (λ (z : Map). IsScanOf z r.from.now r.upto.now r.limit c.loop-slot.scan) (ap (λ z. m ++ pairs z) all) (c.loop-slot.invariant u m e i s);
}
