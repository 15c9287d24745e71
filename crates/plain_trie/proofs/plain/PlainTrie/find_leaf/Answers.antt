-- The search goes down the tree that the records show.
use Rattle.std.proofs.Common.{◌∙◌, ◌<◌, ap, refl, subst, arith}
use Rattle.compound_node.specs.Nodes.{height_of}
use Rattle.plain_trie.specs.Views.{EndsAt, PlainView}
use Rattle.plain_trie_records.proofs.Store.Searching.{IsOnWay, on_way_down, on_way_within, on_way_end, on_way_number}
use Rattle.plain_trie.proofs.Views.{plain_tree, view}
use Rattle.plain_trie.proofs.plain.PlainTrie.find_leaf.Goals as goal
use Rattle.plain_trie.proofs.plain.PlainTrie.find_leaf.Goals.{After-find_entry-entry}

pub loop-entry-init : goal.loop-entry-init
loop-entry-init c =
    let (t, i) = plain_tree (view c.self.inside) c.args.top (ap (λ (v : PlainView). v.top) c.self.view_is ∙ c.requires) c.self.invariant in
    (t, i, record { part = t; head = i.head; shown = i.shown; built = i.sound.built; same = refl })

pub returns-in-Leaf : goal.returns-in-Leaf
returns-in-Leaf c =
    let (t, i, way) = c.loop-entry.invariant in
    let k = c.args.key.now in
    let n = c.in-Leaf.number in
    let nodes = c.self.inside.nodes.items in
    let leaves = c.self.inside.leaves.items in
    let w = subst (IsOnWay nodes leaves k t) c.in-Leaf.is way in
    subst (λ v. EndsAt v c.args.top k n) c.self.view_is
    (record { top = ap (λ (v : PlainView). v.top) c.self.view_is ∙ c.requires; tree = t; stands = i; number = on_way_number nodes leaves k t n w; at = on_way_end nodes leaves k t n w })

pub index-requires : goal.index-requires
index-requires c =
    let (t, i, way) = c.loop-entry.invariant in
    let nodes = c.self.inside.nodes.items in
    let leaves = c.self.inside.leaves.items in
    let h = on_way_within nodes leaves c.args.key.now t c.in-Node.number c.in-Node.height (subst (IsOnWay nodes leaves c.args.key.now t) c.in-Node.is way) in
    omega (arith, h, c.self.inside.nodes.ok.0)

-- the step down to the entry that was read
down : (c : After-find_entry-entry) → let (t, i, way) = c.loop-entry.invariant in
    IsOnWay c.self.inside.nodes.items c.self.inside.leaves.items c.args.key.now t c.find_entry-entry.result × (height_of c.find_entry-entry.result < c.in-Node.height)
down c =
    let (t, i, way) = c.loop-entry.invariant in
    on_way_down c.self.inside.nodes.items c.self.inside.leaves.items c.args.key.now t c.in-Node.number c.in-Node.height
    (subst (IsOnWay c.self.inside.nodes.items c.self.inside.leaves.items c.args.key.now t) c.in-Node.is way) c.index.result.now c.find_entry-entry.result c.index.ensures c.find_entry-entry.ensures

pub loop-entry-smaller : goal.loop-entry-smaller
loop-entry-smaller c = omega (arith, (down (goal.at.loop-entry-smaller c).After-find_entry-entry).1, ap height_of c.in-Node.is)

pub loop-entry-preserved : goal.loop-entry-preserved
loop-entry-preserved c = let (t, i, way) = c.loop-entry.invariant in (t, i, (down (goal.at.loop-entry-preserved c).After-find_entry-entry).0)
