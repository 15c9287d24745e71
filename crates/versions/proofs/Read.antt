-- Reading gives the tree that the words show, and finds one that is well built.
use Rattle.versions.proofs.Common.{◌≡◌, ℕ, suc, zero, ap, ap₂, ◌∙◌, Some, None, eqb, cond-true, eq-eqb, Key, Fixed, Tree, leaf, node, subtrie, IsBuilt, Entry, Leaf, Node, Place, exactly_read}
use Rattle.versions.specs.Heap.{NodeWords, LeafWords, Heap, IsShown}
use Rattle.versions.specs.Read.{read}
use Rattle.tries.specs.Read.{join_node, read_subtrie}
use Rattle.compound_node.specs.Nodes.{height_of}

read_leaf : (m : Heap) (f n : ℕ) (k : Key) (v : ℕ) → m.leaves n ≡ record { key = k; value = v } → read m f (Leaf n) ≡ Some (leaf n k v)
read_leaf m zero n k v e = ap₂ (λ a b. Some (leaf n a b)) (ap (λ (z : LeafWords). z.key) e) (ap (λ (z : LeafWords). z.value) e)
read_leaf m (suc f) n k v e = ap₂ (λ a b. Some (leaf n a b)) (ap (λ (z : LeafWords). z.key) e) (ap (λ (z : LeafWords). z.value) e)

read_node : (m : Heap) (f n : ℕ) (h : Fixed) (b : Tree) → m.nodes n ≡ record { fixed = h; subtrie = subtrie b } → read_subtrie (read m f) (subtrie b) ≡ Some b →
    read m (suc f) (Node n h.height) ≡ Some (node n h b)
read_node m f n h b e g =
    cond-true (eqb (m.nodes n).fixed.height h.height) (join_node n (m.nodes n).fixed (read_subtrie (read m f) (m.nodes n).subtrie)) None (eq-eqb (m.nodes n).fixed.height h.height (ap (λ (z : NodeWords). z.fixed.height) e)) ∙
    (ap (λ (z : NodeWords). join_node n z.fixed (read_subtrie (read m f) z.subtrie)) e ∙ ap (join_node n h) g)

-- What the words show is read: an entry shows a well built tree exactly where reading it with its height finds one.
pub read_exact : (m : Heap) (e : Entry) (t : Tree) → IsBuilt t → IsShown m t → subtrie t ≡ Place e → read m (height_of e) e ≡ Some t
read_exact m = exactly_read (IsShown m) (read m) (λ n x b i. i.1) (λ p a b i. i) (read_leaf m) (λ f n x b i g. read_node m f n x b i.0 g)
