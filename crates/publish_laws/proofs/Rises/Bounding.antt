-- The bound on a new node's height: it follows from the tree that has risen, in any core.
use Rattle.publish_laws.proofs.Common.{◌≡◌, ℕ, ◌+◌, ◌*◌, ◌≤◌, List, sym, ap, subst, ◌∙◌, arith, NodeView, greatest_height, piece, MAX_BYTES, size, places, fork_of, fork_of_two_places, new_bound, size-piece, Layout, Subtrie, Tree, fork, subtrie, IsTrie, IsBuilt, first_position, IsRise, Side, stands_now, newest_tree_if_node, Known, Locked, Core, bare, IsOneOf, risen, Newcomer, Made}
pub use Rattle.version_laws.proofs.Rise.{number_of}
use Rattle.publish_laws.proofs.Stages.{locked_node, made_leaf}
use Rattle.publish_laws.specs.Stages.{HasLeaf, IsStage}
use Rattle.publish_laws.specs.Rises.{IsBuiltAnew}

pub bound_of : (v : NodeView) (s : Tree) → IsBuiltAnew v → piece v ≡ subtrie s → IsTrie s → IsBuilt s → v.height + first_position (piece v) ≤ 9 * MAX_BYTES
bound_of v s (has, height) shows trie built =
    let l = has.lawful in
    let big : 2 ≤ size (subtrie s) = subst (λ p. 2 ≤ size p) shows (omega (arith, size-piece v l, l.several)) in
    let (q, a, c, is) = fork_of s (fork_of_two_places s big) in
    let low = new_bound q a c (subst IsTrie is trie) (subst IsBuilt is built) in
    let pg : piece v ≡ subtrie (fork q a c) = shows ∙ ap subtrie is in
    let entries : greatest_height v.entries ≡ greatest_height (places (subtrie (fork q a c))) = ap greatest_height l.shows.entries_are ∙ ap (λ p. greatest_height (places p)) pg in
    let first : first_position (piece v) ≡ q = ap first_position pg in
    omega (arith, height)

module _ (layout : Layout) (k : Known) (held : List Locked) (news : List Made) (c : Core) (stage : IsStage layout k held news c) (x : Newcomer) where
  -- what has risen is the subtrie of a lawful tree
  pub tree_risen : (d : Side) (words : List ℕ) → HasLeaf news x.item → IsOneOf (record { node = number_of d; words = words }) held → (r : Subtrie) → IsRise (bare c) k.pass x d r →
      (s : Tree) × (subtrie s ≡ r) × IsTrie s × IsBuilt s
  tree_risen d words leaf at r i =
      let new = made_leaf layout k held news c stage x.item leaf in
      let node = (locked_node layout k held news c stage (number_of d) words at).0 in
      let (t, now) = newest_tree_if_node (bare c) stage.lawful.core.state (number_of d) node.linked node.fate in
      let (b, v, pg) = stands_now (bare c) stage.lawful.core.state t now (number_of d) node.linked node.fate in
      let (s, e, g, tr) = risen (bare c) k.pass stage.lawful.core.state t now x new d r i ((bare c).heap.nodes (number_of d)).fixed b v in
      (s, e, g.adds.trie, g.hand.built)

  pub bound_risen : (d : Side) (words : List ℕ) → HasLeaf news x.item → IsOneOf (record { node = number_of d; words = words }) held → (r : Subtrie) → IsRise (bare c) k.pass x d r →
      (v : NodeView) → IsBuiltAnew v → piece v ≡ r → v.height + first_position (piece v) ≤ 9 * MAX_BYTES
  bound_risen d words leaf at r i v may shows =
      let (s, e, trie, built) = tree_risen d words leaf at r i in
      bound_of v s may (shows ∙ sym e) trie built
