-- Reading gives the tree that records show, and finds one that is well built, whatever the records are.
use Rattle.tries.proofs.Common.{◌≡◌, ℕ, suc, zero, ◌≤◌, List, refl, ap, ap₂, sym, ◌∙◌, subst, arith, Option, Some, None, Place, Fork, height_of, Entry, Leaf, Node}
use Rattle.tries.specs.Read.{join_fork, join_node, read_subtrie}
use Rattle.tries.specs.Tree.{Subtrie, Fixed, Tree, leaf, node, fork, subtrie, IsLower, IsBuilt}
use Rattle.tries.proofs.Tree.Fitting.{lower_positive}

pub some_injective : {a b : Tree} → Some a ≡ Some b → a ≡ b
some_injective e = cc

-- The height of each entry is at most f.
abbrev pub IsWithinHeight : ℕ → Tree → Type 0
IsWithinHeight f (leaf n k v) = Unit {0}
IsWithinHeight f (node n x b) = x.height ≤ f
IsWithinHeight f (fork p a b) = IsWithinHeight f a × IsWithinHeight f b

within_height : (h f : ℕ) (t : Tree) → IsLower h t → h ≤ suc f → IsWithinHeight f t
within_height h f (leaf n k v) l g = tt
within_height h f (node n x b) l g = omega arith
within_height h f (fork p a b) l g = (within_height h f a l.0 g, within_height h f b l.1 g)

within_entry : (e : Entry) (t : Tree) → subtrie t ≡ Place e → IsWithinHeight (height_of e) t
within_entry (Leaf n) (leaf o k v) x = tt
within_entry (Leaf n) (node o k v) x = absurd cc
within_entry (Leaf n) (fork o k v) x = absurd cc
within_entry (Node n g) (leaf o k v) x = absurd cc
within_entry (Node n g) (node o k v) x = let y : k.height ≡ g = cc in omega arith
within_entry (Node n g) (fork o k v) x = absurd cc

-- When records show a tree: a fork where they show both sides.
module _ (IsShown : Tree → Type 0) (both : (p : ℕ) (a b : Tree) → IsShown a → IsShown b → IsShown (fork p a b)) where
  -- the records show the tree, and it begins with the subtrie
  abbrev pub IsFound : Subtrie → Tree → Type 0
  IsFound x t = (subtrie t ≡ x) × IsShown t

  fork_found : (p : ℕ) (x y : Subtrie) (a b : Option Tree) (t : Tree) → ((u : Tree) → a ≡ Some u → IsFound x u) →
      ((u : Tree) → b ≡ Some u → IsFound y u) → join_fork p a b ≡ Some t → IsFound (Fork p x y) t
  fork_found p x y (Some a) (Some b) t f g e =
      let u = f a refl in let v = g b refl in
      subst (IsFound (Fork p x y)) (some_injective e) (ap₂ (Fork p) u.0 v.0, both p a b u.1 v.1)
  fork_found p x y (Some a) None t f g e = absurd cc
  fork_found p x y None b t f g e = absurd cc

  -- what is read of a subtrie is found, where what is read of an entry is
  pub subtrie_found : (f : Entry → Option Tree) → ((e : Entry) (t : Tree) → f e ≡ Some t → IsFound (Place e) t) →
      (x : Subtrie) (t : Tree) → read_subtrie f x ≡ Some t → IsFound x t
  subtrie_found f g (Place e) t h = g e t h
  subtrie_found f g (Fork p x y) t h = fork_found p x y (read_subtrie f x) (read_subtrie f y) t (subtrie_found f g x) (subtrie_found f g y) h

  -- and so for a node
  pub node_found : (n : ℕ) (x : Fixed) (shown : Subtrie) (o : Option Tree) (t : Tree) → ((u : Tree) → IsFound shown u → IsShown (node n x u)) →
      ((u : Tree) → o ≡ Some u → IsFound shown u) → join_node n x o ≡ Some t → IsFound (Place (Node n x.height)) t
  node_found n x shown None t up f e = absurd cc
  node_found n x shown (Some b) t up f e = subst (IsFound (Place (Node n x.height))) (some_injective e) (refl, up b (f b refl))

-- A way of reading with a bound on the depth, and when records show a tree: what they show at a leaf is read, and at a node
-- where it is read of the node's subtrie.
module _ (IsShown : Tree → Type 0) (read : ℕ → Entry → Option Tree)
    (below : (n : ℕ) (x : Fixed) (b : Tree) → IsShown (node n x b) → IsShown b)
    (sides : (p : ℕ) (a b : Tree) → IsShown (fork p a b) → IsShown a × IsShown b)
    (leaf_read : (f n : ℕ) (k : List ℕ) (v : ℕ) → IsShown (leaf n k v) → read f (Leaf n) ≡ Some (leaf n k v))
    (node_read : (f n : ℕ) (x : Fixed) (b : Tree) → IsShown (node n x b) → read_subtrie (read f) (subtrie b) ≡ Some b → read (suc f) (Node n x.height) ≡ Some (node n x b)) where
  -- what the records show is read, where its heights fall and there is room for them
  pub read_complete : (f : ℕ) (t : Tree) → IsBuilt t → IsShown t → IsWithinHeight f t → read_subtrie (read f) (subtrie t) ≡ Some t
  read_complete f (leaf n k v) b i w = leaf_read f n k v i
  read_complete zero (node n x c) b i w = let p = lower_positive x.height c b.1 in absurd (omega arith)
  read_complete (suc f) (node n x c) b i w =
      node_read f n x c i (read_complete f c b.2 (below n x c i) (within_height x.height f c b.1 w))
  read_complete f (fork p x y) b i w =
      let s = sides p x y i in ap₂ (join_fork p) (read_complete f x b.0 s.0 w.0) (read_complete f y b.1 s.1 w.1)

  -- so an entry shows a well built tree exactly where reading it with its height finds one
  pub read_exact : (e : Entry) (t : Tree) → IsBuilt t → IsShown t → subtrie t ≡ Place e → read (height_of e) e ≡ Some t
  read_exact e t b i h = ap (read_subtrie (read (height_of e))) (sym h) ∙ read_complete (height_of e) t b i (within_entry e t h)
