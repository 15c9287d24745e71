-- What a writer has at hand for a place of the tree.
use Rattle.version_laws.proofs.Common.{◌≡◌, ◌⊎◌, ℕ, Some, Fixed, Tree, node, subtrie, IsBuilt, IsFork, IsTip, IsLower, IsFit, Item, IsAdded, IsShown, Links, Rec, a_node, Ready, BareCore}

-- For the place of `s` the pass has `r`: its words show it, what it links anew is the pass's and ready, and the nodes
-- that go are locked by the pass.
pub record IsAtHand (c : BareCore) (q : ℕ) (s r : Tree) : Type 0 where
  pub built : IsBuilt r
  pub shown : IsShown c.heap r
  pub comes : (i : Rec) → Links r i → Links s i ⊎ (c.fate i ≡ Ready q)
  pub goes : (n : ℕ) → Links s (a_node n) → Links r (a_node n) ⊎ (c.lock n ≡ Some q)

-- A node record that the pass has filled and made ready, with this body.
pub record IsNewNode (c : BareCore) (q m : ℕ) (x : Fixed) (b : Tree) : Type 0 where
  pub fate : c.fate (a_node m) ≡ Ready q
  pub words : c.heap.nodes m ≡ record { fixed = x; subtrie = subtrie b }
  pub two : IsFork b
  pub lower : IsLower x.height b
  pub fit : IsFit x (subtrie b)

-- The entry for a half or for a whole body: the one record that it is, or a new node around it.
pub data IsHalf (c : BareCore) (q : ℕ) (r : Tree) : Tree → Type 0 where
  one : IsTip r → IsHalf c q r r
  many : (m : ℕ) (g : Fixed) → IsNewNode c q m g r → IsHalf c q r (node m g r)

-- For the place of `s` the pass has `r` at hand, which is `s` with one leaf more.
pub record IsGrowth (c : BareCore) (q : ℕ) (x : Item) (p : ℕ) (s r : Tree) : Type 0 where
  pub hand : IsAtHand c q s r
  pub adds : IsAdded x p s r
