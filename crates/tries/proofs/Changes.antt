-- One tree put in the place of another; the keys that this exchanges or takes away.
pub mod Adding
pub mod Puts
use Rattle.std.specs.Prelude.{ℕ, ◌<◌}
use Rattle.tries.specs.Keys.{Key}
use Rattle.tries.specs.Tree.{Tree, node, fork, Within, here, inside, zero_side, one_side, Has, IsTrie}
use Rattle.tries.specs.Content.{Item, items, IsMore, IsExchange}

-- The tree with `r` in the place of `s`.
abbrev pub put : {s t : Tree} → Within s t → Tree → Tree
put here r = r
put (inside {n = n} {x = x} w) r = node n x (put w r)
put (zero_side {p = p} {b = b} w) r = fork p (put w r) b
put (one_side {p = p} {a = a} w) r = fork p a (put w r)

-- Each fork above the place is at a position below `m`.
abbrev pub IsPathBelow : {s t : Tree} → ℕ → Within s t → Type 0
IsPathBelow m here = Unit {0}
IsPathBelow m (inside w) = IsPathBelow m w
IsPathBelow m (zero_side {p = p} w) = (p < m) × IsPathBelow m w
IsPathBelow m (one_side {p = p} w) = (p < m) × IsPathBelow m w

-- The place is in the record's own subtrie.
abbrev pub IsInOwnSubtrie : {s t : Tree} → Within s t → Type 0
IsInOwnSubtrie here = Unit {0}
IsInOwnSubtrie (inside w) = ⊥
IsInOwnSubtrie (zero_side w) = IsInOwnSubtrie w
IsInOwnSubtrie (one_side w) = IsInOwnSubtrie w

-- The second tree is the first with one leaf in another's place, of the same key.
pub record IsExchanged (y x : Item) (s r : Tree) : Type 0 where
  pub trie : IsTrie r
  pub exchange : IsExchange y x (items s) (items r)
  pub keys : (k : Key) → Has r k → Has s k

-- The second tree is the first without one leaf.
pub record IsRemoved (x : Item) (s r : Tree) : Type 0 where
  pub trie : IsTrie r
  pub less : IsMore x (items r) (items s)
  pub keys : (k : Key) → Has r k → Has s k
