-- The tree of the newest version.
use Rattle.version_laws.proofs.Common.{◌≡◌, Some, le_refl, Tree, IsTrie, IsBuilt, IsShown, IsLawfulState, BareCore, view, top_shown}

-- it is a bit trie, built as nodes are, and the words show it
module _ (c : BareCore) (law : IsLawfulState (view c)) (t : Tree) (now : c.past.version c.past.now ≡ Some t) where
  pub trie_now : IsTrie t
  trie_now = (law.trees c.past.now t (le_refl c.past.now) now).0

  pub built_now : IsBuilt t
  built_now = (law.trees c.past.now t (le_refl c.past.now) now).1

  pub shown_now : IsShown c.heap t
  shown_now = top_shown c.heap c.root (c.past.version c.past.now) t law.top now
