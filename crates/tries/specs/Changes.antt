-- A tree with one leaf more.
use Rattle.std.specs.Prelude.{◌≡◌, ◌⊎◌, ℕ}
use Rattle.tries.specs.Keys.{Key, AgreeBelow}
use Rattle.tries.specs.Tree.{Tree, Has, IsTrie}
use Rattle.tries.specs.Content.{Item, items, IsMore}

-- The tree `after`, a bit trie, has the leaves of `before` and one more, `item`. So its keys are the new one and those of `before`. The new
-- key agrees with some key `like` of `before` at all positions before this one.
pub record IsAdded (item : Item) (position : ℕ) (before after : Tree) : Type 0 where
  pub trie : IsTrie after
  pub more : IsMore item (items before) (items after)
  pub keys : (key : Key) → Has after key → (key ≡ item.key) ⊎ Has before key
  pub like : Key
  pub has_like : Has before like
  pub agree : AgreeBelow position item.key like
