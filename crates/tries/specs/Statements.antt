-- The laws of bit tries.
use Rattle.std.specs.Prelude.{◌≡◌, ◌↔◌, Some, None}
use Rattle.std.specs.Cmp.Lexicographic.{slice_cmp}
use Rattle.std.specs.Ordering.{nat_cmp}
use Rattle.std.specs.List.Sorted.{IsStrictlySortedBy}
use Rattle.std.specs.Map.{keys_of, lookup, remove_entry}
use Rattle.std.specs.BTreeMap.{insert_entry, is_at}
use Rattle.tries.specs.Tree.{Tree, IsTrie}
use Rattle.tries.specs.Content.{Item, items, pairs, IsMore, IsExchange, IsLocal}

-- The keys of the leaves of a bit trie, in the tree's order, rise strictly in byte order.
abbrev pub ContentRises : Type 0
ContentRises = (tree : Tree) → IsTrie tree → IsStrictlySortedBy (slice_cmp nat_cmp) (keys_of (pairs (items tree)))

-- A tree is a bit trie exactly if the rules of `IsLocal`, which look at neighbours alone, hold in it.
abbrev pub LocalIsTrie : Type 0
LocalIsTrie = (tree : Tree) → IsLocal tree ↔ IsTrie tree

-- If a bit trie has one leaf more than before, the key of that leaf was absent before. The new content is the old one with the key and
-- value inserted.
abbrev pub AddingInserts : Type 0
AddingInserts =
    (before after : Tree) (item : Item) → IsTrie after → IsMore item (items before) (items after) →
    (lookup (is_at (slice_cmp nat_cmp item.key)) (pairs (items before)) ≡ None) ×
    (insert_entry (slice_cmp nat_cmp) (pairs (items before)) item.key item.value ≡ pairs (items after))

-- Let a tree have the leaves of a bit trie, but one leaf in place of another with the same key. In the bit trie's content the key has the
-- old leaf's value. The tree's content is that one with the new leaf's value for the key.
abbrev pub ExchangeReplaces : Type 0
ExchangeReplaces =
    (before after : Tree) (item other : Item) → IsTrie before → IsExchange item other (items before) (items after) → item.key ≡ other.key →
    (lookup (is_at (slice_cmp nat_cmp other.key)) (pairs (items before)) ≡ Some item.value) ×
    (insert_entry (slice_cmp nat_cmp) (pairs (items before)) other.key other.value ≡ pairs (items after))

-- Let a tree have the leaves of a bit trie without one. In the bit trie's content that leaf's key has its value. The tree's content is that
-- one without the key.
abbrev pub TakingRemoves : Type 0
TakingRemoves =
    (before after : Tree) (item : Item) → IsTrie before → IsMore item (items after) (items before) →
    (lookup (is_at (slice_cmp nat_cmp item.key)) (pairs (items before)) ≡ Some item.value) ×
    (remove_entry (is_at (slice_cmp nat_cmp item.key)) (pairs (items before)) ≡ pairs (items after))
