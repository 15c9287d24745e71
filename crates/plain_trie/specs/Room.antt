-- What a call returns and leaves, and when a trie has no room for one key more.
use Rattle.std.specs.Prelude.{◌≡◌, ◌⊎◌, ℕ, ◌+◌, ◌^◌, ◌<◌, ◌≤◌, length, Option, Some, None}
use Rattle.compound_node.specs.Nodes.{height_of}
use Rattle.compound_node.specs.declared.entries.Entry.{Entry}
use Rattle.finite_map.specs.Maps.{map_after, reply_of, AddsKey}
use Rattle.finite_map.specs.declared.Call.{Call}
use Rattle.finite_map.specs.declared.Reply.{Reply}
use Rattle.plain_trie.specs.Views.{PlainView, trie_map}

-- The most nodes that one insertion adds: one for each level of the trie, and one above the root. The first key adds none.
abbrev pub most_new_nodes : Option Entry → ℕ
most_new_nodes None = 0
most_new_nodes (Some root) = height_of root + 1

-- The trie is at its limit. No number of 32 bits is left for one leaf more, or too few are left for the most nodes that an insertion adds.
abbrev pub IsAtLimit : PlainView → Type 0
IsAtLimit plain = (2 ^ 32 ≤ length plain.leaves) ⊎ (2 ^ 32 < length plain.nodes + most_new_nodes plain.top)

-- The vector of leaves is full, or that of nodes has no room for the most nodes that an insertion adds.
abbrev pub MustGrow : PlainView → Type 0
MustGrow plain = (plain.leaf_capacity ≤ length plain.leaves) ⊎ (plain.node_capacity < length plain.nodes + most_new_nodes plain.top)

-- The trie has no room for a new key: it is at its limit, or its vectors must grow.
abbrev pub LacksRoom : PlainView → Type 0
LacksRoom plain = IsAtLimit plain ⊎ MustGrow plain

-- no vector of the trie has less room than before
abbrev pub KeepsRoom : (old new : PlainView) → Type 0
KeepsRoom old new = (old.node_capacity ≤ new.node_capacity) × (old.leaf_capacity ≤ new.leaf_capacity)

-- nothing of the trie has changed but, at most, for how many leaves its vector has memory
abbrev pub IsUnchanged : (old new : PlainView) → Type 0
IsUnchanged old new = new ≡ record old { leaf_capacity = new.leaf_capacity }

-- The reply is that of the finite map for which the trie stands. Then the trie stands for the map after the call.
abbrev pub IsTrieAnswer : (call : Call) → (old new : PlainView) → (reply : Reply) → Type 0
IsTrieAnswer call old new reply = (reply ≡ reply_of (trie_map old) call) × (trie_map new ≡ map_after (trie_map old) call)

-- The call would have added its key, for which there was no room. The trie is unchanged, but its vector of leaves may have more room.
abbrev pub IsOutOfMemory : (call : Call) → (old new : PlainView) → Type 0
IsOutOfMemory call old new = AddsKey (trie_map old) call × LacksRoom old × IsUnchanged old new
