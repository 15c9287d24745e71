-- How many atomic steps the parts of an attempt make at most, by the nodes on its path, its locks and the table's records.
use Rattle.std.specs.Prelude.{ℕ, zero, suc, ◌+◌, ◌*◌, Result, Ok, Err, None}
use Rattle.key_bits.specs.declared.TheConstants.{MAX_BYTES}
use Rattle.finite_map.specs.declared.Call.{Call}
use Rattle.finite_map.specs.declared.Call.TheVariants.{Add, Exchange}
use Rattle.record_words.specs.declared.TheConstants.{HEAD_WORDS, LEAF_FIELDS, NODE_FIELDS}
use Rattle.record_words.specs.declared.layout.Layout.{Layout}
use Rattle.rowex_reading.specs.declared.descent.Found.{Found}
use Rattle.rowex_reading.specs.declared.descent.Found.TheVariants.{Leaf}
use Rattle.rowex_writing.specs.declared.plan.Deed.{Deed}
use Rattle.rowex_writing.specs.declared.plan.Deed.TheVariants.{Empty, Take, TakeTop, Value}

-- the most nodes that a path has: each has a fork at a position of its own, and the longest key has nine positions a byte
abbrev pub most_nodes : ℕ
most_nodes = 9 * MAX_BYTES

-- the most locks of an attempt: those of the nodes of a longest path, and the anchor's
abbrev pub most_locks : ℕ
most_locks = suc most_nodes

-- How many steps a search makes at most on a path of so many nodes: 1 for the root, 26 for each node, and 32 for the leaf. The longest head
-- has 25 words, and one entry is loaded. A leaf has its length, 30 words of key, and the value.
abbrev pub search_steps : (nodes : ℕ) → ℕ
search_steps nodes = 1 + 26 * nodes + 32

-- How many steps it takes at most to plan, lock, check and unlock a span. They are the loads of one head, and three for each lock: the try,
-- a load of what the target names, and the unlock. One is to spare.
abbrev pub span_steps : (locks : ℕ) → ℕ
span_steps locks = HEAD_WORDS + 3 * locks + 1

-- How many steps a new leaf's record takes at most: four for each leaf record of the table, and two for each word of its own. Two try a
-- record, and each class has two more for a spare number. A class that is tried has a record, so four for each are enough.
abbrev pub leaf_steps : Layout → ℕ
leaf_steps layout = 4 * layout.leaves + 2 * LEAF_FIELDS

-- How many steps a new node's record takes at most, without the tries of the walk over the node records. They are a load of a spare
-- record's state and its claim, and two for each word.
abbrev pub node_steps : ℕ
node_steps = 2 + 2 * NODE_FIELDS

-- how many steps it takes at most to remake one node of the path: a load of each of its words, and the records of two new nodes, since a
-- full node is cut in two
abbrev pub level_steps : ℕ
level_steps = NODE_FIELDS + 2 * node_steps

-- How many steps it takes at most to remake the nodes of a change, which are no more than its locks. All claims of a change share one walk,
-- so each node record of the table is tried once, by a load and a claim.
abbrev pub all_levels_steps : (layout : Layout) → (locks : ℕ) → ℕ
all_levels_steps layout locks = locks * level_steps + 2 * layout.nodes

-- How many steps it takes at most to undo a change for which no record was free. For each lock at most two new records are looked at and
-- given up, and the lock is released. One is to spare.
abbrev pub undo_steps : (locks : ℕ) → ℕ
undo_steps locks = 5 * locks + 1

-- How many steps a deed takes at most: for a leaf's record, and for the nodes that are remade. If no record was free, each record made by
-- then is looked at once more: at most two for each lock.
abbrev pub deed_steps : {X E : Type 0} → (layout : Layout) → (locks : ℕ) → (result : Result X E) → ℕ
deed_steps layout locks (Ok made) = leaf_steps layout + all_levels_steps layout locks
deed_steps layout locks (Err full) = leaf_steps layout + all_levels_steps layout locks + 2 * locks

-- How many of the steps in `deed_steps` a deed leaves at least. A removal and a new value make no leaf's record, so they leave these three.
-- The loads of the held value may take them.
abbrev pub spare_steps : Deed → ℕ
spare_steps Take = 3
spare_steps TakeTop = 3
spare_steps Empty = 3
spare_steps Value = 3
spare_steps deed = 0

-- how many loads find the held value again under the locks: one if the search found a leaf with the key, else none
abbrev pub held_loads : Found → ℕ
held_loads (Leaf number value None) = 1
held_loads found = 0

-- How many steps a change takes at most, once its nodes are locked and checked. They are for a leaf's record, for nodes that are remade,
-- and to undo them.
abbrev pub change_steps : (layout : Layout) → (locks : ℕ) → ℕ
change_steps layout locks = leaf_steps layout + all_levels_steps layout locks + undo_steps locks

-- How many steps an attempt makes at most after its search, where it tries `locks` locks. If it tries none, it makes no change: these are
-- just the loads of one head for the plan.
abbrev pub rest_steps : (layout : Layout) → (locks : ℕ) → ℕ
rest_steps layout zero = HEAD_WORDS
rest_steps layout (suc others) = span_steps (suc others) + change_steps layout (suc others)

-- how many steps an attempt makes at most, but for its pin, by the nodes on its path and the locks that it tries
abbrev pub attempt_steps : Layout → (nodes locks : ℕ) → ℕ
attempt_steps layout nodes locks = search_steps nodes + rest_steps layout locks

-- how many steps any attempt makes at most, but for its pin
abbrev pub most_steps : Layout → ℕ
most_steps layout = attempt_steps layout most_nodes most_locks

-- How many steps a new value of a held key takes at most, once it is planned. It sums the bounds of its parts: four to lock and check, one
-- load of the value, and three to store it and unlock.
abbrev pub value_steps : ℕ
value_steps = 8

-- How many steps any attempt at this call makes at most, but for its pin. An exchange and an addition either store a new value of a held
-- key, or change nothing, so they remake no node.
abbrev pub most_steps_of : Call → Layout → ℕ
most_steps_of (Exchange key expected value) layout = search_steps most_nodes + HEAD_WORDS + value_steps
most_steps_of (Add key delta) layout = search_steps most_nodes + HEAD_WORDS + value_steps
most_steps_of call layout = most_steps layout
