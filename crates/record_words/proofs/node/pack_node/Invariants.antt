-- The words so far are the node's, and its entries so far have words.
use Rattle.record_words.proofs.Common.{ℕ, ◌+◌, ◌<◌, replicate, slice_get}
use Rattle.record_words.specs.Entry.{HasEntryWord}
use Rattle.record_words.specs.Node.{node_words}
use Rattle.record_words.proofs.Written.{AreSoFar}
use Rattle.record_words.proofs.node.pack_node.Given as goal

abbrev pub invariant-loop-slot : goal.invariant-loop-slot
invariant-loop-slot l = AreSoFar (node_words l.node) (replicate 57 0) l.words (25 + l.slot) × ((k : ℕ) → k < l.slot → HasEntryWord (slice_get l.node.entries k))
