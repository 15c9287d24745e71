-- What a call that was refused as full leaves in an index of one pass. Each record that it could have taken is in the tree, or retired.
use Rattle.std.specs.Prelude.{◌≡◌, ℕ, ◌<◌, ◌≤◌, List, length, Contains, Result, Err}
use Rattle.finite_map.specs.declared.Reply.{Reply}
use Rattle.record_words.specs.Layout.{leaf_size}
use Rattle.record_words.specs.Leaf.{words_for}
use Rattle.record_words.specs.declared.layout.Layout.{Layout}
use Rattle.record_words.specs.declared.records.Rec.{Rec}
use Rattle.record_words.specs.declared.records.Rec.TheVariants.{Node as a_node, Leaf as a_leaf}
use Rattle.tries.specs.Keys.{Key}
use Rattle.versions.specs.Core.{Fate, InTree, Unlinked, Marked}
use Rattle.rowex_core.specs.Cores.{Core}
use Rattle.publish_laws.specs.Lone.{IsLone}
use Rattle.rowex_table.specs.Seats.{HasAllCommitted, SeatView}
use Rattle.rowex_writing.specs.declared.attempts.TryFault.{TryFault}
use Rattle.rowex_writing.specs.declared.attempts.TryFault.TheVariants.{FullLeaves, FullNodes}

-- a record of this fate is in the tree, or retired: unlinked, whether marked or not yet
abbrev pub IsUsed : Fate → Type 0
IsUsed (InTree since) = Unit {0}
IsUsed (Unlinked since last pass) = Unit {0}
IsUsed (Marked since last epoch) = Unit {0}
IsUsed fate = ⊥

-- If the table has one pass, the record is in the tree or retired after that pass's trace.
abbrev pub IsUsedAt : (layout : Layout) (seat : SeatView) (rec : Rec) → Type 0
IsUsedAt layout seat rec = (core : Core) → IsLone layout seat core → IsUsed (core.fate rec)

-- Let a call be refused as full in an index of one pass, all of whose records were committed at `old`. If it lacked a node record, each node
-- record that is not in `own` is in the tree or retired after the call. If it lacked a leaf record, each leaf record with room for the key
-- is.
pub record LeavesUsed (layout : Layout) (key : Key) (own : List Rec) (result : Result Reply TryFault) (old new : SeatView) : Type 0 where
  pub nodes : layout.passes ≡ 1 → HasAllCommitted old → result ≡ Err FullNodes → (number : ℕ) → number < layout.nodes →
      ¬ (Contains own (a_node number)) → IsUsedAt layout new (a_node number)
  pub leaves : layout.passes ≡ 1 → HasAllCommitted old → result ≡ Err FullLeaves → (number : ℕ) → number < layout.leaves →
      words_for (length key) ≤ leaf_size layout number → IsUsedAt layout new (a_leaf number)
