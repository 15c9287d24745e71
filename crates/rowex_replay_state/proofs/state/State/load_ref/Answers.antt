-- The word stands in the root, in the node or in the leaf.
use Rattle.std.proofs.Common.{sym}
use Rattle.rowex_replay_state.proofs.LoadSteps.{root_loaded, slot_loaded, value_loaded}
use Rattle.rowex_replay_state.proofs.state.State.load_ref.Goals as goal

pub returns-in-Root : goal.returns-in-Root
returns-in-Root c = rw (sym c.self.view_is, c.in-Root.is) (root_loaded c.is_entry_word.result _ c.args.pass c.args.word c.is_entry_word.ensures)

pub returns-else-slot-ge-MAX_ENTRIES : goal.returns-else-slot-ge-MAX_ENTRIES
returns-else-slot-ge-MAX_ENTRIES c = rw (sym c.self.view_is, c.in-Slot.is)
    (slot_loaded c.has_word.result _ c.args.pass c.in-Slot.node c.in-Slot.slot c.args.word (λ t. (c.if-slot-ge-MAX_ENTRIES.false, c.has_word.ensures.0 t), λ (few, has). c.has_word.ensures.1 has))

pub returns-in-Value : goal.returns-in-Value
returns-in-Value c = rw (sym c.self.view_is, c.in-Value.is) (value_loaded c.has_word-in-Value.result _ c.args.pass c.in-Value.leaf c.args.word c.has_word-in-Value.ensures)
