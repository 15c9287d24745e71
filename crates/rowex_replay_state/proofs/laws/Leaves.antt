-- Before and after a publish a number names one leaf.
use Rattle.rowex_replay_state.proofs.Common.{items_of, heap_of, stored_words, stored_root, next_tree, top_items, by_number, same_leaves}
use Rattle.rowex_replay_state.specs.Statements.{LeavesAreOne}

pub leaves_are_one : LeavesAreOne
leaves_are_one c spot w of_entry law top =
    by_number (heap_of c.words) (heap_of (stored_words c spot w)) (items_of (c.past.version c.past.now)) (items_of (next_tree c spot w)) (same_leaves c spot w of_entry)
    (top_items (heap_of c.words) c.root (c.past.version c.past.now) law.core.state.top)
    (top_items (heap_of (stored_words c spot w)) (stored_root c spot w) (next_tree c spot w) top)
