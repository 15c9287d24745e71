-- The word is that of an entry.
use Rattle.rowex_replay_state.proofs.Publishing.Stores.{entry_spelled}
use Rattle.rowex_replay_state.proofs.state.State.publish.Goals as goal

pub publish_entry-requires : goal.publish_entry-requires
publish_entry-requires c = entry_spelled c.in-Slot-Ok.field-0-1 c.args.word (c.in-Slot-Ok.ensures.spelling)
