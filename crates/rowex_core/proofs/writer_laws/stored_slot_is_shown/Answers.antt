use Rattle.rowex_core.proofs.Writers.Slots.{slot_is_stored}
use Rattle.rowex_core.proofs.writer_laws.stored_slot_is_shown.Goals as goal

pub returns : goal.returns
returns c = slot_is_stored
