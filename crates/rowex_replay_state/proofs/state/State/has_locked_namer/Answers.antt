-- It is no locked root, so a locked node has the entry.
use Rattle.std.proofs.Common.{sym}
use Rattle.rowex_replay_state.proofs.records.Searches.{second}
use Rattle.rowex_replay_state.proofs.state.State.has_locked_namer.Goals as goal

pub returns-else-has_locked_root : goal.returns-else-has_locked_root
returns-else-has_locked_root c =
    let root = rw (sym c.self.view_is) at c.has_locked_root.ensures in
    rw (sym c.self.view_is) (second c.has_locked_entry.result _ _ (λ h. let x = root.1 h in let y = c.if-has_locked_root.false in cc) (rw c.pack_entry.ensures at c.has_locked_entry.ensures))
