-- The fates of records as data.
use Rattle.rowex_replay_state.specs.declared.fate.Fate.{Fate as Stored}
use Rattle.rowex_replay_state.specs.declared.fate.Fate.TheVariants.{Free as IsFree, Held as IsHeld, Ready as IsReady, InTree as IsInTree, Unlinked as IsUnlinked, Marked as IsMarked}
use Rattle.versions.specs.Core.{Fate, Free, Held, Ready, InTree, Unlinked, Marked}

-- the fate of the core for which this stored fate stands, form by form
abbrev pub stored_fate : Stored → Fate
stored_fate IsFree = Free
stored_fate (IsHeld by) = Held by
stored_fate (IsReady by) = Ready by
stored_fate (IsInTree since) = InTree since
stored_fate (IsUnlinked since last by) = Unlinked since last by
stored_fate (IsMarked since last epoch) = Marked since last epoch
