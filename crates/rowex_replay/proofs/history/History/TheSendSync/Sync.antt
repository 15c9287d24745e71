-- A history owns nothing, so threads may share it.
use denote.Param.Send.{IsSync, part_keyless}
use Rattle.rowex_replay.specs.contracts.history.History.{the_row}
use Rattle.rowex_replay.proofs.history.History.TheSendSync.Send.{send}

pub sync : IsSync the_row
sync = record { shared = λ d b o κ q. part_keyless the_row send q d b o }
