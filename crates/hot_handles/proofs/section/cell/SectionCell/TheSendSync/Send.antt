-- A cell may go to another thread: what it holds may.
use denote.Param.Send.{IsSend, owning_send, sendable}
use Rattle.hot_handles.proofs.Owning.{content}
use Rattle.hot_handles.specs.contracts.section.opened.OpenSection.{the_row as opened_row}
use Rattle.hot_handles.proofs.section.opened.OpenSection.TheSendSync.{the_send as opened_send}
use Rattle.hot_handles.specs.contracts.section.cell.SectionCell.{the_row, the_type}

pub send : IsSend the_row
send = owning_send the_type (search sendable, tt) (λ s. content opened_row opened_send s.at s.opened) (λ k s w. tt)
