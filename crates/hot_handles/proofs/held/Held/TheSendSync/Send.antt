-- What a cell holds may go to another thread if the value may: the right to free that names no thread.
use denote.Param.Send.{IsSend, owning_send, sendable}
use denote.RattleType.{RattleType}
use Rattle.hot_handles.specs.contracts.held.Held.{the_row, the_type}
use Rattle.hot_handles.proofs.Owning.{content}

pub send : (T : RattleType) → IsSend T → IsSend (the_row T)
send T sendable_value = owning_send (the_type T) (search sendable, tt) (λ h. content T sendable_value h.at h.value) (λ k h w. tt)
