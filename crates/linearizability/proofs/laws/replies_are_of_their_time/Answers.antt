use Rattle.linearizability.proofs.Statements.Replies.{replies_in_time}
use Rattle.linearizability.proofs.laws.replies_are_of_their_time.Goals as goal

pub returns : goal.returns
returns c = replies_in_time
