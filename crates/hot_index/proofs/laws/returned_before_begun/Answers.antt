-- The law returned_before_begun.
use Rattle.hot_index.proofs.Stamps.{returned_before_begun}
use Rattle.hot_index.proofs.laws.returned_before_begun.Goals as goal

pub returns : goal.returns
returns c = returned_before_begun
