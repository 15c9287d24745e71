use Rattle.versions.proofs.Loads.{load_is_legal}
use Rattle.versions.proofs.laws.load_is_legal_calls.Goals as goal

pub returns : goal.returns
returns c = load_is_legal
