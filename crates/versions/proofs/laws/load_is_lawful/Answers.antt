use Rattle.versions.proofs.Loads.{load_is_lawful}
use Rattle.versions.proofs.laws.load_is_lawful.Goals as goal

pub returns : goal.returns
returns c = load_is_lawful
