use Rattle.versions.proofs.Steps.{content_is_map}
use Rattle.versions.proofs.laws.content_is_map.Goals as goal

pub returns : goal.returns
returns c = content_is_map
