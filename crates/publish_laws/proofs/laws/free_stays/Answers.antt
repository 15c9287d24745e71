use Rattle.publish_laws.proofs.Common.{subst, IsOneOf}
use Rattle.publish_laws.proofs.Lone.{runs_free}
use Rattle.publish_laws.proofs.laws.free_stays.Goals as goal

pub returns : goal.returns
returns g c = λ table acts a b plain run none n free. runs_free table g.G.Gate.becomes acts a b n plain run (λ o has is. absurd (subst (IsOneOf o) none has)) free
