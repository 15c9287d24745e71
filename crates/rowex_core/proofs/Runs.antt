-- Lists of legal events, by one event after the other.
use Rattle.std.proofs.Common.{List, [], ◌∷◌, sym, subst}
use Rattle.rowex_core.specs.declared.event.Event.{Event}
use Rattle.rowex_core.specs.Cores.{Core, IsLawful}
use Rattle.rowex_core.specs.Events.{after}
use Rattle.rowex_core.specs.Knowing.{Knowing}
use Rattle.rowex_core.specs.Opening.{opening}
use Rattle.rowex_core.specs.Runs.{EventsLead}
use Rattle.rowex_core.specs.Statements.{RunsStayLawful, RunsKeep}
use Rattle.rowex_core.proofs.Knowing.Keeping.{keeps}
use Rattle.rowex_core.proofs.Statements.Promises.{opening_is_lawful}
use Rattle.rowex_core.proofs.Cores.{stays_lawful}

stay : (c : Core) (xs : List Event) (d : Core) → IsLawful c → EventsLead c xs d → IsLawful d
stay c [] d law e = subst IsLawful (sym e) law
stay c (x ∷ xs) d law l = stay (after c x.pass x.act) xs d (stays_lawful c x.pass x.act law l.0) l.1

pub runs_stay_lawful : RunsStayLawful
runs_stay_lawful layout xs d l = stay (opening layout) xs d (opening_is_lawful layout).0 l

pub runs_keep : RunsKeep
runs_keep c [] d v law e o k = subst (λ z. Knowing z v) (sym e) k
runs_keep c (x ∷ xs) d v law l o k =
    runs_keep (after c x.pass x.act) xs d v (stays_lawful c x.pass x.act law l.0) l.1 o.1 (keeps c x.pass x.act v law l.0 o.0 k)
