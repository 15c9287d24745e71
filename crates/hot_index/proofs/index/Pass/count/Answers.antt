-- What the pass keeps is true of the pass that contracts see.
use Rattle.hot_index.proofs.Common.{subst, LegalCalls, PassView}
use Rattle.hot_index.specs.KeyCounts.{IsCountOf}
use Rattle.hot_index.proofs.index.Pass.count.Goals as goal

pub returns-clause-count : goal.returns-clause-count
returns-clause-count c = subst (λ (z : PassView). IsCountOf z.number z.notes c.self.inside.count) c.self.view_is c.self.invariant.counts

pub returns-clause-legal : goal.returns-clause-legal
returns-clause-legal c = subst (λ (z : PassView). LegalCalls z.front z.number z.notes) c.self.view_is c.self.invariant.settled.legal
