-- The scan of the index fills the list.
use Rattle.hot_c.proofs.Common.{subst, Stays, range_from, IsListReadBy, untold, IsLawfulBy}
use Rattle.packed_pairs.specs.declared.direction.Direction.{Direction}
use Rattle.hot_c.proofs.Orders.{filled_in}
use Rattle.hot_c.proofs.opened.Opened.scan.Goals as goal

pub returns-clause-call : goal.returns-clause-call
returns-clause-call c =
    filled_in c.args.order (subst (λ (d : Direction). Stays (λ index k j. IsListReadBy (IsLawfulBy d) (range_from c.args.from.now c.args.upto.now c.args.limit) c.range_into.new.pairs c.range_into.result index untold (k, tt) (j, tt)) c.args.self.now.handle c.range_into.new.self)
    c.direction.ensures c.range_into.ensures.call)
