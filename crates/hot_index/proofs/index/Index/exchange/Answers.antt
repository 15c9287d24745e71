-- The change of a copy of the key, which takes no record.
use Rattle.finite_map.specs.declared.Call.TheVariants.{Exchange}
use Rattle.hot_index.proofs.Statements.Held.{is_made}
use Rattle.hot_index.proofs.index.Index.exchange.Goals as goal

pub returns : goal.returns
returns g c =
    let made = is_made c.args.self.now.layout c.args.pass.now c.retry_change_with.new.pass (Exchange c.copy.result c.args.expected c.args.value) (λ may. may) c.retry_change_with.result c.retry_change_with.ensures.call in
    let o = rw c.copy.ensures.same at c.retry_change_with.ensures in
    record { waited = o; made = made }
