-- The change of a copy of the key, which takes no record.
use Rattle.finite_map.specs.declared.Call.TheVariants.{Add}
use Rattle.hot_index.proofs.Statements.Held.{is_made}
use Rattle.hot_index.proofs.index.Index.add.Goals as goal

pub returns : goal.returns
returns g c =
    let made = is_made c.args.self.now.layout c.args.pass.now c.retry_change_with.new.pass (Add c.copy.result c.args.delta) (λ may. may) c.retry_change_with.result c.retry_change_with.ensures.call in
    let o = rw c.copy.ensures.same at c.retry_change_with.ensures in
    record { waited = o; made = made }
